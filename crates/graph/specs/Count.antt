-- How many routes there are among the first numbers.
use Rattle.std.specs.Prelude.{Bool, true, false, cond, ◌≡◌, refl, ℕ, zero, suc, ◌+◌, ◌≤◌, ◌<◌}
use Rattle.std.proofs.Common.{ap, ◌∙◌, arith}
use Rattle.graph.specs.Cases.{Test, holds, fails, test, Same, same, apart, compared}
use Rattle.graph.specs.Walk.{Cell}

-- 1 for a route
unfoldable pub one : Bool → ℕ
one b = cond b 1 0

-- the routes among the numbers below n
unfoldable pub routes : (ℕ → Cell) → ℕ → ℕ
routes g zero = 0
routes g (suc n) = one (g n).route + routes g n

-- the same kinds, the same number
pub routes_same : (g g' : ℕ → Cell) (n : ℕ) → ((x : ℕ) → x < n → (g' x).route ≡ (g x).route) → routes g' n ≡ routes g n
unfolding routes
routes_same g g' zero h = refl
routes_same g g' (suc n) h =
    omega (arith, ap one (h n (omega arith)), routes_same g g' n (λ x l. h x (omega arith)))

-- a base becomes a route
pub routes_more : (g g' : ℕ → Cell) (m n : ℕ) → m < n → ((x : ℕ) → (x ≡ m → ⊥) → (g' x).route ≡ (g x).route) → (g m).route ≡ false → (g' m).route ≡ true
    → routes g' n ≡ routes g n + 1
unfolding one routes
routes_more g g' m zero l h a b = absurd (omega arith)
routes_more g g' m (suc n) l h a b = go (compared n m) (λ k. routes_more g g' m n k h a b)
  where
    go : Same n m → (m < n → routes g' n ≡ routes g n + 1) → one (g' n).route + routes g' n ≡ one (g n).route + routes g n + 1
    go (same e) f =
        omega (
          arith,
          ap one (ap (λ (x : ℕ). (g n).route) e),
          ap one (ap (λ (x : ℕ). (g x).route) e ∙ a),
          ap one (ap (λ (x : ℕ). (g' x).route) e ∙ b),
          routes_same g g' n (λ x k. h x (λ q. omega arith)),
        )
    go (apart q) f = omega (arith, ap one (h n q), f (omega arith))

-- no routes at all
pub routes-none : (g : ℕ → Cell) (n : ℕ) → ((x : ℕ) → x < n → (g x).route ≡ false) → routes g n ≡ 0
unfolding one routes
routes-none g zero h = refl
routes-none g (suc n) h = omega (arith, ap one (h n (omega arith)), routes-none g n (λ x l. h x (omega arith)))

-- a route is counted, above all that stand before it
pub routes-next : (g : ℕ → Cell) (n : ℕ) → (g n).route ≡ true → routes g (suc n) ≡ 1 + routes g n
unfolding one routes
routes-next g n e = omega (arith, ap one e)

-- more numbers, no fewer routes
pub routes_upto : (g : ℕ → Cell) (m n : ℕ) → m ≤ n → routes g m ≤ routes g n
unfolding routes
routes_upto g m zero l = omega (arith, ap (λ (k : ℕ). routes g k) (le-zero l))
  where
    le-zero : m ≤ 0 → m ≡ 0
    le-zero k = omega arith
routes_upto g m (suc n) l = go (compared m (suc n)) (λ k. routes_upto g m n k)
  where
    go : Same m (suc n) → (m ≤ n → routes g m ≤ routes g n) → routes g m ≤ one (g n).route + routes g n
    go (same e) f = omega (arith, ap (λ (k : ℕ). routes g k) e)
    go (apart h) f = omega (arith, f (omega arith))

-- routes that stay routes are no fewer
pub routes_grow : (g g' : ℕ → Cell) (n : ℕ) → ((x : ℕ) → (g x).route ≡ true → (g' x).route ≡ true) → routes g n ≤ routes g' n
unfolding one routes
routes_grow g g' zero h = omega arith
routes_grow g g' (suc n) h = go (test (g n).route) (routes_grow g g' n h)
  where
    go : Test (g n).route → routes g n ≤ routes g' n → one (g n).route + routes g n ≤ one (g' n).route + routes g' n
    go (holds e) k = omega (arith, ap one e, ap one (h n e))
    go (fails e) k = omega (arith, ap one e)
