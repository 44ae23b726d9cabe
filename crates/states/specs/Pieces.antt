-- What rows do to a thread and to a place keeps each in range.
use Rattle.std.specs.Prelude.{Bool, true, false, not, ◌≡◌, refl, ℕ, ◌≤◌, ◌<◌, T, eqb, leb, get_or, set}
use Rattle.std.proofs.Common.{true≢false, inl, inr, sym, arith, lit≤}
use Rattle.states.specs.Tests.{pick}
use Rattle.states.specs.Facts.{BodyOk, PlaceOk, place_facts, RegisterOk, registers_of, ThreadOk, thread_facts}
use Rattle.states.specs.Lists.{each_set}
use Rattle.rules.specs.State.{none, nobody, top_statistics, fresh_thread, new_node, zero_place}
use Rattle.rules.specs.Registers.{at_phase, set_prev, set_base, set_walk, set_neighbour, set_grandparent, set_made, set_side, set_answer, set_operation}
use Rattle.rules.specs.Places.{is_route_body, is_base, child_on_body, child_on, swap_body, takes_place, with_lock, tried, taken3, taken4, released, zeroed, release, zero, invalid, with_keys, answer_of}
use Rattle.rules.specs.Range.{body_in_range, place_in_range, register_in_range, registers_in_range, thread_in_range}
use Rattle.rules.specs.declared.state.Settings.{Settings}
use Rattle.rules.specs.declared.state.Lock.{Lock}
use Rattle.rules.specs.declared.state.Body.{Body}
use Rattle.rules.specs.declared.state.Body.TheVariants.{Base, Route}
use Rattle.rules.specs.declared.state.Place.{Place}
use Rattle.rules.specs.declared.state.Thread.{Thread}

-- ---- a thread

module _ {m : ℕ} {t : Thread} where
  -- the phase
  pub phase_ok : (p : ℕ) → T (leb p 25) → ThreadOk m t → ThreadOk m (at_phase p t)
  phase_ok p l f = let n = f.numbers in let b : p ≤ 25 = lit≤ l in record { numbers = omega arith; registers = f.registers }

  -- a register, set to none or to a made node: register i in the order of the state
  registers_ok : (i x : ℕ) → RegisterOk m x → ThreadOk m t → (j : ℕ) → RegisterOk m (get_or (set (registers_of t) i x) j none)
  registers_ok i x r f = each_set (RegisterOk m) (registers_of t) i x none r f.registers

  pub prev_ok : (x : ℕ) → RegisterOk m x → ThreadOk m t → ThreadOk m (set_prev x t)
  prev_ok x r f = let n = f.numbers in record { numbers = omega arith; registers = registers_ok 0 x r f }

  pub base_ok : (x : ℕ) → RegisterOk m x → ThreadOk m t → ThreadOk m (set_base x t)
  base_ok x r f = let n = f.numbers in record { numbers = omega arith; registers = registers_ok 1 x r f }

  pub walk_ok : (x : ℕ) → RegisterOk m x → ThreadOk m t → ThreadOk m (set_walk x t)
  walk_ok x r f = let n = f.numbers in record { numbers = omega arith; registers = registers_ok 2 x r f }

  pub neighbour_ok : (x : ℕ) → RegisterOk m x → ThreadOk m t → ThreadOk m (set_neighbour x t)
  neighbour_ok x r f = let n = f.numbers in record { numbers = omega arith; registers = registers_ok 3 x r f }

  pub grandparent_ok : (x : ℕ) → RegisterOk m x → ThreadOk m t → ThreadOk m (set_grandparent x t)
  grandparent_ok x r f = let n = f.numbers in record { numbers = omega arith; registers = registers_ok 4 x r f }

  pub made_ok : (x : ℕ) → RegisterOk m x → ThreadOk m t → ThreadOk m (set_made x t)
  made_ok x r f = let n = f.numbers in record { numbers = omega arith; registers = registers_ok 5 x r f }

  -- the side
  pub side_ok : (w : Bool) → ThreadOk m t → ThreadOk m (set_side w t)
  side_ok w f = let n = f.numbers in record { numbers = omega arith; registers = f.registers }

  -- the answer and the commit number
  pub answer_ok : (a n : ℕ) → a ≤ 1 → n ≤ 1000000 → ThreadOk m t → ThreadOk m (set_answer a n t)
  answer_ok a n l h f = let b = f.numbers in record { numbers = omega arith; registers = f.registers }

  -- the operation and the key
  pub operation_ok : (o k : ℕ) → o ≤ 2 → k ≤ 63 → ThreadOk m t → ThreadOk m (set_operation o k t)
  operation_ok o k l h f = let b = f.numbers in record { numbers = omega arith; registers = f.registers }

-- the thread as fresh
pub fresh_thread_ok : (m : ℕ) → ThreadOk m fresh_thread
unfolding thread_in_range registers_in_range register_in_range
fresh_thread_ok m = thread_facts m fresh_thread refl

-- "answers 0 or 1"
pub answer_small : (o : ℕ) (b : Bool) → answer_of o b ≤ 1
answer_small o b =
    let Q : ℕ → Type 0 = λ a. a ≤ 1 in
    pick Q (eqb o 0) (pick Q b (lit≤ tt) (lit≤ tt)) (pick Q b (lit≤ tt) (lit≤ tt))

-- ---- a place

-- the place of a store that stores nothing
pub zero_place_ok : (m : ℕ) → PlaceOk m zero_place
unfolding place_in_range body_in_range
zero_place_ok m = place_facts m zero_place refl

-- the body of a base
pub base_body_ok : (m ks : ℕ) → BodyOk m (Base ks)
base_body_ok m ks = record { key = omega arith; child = λ w e. absurd (true≢false (sym e)) }

-- "New nodes are valid and free with statistics 0"
pub new_ok : {m : ℕ} {b : Body} → BodyOk m b → PlaceOk m (new_node b)
new_ok f = record { holder = omega arith; statistics = λ e. omega arith; body = f }

module _ {m : ℕ} {p : Place} where
  -- another lock, whose statistics are within their stops if those before it were
  lock_ok : (l : Lock) → l.holder ≤ nobody → (p.lock.statistics ≤ top_statistics → l.statistics ≤ top_statistics) → PlaceOk m p
      → PlaceOk m (with_lock l p)
  lock_ok l h n f = record { holder = h; statistics = λ e. n (f.statistics e); body = f.body }

  -- "Taking at phase 3"
  pub taken3_ok : (me : ℕ) (c : Settings) → me ≤ 7 → PlaceOk m p → PlaceOk m (with_lock (taken3 me c p.lock) p)
  taken3_ok me c h f = lock_ok (taken3 me c p.lock) (omega arith) (λ n. omega arith) f

  -- "taking at phase 4"
  pub taken4_ok : (me : ℕ) (c : Settings) → me ≤ 7 → PlaceOk m p → PlaceOk m (with_lock (taken4 me c p.lock) p)
  taken4_ok me c h f = lock_ok (taken4 me c p.lock) (omega arith) (λ n. omega arith) f

  -- "A try on a neighbour, and route locks"
  pub tried_ok : (me : ℕ) → me ≤ 7 → PlaceOk m p → PlaceOk m (with_lock (tried me p.lock) p)
  tried_ok me h f = lock_ok (tried me p.lock) (omega arith) (λ n. n) f

  -- released
  pub release_ok : PlaceOk m p → PlaceOk m (release p)
  release_ok f = lock_ok (released p.lock) (omega arith) (λ n. n) f

  -- "statistics 0"
  pub zero_ok : PlaceOk m p → PlaceOk m (zero p)
  zero_ok f = lock_ok (zeroed p.lock) f.holder (λ n. omega arith) f

  -- invalid
  pub invalid_ok : PlaceOk m p → PlaceOk m (invalid p)
  invalid_ok f = record { holder = f.holder; statistics = f.statistics; body = f.body }

  -- a base with other keys
  pub keys_ok : (ks : ℕ) → is_base p ≡ true → PlaceOk m p → PlaceOk m (with_keys ks p)
  keys_ok ks b f = record { holder = f.holder; statistics = λ e. f.statistics b; body = base_body_ok m ks }

-- the child of a place in range is a made node, or none where the place is a base
pub child_ok : (m : ℕ) (w : Bool) (p : Place) → PlaceOk m p → RegisterOk m (child_on w p)
child_ok m w p f = go p.body (f.body.child w)
  where
    go : (b : Body) → (is_route_body b ≡ true → child_on_body w b < m) → RegisterOk m (child_on_body w b)
    go (Base ks) g = inl refl
    go (Route k l r) g = inr (g refl)

-- a made node takes the place of a child
pub takes_ok : {m : ℕ} {p : Place} (x new : ℕ) → new < m → PlaceOk m p → PlaceOk m (takes_place x new p)
takes_ok {m} {p} x new l f =
    record { holder = f.holder; statistics = λ e. f.statistics (same p.body e); body = go p.body f.body }
  where
    same : (b : Body) → not (is_route_body (swap_body x new b)) ≡ true → not (is_route_body b) ≡ true
    same (Base ks) e = refl
    same (Route k c d) e = pick (λ (b : Body). not (is_route_body b) ≡ true → false ≡ true) (eqb c x) (λ a. a) (λ a. a) e

    go : (b : Body) → BodyOk m b → BodyOk m (swap_body x new b)
    go (Base ks) g = g
    go (Route k c d) g =
        pick (BodyOk m) (eqb c x)
        (record { key = g.key; child = λ w e. pick (λ (n : ℕ). n < m) w (g.child true e) l })
        (record { key = g.key; child = λ w e. pick (λ (n : ℕ). n < m) w l (g.child false e) })
