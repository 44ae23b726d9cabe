-- The walk of the key list, one node at a time.
use mathlib.Core.Path.{◌≡◌, refl, sym, ap, ◌∙◌}
use mathlib.Core.Bool.{Bool, true, false, true≢false}
use mathlib.Core.List.{List, [], ◌∷◌}
use Prim.Native.Nat.{ℕ, zero, suc, ◌%◌, ◌≤◌, ◌<◌}
use native.Mathlib.Nat.{not-suc-le-zero, le_of_suc-le-suc}
use native.Mathlib.Omega.{arith}
use lib.ListN.{length, get_or, set}
use Rattle.rules.specs.State.{zero_place}
use Rattle.rules.specs.List.{again, meets, lists, gather}
use Rattle.rules.specs.declared.state.Body.{Body}
use Rattle.rules.specs.declared.state.Body.TheVariants.{Base, Route}
use Rattle.rules.specs.declared.state.Place.{Place}
use Rattle.rules.specs.declared.list.Met.{Met}
use Rattle.states.specs.Gather.{entering, enters}
use Rattle.listing.specs.Gathered.{unseen, Counted, Gathered}

-- a node that is met for the first time is one fewer of those not yet met
unseen-set : (l : List Bool) (i : ℕ) → i < length l → get_or l i false ≡ false → unseen l ≡ suc (unseen (set l i true))
unfolding unseen
unseen-set [] i h e = absurd (not-suc-le-zero h)
unseen-set (true ∷ l) zero h e = absurd (true≢false e)
unseen-set (false ∷ l) zero h e = refl
unseen-set (true ∷ l) (suc i) h e = unseen-set l i (le_of_suc-le-suc h) e
unseen-set (false ∷ l) (suc i) h e = ap suc (unseen-set l i (le_of_suc-le-suc h) e)

-- a node number is a place of the list of nodes seen
pub in_list : (n : ℕ) (l : List Bool) → length l ≡ 128 → n % 128 < length l
in_list n l e = omega arith

module _ (ps : List Place) (n : ℕ) (m : Met) (right : Counted m) where
  found : (b c : Bool) (x : Body) → m.twice ≡ b → get_or m.seen (n % 128) false ≡ c → (get_or ps (n % 128) zero_place).body ≡ x
      → (d : ℕ) → gather (suc d) ps n m ≡ entering d ps n m b c x
  found b c x e f g d = rw (enters d ps n m, e, f, g)

  -- one call deeper is enough
  deeper : (r : Met) → ((d : ℕ) → m.left ≤ d → r ≡ gather (suc d) ps n m) → (d : ℕ) → m.left < d → r ≡ gather d ps n m
  deeper r f zero h = absurd (not-suc-le-zero h)
  deeper r f (suc d) h = f d (le_of_suc-le-suc h)

  -- a node was met twice before
  pub stays : m.twice ≡ true → Gathered ps n m m
  unfolding entering
  stays e =
      record { same = deeper m (λ d h. sym (found true _ _ e refl refl d)); falls = omega arith; counted = right }

  -- this node was met before
  pub is-again : m.twice ≡ false → get_or m.seen (n % 128) false ≡ true → Gathered ps n m (again m)
  unfolding entering again
  is-again e f =
      record {
        same = deeper (again m) (λ d h. sym (found false true _ e f refl d));
        falls = omega arith;
        counted = record { right = right.right };
      }

  module _ (first : get_or m.seen (n % 128) false ≡ false) (fits : n % 128 < length m.seen) where
    -- a node is left where one is not yet met
    pub one_left : 0 < m.left
    one_left = omega (arith, unseen-set m.seen (n % 128) fits first, right.right)

    pub fewer : (meets (n % 128) m).left < m.left
    unfolding meets
    fewer = omega (arith, unseen-set m.seen (n % 128) fits first, right.right)

    pub met_right : Counted (meets (n % 128) m)
    unfolding meets
    met_right = record { right = omega (arith, unseen-set m.seen (n % 128) fits first, right.right) }

    -- a base: its keys are listed
    pub is_base : (ks : ℕ) → m.twice ≡ false → (get_or ps (n % 128) zero_place).body ≡ Base ks → Gathered ps n m (lists ks (meets (n % 128) m))
    unfolding entering lists meets
    is_base ks e g =
        record {
          same = deeper (lists ks (meets (n % 128) m)) (λ d h. sym (found false false (Base ks) e first g d));
          falls = omega arith;
          counted = record { right = met_right.right };
        }

    -- a route: the left child, then the right
    pub is-route : (k l r : ℕ) (x y : Met) → m.twice ≡ false → (get_or ps (n % 128) zero_place).body ≡ Route k l r
        → Gathered ps l (meets (n % 128) m) x → Gathered ps r x y → Gathered ps n m y
    unfolding entering
    is-route k l r x y e g p q =
        record {
          same =
              deeper y
              (λ d h.
              q.same d (omega (arith, fewer, p.falls)) ∙ ap (gather d ps r) (p.same d (omega (arith, fewer)))
              ∙ sym (found false false (Route k l r) e first g d));
          falls = omega (arith, fewer, p.falls, q.falls);
          counted = q.counted;
        }
