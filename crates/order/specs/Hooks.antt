-- "Takes X's place under Y", as a change of one slot.
use Rattle.std.specs.Prelude.{Bool, true, false, cond, not, ◌≡◌, refl, ℕ, ◌<◌, eqb, length}
use Rattle.std.proofs.Common.{true≢false, sym, ap, ◌∙◌, arith, eqb-true, eq-eqb, ne_eqb}
use Rattle.std.proofs.lemmas.Bool.{eqb-false}
use Rattle.rules.specs.State.{none, place_at}
use Rattle.rules.specs.Places.{keys_of, keys_of_body, swap_body, takes_place}
use Rattle.rules.specs.Rows.{hangs}
use Rattle.rules.specs.Step.{view_before, view_of, put, apply}
use Rattle.rules.specs.declared.state.Body.{Body}
use Rattle.rules.specs.declared.state.Body.TheVariants.{Base, Route}
use Rattle.rules.specs.declared.state.Place.{Place}
use Rattle.rules.specs.declared.state.Thread.{Thread}
use Rattle.rules.specs.declared.state.State.{State}
use Rattle.graph.specs.Cases.{Same, same, apart, compared}
use Rattle.graph.specs.Walk.{Cell, kid}
use Rattle.graph.specs.Tree.{Tree}
use Rattle.graph.specs.Slot.{Slot}
use Rattle.graph.specs.Graph.{summit}
use Rattle.order.specs.World.{cell_of_body, crown, cell_at, cell_node, cell_same, cell-summit, World, cell, valid, hold, keys, world_of}
use Rattle.order.specs.Stages.{RouteAt}
use Rattle.order.specs.Bridge.{place_at_lem, put_new, put_old}

-- new takes x's place in the cell of a route
record Swapped (b : Body) (x new : ℕ) : Type 0 where
  side : Bool
  was : kid side (cell_of_body b) ≡ x
  becomes : kid side (cell_of_body (swap_body x new b)) ≡ new
  beside : kid (not side) (cell_of_body (swap_body x new b)) ≡ kid (not side) (cell_of_body b)
  route : (cell_of_body (swap_body x new b)).route ≡ true
  key : (cell_of_body (swap_body x new b)).key ≡ (cell_of_body b).key
  keys : keys_of_body (swap_body x new b) ≡ keys_of_body b

swapped : (b : Body) (x new : ℕ) (s : Bool) → (cell_of_body b).route ≡ true → kid s (cell_of_body b) ≡ x → Swapped b x new
swapped (Base ks) x new s r e = absurd (true≢false (sym r))
swapped (Route k l r) x new s q e = go (eqb l x) refl s e
  where
    go : (b : Bool) → eqb l x ≡ b → (s : Bool) → cond s r l ≡ x → Swapped (Route k l r) x new
    go true h s e =
        record {
          side = false;
          was = eqb-true l x h;
          becomes = rw h;
          beside = rw h;
          route = rw h;
          key = rw h;
          keys = rw h;
        }
    go false h true e =
        record {
          side = true;
          was = e;
          becomes = rw h;
          beside = rw h;
          route = rw h;
          key = rw h;
          keys = rw h;
        }
    go false h false e = absurd (eqb-false l x h e)

-- new takes x's place under y, and nothing else changes
pub record Hooks (w w' : World) (y x new : ℕ) : Type 0 where
  pub side : Bool
  pub slot : Slot (cell w) (cell w') y side x new
  pub holders : (z : ℕ) → hold w' z ≡ hold w z
  pub flags : (z : ℕ) → valid w' z ≡ valid w z
  pub keysets : (z : ℕ) → keys w' z ≡ keys w z
  pub entry : new < summit → w.root < summit → w'.root < summit

module _ (w w' : World) (y x new : ℕ) where
  -- under the summit: the root is new
  pub hook_summit : y ≡ summit → x < summit → (s : Bool) → kid s (cell w y) ≡ x → w'.root ≡ new → ((z : ℕ) → w'.place z ≡ w.place z) → Hooks w w' y x new
  hook_summit e l s k n f =
      rw e
      (record {
        side = false;
        slot =
            record {
              route = ap (λ (c : Cell). c.route) old;
              route' = ap (λ (c : Cell). c.route) new_cell;
              key = ap (λ (c : Cell). c.key) new_cell ∙ sym (ap (λ (c : Cell). c.key) old);
              was = ap (λ (c : Cell). c.left) old ∙ root_is s (ap (λ (c : Cell). kid s c) (sym old) ∙ ap (λ (z : ℕ). kid s (cell w z)) (sym e) ∙ k);
              becomes = ap (λ (c : Cell). c.left) new_cell ∙ n;
              beside = ap (λ (c : Cell). c.right) new_cell ∙ sym (ap (λ (c : Cell). c.right) old);
              others = λ z h.
                  cell_node w'.root w'.place z h ∙ ap (λ (p : Place). cell_of_body p.body) (f z) ∙ sym (cell_node w.root w.place z h);
            };
        holders = λ z. ap (λ (p : Place). p.lock.holder) (f z);
        flags = λ z. ap (λ (p : Place). p.valid) (f z);
        keysets = λ z. ap keys_of (f z);
        entry = λ a b. rw n a;
      })
    where
      old : cell w summit ≡ crown w.root
      old = cell-summit w.root w.place

      new_cell : cell w' summit ≡ crown w'.root
      new_cell = cell-summit w'.root w'.place

      root_is : (s : Bool) → cond s 129 w.root ≡ x → w.root ≡ x
      root_is true q = absurd (omega arith)
      root_is false q = q

  -- under a route
  pub hook_route : y < summit → (cell w y).route ≡ true → (s : Bool) → kid s (cell w y) ≡ x → w'.root ≡ w.root
      → w'.place y ≡ takes_place x new (w.place y) → ((z : ℕ) → (z ≡ y → ⊥) → w'.place z ≡ w.place z) → Hooks w w' y x new
  hook_route l r s k n f g =
      record {
        side = q.side;
        slot =
            record {
              route = r;
              route' = ap (λ (c : Cell). c.route) new_cell ∙ q.route;
              key = ap (λ (c : Cell). c.key) new_cell ∙ q.key ∙ sym (ap (λ (c : Cell). c.key) old);
              was = ap (λ (c : Cell). kid q.side c) old ∙ q.was;
              becomes = ap (λ (c : Cell). kid q.side c) new_cell ∙ q.becomes;
              beside =
                  ap (λ (c : Cell). kid (not q.side) c) new_cell ∙ q.beside ∙ sym (ap (λ (c : Cell). kid (not q.side) c) old);
              others = λ z h. cell_same w.place w'.place z n (ap (λ (p : Place). p.body) (g z h));
            };
        holders = λ z. holder z (compared z y);
        flags = λ z. flag z (compared z y);
        keysets = λ z. keyset z (compared z y);
        entry = λ a b. rw n b;
      }
    where
      node : (root : ℕ) (place : ℕ → Place) → cell_at root place y ≡ cell_of_body (place y).body
      node root place = cell_node root place y (λ e. omega arith)

      old : cell w y ≡ cell_of_body (w.place y).body
      old = node w.root w.place

      new_cell : cell w' y ≡ cell_of_body (swap_body x new (w.place y).body)
      new_cell = node w'.root w'.place ∙ ap (λ (p : Place). cell_of_body p.body) f

      q : Swapped (w.place y).body x new
      q =
          swapped (w.place y).body x new s (ap (λ (c : Cell). c.route) (sym old) ∙ r) (ap (λ (c : Cell). kid s c) (sym old) ∙ k)

      holder : (z : ℕ) → Same z y → hold w' z ≡ hold w z
      holder z (same e) = rw e (ap (λ (p : Place). p.lock.holder) f)
      holder z (apart h) = ap (λ (p : Place). p.lock.holder) (g z h)

      flag : (z : ℕ) → Same z y → valid w' z ≡ valid w z
      flag z (same e) = rw e (ap (λ (p : Place). p.valid) f)
      flag z (apart h) = ap (λ (p : Place). p.valid) (g z h)

      keyset : (z : ℕ) → Same z y → keys w' z ≡ keys w z
      keyset z (same e) = rw e (ap keys_of f ∙ q.keys)
      keyset z (apart h) = ap keys_of (g z h)

-- the plan of rows 7, 19 and 23
pub hooks : (s : State) (me : ℕ) (t t' : Tree) (own own' : ℕ → ℕ) (th : Thread) (new x y : ℕ) → length s.places ≡ 128 → x < summit
    → RouteAt (world_of s t own) y → (b : Bool) → kid b (cell (world_of s t own) y) ≡ x
    → Hooks (world_of s t own) (world_of (apply s me (hangs (view_of s me) th new x y (place_at s y))) t' own') y x new
unfolding apply put hangs view_of view_before
hooks s me t t' own own' th new x y room l r b k = go (compared y none)
  where
    go : Same y none → Hooks (world_of s t own) (world_of (apply s me (hangs (view_of s me) th new x y (place_at s y))) t' own') y x new
    go (same e) =
        hook_summit (world_of s t own) (world_of (apply s me (hangs (view_of s me) th new x y (place_at s y))) t' own') y x new e l b k
        (rw (eq-eqb y none e)) (λ z. rw (eq-eqb y none e))
    go (apart h) =
        hook_route (world_of s t own) (world_of (apply s me (hangs (view_of s me) th new x y (place_at s y))) t' own') y x new small r.route b k
        (rw (ne_eqb y none h))
        (rw (ne_eqb y none h) (put_new s.places y (takes_place x new (place_at s y)) room small ∙ ap (takes_place x new) (place_at_lem s y small)))
        (λ z n. rw (ne_eqb y none h) (put_old s.places y (takes_place x new (place_at s y)) z n))
      where
        small : y < summit
        small = omega (arith, r.small)
