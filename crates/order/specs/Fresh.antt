-- The fresh state: one base under the summit.
use Rattle.std.specs.Prelude.{Bool, cond, ◌≡◌, eqb, get_or, replicate}
use Rattle.std.proofs.Math.Bool.{true, false}
use Rattle.std.proofs.Common.{true≢false, sym, ◌∙◌, arith}
use Rattle.std.proofs.Math.Path.{refl, ap}
use Prim.Native.Nat.{ℕ, zero, suc, ◌≤◌, ◌<◌}
use Rattle.std.proofs.Math.Dec.{ltb}
use Rattle.std.proofs.Math.ListN.{get_or-replicate, get_or-eq_default}
use borrow.Author.Tests.{ltb-true, ltb-false, lt-ltb, le-ltb, ne_eqb}
use Rattle.keys.specs.Keys.{has}
use Rattle.keys.proofs.Laws.{has-none}
use Rattle.rules.specs.State.{zero_place, zero_thread, unmade, fresh_thread, fresh, thread_at}
use Rattle.rules.specs.Places.{keys_of_body}
use Rattle.rules.specs.declared.state.Settings.{Settings}
use Rattle.rules.specs.declared.state.Body.{Body}
use Rattle.rules.specs.declared.state.Body.TheVariants.{Base}
use Rattle.rules.specs.declared.state.Place.{Place}
use Rattle.graph.specs.Cases.{Same, same, apart, compared, is_same, is_some, is_two}
use Rattle.graph.specs.Walk.{Cell, kid, here}
use Rattle.graph.specs.Count.{routes-none}
use Rattle.graph.specs.Tree.{Tree, tip, fork, leaf, branch, Stands, top, in_l, in_r, stands}
use Rattle.graph.specs.Graph.{summit, hung, Route, Good}
use Rattle.order.specs.World.{cell_of_body, crown, cell_node, cell-summit, World, graph, cell, valid, in_tree, out_of_tree, world_of, Sound}
use Rattle.order.specs.Ordered.{Ordered}

-- node 0 is hung, and all that is no node; the others are not made
fresh_own : ℕ → ℕ
fresh_own x = cond (eqb x 0) 8 (cond (ltb x 128) 9 8)

abbrev fresh_tree : Tree
fresh_tree = fork summit (tip 0) (tip 129)

-- every place is an empty base
empty_body : (n x : ℕ) → (get_or (replicate n unmade) x zero_place).body ≡ Base 0
empty_body zero x = refl
empty_body (suc n) zero = refl
empty_body (suc n) (suc x) = empty_body n x

module _ (c : Settings) where
  abbrev w : World
  w = world_of (fresh c) fresh_tree fresh_own

  pub fresh_body : (x : ℕ) → (get_or (fresh c).places x zero_place).body ≡ Base 0
  unfolding fresh
  fresh_body zero = refl
  fresh_body (suc x) = empty_body 127 x

  bases : (x : ℕ) → (x ≡ summit → ⊥) → cell w x ≡ cell_of_body (Base 0)
  bases x h = cell_node w.root w.place x h ∙ ap cell_of_body (fresh_body x)

  no_route : (x : ℕ) → (x ≡ summit → ⊥) → (cell w x).route ≡ false
  no_route x h = ap (λ (k : Cell). k.route) (bases x h)

  route-is : (x : ℕ) → (cell w x).route ≡ true → x ≡ summit
  route-is x r = go (compared x summit)
    where
      go : Same x summit → x ≡ summit
      go (same e) = e
      go (apart h) = absurd (true≢false (sym r ∙ no_route x h))

  crown-is : cell w summit ≡ crown 0
  unfolding fresh
  crown-is = cell-summit 0 w.place

  own_node : (x : ℕ) → 1 ≤ x → x < summit → fresh_own x ≡ 9
  unfolding fresh_own
  own_node x a b = rw (ne_eqb x 0 (λ e. omega arith), lt-ltb x 128 b)

  own_else : (x : ℕ) → summit ≤ x → fresh_own x ≡ hung
  unfolding fresh_own
  own_else x a = rw (ne_eqb x 0 (λ e. omega arith), le-ltb x 128 a)

  own_zero : fresh_own 0 ≡ hung
  unfolding fresh_own
  own_zero = refl

  grown : (x : ℕ) → in_tree w x → fresh_own x ≡ hung
  grown x i = go (stands i)
    where
      go : Stands x summit (tip 0) (tip 129) → fresh_own x ≡ hung
      go (top e) = rw e (own_else summit (omega arith))
      go (in_l j) = rw (is_some j) own_zero
      go (in_r j) = rw (is_some j) (own_else 129 (omega arith))

  kids : (x : ℕ) → Route (graph w) x → (s : Bool) → fresh_own (kid s (cell w x)) ≡ hung
  kids x r s = rw (route-is x r.route) (rw crown-is (go s))
    where
      go : (s : Bool) → fresh_own (kid s (crown 0)) ≡ hung
      go true = own_else 129 (omega arith)
      go false = own_zero

  no_node : {A : Type 0} (x : ℕ) → Route (graph w) x → x < summit → A
  no_node x r l = absurd (omega (arith, route-is x r.route))

  good : Good (graph w)
  good =
      record {
        head = refl;
        shape =
            branch {n = summit} {l = tip 0} {r = tip 129}
            (record {
              route = ap (λ (k : Cell). k.route) crown-is;
              left = ap (λ (k : Cell). k.left) crown-is;
              right = ap (λ (k : Cell). k.right) crown-is;
            }) (leaf (no_route 0 (λ e. omega arith))) (leaf (no_route 129 (λ e. omega arith)));
        once = λ y.
            omega (
              arith,
              is_two y {a = summit} {b = 0} (λ e. omega arith),
              is_two y {a = summit} {b = 129} (λ e. omega arith),
              is_two y {a = 0} {b = 129} (λ e. omega arith),
            );
        grown = grown;
        kids = kids;
        small = λ x r l s. no_node x r l;
        keys = λ x r l. no_node x r l;
        rises = λ x r l s b. no_node x r l;
        bare = λ x u. no_route x (λ e. omega (arith, own_else summit (omega arith), ap fresh_own e));
        search = λ x i r. here (sym (route-is x r));
      }

  -- what is hung and not in the tree is no node, and not valid
  invalid : (x : ℕ) → fresh_own x ≡ hung → out_of_tree w x → valid w x ≡ false
  unfolding fresh
  invalid zero h o = absurd (omega (arith, is_same {x = 0} refl))
  invalid (suc x) h o = go (ltb (suc x) 128) refl
    where
      go : (b : Bool) → ltb (suc x) 128 ≡ b → (get_or (replicate 127 unmade) x zero_place).valid ≡ false
      go true e = absurd (omega (arith, own_node (suc x) (omega arith) (ltb-true (suc x) 128 e)))
      go false e =
          ap (λ (p : Place). p.valid)
          (get_or-eq_default (replicate 127 unmade) zero_place {n = x} (omega (arith, ltb-false (suc x) 128 e)))

  sound : Sound w (thread_at (fresh c)) (fresh c).made
  unfolding fresh
  sound =
      record {
        good = good;
        belongs =
            record {
              leads = λ b i r j h. absurd (true≢false (sym h ∙ ap (λ (k : Body). has (keys_of_body k) j) (fresh_body b) ∙ has-none j));
            };
        late = λ x h o e. absurd (true≢false (sym e ∙ invalid x h o));
        stale = λ x h r o s b i. absurd (omega (arith, is_same {x = x} (route-is x r)));
        entry = omega arith;
        room = omega arith;
        fresh = λ x a b. own_node x a b;
        many = omega (arith, routes-none (cell w) summit (λ x l. no_route x (λ e. omega arith)));
      }

  pub fresh-idle : (t : ℕ) → t ≤ 7 → thread_at (fresh c) t ≡ fresh_thread
  unfolding fresh thread_at
  fresh-idle t l = get_or-replicate 8 t fresh_thread zero_thread (omega arith)

  pub fresh_nodes : Ordered (fresh c)
  fresh_nodes =
      record { tree = fresh_tree; own = fresh_own; safe = record { sound = sound; each = λ t l. rw (fresh-idle t l) (record { holds = tt }) } }
