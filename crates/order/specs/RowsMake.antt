-- The rows that make nodes: 6 and 12.
use Rattle.std.specs.Prelude.{Bool, cond, List, ◌≡◌, ℕ, ◌+◌, ◌*◌, ◌≤◌, ◌<◌, length}
use Rattle.std.proofs.Math.Bool.{true, false}
use Rattle.std.proofs.Math.Path.{refl}
use Rattle.std.proofs.Common.{sym, ap, ◌∙◌, arith, ltb-true, ltb-false}
use Rattle.std.proofs.Math.Dec.{ltb}
use Rattle.keys.specs.Keys.{below, from, size, split_key}
use Rattle.keys.proofs.Sizes.{split-has, split_small}
use Rattle.rules.specs.State.{new_node, place_at, thread_at}
use Rattle.rules.specs.Places.{keys_of}
use Rattle.rules.specs.Rows.{at, no_split, split, row6}
use Rattle.rules.specs.Step.{view_before, view_of, put, apply}
use Rattle.rules.specs.declared.state.Body.TheVariants.{Base, Route}
use Rattle.rules.specs.declared.state.Place.{Place}
use Rattle.rules.specs.declared.state.State.{State}
use Rattle.graph.specs.Cases.{Same, same, apart, compared}
use Rattle.graph.specs.Count.{routes, routes_more}
use Rattle.graph.specs.Walk.{Cell}
use Rattle.graph.specs.Graph.{summit}
use Rattle.states.specs.Lists.{length-put}
use Rattle.order.specs.World.{cell_of_body, cell_node, World, cell, keys, world_of, Sound}
use Rattle.order.specs.Stages.{Stage, Dense, Splitting}
use Rattle.order.specs.Change.{Change}
use Rattle.order.specs.Survive.{owning, held_keys}
use Rattle.order.specs.Steady.{Any}
use Rattle.order.specs.Bridge.{place_at_lem, put_new, put_old}
use Rattle.order.specs.Ordered.{Ordered, Stepped}
use Rattle.order.specs.Quiet.{self}
use Rattle.order.specs.AtPhase.{at_phase_lem}
use Rattle.order.specs.RowsLock.{no_split_kept}
use Rattle.order.specs.Makes.{given, Adds, adds_change, adds_own, adds_kind, adds_bare, adds_stepped}

module _ {s : State} (r : Ordered s) (len : length s.threads ≡ 8) (room : length s.places ≡ 128) {me : ℕ} (l : me ≤ 7) where
  abbrev w : World
  w = world_of s r.tree r.own

  abbrev B : ℕ
  B = (thread_at s me).base

  abbrev n : ℕ
  n = s.made

  sound : Sound (world_of s r.tree r.own) (thread_at s) s.made
  sound = r.safe.sound

  stage : Stage (world_of s r.tree r.own) me (thread_at s me)
  stage = r.safe.each me l

  -- ---- phase 6

  module _ (e : (thread_at s me).phase ≡ 6) (few : s.made ≤ 125) where
    c : Dense (world_of s r.tree r.own) me (thread_at s me).key (thread_at s me).prev (thread_at s me).base
    c = at_phase_lem 6 e stage

    abbrev ks : ℕ
    ks = keys_of (place_at s B)

    abbrev q : ℕ
    q = split_key (keys_of (place_at s B))

    abbrev p_l : Place
    p_l = new_node (Base (below ks q))

    abbrev p_r : Place
    p_r = new_node (Base (from ks q))

    abbrev p_m : Place
    p_m = new_node (Route q n (n + 1))

    abbrev ps1 : List Place
    ps1 = put (at n p_l) s.places

    abbrev ps2 : List Place
    ps2 = put (at (n + 1) p_r) ps1

    len1 : length ps1 ≡ 128
    len1 = length-put (at n p_l) s.places ∙ room

    len2 : length ps2 ≡ 128
    len2 = length-put (at (n + 1) p_r) ps1 ∙ len1

    abbrev w' : World
    w' = world_of (apply s me (split (view_of s me))) r.tree (given n (n + 3) me r.own)

    at_L : w'.place n ≡ p_l
    unfolding apply split view_of view_before
    at_L =
        put_old ps2 (n + 2) p_m n (λ z. omega arith) ∙ put_old ps1 (n + 1) p_r n (λ z. omega arith) ∙ put_new s.places n p_l room (omega arith)

    at_R : w'.place (n + 1) ≡ p_r
    unfolding apply split view_of view_before
    at_R = put_old ps2 (n + 2) p_m (n + 1) (λ z. omega arith) ∙ put_new ps1 (n + 1) p_r len1 (omega arith)

    at_M : w'.place (n + 2) ≡ p_m
    unfolding apply split view_of view_before
    at_M = put_new ps2 (n + 2) p_m len2 (omega arith)

    adds : Adds w w' n (n + 3) me
    unfolding apply split view_of view_before
    adds =
        record {
          root = refl;
          tree = refl;
          own = λ x. refl;
          old = λ x h.
              put_old ps2 (n + 2) p_m x (λ z. h (omega arith) (omega arith)) ∙ put_old ps1 (n + 1) p_r x (λ z. h (omega arith) (omega arith))
              ∙ put_old s.places n p_l x (λ z. h (omega arith) (omega arith));
          room = omega arith;
          more = omega arith;
        }

    node : (x : ℕ) (p : Place) → x < summit → w'.place x ≡ p → cell w' x ≡ cell_of_body p.body
    node x p m z = cell_node w'.root w'.place x (λ y. omega arith) ∙ ap (λ (k : Place). cell_of_body k.body) z

    change : Change w w' 9 Any (Unit {0})
    change = adds_change r.safe adds l

    splits : Splitting w' me (thread_at s me).key (thread_at s me).prev B (n + 2)
    splits =
        let m = node (n + 2) p_m (omega arith) at_M in
        let k : keys w' B ≡ ks =
        held_keys sound.good change me (self l) tt c.owning.base c.owning.holds ∙ ap keys_of (sym (place_at_lem s B c.owning.base.small)) in
        let d : 2 ≤ size ks = ap_size c.dense in
        record {
          owning = owning sound.good change me (self l) (thread_at s me).key (thread_at s me).prev B tt tt c.owning;
          mine = record { small = omega arith; own = adds_own r.safe adds l (n + 2) (omega arith) (omega arith) };
          mine_l = rw m (record { small = omega arith; own = adds_own r.safe adds l n (omega arith) (omega arith) });
          mine_r = rw m (record { small = omega arith; own = adds_own r.safe adds l (n + 1) (omega arith) (omega arith) });
          apart = rw m (λ z. omega arith);
          route = ap (λ (x : Cell). x.route) m;
          base_l = rw m (ap (λ (x : Cell). x.route) (node n p_l (omega arith) at_L));
          base_r = rw m (ap (λ (x : Cell). x.route) (node (n + 1) p_r (omega arith) at_R));
          key = rw (m, k) (split-has ks (omega arith));
          small = rw m (split_small ks (omega arith));
          keys_l = rw (m, k) (ap keys_of at_L);
          keys_r = rw (m, k) (ap keys_of at_R);
          above = λ z. below_made z;
        }
      where
        ap_size : 2 ≤ size (keys w B) → 2 ≤ size (keys_of (place_at s B))
        ap_size z = rw (place_at_lem s B c.owning.base.small) z

        below_made : (thread_at s me).prev < summit → (thread_at s me).prev < n + 2
        below_made z = go (ltb (thread_at s me).prev n) refl
          where
            go : (b : Bool) → ltb (thread_at s me).prev n ≡ b → (thread_at s me).prev < n + 2
            go true y = omega (arith, ltb-true (thread_at s me).prev n y)
            go false y = absurd (omega (arith, sound.fresh (thread_at s me).prev (ltb-false (thread_at s me).prev n y) z, c.owning.prev.hung))

    many : 1 + 3 * routes (cell w') summit ≤ n + 3
    many =
        rw (routes_more (cell w) (cell w') (n + 2) summit (omega arith) (λ x h. kind x h (compared x n) (compared x (n + 1)))
        (adds_bare r.safe adds l (n + 2) (omega arith) (omega arith)) (ap (λ (x : Cell). x.route) (node (n + 2) p_m (omega arith) at_M)))
        (omega (arith, sound.many))
      where
        kind : (x : ℕ) → (x ≡ n + 2 → ⊥) → Same x n → Same x (n + 1) → (cell w' x).route ≡ (cell w x).route
        kind x h (same z) y =
            rw z (ap (λ (a : Cell). a.route) (node n p_l (omega arith) at_L) ∙ sym (adds_bare r.safe adds l n (omega arith) (omega arith)))
        kind x h (apart z) (same y) =
            rw y (ap (λ (a : Cell). a.route) (node (n + 1) p_r (omega arith) at_R) ∙ sym (adds_bare r.safe adds l (n + 1) (omega arith) (omega arith)))
        kind x h (apart z) (apart y) = adds_kind r.safe adds l x (λ a b. absurd (omega arith))

    pub split_kept : Stepped r me (apply s me (split (view_of s me)))
    unfolding split view_of view_before
    split_kept = adds_stepped r len l (split (view_of s me)) adds many (λ z. omega arith) (record { holds = splits })

  -- row 6 keeps the order
  pub row6_kept : (thread_at s me).phase ≡ 6 → Stepped r me (apply s me (row6 (view_of s me)))
  unfolding row6 view_of view_before
  row6_kept e = go (ltb 125 n) refl
    where
      go : (b : Bool) → ltb 125 n ≡ b → Stepped r me (apply s me (cond b (no_split (view_of s me)) (split (view_of s me))))
      go true z = no_split_kept r len room l e
      go false z = split_kept e (ltb-false 125 n z)
