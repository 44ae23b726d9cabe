-- Row 12: a base with the keys of B and N is made.
use Rattle.std.specs.Prelude.{Bool, cond, not, ◌||◌, ◌≡◌, ℕ, ◌+◌, ◌*◌, ◌≤◌, length}
use Rattle.std.proofs.Math.Bool.{true, false}
use Rattle.std.proofs.Common.{true≢false, sym, ap, ◌∙◌, arith, ltb-false}
use Rattle.std.proofs.Math.Path.{refl}
use Rattle.std.proofs.Math.Dec.{ltb}
use Rattle.keys.specs.Keys.{has, union}
use Rattle.rules.specs.State.{new_node, place_at, thread_at}
use Rattle.rules.specs.Places.{keys_of}
use Rattle.rules.specs.Rows.{no_join, join, row12}
use Rattle.rules.specs.Step.{view_before, view_of, put, apply}
use Rattle.rules.specs.declared.state.Body.TheVariants.{Base}
use Rattle.rules.specs.declared.state.Place.{Place}
use Rattle.rules.specs.declared.state.State.{State}
use Rattle.graph.specs.Cases.{Same, same, apart, compared, Amount, none, some, amount}
use Rattle.graph.specs.Count.{routes, routes_same}
use Rattle.graph.specs.Walk.{Cell, kid, walks_meet}
use Rattle.graph.specs.Tree.{count, kid_in}
use Rattle.graph.specs.Graph.{summit, Route}
use Rattle.order.specs.World.{cell_of_body, cell_node, World, graph, cell, valid, keys, in_tree, world_of, Sound}
use Rattle.order.specs.Stages.{Taken, Pairing}
use Rattle.order.specs.Change.{Holds, Change}
use Rattle.order.specs.Survive.{base-at, holding, held_keys, joining}
use Rattle.order.specs.Steady.{Any}
use Rattle.order.specs.Bridge.{place_at_lem, put_new, put_old}
use Rattle.order.specs.Walks.{held_in}
use Rattle.order.specs.Ordered.{Ordered, Stepped}
use Rattle.order.specs.Quiet.{self}
use Rattle.order.specs.AtPhase.{at_phase_lem}
use Rattle.order.specs.RowsLocks.{no_join_kept}
use Rattle.order.specs.Makes.{given, Adds, adds_change, adds_own, adds_kind, adds_bare, adds_stepped}

module _ {s : State} (r : Ordered s) (len : length s.threads ≡ 8) (room : length s.places ≡ 128) {me : ℕ} (l : me ≤ 7)
    (e : (thread_at s me).phase ≡ 12) where
  abbrev w : World
  w = world_of s r.tree r.own

  abbrev P : ℕ
  P = (thread_at s me).prev

  abbrev B : ℕ
  B = (thread_at s me).base

  abbrev N : ℕ
  N = (thread_at s me).neighbour

  abbrev v : Bool
  v = (thread_at s me).side

  abbrev n : ℕ
  n = s.made

  sound : Sound (world_of s r.tree r.own) (thread_at s) s.made
  sound = r.safe.sound

  c : Taken (world_of s r.tree r.own) me (thread_at s me).side (thread_at s me).prev (thread_at s me).base (thread_at s me).neighbour
  c = at_phase_lem 12 e (r.safe.each me l)

  module _ (flag : (place_at s (thread_at s me).neighbour).valid ≡ true) (few : s.made ≤ 127) where
    abbrev p : Place
    p = new_node (Base (union (keys_of (place_at s B)) (keys_of (place_at s N))))

    abbrev w' : World
    w' = world_of (apply s me (join (view_of s me))) r.tree (given n (n + 1) me r.own)

    at_M : w'.place n ≡ p
    unfolding apply put join view_of view_before
    at_M = put_new s.places n p room (omega arith)

    adds : Adds w w' n (n + 1) me
    unfolding apply put join view_of view_before
    adds =
        record {
          root = refl;
          tree = refl;
          own = λ x. refl;
          old = λ x h. put_old s.places n p x (λ z. h (omega arith) (omega arith));
          room = omega arith;
          more = omega arith;
        }

    change : Change w w' 9 Any (Unit {0})
    change = adds_change r.safe adds l

    was : valid w N ≡ true
    was = ap (λ (q : Place). q.valid) (sym (place_at_lem s N c.reached.base.small)) ∙ flag

    N-in : in_tree w N
    N-in = held_in sound c.reached.base.hung c.holds was (λ z. omega arith)

    B-in : in_tree w B
    B-in =
        rw c.reached.joining.near at
        (kid_in sound.good.shape P c.reached.joining.above c.reached.joining.prev.route (not v))

    -- a hung route that has N as a child is in the tree: N is valid
    only : (x : ℕ) → Route (graph w) x → (t : Bool) → kid t (cell w x) ≡ N → in_tree w x
    only x q t z = go (amount (count x r.tree))
      where
        go : Amount (count x r.tree) → in_tree w x
        go (some i) = i
        go (none o) =
            absurd (true≢false (sym was ∙ (rw z at (sound.stale x q.hung q.route o t (rw z c.reached.base.base) (rw z N-in)))))

    -- no key leads to two bases
    unshared : (j : ℕ) → has (keys w B) j ≡ true → has (keys w N) j ≡ true → ⊥
    unshared j b a =
        c.differ
        (sym (walks_meet (sound.belongs.leads B B-in c.reached.joining.base.base j b)
        (sound.belongs.leads N N-in c.reached.base.base j a) c.reached.joining.base.base c.reached.base.base))

    had : Holds w me N
    had = record { hung = c.reached.base.hung; holds = c.holds }

    pairs : Pairing w' me v P B N n
    pairs =
        let k_b = held_keys sound.good change me (self l) tt c.reached.joining.base c.reached.joining.holds in
        let k_n = held_keys sound.good change me (self l) tt c.reached.base c.holds in
        record {
          joining = joining sound.good change me (self l) v P B tt c.reached.joining;
          neighbour = base-at sound.good change me (self l) c.reached.base;
          holds = holding sound.good change me (self l) tt c.reached.base.hung c.holds;
          differ = c.differ;
          inside = N-in;
          path = change.moves.walks (c.reached.meets was N-in) N-in;
          only = λ x q t z.
              let b = change.back me x t N (self l) had c.reached.base.base q z in only x b.route t b.child;
          union =
              record {
                mine = record { small = omega arith; own = adds_own r.safe adds l n (omega arith) (omega arith) };
                base =
                    ap (λ (x : Cell). x.route)
                    (cell_node w'.root w'.place n (λ y. omega arith) ∙ ap (λ (k : Place). cell_of_body k.body) at_M);
                sum =
                    rw (k_b, k_n)
                    (ap keys_of at_M ∙ ap (λ (q : Place). union (keys_of q) (keys_of (place_at s N))) (place_at_lem s B c.reached.joining.base.small)
                    ∙ ap (λ (q : Place). union (keys w B) (keys_of q)) (place_at_lem s N c.reached.base.small));
                apart = rw (k_b, k_n) unshared;
              };
        }

    many : 1 + 3 * routes (cell w') summit ≤ n + 1
    many = rw (routes_same (cell w) (cell w') summit (λ x m. kind x (compared x n))) (omega (arith, sound.many))
      where
        kind : (x : ℕ) → Same x n → (cell w' x).route ≡ (cell w x).route
        kind x (same q) = rw q (pairs.union.base ∙ sym (adds_bare r.safe adds l n (omega arith) (omega arith)))
        kind x (apart q) = adds_kind r.safe adds l x (λ a b. q (omega arith))

    join_kept : Stepped r me (apply s me (join (view_of s me)))
    unfolding join view_of view_before
    join_kept = adds_stepped r len l (join (view_of s me)) adds many (λ z. omega arith) (record { holds = pairs })

  -- row 12 keeps the order
  pub row12_kept : Stepped r me (apply s me (row12 (view_of s me)))
  unfolding row12 view_of view_before
  row12_kept = go (place_at s N).valid (ltb 127 n) refl refl
    where
      go : (a b : Bool) → (place_at s N).valid ≡ a → ltb 127 n ≡ b → Stepped r me (apply s me (cond (not a || b) (no_join (view_of s me)) (join (view_of s me))))
      go false b y z = no_join_kept r len room l e
      go true true y z = no_join_kept r len room l e
      go true false y z = join_kept y (ltb-false 127 n z)
