-- Row 19: P is spliced out.
use Rattle.std.specs.Prelude.{Bool, true, false, not, ◌≡◌, refl, ℕ, ◌+◌, ◌≤◌, ◌<◌, ltb, length}
use Rattle.std.proofs.Common.{true≢false, sym, ◌∙◌, arith}
use Rattle.std.proofs.Math.Path.{ap}
use Rattle.keys.specs.Keys.{has}
use Rattle.rules.specs.State.{place_at, thread_at}
use Rattle.rules.specs.Registers.{at_phase}
use Rattle.rules.specs.Places.{child_on}
use Rattle.rules.specs.Rows.{hangs, row19}
use Rattle.rules.specs.Step.{view_before, view_of, apply}
use Rattle.rules.specs.declared.state.State.{State}
use Rattle.rules.specs.declared.row.Plan.{Plan}
use Rattle.graph.specs.Cases.{Way, onto, off, way, Same, same, apart, compared, Amount, none, some, amount, is, is_same, is_apart, is_some}
use Rattle.graph.specs.Walk.{Cell, kid, walk_from, first, walk_stops}
use Rattle.graph.specs.Tree.{count, kid_in}
use Rattle.graph.specs.Slot.{Child, kept, slot, child, slot_route, slot_key}
use Rattle.graph.specs.Graph.{summit, Route, Moves, hung_made}
use Rattle.graph.specs.Splice.{Splices}
use Rattle.graph.proofs.Splice.{splice, splice_belongs, taken_over}
use Rattle.order.specs.World.{World, graph, cell, valid, hold, in_tree, out_of_tree, world_of, Sound}
use Rattle.order.specs.Stages.{BaseAt, RouteAt, Dying, Under, Linking, Closing}
use Rattle.order.specs.Steady.{as_was}
use Rattle.order.specs.Cuts.{before, Doomed, cuts}
use Rattle.order.specs.Bridge.{reads_kid, thread_me, thread_other}
use Rattle.order.specs.Walks.{route_of, kid_small, along-first}
use Rattle.order.specs.Ordered.{Ordered, quiet_phase, Stepped}
use Rattle.order.specs.AtPhase.{at_phase_lem}
use Rattle.order.specs.Effects.{Drops}
use Rattle.order.specs.Hooks.{Hooks, hooks}

module _ {s : State} (r : Ordered s) (len : length s.threads ≡ 8) (room : length s.places ≡ 128) {me : ℕ} (l : me ≤ 7)
    (e : (thread_at s me).phase ≡ 19) where
  abbrev w : World
  w = world_of s r.tree r.own

  abbrev v : Bool
  v = (thread_at s me).side

  abbrev P : ℕ
  P = (thread_at s me).prev

  abbrev B : ℕ
  B = (thread_at s me).base

  abbrev N : ℕ
  N = (thread_at s me).neighbour

  abbrev G : ℕ
  G = (thread_at s me).grandparent

  abbrev F : ℕ
  F = child_on v (place_at s P)

  abbrev plan : Plan
  plan = hangs (view_of s me) (at_phase 20 (thread_at s me)) F P G (place_at s G)

  sound : Sound (world_of s r.tree r.own) (thread_at s) s.made
  sound = r.safe.sound

  c : Dying (world_of s r.tree r.own) me (thread_at s me).side (thread_at s me).prev (thread_at s me).base (thread_at s me).neighbour (thread_at s me).made
      × Under (world_of s r.tree r.own) me (thread_at s me).prev (thread_at s me).grandparent
  c = at_phase_lem 19 e (r.safe.each me l)

  far : kid v (cell w P) ≡ F
  far = sym (reads_kid s r.tree r.own v P c.0.pairing.joining.small)

  k : Hooks w (world_of (apply s me plan) r.tree r.own) G P F
  k =
      hooks s me r.tree r.tree r.own r.own (at_phase 20 (thread_at s me)) F P G room c.0.pairing.joining.small c.1.at
      (not (ltb (cell w P).key (cell w G).key)) c.1.child

  splices : Splices (graph w) (cell (world_of (apply s me plan) r.tree r.own)) G k.side P v B F
  splices =
      record {
        slot = k.slot;
        under = c.1.above;
        route = c.0.pairing.joining.prev.route;
        node = c.0.pairing.joining.small;
        far = far;
        near = c.0.pairing.joining.near;
        base = c.0.pairing.joining.base.base;
      }

  abbrev w' : World
  w' = world_of (apply s me plan) (splice r.safe.sound.good splices).tree r.own

  moves : Moves (graph w) (graph w')
  moves = (splice r.safe.sound.good splices).moves

  counted : (y : ℕ) → count y w'.tree + is y P + is y B ≡ count y r.tree
  counted y = (splice r.safe.sound.good splices).counted y

  P-out : out_of_tree w' P
  P-out = omega (arith, counted P, sound.good.once P, is_same {x = P} refl)

  B-out : out_of_tree w' B
  B-out = omega (arith, counted B, sound.good.once B, is_same {x = B} refl)

  -- what is neither P nor B stays in the tree
  stays : (y : ℕ) → in_tree w y → (y ≡ P → ⊥) → (y ≡ B → ⊥) → in_tree w' y
  stays y i p b = omega (arith, counted y, is_apart p, is_apart b)

  kinds : (x y : ℕ) → (cell w x).route ≡ true → (cell w y).route ≡ false → x ≡ y → ⊥
  kinds x y a b q = true≢false (sym a ∙ ap (λ (n : ℕ). (cell w n).route) q ∙ b)

  N-in : in_tree w' N
  N-in =
      stays N c.0.pairing.inside (λ q. kinds P N c.0.pairing.joining.prev.route c.0.pairing.neighbour.base (sym q))
      c.0.pairing.differ

  -- G is above P
  G-in : in_tree w' G
  G-in = go (amount (count G w'.tree))
    where
      go : Amount (count G w'.tree) → in_tree w' G
      go (some i) = i
      go (none o) = stays G c.1.above differ (kinds G B c.1.at.route c.0.pairing.joining.base.base)
        where
          rise : G < summit → G < P
          rise m =
              rw c.1.child at
              (sound.good.rises G (route_of sound c.1.at) m (not (ltb (cell w P).key (cell w G).key))
              (rw c.1.child c.0.pairing.joining.prev.route))

          differ : G ≡ P → ⊥
          differ q = omega (arith, rise (rw q c.0.pairing.joining.small))

  B-in : in_tree w B
  B-in =
      rw c.0.pairing.joining.near at
      (kid_in sound.good.shape P c.0.pairing.joining.above c.0.pairing.joining.prev.route (not v))

  -- a far child that is a base is N
  far_base : (cell w F).route ≡ false → F ≡ N
  far_base b =
      walk_stops
      (walk_from (sym (along-first sound P v ∙ far))
      (first c.0.pairing.path (kinds P N c.0.pairing.joining.prev.route c.0.pairing.neighbour.base)).rest) b

  -- P and B leave the tree
  data Leaver (x : ℕ) : Type 0 where
    is_p : x ≡ P → Leaver x
    is_b : x ≡ B → Leaver x

  leaver : (x : ℕ) → in_tree w x → out_of_tree w' x → Leaver x
  leaver x i o = go (compared x P)
    where
      go : Same x P → Leaver x
      go (same q) = is_p q
      go (apart n) = is_b (is_some (omega (arith, counted x, is_apart n)))

  doomed : (t : Bool) → (cell w (kid t (cell w P))).route ≡ false → Doomed w w' me (kid t (cell w P))
  doomed t b = go (way t v)
    where
      go : Way t v → Doomed w w' me (kid t (cell w P))
      go (onto q) =
          let f : kid t (cell w P) ≡ F = ap (λ (a : Bool). kid a (cell w P)) q ∙ far in
          let n : kid t (cell w P) ≡ N = f ∙ far_base (rw f at b) in
          rw n (record { holds = c.0.pairing.holds; invalid = k.flags N ∙ c.0.invalid_n })
      go (off q) =
          rw (ap (λ (a : Bool). kid a (cell w P)) q ∙ c.0.pairing.joining.near)
          (record { holds = c.0.pairing.joining.holds; invalid = k.flags B ∙ c.0.invalid_b })

  thread_is : thread_at (apply s me plan) me ≡ at_phase 20 (thread_at s me)
  unfolding hangs
  thread_is = thread_me s me plan len l

  base-at : (x : ℕ) → BaseAt w x → BaseAt w' x
  base-at x b = record { small = b.small; hung = b.hung; base = moves.kind x (hung_made b.hung) ∙ b.base }

  route-at : (x : ℕ) → RouteAt w x → RouteAt w' x
  route-at x b = record { small = b.small; hung = b.hung; route = moves.kind x (hung_made b.hung) ∙ b.route }

  only : (x : ℕ) → Route (graph w') x → (x ≡ P → ⊥) → (t : Bool) → kid t (cell w' x) ≡ N → in_tree w' x
  only x q n t z = go (child k.slot x t)
    where
      old : Route (graph w) x
      old = record { hung = q.hung; route = sym (slot_route k.slot x) ∙ q.route }

      go : Child k.slot x t → in_tree w' x
      go (kept a) = stays x (c.0.pairing.only x old t (sym a ∙ z)) n (kinds x B old.route c.0.pairing.joining.base.base)
      go (slot a _ _) = rw a G-in

  links : Linking w' me v P B N (thread_at s me).made
  links =
      record {
        small = c.0.pairing.joining.small;
        prev = route-at P c.0.pairing.joining.prev;
        base = base-at B c.0.pairing.joining.base;
        neighbour = base-at N c.0.pairing.neighbour;
        holds_b = k.holders B ∙ c.0.pairing.joining.holds;
        holds_n = k.holders N ∙ c.0.pairing.holds;
        differ = c.0.pairing.differ;
        out_p = P-out;
        out_b = B-out;
        inside = N-in;
        invalid_b = k.flags B ∙ c.0.invalid_b;
        invalid_n = k.flags N ∙ c.0.invalid_n;
        only = only;
        reach = λ j h.
            taken_over r.safe.sound.good splices j
            (sound.belongs.leads B B-in c.0.pairing.joining.base.base j (ap (λ (n : ℕ). has n j) (sym (k.keysets B)) ∙ h))
            c.0.pairing.path c.0.pairing.neighbour.base N-in;
        union =
            let u = c.0.pairing.union in
            record {
              mine = record { small = u.mine.small; own = u.mine.own };
              base = slot_route k.slot (thread_at s me).made ∙ u.base;
              sum = rw (k.keysets B, k.keysets N) (k.keysets (thread_at s me).made ∙ u.sum);
              apart = rw (k.keysets B, k.keysets N) u.apart;
            };
      }

  closes : Closing w' v P N G
  closes =
      record {
        at = route-at G c.1.at;
        path = moves.walks c.0.pairing.path N-in;
        above = λ q. G-in;
        child = λ q.
            rw (slot_key k.slot P, slot_key k.slot G)
            (go (child k.slot G (not (ltb (cell w P).key (cell w G).key))) (sym far_is ∙ q));
      }
    where
      far_is : kid v (cell w' P) ≡ F
      far_is = ap (λ (a : Cell). kid v a) (moves.frozen P c.0.pairing.joining.prev.hung P-out) ∙ far

      go : Child k.slot G (not (ltb (cell w P).key (cell w G).key)) → F ≡ N → kid (not (ltb (cell w P).key (cell w G).key)) (cell w' G) ≡ N
      go (slot _ _ a) z = a ∙ z
      go (kept a) z =
          absurd (omega (
            arith,
            P-out,
            rw (a ∙ c.1.child) at
                (kid_in (splice r.safe.sound.good splices).good.shape G G-in (slot_route k.slot G ∙ c.1.at.route)
                (not (ltb (cell w P).key (cell w G).key))),
          ))

  -- row 19 keeps the order
  pub row19_kept : Stepped r me (apply s me (row19 (view_of s me)))
  unfolding row19 apply hangs view_of view_before
  row19_kept =
      record {
        tree = w'.tree;
        own = r.own;
        safe =
            cuts r.safe
            (record {
              slot = k.slot;
              under = c.1.at.hung;
              moves = moves;
              good = (splice r.safe.sound.good splices).good;
              belongs = splice_belongs r.safe.sound.good splices sound.belongs k.keysets;
              touched = λ x h. as_was (k.holders x) (k.flags x) (k.keysets x);
              grown = λ x h. before h;
              unhung = λ u x o h. h;
              keeps = k.keysets;
              threads = thread_other s me plan;
              phase = λ q. omega arith;
              holds = c.0.holds;
              out = P-out;
              content = λ h b. rw (far_base b) c.0.pairing.holds;
              leaver = λ x i o. held x (leaver x i o);
              orphan = λ x i o t a b. orphan x t a b (leaver x i o);
              lateness = λ x i o f. absurd (flag x f (leaver x i o));
              entry = k.entry (rw far at (kid_small sound c.0.pairing.joining.prev c.0.pairing.joining.small v)) sound.entry;
              room = sound.room;
              many = sound.many;
              fresh = sound.fresh;
            })
            (rw thread_is (record { holds = (links, closes, k.holders P ∙ c.0.holds, λ q. k.holders G ∙ c.1.holds q) }));
        unmoved = λ q. absurd (true≢false (sym q ∙ ap quiet_phase e));
        kinds = λ x q. slot_route k.slot x ∙ q;
      }
    where
      held : (x : ℕ) → Leaver x → hold w x ≡ me
      held x (is_p q) = rw q c.0.holds
      held x (is_b q) = rw q c.0.pairing.joining.holds

      orphan : (x : ℕ) → (cell w x).route ≡ true → (t : Bool) → (cell w (kid t (cell w x))).route ≡ false → Leaver x
          → Doomed w w' me (kid t (cell w x))
      orphan x t a b (is_p q) = rw q (doomed a (rw q at b))
      orphan x t a b (is_b q) = absurd (kinds x B t c.0.pairing.joining.base.base q)

      flag : (x : ℕ) → valid w' x ≡ true → Leaver x → ⊥
      flag x f (is_p q) = true≢false (sym f ∙ k.flags x ∙ ap (λ (n : ℕ). valid w n) q ∙ c.0.invalid_p)
      flag x f (is_b q) = true≢false (sym f ∙ k.flags x ∙ ap (λ (n : ℕ). valid w n) q ∙ c.0.invalid_b)

  -- and moves the tree so
  pub row19_effect : Drops r (apply s me (row19 (view_of s me))) row19_kept.tree P B
  unfolding row19_kept row19 view_of view_before
  row19_effect = record { bare = record { kinds = slot_route k.slot; keys = k.keysets }; counted = counted }
