-- The rows that change several locks or flags: 14, 20, and of 12 the answer that makes nothing.
use Rattle.std.specs.Prelude.{Bool, true, false, cond, List, ◌≡◌, eqb, get_or, length}
use Rattle.std.proofs.Common.{true≢false, sym, ap, ◌∙◌, arith, ne_eqb}
use Rattle.std.proofs.Math.Path.{refl}
use Prim.Native.Nat.{ℕ, ◌≤◌, ◌<◌}
use Rattle.std.proofs.lemmas.Bool.{eqb-false}
use Rattle.rules.specs.State.{none, zero_place, place_at, thread_at}
use Rattle.rules.specs.Registers.{at_phase}
use Rattle.rules.specs.Places.{release, zero, invalid}
use Rattle.rules.specs.Rows.{at, no_store, stores2, no_join, row14, row20}
use Rattle.rules.specs.Step.{view_before, view_of, put, apply}
use Rattle.rules.specs.declared.state.Place.{Place}
use Rattle.rules.specs.declared.state.State.{State}
use Rattle.rules.specs.declared.row.Plan.{Plan}
use Rattle.graph.specs.Cases.{Same, same, apart, compared}
use Rattle.graph.specs.Graph.{summit}
use Rattle.states.specs.Lists.{length-put}
use Rattle.order.specs.World.{World, cell, hold, world_of, Sound}
use Rattle.order.specs.Stages.{Stage, Taken, Ready, Linking, Closing}
use Rattle.order.specs.Change.{Change}
use Rattle.order.specs.Survive.{holding, pairing, holding_of}
use Rattle.order.specs.SurviveLink.{linking, closing}
use Rattle.order.specs.Steady.{Any, calm}
use Rattle.order.specs.Bridge.{place_at_lem, put_new, put_old}
use Rattle.order.specs.Ordered.{Ordered, Stepped}
use Rattle.order.specs.Quiet.{Quiet, quiet_calm, Touch, stays, frees, fades, quiet_row, self, one_change, one_row, own_touch}
use Rattle.order.specs.AtPhase.{at_phase_lem}

-- what holds of the old place and the new at each node where one is stored, and elsewhere, holds at every node
put-each : (R : ℕ → Place → Place → Type 0) (old : ℕ → Place) (ps : List Place) (n : ℕ) (p : Place) → length ps ≡ 128 → n < summit → R n (old n) p
    → (x : ℕ) → ((x ≡ n → ⊥) → R x (old x) (get_or ps x zero_place)) → R x (old x) (get_or (put (at n p) ps) x zero_place)
put-each R old ps n p e l a x b = go (compared x n)
  where
    go : Same x n → R x (old x) (get_or (put (at n p) ps) x zero_place)
    go (same q) = rw q (rw (put_new ps n p e l) a)
    go (apart h) = rw (put_old ps n p x h) (b h)

module _ {s : State} (r : Ordered s) (size : length s.threads ≡ 8) (room : length s.places ≡ 128) {me : ℕ} (l : me ≤ 7) where
  abbrev w : World
  w = world_of s r.tree r.own

  abbrev old : ℕ → Place
  old x = get_or s.places x zero_place

  sound : Sound (world_of s r.tree r.own) (thread_at s) s.made
  sound = r.safe.sound

  stage : Stage (world_of s r.tree r.own) me (thread_at s me)
  stage = r.safe.each me l

  -- two places, then a third
  two : (R : ℕ → Place → Place → Type 0) (a b : ℕ) (f g : Place → Place) → a < summit → b < summit → R a (old a) (f (old a)) → R b (old b) (g (old b))
      → (x : ℕ) → ((x ≡ b → ⊥) → (x ≡ a → ⊥) → R x (old x) (old x))
      → R x (old x) (get_or (put (at b (g (place_at s b))) (put (at a (f (place_at s a))) s.places)) x zero_place)
  two R a b f g la lb ra rb x h =
      put-each R old (put (at a (f (place_at s a))) s.places) b (g (place_at s b)) (length-put (at a (f (place_at s a))) s.places ∙ room) lb
      (rw (place_at_lem s b lb) rb) x (λ u. put-each R old s.places a (f (place_at s a)) room la (rw (place_at_lem s a la) ra) x (h u))

  three : (R : ℕ → Place → Place → Type 0) (a b c : ℕ) (f : Place → Place) → a < summit → b < summit → c < summit → R a (old a) (f (old a))
      → R b (old b) (f (old b)) → R c (old c) (f (old c)) → (x : ℕ) → ((x ≡ c → ⊥) → (x ≡ b → ⊥) → (x ≡ a → ⊥) → R x (old x) (old x))
      → R x (old x) (get_or (put (at c (f (place_at s c))) (put (at b (f (place_at s b))) (put (at a (f (place_at s a))) s.places))) x zero_place)
  three R a b c f la lb lc ra rb rc x h =
      put-each R old (put (at b (f (place_at s b))) (put (at a (f (place_at s a))) s.places)) c (f (place_at s c))
      (length-put (at b (f (place_at s b))) (put (at a (f (place_at s a))) s.places) ∙ length-put (at a (f (place_at s a))) s.places ∙ room) lc
      (rw (place_at_lem s c lc) rc) x (λ u. two R a b f f la lb ra rb x (h u))

  abbrev same_body : ℕ → Place → Place → Type 0
  same_body x q p = p.body ≡ q.body

  -- row 14 keeps the order
  pub row14_kept : (thread_at s me).phase ≡ 14 → Stepped r me (apply s me (row14 (view_of s me)))
  unfolding row14 view_of view_before apply
  row14_kept e =
      quiet_row r size l (row14 (view_of s me)) refl still (λ x h. each (λ x q p. Touch me (Unit {0}) (Unit {0}) q p) (own_touch c.holds (λ z. refl))
      (own_touch c.pairing.holds (λ z. refl)) (own_touch c.pairing.joining.holds (λ z. refl)) x (λ z y v. stays refl refl))
      (λ z. omega arith)
      (record {
        holds =
            record {
              pairing = pairing sound.good change me (self l) (thread_at s me).side P B N (thread_at s me).made tt tt c.pairing;
              holds = holding sound.good change me (self l) tt c.pairing.joining.prev.hung c.holds;
              invalid_p = each (λ x q p. x ≡ P → p.valid ≡ false) (λ z. refl) (λ z. refl) (λ z. refl) P (λ z y v u. absurd (v u)) refl;
              invalid_n = each (λ x q p. x ≡ N → p.valid ≡ false) (λ z. refl) (λ z. refl) (λ z. refl) N (λ z y v u. absurd (y u)) refl;
              invalid_b = each (λ x q p. x ≡ B → p.valid ≡ false) (λ z. refl) (λ z. refl) (λ z. refl) B (λ z y v u. absurd (z u)) refl;
            };
      })
    where
      P : ℕ
      P = (thread_at s me).prev

      B : ℕ
      B = (thread_at s me).base

      N : ℕ
      N = (thread_at s me).neighbour

      c : Ready w me (thread_at s me).side P B N (thread_at s me).made
      c = at_phase_lem 14 e stage

      w' : World
      w' = world_of (apply s me (row14 (view_of s me))) r.tree r.own

      each : (R : ℕ → Place → Place → Type 0) → R P (old P) (invalid (old P)) → R N (old N) (invalid (old N)) → R B (old B) (invalid (old B))
          → (x : ℕ) → ((x ≡ B → ⊥) → (x ≡ N → ⊥) → (x ≡ P → ⊥) → R x (old x) (old x)) → R x (old x) (w'.place x)
      each R a b d x h =
          three R P N B invalid c.pairing.joining.small c.pairing.neighbour.small c.pairing.joining.base.small a b d x h

      still : Quiet w w'
      still = record { root = refl; tree = refl; own = λ x. refl; bodies = λ x. each same_body refl refl refl x (λ z y v. refl) }

      change : Change w w' 9 Any ⊥
      change =
          calm sound.good
          (quiet_calm still sound.good
          (λ x h. each (λ x q p. Touch 9 (Unit {0}) ⊥ q p) (fades (λ z. z) refl refl) (fades (λ z. z) refl refl) (fades (λ z. z) refl refl) x
          (λ z y v. stays refl refl)))

  pub no_join_kept : (thread_at s me).phase ≡ 12 → Stepped r me (apply s me (no_join (view_of s me)))
  unfolding no_join view_of view_before apply put
  no_join_kept e =
      rw (ne_eqb B N (λ z. c.differ (sym z)))
      (quiet_row r size l plan refl still (λ x h. each (λ x q p. Touch me (Unit {0}) (Unit {0}) q p) (own_touch c.holds (λ z. z)) (stays refl refl) x
      (λ z y. stays refl refl)) (λ z. omega arith)
      (record {
        holds =
            holding_of sound.good change me (self l) B (λ z. c.differ (sym z))
            (record { base = c.reached.joining.base; holds = c.reached.joining.holds });
      }))
    where
      B : ℕ
      B = (thread_at s me).base

      N : ℕ
      N = (thread_at s me).neighbour

      c : Taken w me (thread_at s me).side (thread_at s me).prev B N
      c = at_phase_lem 12 e stage

      plan : Plan
      plan = stores2 (view_of s me) (at_phase 25 (thread_at s me)) (at N (release (place_at s N))) (at B (zero (place_at s B)))

      w' : World
      w' = world_of (apply s me plan) r.tree r.own

      each : (R : ℕ → Place → Place → Type 0) → R N (old N) (release (old N)) → R B (old B) (zero (old B)) → (x : ℕ)
          → ((x ≡ B → ⊥) → (x ≡ N → ⊥) → R x (old x) (old x)) → R x (old x) (w'.place x)
      each R a b x h = two R N B release zero c.reached.base.small c.reached.joining.base.small a b x h

      still : Quiet w w'
      still = record { root = refl; tree = refl; own = λ x. refl; bodies = λ x. each same_body refl refl x (λ z y. refl) }

      change : Change w w' 9 (λ x. x ≡ N → ⊥) (Unit {0})
      change =
          calm sound.good
          (quiet_calm still sound.good
          (λ x h. each (λ x q p. Touch 9 (x ≡ N → ⊥) (Unit {0}) q p) (frees (λ z. z refl) refl) (stays refl refl) x (λ z y. stays refl refl)))

  -- what phase 20 comes to, once the locks of P and G are let go
  closes : {w' : World} {K : ℕ → Type 0} → K (thread_at s me).base → K (thread_at s me).neighbour → Change w w' 9 K (Unit {0})
      → Linking w me (thread_at s me).side (thread_at s me).prev (thread_at s me).base (thread_at s me).neighbour (thread_at s me).made
      → Closing w (thread_at s me).side (thread_at s me).prev (thread_at s me).neighbour (thread_at s me).grandparent
      → Stage w' me (at_phase 21 (thread_at s me))
  closes κ ν d a b =
      record {
        holds = (
          linking sound.good d me (self l) (thread_at s me).side (thread_at s me).prev (thread_at s me).base (thread_at s me).neighbour
              (thread_at s me).made κ ν a,
          closing sound.good d me (self l) (thread_at s me).side (thread_at s me).prev (thread_at s me).base (thread_at s me).neighbour
              (thread_at s me).made (thread_at s me).grandparent a b,
        );
      }

  -- row 20 keeps the order
  pub row20_kept : (thread_at s me).phase ≡ 20 → Stepped r me (apply s me (row20 (view_of s me)))
  unfolding row20 view_of view_before apply put
  row20_kept e = go (eqb G none) refl
    where
      P : ℕ
      P = (thread_at s me).prev

      B : ℕ
      B = (thread_at s me).base

      N : ℕ
      N = (thread_at s me).neighbour

      G : ℕ
      G = (thread_at s me).grandparent

      c : Linking w me (thread_at s me).side P B N (thread_at s me).made × Closing w (thread_at s me).side P N G × (hold w P ≡ me)
          × (G < summit → hold w G ≡ me)
      c = at_phase_lem 20 e stage

      differs : (x y : ℕ) → (cell w x).route ≡ false → (cell w y).route ≡ true → x ≡ y → ⊥
      differs x y b k q = true≢false (sym k ∙ ap (λ (n : ℕ). (cell w n).route) (sym q) ∙ b)

      K : ℕ → Type 0
      K x = (x ≡ P → ⊥) × (x ≡ G → ⊥)

      k_b : K B
      k_b = (differs B P c.0.base.base c.0.prev.route, differs B G c.0.base.base c.1.at.route)

      k_n : K N
      k_n = (differs N P c.0.neighbour.base c.0.prev.route, differs N G c.0.neighbour.base c.1.at.route)

      go : (b : Bool) → eqb G none ≡ b
          → Stepped r me (apply s me (stores2 (view_of s me) (at_phase 21 (thread_at s me)) (at P (release (place_at s P)))
          (cond b no_store (at G (release (place_at s G))))))
      go true q =
          one_row r size room l (at_phase 21 (thread_at s me)) P release c.0.small (λ p. refl) (own_touch c.2 (λ z. z))
          (λ w' o. (λ z. absurd (omega arith), closes {K = K} k_b k_n (one_change o K sound.good refl (frees (λ z. z.0 refl) refl)) c.0 c.1))
      go false q =
          quiet_row r size l plan refl still (λ x h. each (λ x q p. Touch me (Unit {0}) (Unit {0}) q p) (own_touch c.2 (λ z. z))
          (own_touch (c.3 small) (λ z. z)) x (λ z y. stays refl refl)) (λ z. omega arith) (closes {K = K} k_b k_n change c.0 c.1)
        where
          small : G < summit
          small = omega (arith, c.1.at.small, eqb-false G none q)

          plan : Plan
          plan = stores2 (view_of s me) (at_phase 21 (thread_at s me)) (at P (release (place_at s P))) (at G (release (place_at s G)))

          w' : World
          w' = world_of (apply s me plan) r.tree r.own

          each : (R : ℕ → Place → Place → Type 0) → R P (old P) (release (old P)) → R G (old G) (release (old G)) → (x : ℕ)
              → ((x ≡ G → ⊥) → (x ≡ P → ⊥) → R x (old x) (old x)) → R x (old x) (w'.place x)
          each R a b x h = two R P G release release c.0.small small a b x h

          still : Quiet w w'
          still = record { root = refl; tree = refl; own = λ x. refl; bodies = λ x. each same_body refl refl x (λ z y. refl) }

          change : Change w w' 9 K (Unit {0})
          change =
              calm sound.good
              (quiet_calm still sound.good
              (λ x h. each (λ x q p. Touch 9 (K x) (Unit {0}) q p) (frees (λ z. z.0 refl) refl) (frees (λ z. z.1 refl) refl) x (λ z y. stays refl refl)))
