-- The rows that take and test the grandparent: 17 and 18.
use Rattle.std.specs.Prelude.{Bool, true, false, cond, not, ◌≡◌, ltb, length}
use Rattle.std.proofs.Common.{true≢false, sym, ap, ◌∙◌, arith}
use Rattle.std.proofs.Math.Path.{refl}
use Prim.Native.Nat.{ℕ, ◌≤◌, ◌<◌}
use Rattle.rules.specs.State.{place_at, thread_at}
use Rattle.rules.specs.Registers.{at_phase}
use Rattle.rules.specs.Places.{is_free, with_lock, tried, release}
use Rattle.rules.specs.Rows.{at, only, stores1, row17, row18}
use Rattle.rules.specs.Step.{view_before, view_of, apply}
use Rattle.rules.specs.declared.state.Place.{Place}
use Rattle.rules.specs.declared.state.State.{State}
use Rattle.order.specs.World.{World, cell, hold, world_of, Sound}
use Rattle.order.specs.Stages.{Stage, Dying, Over}
use Rattle.order.specs.Change.{Change}
use Rattle.order.specs.Survive.{dying, over}
use Rattle.order.specs.Bridge.{place_at_lem}
use Rattle.order.specs.Walks.{route_of, held_in}
use Rattle.order.specs.Ordered.{Ordered, Stepped}
use Rattle.order.specs.Quiet.{only_row, frees, one_change, self, one_row, not8, own_touch}
use Rattle.order.specs.AtPhase.{at_phase_lem}
use Rattle.order.specs.RowsLock.{Takes, takes}

module _ {s : State} (r : Ordered s) (size : length s.threads ≡ 8) (room : length s.places ≡ 128) {me : ℕ} (l : me ≤ 7) where
  abbrev w : World
  w = world_of s r.tree r.own

  sound : Sound (world_of s r.tree r.own) (thread_at s) s.made
  sound = r.safe.sound

  stage : Stage (world_of s r.tree r.own) me (thread_at s me)
  stage = r.safe.each me l

  -- Dying by the registers, and its survival
  abbrev dies : World → Type 0
  dies x = Dying x me (thread_at s me).side (thread_at s me).prev (thread_at s me).base (thread_at s me).neighbour (thread_at s me).made

  dies_on : {w' : World} {K : ℕ → Type 0} {F : Type 0} → Change w w' 9 K F → K (thread_at s me).prev → K (thread_at s me).base
      → K (thread_at s me).neighbour → dies w → dies w'
  dies_on c π κ ν d =
      dying sound.good c me (self l) (thread_at s me).side (thread_at s me).prev (thread_at s me).base (thread_at s me).neighbour
      (thread_at s me).made π κ ν d

  -- row 17 keeps the order
  pub row17_kept : (thread_at s me).phase ≡ 17 → Stepped r me (apply s me (row17 (view_of s me)))
  unfolding row17 view_of view_before Takes
  row17_kept e = go (is_free (place_at s G)) refl
    where
      G : ℕ
      G = (thread_at s me).grandparent

      c : dies w × Over w (thread_at s me).prev G
      c = at_phase_lem 17 e stage

      go : (b : Bool) → is_free (place_at s G) ≡ b
          → Stepped r me (apply s me (cond b (stores1 (view_of s me) (at_phase 18 (thread_at s me)) (at G (with_lock (tried me (place_at s G).lock) (place_at s G))))
          (only (view_of s me) (at_phase 17 (thread_at s me)))))
      go true q =
          takes r size room l 17 e (λ z. omega arith) G c.1.small q (at_phase 18 (thread_at s me)) (λ p. with_lock (tried me p.lock) p) (λ p. (refl, refl, refl))
          (λ w' d k.
          record {
            holds = (
              dies_on d tt tt tt c.0,
              over sound.good d me (self l) (thread_at s me).side (thread_at s me).prev (thread_at s me).base (thread_at s me).neighbour
                  (thread_at s me).made G c.0 c.1,
              k,
            );
          })
      go false q = only_row r size l (at_phase 17 (thread_at s me)) (not8 17 e (λ z. omega arith)) (record { holds = c })

  -- row 18 keeps the order
  pub row18_kept : (thread_at s me).phase ≡ 18 → Stepped r me (apply s me (row18 (view_of s me)))
  unfolding row18 view_of view_before
  row18_kept e = go (place_at s G).valid refl
    where
      G : ℕ
      G = (thread_at s me).grandparent

      P : ℕ
      P = (thread_at s me).prev

      c : dies w × Over w P G × (hold w G ≡ me)
      c = at_phase_lem 18 e stage

      differs : (x : ℕ) → (cell w x).route ≡ false → x ≡ G → ⊥
      differs x b q = true≢false (sym c.1.at.route ∙ ap (λ (n : ℕ). (cell w n).route) (sym q) ∙ b)

      above : G < P
      above =
          rw c.1.child at
          (sound.good.rises G (route_of sound c.1.at) c.1.small (not (ltb (cell w P).key (cell w G).key))
          (rw c.1.child c.0.pairing.joining.prev.route))

      go : (b : Bool) → (place_at s G).valid ≡ b
          → Stepped r me (apply s me (cond b (only (view_of s me) (at_phase 19 (thread_at s me)))
          (stores1 (view_of s me) (at_phase 15 (thread_at s me)) (at G (release (place_at s G))))))
      go true q =
          only_row r size l (at_phase 19 (thread_at s me)) (not8 18 e (λ z. omega arith))
          (record {
            holds = (
              c.0,
              record {
                at = c.1.at;
                above =
                    held_in sound c.1.at.hung c.2 (ap (λ (p : Place). p.valid) (sym (place_at_lem s G c.1.small)) ∙ q)
                    (not8 18 e (λ z. omega arith));
                child = c.1.child;
                holds = λ z. c.2;
              },
            );
          })
      go false q =
          one_row r size room l (at_phase 15 (thread_at s me)) G release c.1.small (λ p. refl) (own_touch c.2 (λ z. z))
          (λ w' o. (
            λ z. absurd (not8 18 e (λ y. omega arith) z),
            record {
              holds =
                  dies_on (one_change o (λ x. x ≡ G → ⊥) {F = Unit {0}} sound.good refl (frees (λ z. z refl) refl)) (λ z. omega (arith, above))
                  (differs (thread_at s me).base c.0.pairing.joining.base.base)
                  (differs (thread_at s me).neighbour c.0.pairing.neighbour.base) c.0;
            },
          ))
