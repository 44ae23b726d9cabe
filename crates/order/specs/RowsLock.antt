-- The rows that change one lock or one flag: 3, 4, 8, 11, 13, 24, 25, and of 5 and 6 the answers that make and commit nothing.
use Rattle.std.specs.Prelude.{Bool, true, false, cond, ◌≡◌, length}
use Rattle.std.proofs.Math.Path.{refl, ap}
use Rattle.std.proofs.Common.{sym, ◌∙◌, subst, arith, eqb-true}
use Prim.Native.Nat.{ℕ, ◌≤◌, ◌<◌}
use Rattle.std.proofs.Math.ListN.{get_or}
use Rattle.rules.specs.State.{nobody, zero_place, fresh_thread, place_at, thread_at}
use Rattle.rules.specs.Registers.{at_phase, set_neighbour}
use Rattle.rules.specs.Places.{is_free, with_lock, tried, taken3, taken4, release, zero, invalid}
use Rattle.rules.specs.Rows.{at, only, stores1, row3, row4, no_split, row8, row11, row13, row24, row25}
use Rattle.rules.specs.Step.{view_before, view_of, apply}
use Rattle.rules.specs.declared.state.Place.{Place}
use Rattle.rules.specs.declared.state.Thread.{Thread}
use Rattle.rules.specs.declared.state.State.{State}
use Rattle.graph.specs.Graph.{summit}
use Rattle.order.specs.World.{World, hold, world_of, Sound}
use Rattle.order.specs.Stages.{stages, Stage, Arrived, Owning, Reached, Pairing, Holding}
use Rattle.order.specs.Change.{Change}
use Rattle.order.specs.Survive.{base-at, arrived, reached, pairing, holding_of}
use Rattle.order.specs.Steady.{Any}
use Rattle.order.specs.Bridge.{place_at_lem}
use Rattle.order.specs.Ordered.{Ordered, Stepped}
use Rattle.order.specs.Quiet.{only_row, Touch, stays, mine, frees, fades, one_change, self, one_row, not8, own_touch}
use Rattle.order.specs.AtPhase.{at_phase_lem}

-- a place taken by me: a lock with me as holder
unfoldable pub Takes : ℕ → (Place → Place) → Type 0
Takes me f = (q : Place) → ((f q).lock.holder ≡ me) × ((f q).valid ≡ q.valid) × ((f q).body ≡ q.body)

module _ {s : State} (r : Ordered s) (size : length s.threads ≡ 8) (room : length s.places ≡ 128) {me : ℕ} (l : me ≤ 7) where
  abbrev w : World
  w = world_of s r.tree r.own

  sound : Sound (world_of s r.tree r.own) (thread_at s) s.made
  sound = r.safe.sound

  stage : Stage (world_of s r.tree r.own) me (thread_at s me)
  stage = r.safe.each me l

  -- a free place that is taken
  free_touch : {m : ℕ} {K F : Type 0} {q p : Place} → q.lock.holder ≡ nobody → p.valid ≡ q.valid → Touch m K F q p
  free_touch e f = mine (λ v o h. omega (arith, o.thread)) (λ h. f ∙ h)

  free_is : (x : ℕ) → x < summit → is_free (place_at s x) ≡ true → hold w x ≡ nobody
  free_is x m e = ap (λ (q : Place). q.lock.holder) (sym (place_at_lem s x m)) ∙ eqb-true (place_at s x).lock.holder nobody e

  -- a row that takes the lock of a free node
  pub takes : (n : ℕ) → (thread_at s me).phase ≡ n → (n ≡ 8 → ⊥) → (x : ℕ) → x < summit → is_free (place_at s x) ≡ true → (th : Thread) (f : Place → Place)
      → Takes me f → ((w' : World) → Change w w' 9 Any (Unit {0}) → hold w' x ≡ me → Stage w' me th)
      → Stepped r me (apply s me (stores1 (view_of s me) th (at x (f (place_at s x)))))
  unfolding Takes
  takes n e h x m free th f t c =
      let q = get_or s.places x zero_place in
      let a = free_is x m free in
      one_row r size room l th x f m (λ p. (t p).2) (free_touch a (t q).1)
      (λ w' o. (
        λ z. absurd (not8 n e h z),
        c w' (one_change o Any sound.good (t q).2 (free_touch a (t q).1)) (ap (λ (p : Place). p.lock.holder) o.new ∙ (t q).0),
      ))

  locks : (n : ℕ) → (thread_at s me).phase ≡ n → (n ≡ 8 → ⊥) → Arrived w (thread_at s me).key (thread_at s me).prev (thread_at s me).base
      → (f : Place → Place) → Takes me f → (b : Bool) → is_free (place_at s (thread_at s me).base) ≡ b
      → Stepped r me (apply s me (cond b (stores1 (view_of s me) (at_phase 5 (thread_at s me)) (at (thread_at s me).base (f (place_at s (thread_at s me).base))))
      (only (view_of s me) (at_phase 4 (thread_at s me)))))
  locks n e h a f t true q =
      takes n e h (thread_at s me).base a.base.small q (at_phase 5 (thread_at s me)) f t
      (λ w' c k. record { holds = record { arrived = arrived sound.good c me (self l) (thread_at s me).key (thread_at s me).prev (thread_at s me).base a; holds = k } })
  locks n e h a f t false q = only_row r size l (at_phase 4 (thread_at s me)) (not8 n e h) (record { holds = a })

  -- row 3 keeps the order
  pub row3_kept : (thread_at s me).phase ≡ 3 → Stepped r me (apply s me (row3 (view_of s me)))
  unfolding row3 view_of view_before Takes
  row3_kept e =
      locks 3 e (λ q. omega arith) (at_phase_lem 3 e stage) (λ q. with_lock (taken3 me s.settings q.lock) q) (λ q. (refl, refl, refl))
      (is_free (place_at s (thread_at s me).base)) refl

  -- row 4 keeps the order
  pub row4_kept : (thread_at s me).phase ≡ 4 → Stepped r me (apply s me (row4 (view_of s me)))
  unfolding row4 view_of view_before Takes
  row4_kept e =
      locks 4 e (λ q. omega arith) (at_phase_lem 4 e stage) (λ q. with_lock (taken4 me s.settings q.lock) q) (λ q. (refl, refl, refl))
      (is_free (place_at s (thread_at s me).base)) refl

  -- ---- rows that change a place that I hold

  -- B's statistics are 0 and the operation is at its end
  pub zeroes : (n : ℕ) → (thread_at s me).phase ≡ n → (n ≡ 8 → ⊥) → Holding w me (thread_at s me).base → (th : Thread)
      → th.phase ≡ 25 → th.base ≡ (thread_at s me).base
      → Stepped r me (apply s me (stores1 (view_of s me) th (at (thread_at s me).base (zero (place_at s (thread_at s me).base)))))
  zeroes n e h b th p q =
      one_row r size room l th (thread_at s me).base zero b.base.small (λ q. refl) (stays refl refl)
      (λ w' o. (
        λ z. absurd (not8 n e h z),
        record {
          holds =
              subst (λ (x : ℕ). get_or (stages w' me th) x ⊥) (sym p)
              (rw q (holding_of sound.good (one_change o Any {F = Unit {0}} sound.good refl (stays refl refl)) me (self l) (thread_at s me).base tt b));
        },
      ))

  holding_of_lem : Owning w me (thread_at s me).key (thread_at s me).prev (thread_at s me).base → Holding w me (thread_at s me).base
  holding_of_lem o = record { base = o.base; holds = o.holds }

  pub no_split_kept : (thread_at s me).phase ≡ 6 → Stepped r me (apply s me (no_split (view_of s me)))
  unfolding no_split view_of view_before
  no_split_kept e = zeroes 6 e (λ q. omega arith) (holding_of_lem (at_phase_lem 6 e stage).owning) (at_phase 25 (thread_at s me)) refl refl

  -- the release at phase 5, B being invalid
  pub release5_kept : (thread_at s me).phase ≡ 5
      → Stepped r me (apply s me (stores1 (view_of s me) (at_phase 1 (thread_at s me)) (at (thread_at s me).base (release (place_at s (thread_at s me).base)))))
  release5_kept e =
      let c = at_phase_lem 5 e stage in
      one_row r size room l (at_phase 1 (thread_at s me)) (thread_at s me).base release c.arrived.base.small (λ q. refl)
      (own_touch c.holds (λ z. z)) (λ w' o. (λ z. absurd (not8 5 e (λ q. omega arith) z), record { holds = c.arrived.key }))

  -- row 8 keeps the order
  pub row8_kept : (thread_at s me).phase ≡ 8 → Stepped r me (apply s me (row8 (view_of s me)))
  unfolding row8 view_of view_before
  row8_kept e =
      let c = at_phase_lem 8 e stage in
      let B = (thread_at s me).base in
      one_row r size room l (at_phase 25 (thread_at s me)) B invalid c.base.small (λ q. refl) (own_touch c.holds (λ z. refl))
      (λ w' o. (
        λ z. ap (λ (p : Place). p.valid) o.new,
        record {
          holds =
              record {
                base = base-at sound.good (one_change o Any {F = ⊥} sound.good refl (fades (λ x. x) refl refl)) me (self l) c.base;
                holds = ap (λ (p : Place). p.lock.holder) o.new ∙ c.holds;
              };
        },
      ))

  -- row 11 keeps the order
  pub row11_kept : (thread_at s me).phase ≡ 11 → Stepped r me (apply s me (row11 (view_of s me)))
  unfolding row11 view_of view_before Takes
  row11_kept e = go (is_free (place_at s N)) refl
    where
      N : ℕ
      N = (thread_at s me).walk

      B : ℕ
      B = (thread_at s me).base

      c : Reached w me (thread_at s me).side (thread_at s me).prev B N
      c = at_phase_lem 11 e stage

      th : ℕ → Thread
      th n = at_phase n (set_neighbour N (thread_at s me))

      go : (b : Bool) → is_free (place_at s N) ≡ b
          → Stepped r me (apply s me (cond b (stores1 (view_of s me) (th 12) (at N (with_lock (tried me (place_at s N).lock) (place_at s N))))
          (stores1 (view_of s me) (th 25) (at B (zero (place_at s B))))))
      go true q =
          takes 11 e (λ z. omega arith) N c.base.small q (th 12) (λ p. with_lock (tried me p.lock) p) (λ p. (refl, refl, refl))
          (λ w' d k.
          record {
            holds =
                record {
                  reached = reached sound.good d me (self l) (thread_at s me).side (thread_at s me).prev B N tt c;
                  holds = k;
                  differ = λ z. omega (arith, free_is N c.base.small q, c.joining.holds, ap (λ (x : ℕ). hold w x) z);
                };
          })
      go false q = zeroes 11 e (λ z. omega arith) (record { base = c.joining.base; holds = c.joining.holds }) (th 25) refl refl

  -- row 13 keeps the order
  pub row13_kept : (thread_at s me).phase ≡ 13 → Stepped r me (apply s me (row13 (view_of s me)))
  unfolding row13 view_of view_before Takes
  row13_kept e = go (is_free (place_at s P)) refl
    where
      P : ℕ
      P = (thread_at s me).prev

      c : Pairing w me (thread_at s me).side P (thread_at s me).base (thread_at s me).neighbour (thread_at s me).made
      c = at_phase_lem 13 e stage

      go : (b : Bool) → is_free (place_at s P) ≡ b
          → Stepped r me (apply s me (cond b (stores1 (view_of s me) (at_phase 14 (thread_at s me)) (at P (with_lock (tried me (place_at s P).lock) (place_at s P))))
          (only (view_of s me) (at_phase 13 (thread_at s me)))))
      go true q =
          takes 13 e (λ z. omega arith) P c.joining.small q (at_phase 14 (thread_at s me)) (λ p. with_lock (tried me p.lock) p)
          (λ p. (refl, refl, refl))
          (λ w' d k.
          record {
            holds =
                record {
                  pairing =
                      pairing sound.good d me (self l) (thread_at s me).side P (thread_at s me).base (thread_at s me).neighbour
                      (thread_at s me).made tt tt c;
                  holds = k;
                };
          })
      go false q = only_row r size l (at_phase 13 (thread_at s me)) (not8 13 e (λ z. omega arith)) (record { holds = c })

  -- row 24 keeps the order
  pub row24_kept : (thread_at s me).phase ≡ 24 → Stepped r me (apply s me (row24 (view_of s me)))
  unfolding row24 view_of view_before
  row24_kept e =
      let c = at_phase_lem 24 e stage in
      let N = (thread_at s me).neighbour in
      one_row r size room l (at_phase 25 (thread_at s me)) N release c.1.base.small (λ q. refl) (own_touch c.1.holds (λ z. z))
      (λ w' o. (
        λ z. absurd (not8 24 e (λ q. omega arith) z),
        record {
          holds =
              holding_of sound.good (one_change o (λ x. x ≡ N → ⊥) {F = Unit {0}} sound.good refl (frees (λ z. z refl) refl)) me (self l)
              (thread_at s me).base (λ z. c.2 (sym z)) c.0;
        },
      ))

  -- row 25 keeps the order
  pub row25_kept : (thread_at s me).phase ≡ 25 → Stepped r me (apply s me (row25 (view_of s me)))
  unfolding row25 view_of view_before
  row25_kept e =
      let c = at_phase_lem 25 e stage in
      one_row r size room l fresh_thread (thread_at s me).base release c.base.small (λ q. refl) (own_touch c.holds (λ z. z))
      (λ w' o. (λ z. absurd (not8 25 e (λ q. omega arith) z), record { holds = tt }))
