-- Every row keeps the invariant of nodes and threads.
use Rattle.std.specs.Prelude.{true, ◌≡◌, ℕ, ◌≤◌, length}
use Rattle.std.proofs.Common.{true≢false, sym, ap, ◌∙◌, arith}
use Rattle.std.proofs.Math.Path.{refl}
use Rattle.rules.specs.State.{thread_at}
use Rattle.rules.specs.Rows.{rows, row0, row7, row19, row23, plan_of}
use Rattle.rules.specs.Step.{view_of, view_before, apply, after}
use Rattle.rules.specs.declared.state.State.{State}
use Rattle.rules.specs.declared.row.View.{View}
use Rattle.rules.specs.declared.row.Plan.{Plan}
use Rattle.states.specs.Phase.{Each, end, ◌then◌, by_phase}
use Rattle.order.specs.AtPhase.{phase_small}
use Rattle.order.specs.Ordered.{Ordered, quiet_phase, Stepped}
use Rattle.order.specs.Quiet.{only_row}
use Rattle.order.specs.Effects.{Moved}
use Rattle.order.specs.RowsWalk.{row1_kept, row2_kept, row9_kept, row10_kept, row15_kept, row16_kept, row21_kept, row22_kept}
use Rattle.order.specs.RowsLock.{row3_kept, row4_kept, row8_kept, row11_kept, row13_kept, row24_kept, row25_kept}
use Rattle.order.specs.RowsGrand.{row17_kept, row18_kept}
use Rattle.order.specs.RowsLocks.{row14_kept, row20_kept}
use Rattle.order.specs.RowCommit.{row5_kept}
use Rattle.order.specs.RowsMake.{row6_kept}
use Rattle.order.specs.RowJoin.{row12_kept}
use Rattle.order.specs.RowSplit.{row7_kept, row7_effect}
use Rattle.order.specs.RowLink.{row23_kept, row23_effect}
use Rattle.order.specs.RowSplice.{row19_kept, row19_effect}

module _ {s : State} (r : Ordered s) (len : length s.threads ≡ 8) (room : length s.places ≡ 128) {me : ℕ} (l : me ≤ 7) where
  Row : ℕ → (View → Plan) → Type 0
  Row n f = (thread_at s me).phase ≡ n → Moved r me (apply s me (f (view_of s me)))

  row0_kept : (thread_at s me).phase ≡ 0 → Stepped r me (apply s me (row0 (view_of s me)))
  unfolding row0 view_of view_before
  row0_kept e = only_row r len l (thread_at s me) (λ q. omega arith) (r.safe.each me l)

  -- a row that does not change the tree
  still : (n : ℕ) {s' : State} → quiet_phase n ≡ true → ((thread_at s me).phase ≡ n → Stepped r me s') → (thread_at s me).phase ≡ n → Moved r me s'
  still n q f e =
      record {
        stepped = f e;
        split = λ z. absurd (true≢false (sym q ∙ ap quiet_phase (sym e ∙ z)));
        splice = λ z. absurd (true≢false (sym q ∙ ap quiet_phase (sym e ∙ z)));
        link = λ z. absurd (true≢false (sym q ∙ ap quiet_phase (sym e ∙ z)));
      }

  splits : (thread_at s me).phase ≡ 7 → Moved r me (apply s me (row7 (view_of s me)))
  splits e =
      record {
        stepped = row7_kept r len room l e;
        split = λ z. row7_effect r len room l e;
        splice = λ z. absurd (omega arith);
        link = λ z. absurd (omega arith);
      }

  splices : (thread_at s me).phase ≡ 19 → Moved r me (apply s me (row19 (view_of s me)))
  splices e =
      record {
        stepped = row19_kept r len room l e;
        split = λ z. absurd (omega arith);
        splice = λ z. row19_effect r len room l e;
        link = λ z. absurd (omega arith);
      }

  links : (thread_at s me).phase ≡ 23 → Moved r me (apply s me (row23 (view_of s me)))
  links e =
      record {
        stepped = row23_kept r len room l e;
        split = λ z. absurd (omega arith);
        splice = λ z. absurd (omega arith);
        link = λ z. row23_effect r len room l e;
      }

  each : Each Row 0 rows
  unfolding Row rows row0 view_of view_before
  each =
      still 0 refl row0_kept
      then still 1 refl (row1_kept r len l)
      then still 2 refl (row2_kept r len l)
      then still 3 refl (row3_kept r len room l)
      then still 4 refl (row4_kept r len room l)
      then still 5 refl (row5_kept r len room l)
      then still 6 refl (row6_kept r len room l)
      then splits
      then still 8 refl (row8_kept r len room l)
      then still 9 refl (row9_kept r len l)
      then still 10 refl (row10_kept r len l)
      then still 11 refl (row11_kept r len room l)
      then still 12 refl (row12_kept r len room l)
      then still 13 refl (row13_kept r len room l)
      then still 14 refl (row14_kept r len room l)
      then still 15 refl (row15_kept r len l)
      then still 16 refl (row16_kept r len l)
      then still 17 refl (row17_kept r len room l)
      then still 18 refl (row18_kept r len room l)
      then splices
      then still 20 refl (row20_kept r len room l)
      then still 21 refl (row21_kept r len l)
      then still 22 refl (row22_kept r len l)
      then links
      then still 24 refl (row24_kept r len room l)
      then still 25 refl (row25_kept r len room l)
      then end

  -- a step of any thread, by whatever row, keeps the order, and moves the tree so
  pub after-moved : Moved r me (after s me)
  unfolding Row after plan_of view_of view_before
  after-moved = by_phase each (λ p g e. absurd (omega (arith, phase_small (r.safe.each me l)))) (thread_at s me).phase refl

  pub after_nodes : Stepped r me (after s me)
  after_nodes = after-moved.stepped
