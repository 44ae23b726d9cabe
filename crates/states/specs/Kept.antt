-- "A state is in range": fresh, begin, step and counted steps keep every state in range, reachable or not.
use Rattle.std.specs.Prelude.{true, false, ◌≡◌, refl, ℕ, ◌≤◌, ◌<◌, get_or, replicate}
use Rattle.std.proofs.Common.{arith}
use Rattle.std.proofs.lemmas.Bool.{not-false}
use Rattle.states.specs.Tests.{first_by}
use Rattle.states.specs.Phase.{Each, end, ◌then◌, by_phase}
use Rattle.states.specs.Calls.{begin_state, step_state, run_state}
use Rattle.states.specs.Lists.{each_set, each_replicate}
use Rattle.states.specs.Facts.{PlaceOk, ThreadOk, thread_facts, settings_facts, InRange, facts, in_range_lem}
use Rattle.states.specs.Plans.{ViewOk, PlanOk, view_ok, apply_ok}
use Rattle.states.specs.Pieces.{fresh_thread_ok, operation_ok, zero_place_ok, base_body_ok, new_ok}
use Rattle.states.specs.KeepsSearch.{row0_ok, row1_ok, row2_ok, row3_ok, row4_ok, row5_ok, row6_ok, row7_ok, row8_ok, row25_ok}
use Rattle.states.specs.KeepsJoin.{row9_ok, row10_ok, row11_ok, row12_ok, row13_ok, row14_ok, row15_ok, row16_ok, row17_ok, row18_ok, row19_ok, row20_ok, row21_ok, row22_ok, row23_ok, row24_ok}
use Rattle.rules.specs.State.{unmade, fresh, zero_place, zero_thread, thread_at}
use Rattle.rules.specs.Rows.{rows, plan_of}
use Rattle.rules.specs.Needs.{needs, idle, stuck}
use Rattle.rules.specs.Range.{settings_in_range, register_in_range, registers_in_range, thread_in_range, in_range}
use Rattle.rules.specs.Step.{Replied, zero_settings, fresh_order, refused_fresh, fresh_of, begun, begin_of, view_of, after, step_of, run_of}
use Rattle.rules.specs.declared.state.Settings.{Settings}
use Rattle.rules.specs.declared.state.State.{State}
use Rattle.rules.specs.declared.row.View.{View}
use Rattle.rules.specs.declared.row.Plan.{Plan}

-- the row at phase p, given what it needs, has a plan in range
abbrev Keeps : ℕ → (View → Plan) → Type 0
Keeps p row = (v : View) → ViewOk v → get_or needs p idle v ≡ true → PlanOk v (row v)

-- all rows, in their order
keeps : Each Keeps 0 rows
unfolding rows needs
keeps =
    (λ v f h. row0_ok v f) then (λ v f h. row1_ok v f) then (λ v f h. row2_ok v f) then (λ v f h. row3_ok v f)
    then (λ v f h. row4_ok v f) then row5_ok then row6_ok then row7_ok then (λ v f h. row8_ok v f)
    then (λ v f h. row9_ok v f) then (λ v f h. row10_ok v f) then (λ v f h. row11_ok v f) then (λ v f h. row12_ok v f)
    then (λ v f h. row13_ok v f) then (λ v f h. row14_ok v f) then (λ v f h. row15_ok v f) then (λ v f h. row16_ok v f)
    then (λ v f h. row17_ok v f) then (λ v f h. row18_ok v f) then row19_ok then (λ v f h. row20_ok v f)
    then (λ v f h. row21_ok v f) then (λ v f h. row22_ok v f) then row23_ok then (λ v f h. row24_ok v f)
    then (λ v f h. row25_ok v f) then end

-- a step that is not stuck keeps the state in range
pub after_ok : (s : State) (t : ℕ) → t ≤ 7 → stuck (view_of s t) ≡ false → InRange s → InRange (after s t)
unfolding after plan_of stuck
after_ok s t l h f =
    let v = view_of s t in
    let g = view_ok s t l f in
    apply_ok s t (plan_of v) f (by_phase keeps (λ p l x i n. row0_ok x i) v.thread.phase v g (not-false _ h))

-- begin that is not refused keeps the state in range
pub begun_ok : (s : State) (t o k : ℕ) → o ≤ 2 → k ≤ 63 → s.begun < 1000000 → InRange s → InRange (begun s t o k)
unfolding begun thread_at
begun_ok s t o k l h b f =
    let c = f.counts in
    record {
      settings = f.settings;
      counts = omega arith;
      places = f.places;
      threads = each_set (ThreadOk s.made) s.threads t _ zero_thread (operation_ok o k l h (f.threads t)) f.threads;
    }

-- a fresh state with settings in range is in range
pub fresh_ok : (c : Settings) → settings_in_range c ≡ true → InRange (fresh c)
unfolding fresh thread_at thread_in_range registers_in_range register_in_range
fresh_ok c h =
    let empty = base_body_ok 1 0 in
    let unmade-ok : PlaceOk 1 unmade = record { holder = omega arith; statistics = λ e. omega arith; body = empty } in
    let others = each_replicate (PlaceOk 1) unmade-ok (zero_place_ok 1) 128 in
    record {
      settings = settings_facts c h;
      counts = omega arith;
      places = each_set (PlaceOk 1) (replicate 128 unmade) 0 _ zero_place (new_ok empty) others;
      threads = each_replicate (ThreadOk 1) (fresh_thread_ok 1) (thread_facts 1 zero_thread refl) 8;
    }

-- ---- the theorems

-- fresh
pub fresh_in_range : (c : Settings) → settings_in_range c ≡ true → in_range (fresh c) ≡ true
fresh_in_range c h = in_range_lem (fresh c) (fresh_ok c h)

-- a refused fresh state too
pub fresh_of_in_range : (c : Settings) → in_range (fresh_of c).state ≡ true
unfolding fresh_of settings_in_range zero_settings
fresh_of_in_range c =
    first_by (λ (r : Replied (Unit {0})). in_range r.state ≡ true) (fresh_order c) refused_fresh _ (λ r. fresh_in_range zero_settings refl)
    (λ h. fresh_in_range c (not-false _ h.0))

-- begin
pub begin_in_range : (s : State) (t o k : ℕ) → in_range s ≡ true → in_range (begin_of s t o k).state ≡ true
begin_in_range s t o k r =
    let f = facts s r in in_range_lem _ (begin_state InRange s t o k f (λ e a b c. begun_ok s t o k a b c f))

-- a step that is not stuck
pub after_in_range : (s : State) (t : ℕ) → t ≤ 7 → stuck (view_of s t) ≡ false → in_range s ≡ true → in_range (after s t) ≡ true
after_in_range s t l h r = in_range_lem (after s t) (after_ok s t l h (facts s r))

-- one step
pub step_in_range : (s : State) (t : ℕ) → in_range s ≡ true → in_range (step_of s t).state ≡ true
step_in_range s t r = let f = facts s r in in_range_lem _ (step_state InRange s t f (λ e l h. after_ok s t l h f))

-- counted steps
pub run_in_range : (s : State) (t n : ℕ) → in_range s ≡ true → in_range (run_of s t n).state ≡ true
run_in_range s t n r = in_range_lem _ (run_state InRange s t n (facts s r) (λ e l x f h. after_ok x t l h f))
