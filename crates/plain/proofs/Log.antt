-- The commits of a run in their order: each answer is that of the plain set, and the numbers count from 1.
use Rattle.std.specs.Prelude.{Bool, not, ◌&&◌, List, [], ◌∷◌, ◌≡◌, ℕ, ◌+◌, ◌≤◌, ◌<◌, length, ltb, leb, eqb, Err, Ok}
use Rattle.std.proofs.Math.Bool.{true, false, cond}
use Rattle.std.proofs.Math.Path.{refl, ap, ap₂, fun_ext}
use Rattle.std.proofs.Common.{sym, ◌∙◌, subst, subst₂, arith}
use borrow.Author.Tests.{ltb-false, eqb-true, eqb-false, eq-eqb, not-false}
use Rattle.keys.specs.Keys.{has}
use Rattle.keys.proofs.Laws.{has-none}
use Rattle.rules.specs.State.{fresh, place_at, thread_at}
use Rattle.rules.specs.Places.{keys_of, keys_after, answer_of}
use Rattle.rules.specs.Range.{in_range}
use Rattle.rules.specs.Needs.{stuck}
use Rattle.rules.specs.Step.{begun, begin_of, view_of, after, reply_of, step_of, Replied}
use Rattle.rules.specs.declared.state.Settings.{Settings}
use Rattle.rules.specs.declared.state.Place.{Place}
use Rattle.rules.specs.declared.state.State.{State}
use Rattle.states.specs.Tests.{both, pick-by, pick}
use Rattle.graph.specs.Cases.{Same, same, apart, compared}
use Rattle.runs.specs.Calls.{Move, begins, steps, after_move, after_moves, accepted}
use Rattle.runs.specs.PlainSet.{PlainSet, empty, set_after, replies}
use Rattle.runs.proofs.Tied.{keys_tied, answer_tied}
use Rattle.runs.specs.Log.{commits_now, Entry, entry_of, log_of, play_log, Right}
use Rattle.order.specs.AtPhase.{at_phase_lem}
use Rattle.order.specs.Bridge.{place_at_lem}
use Rattle.plain.specs.Commit.{agrees}
use Rattle.plain.specs.Plain.{Plain, plain_then, fresh_plain}
use Rattle.plain.specs.Runs.{plain_move, plain_after, move_plain}
use Rattle.plain.specs.Registers.{commit_done, step_same, end_same}
use Rattle.plain.specs.Log.{Outcome, takes, leaves}
use Rattle.rules.specs.declared.answer.Refusal.{Refusal}
use Rattle.rules.specs.declared.answer.StepReply.{StepReply}
use Rattle.rules.specs.Refusals.{reply_number, number}
use Rattle.rules.specs.declared.answer.Refusal.TheVariants.{NoThread, Idle, OutOfRange, Stuck}

pub outcome : (s : State) (t : ℕ) → Outcome s t
unfolding step_of
outcome s t =
    let Q : Replied StepReply → Type 0 = λ b. (step_of s t ≡ b) → Outcome s t in
    pick-by Q (not (in_range s)) (λ e z. out OutOfRange refl z) (λ r.
    pick-by Q (ltb 7 t) (λ e z. out NoThread refl z) (λ a.
    pick-by Q (eqb (thread_at s t).phase 0) (λ e z. out Idle refl z) (λ b.
    pick-by Q (stuck (view_of s t)) (λ e z. out Stuck refl z) (λ c z. into (ltb-false 7 t a) (eqb-false (thread_at s t).phase 0 b) (not-false _ r) z)))) refl
  where
    out : (r : Refusal) → eqb (number r) 0 ≡ false → step_of s t ≡ (record { reply = Err r; state = s }) → Outcome s t
    out r e z = leaves (ap (λ (b : Replied StepReply). eqb (reply_number b.reply) 0) z ∙ e) (ap (λ (b : Replied StepReply). b.state) z) r (ap (λ (b : Replied StepReply). b.reply) z)

    into : t ≤ 7 → ((thread_at s t).phase ≡ 0 → ⊥) → in_range s ≡ true → step_of s t ≡ (record { reply = Ok (reply_of s t); state = after s t }) → Outcome s t
    into l n r z =
        takes l n
        (ap (λ (b : Replied StepReply). eqb (reply_number b.reply) 0) z) (ap (λ (b : Replied StepReply). b.state) z) r
        (ap (λ (b : Replied StepReply). b.reply) z)

begin_committed : (s : State) (t o k : ℕ) → (begin_of s t o k).state.committed ≡ s.committed
unfolding begin_of begun
begin_committed s t o k =
    let Q : Replied (Unit {0}) → Type 0 = λ b. b.state.committed ≡ s.committed in
    pick Q (not (in_range s)) refl
    (pick Q (ltb 2 o) refl (pick Q (ltb 7 t) refl (pick Q (ltb 63 k) refl (pick Q (not (eqb (thread_at s t).phase 0)) refl (pick Q (leb 1000000 s.begun) refl refl)))))

-- no keys are the empty set
none-empty : has 0 ≡ empty
none-empty = fun_ext has-none

-- the key set after an operation is the plain set after it
set_after_lem : (o p k : ℕ) → k < 64 → has (keys_after o p k) ≡ set_after o k (has p)
set_after_lem o p k l = fun_ext (λ j. keys_tied o p k j l)

-- the same for equal sets and counts
move : (l : List Entry) {p q : PlainSet} {n m : ℕ} → p ≡ q → n ≡ m → Right p n l → Right q m l
move l e f x = subst₂ (λ (a : PlainSet) (b : ℕ). Right a b l) e f x

module _ {s : State} {p : ℕ} (x : Plain s p) (t : ℕ) (L : List Entry) where
  abbrev Goal : Bool → Type 0
  Goal b = Right (has p) s.committed (cond b (entry_of t (thread_at (after s t) t) ∷ L) L)

  -- the count where the step does not commit
  count_stays : t ≤ 7 → commits_now s t ≡ false → (after s t).committed ≡ s.committed
  count_stays l c = go (compared (thread_at s t).phase 25)
    where
      go : Same (thread_at s t).phase 25 → (after s t).committed ≡ s.committed
      go (same e) = end_same s x.inv.threads l e
      go (apart n) =
          (step_same s x.inv.threads l
          (λ e. sym (ap (λ (b : Bool). b && (place_at s (thread_at s t).base).valid) (eq-eqb (thread_at s t).phase 5 e)) ∙ c) n
          ).committed

  -- the commit
  commits_right : t ≤ 7 → commits_now s t ≡ true → Right (has (plain_then s t p)) (after s t).committed L → Goal true
  unfolding plain_then
  commits_right l c y =
      let q = both (eqb (thread_at s t).phase 5) (place_at s (thread_at s t).base).valid c in
      let e = eqb-true (thread_at s t).phase 5 q.0 in
      let d = commit_done s x.inv.threads l e q.1 in
      let th = thread_at s t in
      let locked = at_phase_lem 5 e (x.inv.nodes.safe.each t l) in
      let a = agrees x.inv.nodes x.inv.threads x.inv.places l e q.1 p x.on x.back in
      let b : has p th.key ≡ has (keys_of (place_at s th.base)) th.key =
      a ∙ ap (λ (z : Place). has (keys_of z) th.key) (sym (place_at_lem s th.base locked.arrived.base.small)) in (
        d.answer ∙ ap (answer_of th.operation) (sym b) ∙ answer_tied th.operation p th.key
            ∙ ap₂ (λ (o k : ℕ). replies o k (has p)) (sym d.operation) (sym d.key),
        d.commit,
        move L
            (ap (λ (z : Bool). has (cond z (keys_after th.operation p th.key) p)) c
            ∙ set_after_lem th.operation p th.key locked.arrived.key
            ∙ ap₂ (λ (o k : ℕ). set_after o k (has p)) (sym d.operation) (sym d.key)) d.committed y,
      )

  not_then : commits_now s t ≡ false → plain_then s t p ≡ p
  unfolding plain_then
  not_then c = ap (λ (b : Bool). cond b (keys_after (thread_at s t).operation p (thread_at s t).key) p) c

  -- the plain set by the log
  step_log : play_log (has (plain_move s (steps t) p)) L
      ≡ play_log (has p) (cond (accepted s t && commits_now s t) (entry_of t (thread_at (after s t) t) ∷ L) L)
  unfolding plain_move plain_then play_log
  step_log = go (outcome s t)
    where
      taken : t ≤ 7 → (b : Bool) → commits_now s t ≡ b
          → play_log (has (cond b (keys_after (thread_at s t).operation p (thread_at s t).key) p)) L
          ≡ play_log (has p) (cond b (entry_of t (thread_at (after s t) t) ∷ L) L)
      taken l false c = refl
      taken l true c =
          let q = both (eqb (thread_at s t).phase 5) (place_at s (thread_at s t).base).valid c in
          let e = eqb-true (thread_at s t).phase 5 q.0 in
          let d = commit_done s x.inv.threads l e q.1 in
          let locked = at_phase_lem 5 e (x.inv.nodes.safe.each t l) in
          ap (λ (z : PlainSet). play_log z L) (set_after_lem (thread_at s t).operation p (thread_at s t).key locked.arrived.key)
          ∙ ap₂ (λ (o k : ℕ). play_log (set_after o k (has p)) L) (sym d.operation) (sym d.key)

      go : Outcome s t
          → play_log (has (cond (accepted s t) (cond (commits_now s t) (keys_after (thread_at s t).operation p (thread_at s t).key) p) p)) L
          ≡ play_log (has p) (cond (accepted s t && commits_now s t) (entry_of t (thread_at (after s t) t) ∷ L) L)
      go (leaves a e k w) = rw a
      go (takes l n a e r w) = rw a (taken l (commits_now s t) refl)

  step_right : Right (has (plain_move s (steps t) p)) (after_move s (steps t)).committed L → Goal (accepted s t && commits_now s t)
  unfolding plain_move after_move
  step_right y = go (outcome s t)
    where
      taken : t ≤ 7 → accepted s t ≡ true → (step_of s t).state ≡ after s t → (b : Bool) → commits_now s t ≡ b → Goal b
      taken l a e true c =
          commits_right l c (move L (ap (λ (b : Bool). has (cond b (plain_then s t p) p)) a) (ap (λ (z : State). z.committed) e) y)
      taken l a e false c =
          move L (ap (λ (b : Bool). has (cond b (plain_then s t p) p)) a ∙ ap has (not_then c)) (ap (λ (z : State). z.committed) e ∙ count_stays l c) y

      go : Outcome s t → Goal (accepted s t && commits_now s t)
      go (leaves a e k w) =
          subst (λ (b : Bool). Goal (b && commits_now s t)) (sym a)
          (move L (ap (λ (b : Bool). has (cond b (plain_then s t p) p)) a) (ap (λ (z : State). z.committed) e) y)
      go (takes l n a e r w) = subst (λ (b : Bool). Goal (b && commits_now s t)) (sym a) (taken l a e (commits_now s t) refl)

right : {s : State} {p : ℕ} → Plain s p → (cs : List Move) → Right (has p) s.committed (log_of s cs)
unfolding log_of plain_move after_move
right x [] = tt
right {s} x (begins t o k ∷ cs) = move (log_of (begin_of s t o k).state cs) refl (begin_committed s t o k) (right {s = (begin_of s t o k).state} (move_plain x (begins t o k)) cs)
right {s} x (steps t ∷ cs) = step_right x t (log_of (step_of s t).state cs) (right {s = (step_of s t).state} (move_plain x (steps t)) cs)

-- from fresh, the commits of any calls answer as the plain set taken in commit order, starting empty, and are numbered from 1
pub run_right : (c : Settings) (cs : List Move) → Right empty 0 (log_of (fresh c) cs)
unfolding fresh
run_right c cs = move (log_of (fresh c) cs) none-empty refl (right (fresh_plain c) cs)

by_log : {s : State} {p : ℕ} → Plain s p → (cs : List Move) → has (plain_after s cs p) ≡ play_log (has p) (log_of s cs)
unfolding plain_after log_of after_move plain_move play_log
by_log x [] = refl
by_log {s} x (begins t o k ∷ cs) = by_log {s = (begin_of s t o k).state} (move_plain x (begins t o k)) cs
by_log {s} x (steps t ∷ cs) = by_log {s = (step_of s t).state} (move_plain x (steps t)) cs ∙ step_log x t (log_of (step_of s t).state cs)

-- the plain set after any calls from fresh is that of their commits
pub run_log : (c : Settings) (cs : List Move) → has (plain_after (fresh c) cs 0) ≡ play_log empty (log_of (fresh c) cs)
run_log c cs = by_log (fresh_plain c) cs ∙ ap (λ (p : PlainSet). play_log p (log_of (fresh c) cs)) none-empty

-- the count after one more call, by the log
step_count : {s : State} {p : ℕ} → Plain s p → (t n : ℕ) (L : List Entry) → n ≡ (step_of s t).state.committed + length L
    → n ≡ s.committed + length (cond (accepted s t && commits_now s t) (entry_of t (thread_at (after s t) t) ∷ L) L)
step_count {s} x t n L h = go (outcome s t)
  where
    by : t ≤ 7 → (step_of s t).state ≡ after s t → (b : Bool) → commits_now s t ≡ b
        → n ≡ s.committed + length (cond b (entry_of t (thread_at (after s t) t) ∷ L) L)
    by l e true c =
        let q = both (eqb (thread_at s t).phase 5) (place_at s (thread_at s t).base).valid c in
        let d = commit_done s x.inv.threads l (eqb-true (thread_at s t).phase 5 q.0) q.1 in
        omega (arith, h, ap (λ (z : State). z.committed) e, d.committed)
    by l e false c = omega (arith, h, ap (λ (z : State). z.committed) e, count_stays x t L l c)

    go : Outcome s t → n ≡ s.committed + length (cond (accepted s t && commits_now s t) (entry_of t (thread_at (after s t) t) ∷ L) L)
    go (leaves a e k w) = rw a (omega (arith, h, ap (λ (z : State). z.committed) e))
    go (takes l m a e r w) = rw a (by l e (commits_now s t) refl)

counts : {s : State} {p : ℕ} → Plain s p → (cs : List Move) → (after_moves s cs).committed ≡ s.committed + length (log_of s cs)
unfolding after_moves after_move log_of
counts x [] = omega arith
counts {s} x (begins t o k ∷ cs) = omega (arith, counts {s = (begin_of s t o k).state} (move_plain x (begins t o k)) cs, begin_committed s t o k)
counts {s} x (steps t ∷ cs) =
    step_count x t (after_moves (step_of s t).state cs).committed (log_of (step_of s t).state cs) (counts {s = (step_of s t).state} (move_plain x (steps t)) cs)

-- from fresh, the log has as many commits as are committed
pub run_counts : (c : Settings) (cs : List Move) → (after_moves (fresh c) cs).committed ≡ length (log_of (fresh c) cs)
unfolding fresh
run_counts c cs = omega (arith, counts (fresh_plain c) cs)
