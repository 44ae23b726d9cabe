-- Each commit is of an operation that was begun and not committed before, and each operation that ends replies as it committed.
use Rattle.std.specs.Prelude.{Bool, true, cond, not, ◌&&◌, List, [], ◌∷◌, ◌≡◌, refl, ℕ, ◌≤◌, ltb, leb, Err, Result, Ok}
use Rattle.std.proofs.Math.Bool.{false}
use Rattle.std.proofs.Common.{sym, ap₂, ◌∙◌, subst, arith, get_or-set_same}
use Rattle.std.proofs.Math.Path.{ap}
use Rattle.std.proofs.Math.Dec.{eqb}
use Rattle.std.proofs.Math.Seq.{get_or-set_other}
use borrow.Author.Tests.{ltb-false, eqb-true, eqb-false, not-false, eq-eqb, ne_eqb, le-leb}
use Rattle.rules.specs.State.{zero_thread, fresh, place_at, thread_at}
use Rattle.rules.specs.Registers.{set_operation}
use Rattle.rules.specs.Range.{in_range}
use Rattle.rules.specs.Rows.{plan_of}
use Rattle.rules.specs.Step.{begun, begin_of, view_of, after, ends, reply_of, step_of, Replied}
use Rattle.rules.specs.declared.state.Settings.{Settings}
use Rattle.rules.specs.declared.state.Thread.{Thread}
use Rattle.rules.specs.declared.state.State.{State}
use Rattle.states.specs.Tests.{both, pick-by}
use Rattle.graph.specs.Cases.{Same, same, apart, compared}
use Rattle.runs.specs.Calls.{Move, begins, steps, after_move, after_moves, is_begun, accepted}
use Rattle.runs.specs.Log.{commits_now, Entry, entry_of, log_of}
use Rattle.runs.specs.Events.{Event, begin, commit, finished, events_of, commits_in, Due, nothing, due, done, due_at, nothing_due, Fits, due_after, due_of}
use Rattle.order.specs.Bridge.{thread_other}
use Rattle.order.specs.Fresh.{fresh-idle}
use Rattle.order.specs.Tally.{early, thread_tally}
use Rattle.order.specs.Invariant.{Invariant, fresh_kept, begin_kept, step_kept}
use Rattle.plain.specs.Registers.{commit_done, step_same}
use Rattle.plain.specs.Log.{Outcome, takes, leaves}
use Rattle.plain.proofs.Log.{outcome}
use Rattle.plain.proofs.Goes.{goes_on, ended}
use Rattle.rules.specs.declared.answer.Refusal.{Refusal}
use Rattle.rules.specs.declared.answer.StepReply.{StepReply}
use Rattle.rules.specs.declared.answer.StepReply as StepReply
use Rattle.rules.specs.Refusals.{reply_number, number}
use Rattle.rules.specs.declared.answer.Refusal.TheVariants.{OutOfRange, NotOfTheForms, NoThread, NoKey, Busy, AllBegun}

-- f is how it stands by the registers of the eight threads
abbrev Agrees : (ℕ → Due) → State → Type 0
Agrees f s = (t : ℕ) → t ≤ 7 → f t ≡ due_of t (thread_at s t)

-- by a known phase
due_at_lem : (n : ℕ) (t : Thread) (p : ℕ) → t.phase ≡ p
    → due_of n t ≡ cond (eqb p 0) nothing (cond (leb p 5) (due t.operation t.key) (done (entry_of n t)))
unfolding due_of
due_at_lem n t p e =
    ap (λ (q : ℕ). cond (eqb q 0) nothing (cond (leb q 5) (due t.operation t.key) (done (entry_of n t)))) e

-- by whether a phase other than 0 is before the commit
due_by : (n : ℕ) (t : Thread) → (t.phase ≡ 0 → ⊥) → (b : Bool) → leb t.phase 5 ≡ b
    → due_of n t ≡ cond b (due t.operation t.key) (done (entry_of n t))
unfolding due_of
due_by n t z b e = rw (ne_eqb t.phase 0 z, e)

early-at : (p : ℕ) → (p ≡ 0 → ⊥) → early p ≡ cond (leb p 5) 1 0
unfolding early
early-at p n = rw (le-leb 1 p (omega (arith, n)))

is_false : (b : Bool) → ◌≡◌ {A = ℕ} (cond b 1 0) 0 → b ≡ false
is_false false e = refl
is_false true e = absurd (omega arith)

same_test : (a b : Bool) → ◌≡◌ {A = ℕ} (cond a 1 0) (cond b 1 0) → a ≡ b
same_test true true e = refl
same_test false false e = refl
same_test true false e = absurd (omega arith)
same_test false true e = absurd (omega arith)

-- it stays as long as phases before the commit follow on such, and phases behind it on such, with the registers that count
same_due : (n : ℕ) (t u : Thread) → (t.phase ≡ 0 → ⊥) → (u.phase ≡ 0 → ⊥) → early u.phase ≡ early t.phase
    → u.operation ≡ t.operation → u.key ≡ t.key → u.answer ≡ t.answer → u.commit ≡ t.commit → due_of n u ≡ due_of n t
same_due n t u y z e o k a c =
    due_by n u z (leb u.phase 5) refl
    ∙ pieces (leb u.phase 5)
    ∙ sym (due_by n t y (leb u.phase 5) (sym (same_test (leb u.phase 5) (leb t.phase 5) (sym (early-at u.phase z) ∙ e ∙ early-at t.phase y))))
  where
    pieces : (b : Bool) → cond b (due u.operation u.key) (done (entry_of n u)) ≡ cond b (due t.operation t.key) (done (entry_of n t))
    pieces true = ap₂ due o k
    pieces false = λ j. done (record { thread = n; operation = o j; key = k j; answer = a j; number = c j })

-- one thread changed and the others did not
agrees_next : (f : ℕ → Due) (s s' : State) (u : ℕ) (d : Due) → Agrees f s → d ≡ due_of u (thread_at s' u)
    → ((t : ℕ) → (t ≡ u → ⊥) → thread_at s' t ≡ thread_at s t) → Agrees (due_at u d f) s'
agrees_next f s s' u d a m o t l = go (compared t u)
  where
    go : Same t u → cond (eqb t u) d (f t) ≡ due_of t (thread_at s' t)
    go (same e) = rw (eq-eqb t u e) (m ∙ ap (λ (n : ℕ). due_of n (thread_at s' n)) (sym e))
    go (apart n) = rw (ne_eqb t u n) (a t l ∙ ap (due_of t) (sym (o t n)))

-- an accepted begin, or a refused one that leaves the state
data Starts (s : State) (t o k : ℕ) : Type 0 where
  starts : t ≤ 7 → (thread_at s t).phase ≡ 0 → is_begun s t o k ≡ true → (begin_of s t o k).state ≡ begun s t o k → Starts s t o k
  refuses : is_begun s t o k ≡ false → (begin_of s t o k).state ≡ s → Starts s t o k

start : (s : State) (t o k : ℕ) → Starts s t o k
unfolding begin_of
start s t o k =
    let Q : Replied (Unit {0}) → Type 0 = λ b. (begin_of s t o k ≡ b) → Starts s t o k in
    pick-by Q (not (in_range s)) (λ e z. out OutOfRange refl z) (λ r.
    pick-by Q (ltb 2 o) (λ e z. out NotOfTheForms refl z) (λ a.
    pick-by Q (ltb 7 t) (λ e z. out NoThread refl z) (λ b.
    pick-by Q (ltb 63 k) (λ e z. out NoKey refl z) (λ c.
    pick-by Q (not (eqb (thread_at s t).phase 0)) (λ e z. out Busy refl z) (λ d.
    pick-by Q (leb 1000000 s.begun) (λ e z. out AllBegun refl z) (λ g z.
    starts (ltb-false 7 t b) (eqb-true (thread_at s t).phase 0 (not-false _ d))
    (ap (λ (x : Replied (Unit {0})). eqb (reply_number x.reply) 0) z) (ap (λ (x : Replied (Unit {0})). x.state) z))))))) refl
  where
    out : (r : Refusal) → eqb (number r) 0 ≡ false → begin_of s t o k ≡ (record { reply = Err r; state = s }) → Starts s t o k
    out r e z = refuses (ap (λ (x : Replied (Unit {0})). eqb (reply_number x.reply) 0) z ∙ e) (ap (λ (x : Replied (Unit {0})). x.state) z)

module _ {s : State} (i : Invariant s) (f : ℕ → Due) (a : Agrees f s) where
  begin_agrees : (t o k : ℕ) → t ≤ 7 → Agrees (due_at t (due o k) f) (begun s t o k)
  unfolding begun thread_at due_of
  begin_agrees t o k l =
      agrees_next f s (begun s t o k) t (due o k) a
      (sym (ap (due_of t) (get_or-set_same s.threads t (set_operation o k (thread_at s t)) zero_thread (omega (arith, i.threads)))))
      (λ u n. get_or-set_other s.threads t u (set_operation o k (thread_at s t)) zero_thread n)

  module _ {t : ℕ} (l : t ≤ 7) (r : in_range s ≡ true) where
    others : (u : ℕ) → (u ≡ t → ⊥) → thread_at (after s t) u ≡ thread_at s u
    unfolding after
    others u n = thread_other s t (plan_of (view_of s t)) u n

    -- a commit is of the operation that is begun and not committed
    commit_due : commits_now s t ≡ true → f t ≡ due (thread_at (after s t) t).operation (thread_at (after s t) t).key
    commit_due c =
        let q = both (eqb (thread_at s t).phase 5) (place_at s (thread_at s t).base).valid c in
        let e = eqb-true (thread_at s t).phase 5 q.0 in
        let d = commit_done s i.threads l e q.1 in
        a t l ∙ due_at_lem t (thread_at s t) 5 e ∙ ap₂ due (sym d.operation) (sym d.key)

    commit_agrees : commits_now s t ≡ true → Agrees (due_at t (done (entry_of t (thread_at (after s t) t))) f) (after s t)
    unfolding early
    commit_agrees c =
        let q = both (eqb (thread_at s t).phase 5) (place_at s (thread_at s t).base).valid c in
        let e = eqb-true (thread_at s t).phase 5 q.0 in
        let d = commit_done s i.threads l e q.1 in
        let z = goes_on i r t l (λ y. omega arith) (ap (λ (p : ℕ). eqb p 25) e) in
        agrees_next f s (after s t) t (done (entry_of t (thread_at (after s t) t))) a
        (sym (due_by t (thread_at (after s t) t) z false
        (is_false (leb (thread_at (after s t) t).phase 5)
        (omega (arith, d.committed, thread_tally s t i.threads l, ap early e, early-at (thread_at (after s t) t).phase z))))) others

    -- the last step ends the operation that is committed, as it is
    end_due : (thread_at s t).phase ≡ 25 → f t ≡ done (entry_of t (thread_at s t))
    end_due e = a t l ∙ due_at_lem t (thread_at s t) 25 e

    end_agrees : (thread_at s t).phase ≡ 25 → Agrees (due_at t nothing f) (after s t)
    end_agrees e = agrees_next f s (after s t) t nothing a (sym (due_at_lem t (thread_at (after s t) t) 0 (ended i l e))) others

    -- any other step leaves how it stands
    other_agrees : ((thread_at s t).phase ≡ 0 → ⊥) → commits_now s t ≡ false → ends (thread_at s t) ≡ false → Agrees f (after s t)
    other_agrees n c x u m = go (compared u t)
      where
        go : Same u t → f u ≡ due_of u (thread_at (after s t) u)
        go (same e) =
            let k =
            step_same s i.threads l
            (λ e. sym (ap (λ (b : Bool). b && (place_at s (thread_at s t).base).valid) (eq-eqb (thread_at s t).phase 5 e)) ∙ c)
            (eqb-false (thread_at s t).phase 25 x) in
            rw e
            (a t l
            ∙ sym (same_due t (thread_at s t) (thread_at (after s t) t) n (goes_on i r t l n x)
            (omega (arith, k.committed, thread_tally s t i.threads l)) k.operation k.key k.answer k.commit))
        go (apart n) = a u m ∙ ap (due_of u) (sym (others u n))

-- the events l fit, and lead to how it stands in s
record Story (f : ℕ → Due) (l : List Event) (s : State) : Type 0 where
  fits : Fits f l
  stands : Agrees (due_after f l) s

-- an accepted begin comes first
begin_story : {s s' : State} → Invariant s → (f : ℕ → Due) → Agrees f s → (t o k : ℕ) (L : List Event)
    → ((g : ℕ → Due) → Agrees g (begin_of s t o k).state → Story g L s') → Starts s t o k → Story f (cond (is_begun s t o k) (begin t o k ∷ L) L) s'
begin_story {s} i f a t o k L h (starts l e b z) =
    let q = h (due_at t (due o k) f) (subst (λ (x : State). Agrees (due_at t (due o k) f) x) (sym z) (begin_agrees i f a t o k l)) in
    rw b (record { fits = (a t l ∙ due_at_lem t (thread_at s t) 0 e, q.fits); stands = q.stands })
begin_story {s} i f a t o k L h (refuses b z) = rw b (h f (subst (λ (x : State). Agrees f x) (sym z) a))

-- so does a commit, or an end
step_story : {s s' : State} → Invariant s → (f : ℕ → Due) → Agrees f s → (t : ℕ) (L : List Event)
    → ((g : ℕ → Due) → Agrees g (step_of s t).state → Story g L s') → Outcome s t
    → Story f (cond (accepted s t && commits_now s t) (commit (entry_of t (thread_at (after s t) t)) ∷ L) (finished t (thread_at s t) (step_of s t).reply L)) s'
unfolding reply_of
step_story {s} i f a t L h (leaves b z m y) = rw (b, y) (h f (subst (λ (x : State). Agrees f x) (sym z) a))
step_story {s} {s'} i f a t L h (takes l n b z r y) = rw (b, y) (go (commits_now s t) (ends (thread_at s t)) refl refl)
  where
    then : (g : ℕ → Due) → Agrees g (after s t) → Story g L s'
    then g x = h g (subst (λ (v : State). Agrees g v) (sym z) x)

    go : (c d : Bool) → commits_now s t ≡ c → ends (thread_at s t) ≡ d
        → Story f (cond c (commit (entry_of t (thread_at (after s t) t)) ∷ L) (finished t (thread_at s t) (Ok (reply_of s t)) L)) s'
    go true d c q =
        let x = then (due_at t (done (entry_of t (thread_at (after s t) t))) f) (commit_agrees i f a l r c) in
        record { fits = (commit_due i f a l r c, x.fits); stands = x.stands }
    go false true c q =
        let e = eqb-true (thread_at s t).phase 25 q in
        let x = then (due_at t nothing f) (end_agrees i f a l r e) in
        rw q (record { fits = (end_due i f a l r e, x.fits); stands = x.stands })
    go false false c q = rw q (then f (other_agrees i f a l r n c q))

calls_story : {s : State} → Invariant s → (cs : List Move) (f : ℕ → Due) → Agrees f s → Story f (events_of s cs) (after_moves s cs)
unfolding events_of after_move after_moves
calls_story i [] f a = record { fits = tt; stands = a }
calls_story {s} i (begins t o k ∷ cs) f a =
    begin_story i f a t o k (events_of (begin_of s t o k).state cs) (calls_story {s = (begin_of s t o k).state} (begin_kept i t o k) cs) (start s t o k)
calls_story {s} i (steps t ∷ cs) f a =
    step_story i f a t (events_of (step_of s t).state cs) (calls_story {s = (step_of s t).state} (step_kept i t) cs) (outcome s t)

module _ (c : Settings) (cs : List Move) where
  story : Story nothing_due (events_of (fresh c) cs) (after_moves (fresh c) cs)
  story =
      calls_story (fresh_kept c) cs nothing_due
      (λ t l. sym (due_at_lem t (thread_at (fresh c) t) 0 (ap (λ (x : Thread). x.phase) (fresh-idle c t l))))

  -- after any calls from fresh, begins, commits and ends fit
  pub run_fits : Fits nothing_due (events_of (fresh c) cs)
  run_fits = story.fits

  -- and lead to what the registers say
  pub run_stands : (t : ℕ) → t ≤ 7 → due_after nothing_due (events_of (fresh c) cs) t ≡ due_of t (thread_at (after_moves (fresh c) cs) t)
  run_stands = story.stands

-- the commits among the events are the log
pub events_log : (s : State) (cs : List Move) → commits_in (events_of s cs) ≡ log_of s cs
unfolding events_of commits_in log_of after_move
events_log s [] = refl
events_log s (begins t o k ∷ cs) = skip (is_begun s t o k) ∙ events_log (begin_of s t o k).state cs
  where
    L : List Event
    L = events_of (begin_of s t o k).state cs

    skip : (b : Bool) → commits_in (cond b (begin t o k ∷ L) L) ≡ commits_in L
    skip true = refl
    skip false = refl
events_log s (steps t ∷ cs) = go (accepted s t && commits_now s t) (step_of s t).reply (events_log (step_of s t).state cs)
  where
    e : Entry
    e = entry_of t (thread_at (after s t) t)

    L : List Event
    L = events_of (step_of s t).state cs

    go : (b : Bool) (r : Result StepReply Refusal) → commits_in L ≡ log_of (step_of s t).state cs
        → commits_in (cond b (commit e ∷ L) (finished t (thread_at s t) r L)) ≡ cond b (e ∷ log_of (step_of s t).state cs) (log_of (step_of s t).state cs)
    go true r q = ap (λ (l : List Entry). e ∷ l) q
    go false (Ok (StepReply.TheVariants.Ends a m)) q = q
    go false (Ok (StepReply.TheVariants.Goes p)) q = q
    go false (Err m) q = q
