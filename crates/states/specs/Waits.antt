-- "waits, nothing changes": a step of a thread that waits leaves the state as it is, and so do any number of them.
use Rattle.std.specs.Prelude.{Bool, true, false, not, ◌&&◌, ◌||◌, ◌≡◌, refl, ℕ, zero, suc, ◌+◌, eqb, get_or, Ok}
use Rattle.std.proofs.Common.{⊎_elim, sym, ap, ◌∙◌, add-zero, add-suc, suc-add, eqb-true}
use Rattle.std.proofs.lemmas.Bool.{not-true}
use Rattle.std.proofs.lemmas.List.{set-get_or}
use Rattle.states.specs.Tests.{both, either}
use Rattle.states.specs.Phase.{row_at}
use Rattle.rules.specs.State.{zero_thread, thread_at}
use Rattle.rules.specs.Places.{is_free}
use Rattle.rules.specs.Rows.{goes, rows, row0, row4, row13, row17, plan_of}
use Rattle.rules.specs.Needs.{stuck}
use Rattle.rules.specs.Step.{view_before, view_of, put, apply, ends, after, steps}
use Rattle.rules.specs.declared.state.Place.{Place}
use Rattle.rules.specs.declared.state.State.{State}
use Rattle.rules.specs.declared.row.View.{View}
use Rattle.rules.specs.declared.answer.RunReply as RunReply

-- thread at phase p, where the lock of place x is taken, and that lock is held
abbrev pub waits_at : ℕ → Place → View → Bool
waits_at p x v = eqb v.thread.phase p && not (is_free x)

-- the thread waits: for B at phase 4, for P at 13, for G at 17
abbrev pub waits : View → Bool
waits v = waits_at 4 v.base v || waits_at 13 v.prev v || waits_at 17 v.grandparent v

-- a plan that only goes to the phase that the thread is at changes nothing
stays : (s : State) (t : ℕ) → plan_of (view_of s t) ≡ goes (view_of s t) (thread_at s t).phase → after s t ≡ s
unfolding after apply view_of view_before put thread_at
stays s t e =
    ap (apply s t) e ∙ (λ i. record {
      root = s.root;
      made = s.made;
      begun = s.begun;
      committed = s.committed;
      settings = s.settings;
      places = s.places;
      threads = set-get_or s.threads t zero_thread i;
    })

-- the plan of a thread that waits, which is not ending
pub record Waiting (v : View) : Type 0 where
  pub plan : plan_of v ≡ goes v v.thread.phase
  pub busy : ends v.thread ≡ false

-- "held: waits"
pub waiting : (v : View) → waits v ≡ true → Waiting v
unfolding rows row4 row13 row17
waiting v w =
    let for_b = waits_at 4 v.base v in
    let for_p = waits_at 13 v.prev v in
    ⊎_elim (λ h. ⊎_elim at4 at13 (either for_b for_p h)) at17 (either (for_b || for_p) (waits_at 17 v.grandparent v) w)
  where
    held : (p : ℕ) (x : Place) → (is_free x ≡ false → get_or rows p row0 v ≡ goes v p) → eqb p 25 ≡ false
        → waits_at p x v ≡ true → Waiting v
    held p x f g h =
        let (a, n) = both (eqb v.thread.phase p) (not (is_free x)) h in
        let e = eqb-true v.thread.phase p a in
        record { plan = row_at v p e ∙ f (not-true (is_free x) n) ∙ ap (goes v) (sym e); busy = ap (λ (k : ℕ). eqb k 25) e ∙ g }

    at4 : waits_at 4 v.base v ≡ true → Waiting v
    at4 = held 4 v.base (λ n. simp n) refl

    at13 : waits_at 13 v.prev v ≡ true → Waiting v
    at13 = held 13 v.prev (λ n. simp n) refl

    at17 : waits_at 17 v.grandparent v ≡ true → Waiting v
    at17 = held 17 v.grandparent (λ n. simp n) refl

-- "waits, nothing changes"
pub waits_stays : (s : State) (t : ℕ) → waits (view_of s t) ≡ true → after s t ≡ s
unfolding view_of view_before
waits_stays s t w = stays s t (waiting (view_of s t) w).plan

-- it doesn't end the operation either
waits_busy : (s : State) (t : ℕ) → waits (view_of s t) ≡ true → ends (thread_at s t) ≡ false
unfolding view_of view_before
waits_busy s t w = (waiting (view_of s t) w).busy

-- "waits count": of n steps of a thread that waits each counts, and the state stays
pub waits-steps : (n : ℕ) (from s : State) (t taken : ℕ) → waits (view_of s t) ≡ true → stuck (view_of s t) ≡ false
    → steps n from s t taken ≡ record { reply = Ok (RunReply.TheVariants.Stops (taken + n) (thread_at s t).phase); state = s }
unfolding steps
waits-steps zero from s t taken w f = simp add-zero
waits-steps (suc n) from s t taken w f =
    simp (steps, f, waits_busy s t w, waits_stays s t w, add-suc, ← suc-add) (waits-steps n from s t (suc taken) w f)
