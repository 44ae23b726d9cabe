-- The plain set: what a state holds are its keys, after fresh, begin and every step.
use Rattle.std.specs.Prelude.{Bool, true, false, cond, ◌&&◌, ◌≡◌, refl, eqb, length}
use Rattle.std.proofs.Common.{true≢false, sym, ap, ◌∙◌, arith, get_or-set_same, get_or-set_other, eq-eqb, ne_eqb}
use Prim.Native.Nat.{ℕ, ◌≤◌}
use Rattle.keys.specs.Keys.{has}
use Rattle.keys.proofs.Laws.{has-none}
use Rattle.rules.specs.State.{zero_thread, fresh, place_at, thread_at}
use Rattle.rules.specs.Registers.{set_operation}
use Rattle.rules.specs.Places.{keys_of_body, keys_after}
use Rattle.rules.specs.Step.{begun, after}
use Rattle.rules.specs.declared.state.Settings.{Settings}
use Rattle.rules.specs.declared.state.Body.{Body}
use Rattle.rules.specs.declared.state.Thread.{Thread}
use Rattle.rules.specs.declared.state.State.{State}
use Rattle.graph.specs.Cases.{Same, same, apart, compared}
use Rattle.runs.specs.Log.{commits_now}
use Rattle.runs.specs.Holders.{late}
use Rattle.order.specs.Ordered.{Ordered, quiet_phase}
use Rattle.order.specs.Nodes.{after-moved}
use Rattle.order.specs.Fresh.{fresh_nodes, fresh_body, fresh-idle}
use Rattle.order.specs.Invariant.{Invariant, fresh_kept, after_kept, begun_safe, begun_kept}
use Rattle.plain.specs.Held.{keys_at, Held, in_base, in_retired}
use Rattle.plain.specs.Steps.{next, held_on, held_back, split_on, split-back}
use Rattle.plain.specs.StepsJoin.{splice_on, splice_back, link_on, link_back}
use Rattle.plain.specs.Commit.{retry_on, retry_back, commit_on, commit_back}

-- the state has the invariant, and holds the keys of p
pub record Plain (s : State) (p : ℕ) : Type 0 where
  pub inv : Invariant s
  pub on : (j : ℕ) → Held inv.nodes j → has p j ≡ true
  pub back : (j : ℕ) → has p j ≡ true → Held inv.nodes j

-- the next step of thread t commits
-- the plain set after thread t's step: at a commit the operation is done on it
unfoldable pub plain_then : State → ℕ → ℕ → ℕ
plain_then s t p = cond (commits_now s t) (keys_after (thread_at s t).operation p (thread_at s t).key) p

-- a fresh state holds no key
pub fresh_plain : (c : Settings) → Plain (fresh c) 0
fresh_plain c =
    record {
      inv = record { places = i.places; threads = i.threads; nodes = fresh_nodes c; tally = i.tally };
      on = λ j h. absurd (none j h);
      back = λ j h. absurd (true≢false (sym h ∙ has-none j));
    }
  where
    i : Invariant (fresh c)
    i = fresh_kept c

    none : (j : ℕ) → Held (fresh_nodes c) j → ⊥
    none j (in_base b k f h) = true≢false (sym h ∙ ap (λ (x : Body). has (keys_of_body x) j) (fresh_body c b) ∙ has-none j)
    none j (in_retired v l f h) = true≢false (sym f ∙ ap (λ (t : Thread). late t.phase) (fresh-idle c v l))

module _ {s : State} {p : ℕ} (x : Plain s p) where
  -- begin holds what was held
  pub begun_plain : (t o k : ℕ) → t ≤ 7 → k ≤ 63 → (thread_at s t).phase ≡ 0 → Plain (begun s t o k) p
  unfolding begun thread_at
  begun_plain t o k l m idle =
      record {
        inv = record { places = j.places; threads = j.threads; nodes = n; tally = j.tally };
        on = λ q h. x.on q (from q h);
        back = λ q h. to q (x.back q h);
      }
    where
      j : Invariant (begun s t o k)
      j = begun_kept x.inv t o k l m idle

      n : Ordered (begun s t o k)
      n = record { tree = x.inv.nodes.tree; own = x.inv.nodes.own; safe = begun_safe x.inv t o k l m idle }

      th : Thread
      th = set_operation o k (thread_at s t)

      mine : thread_at (begun s t o k) t ≡ th
      mine = get_or-set_same s.threads t th zero_thread (omega (arith, x.inv.threads))

      other : (v : ℕ) → (v ≡ t → ⊥) → thread_at (begun s t o k) v ≡ thread_at s v
      other v d = get_or-set_other s.threads t v th zero_thread d

      from : (q : ℕ) → Held n q → Held x.inv.nodes q
      from q (in_base b a f h) = in_base b a f h
      from q (in_retired v a f h) = go (compared v t)
        where
          go : Same v t → Held x.inv.nodes q
          go (same z) = absurd (true≢false (sym (rw z at f) ∙ ap (λ (y : Thread). late y.phase) mine))
          go (apart d) =
              in_retired v a (ap (λ (y : Thread). late y.phase) (sym (other v d)) ∙ f)
              (ap (λ (y : Thread). has (keys_at s y.base) q) (sym (other v d)) ∙ h)

      to : (q : ℕ) → Held x.inv.nodes q → Held n q
      to q (in_base b a f h) = in_base b a f h
      to q (in_retired v a f h) = go (compared v t)
        where
          go : Same v t → Held n q
          go (same z) = absurd (true≢false (sym (rw z at f) ∙ ap late idle))
          go (apart d) =
              in_retired v a (ap (λ (y : Thread). late y.phase) (other v d) ∙ f)
              (ap (λ (y : Thread). has (keys_at s y.base) q) (other v d) ∙ h)

  module _ {t : ℕ} (l : t ≤ 7) where
    abbrev nx : Ordered (after s t)
    nx = next x.inv.nodes x.inv.threads x.inv.places l

    -- the invariant with the order that the step comes to
    inv' : (q : ℕ) → ((j : ℕ) → Held nx j → has q j ≡ true) → ((j : ℕ) → has q j ≡ true → Held nx j) → Plain (after s t) q
    inv' q a b =
        let k = after_kept x.inv l in
        record { inv = record { places = k.places; threads = k.threads; nodes = nx; tally = k.tally }; on = a; back = b }

    quiet : quiet_phase (thread_at s t).phase ≡ true → ((thread_at s t).phase ≡ 5 → ⊥) → Plain (after s t) p
    quiet q n =
        let u = (after-moved x.inv.nodes x.inv.threads x.inv.places l).stepped.unmoved q in
        inv' p
        (λ j h. x.on j (held_back x.inv.nodes x.inv.threads x.inv.places l q j
        (λ b a f. ap (λ (m : ℕ). has m j) (sym (u.keys b a (λ z. absurd (n z)))) ∙ f) h))
        (λ j h. held_on x.inv.nodes x.inv.threads x.inv.places l q j
        (λ b a f. ap (λ (m : ℕ). has m j) (u.keys b a (λ z. absurd (n z))) ∙ f) (x.back j h))

    -- a step holds what the plain set then has
    pub after_plain : Plain (after s t) (plain_then s t p)
    unfolding plain_then
    after_plain = at_5 (compared n 5)
      where
        n : ℕ
        n = (thread_at s t).phase

        R : Ordered s
        R = x.inv.nodes

        a : length s.threads ≡ 8
        a = x.inv.threads

        b : length s.places ≡ 128
        b = x.inv.places

        at_23 : (n ≡ 5 → ⊥) → (n ≡ 7 → ⊥) → (n ≡ 19 → ⊥) → Same n 23 → Plain (after s t) p
        at_23 u v w (same e) = inv' p (λ j h. x.on j (link_back R a b l e j h)) (λ j h. link_on R a b l e j (x.back j h))
        at_23 u v w (apart y) = quiet (rw (ne_eqb n 7 v, ne_eqb n 19 w, ne_eqb n 23 y)) u

        at_19 : (n ≡ 5 → ⊥) → (n ≡ 7 → ⊥) → Same n 19 → Plain (after s t) p
        at_19 u v (same e) = inv' p (λ j h. x.on j (splice_back R a b l e j h)) (λ j h. splice_on R a b l e j (x.back j h))
        at_19 u v (apart y) = at_23 u v y (compared n 23)

        at_7 : (n ≡ 5 → ⊥) → Same n 7 → Plain (after s t) p
        at_7 u (same e) = inv' p (λ j h. x.on j (split-back R a b l e j h)) (λ j h. split_on R a b l e j (x.back j h))
        at_7 u (apart y) = at_19 u y (compared n 19)

        at_commit : n ≡ 5 → (f : Bool) → (place_at s (thread_at s t).base).valid ≡ f
            → Plain (after s t) (cond f (keys_after (thread_at s t).operation p (thread_at s t).key) p)
        at_commit e true f = inv' (keys_after (thread_at s t).operation p (thread_at s t).key) (commit_on R a b l e f p x.on x.back) (commit_back R a b l e f p x.on x.back)
        at_commit e false f = inv' p (λ j h. x.on j (retry_back R a b l e f j h)) (λ j h. retry_on R a b l e f j (x.back j h))

        at_5 : Same n 5 → Plain (after s t) (cond (eqb n 5 && (place_at s (thread_at s t).base).valid) (keys_after (thread_at s t).operation p (thread_at s t).key) p)
        at_5 (same e) = rw (eq-eqb n 5 e) (at_commit e (place_at s (thread_at s t).base).valid refl)
        at_5 (apart u) = rw (ne_eqb n 5 u) (at_7 u (compared n 7))
