-- "A state is in range": the tests of the range as facts.
use Rattle.std.specs.Prelude.{Bool, true, false, cond, not, List, [], ◌∷◌, map, ◌⊎◌, ◌≡◌, refl, ℕ, suc, ◌≤◌, ◌<◌, leb, ltb, eqb, get_or}
use Rattle.std.proofs.Common.{true≢false, inl, inr, sym, arith, leb-true, ltb-true, eqb-true, le-leb, lt-ltb, eq-eqb}
use Rattle.std.proofs.Math.Bool.{or-true}
use Rattle.std.proofs.Math.Logic.{⊎_map}
use Rattle.states.specs.Tests.{Hold, hold, each, both, either, pick}
use Rattle.rules.specs.State.{none, nobody, top_statistics, zero_place, zero_thread, thread_at}
use Rattle.rules.specs.Places.{is_route_body, is_base, route_key_of_body, child_on_body}
use Rattle.rules.specs.Range.{settings_in_range, body_in_range, place_in_range, register_in_range, registers_in_range, thread_in_range, places_in_range, threads_in_range, counts_in_range, in_range}
use Rattle.rules.specs.declared.state.Settings.{Settings}
use Rattle.rules.specs.declared.state.Body.{Body}
use Rattle.rules.specs.declared.state.Body.TheVariants.{Base, Route}
use Rattle.rules.specs.declared.state.Place.{Place}
use Rattle.rules.specs.declared.state.Thread.{Thread}
use Rattle.rules.specs.declared.state.State.{State}

-- "succ 0 to 1,000; fail 0 to 1,000; min −1,000,000 to 0; max 0 to 1,000,000"
pub record SettingsOk (c : Settings) : Type 0 where
  pub succ : c.succ ≤ 1000
  pub fail : c.fail ≤ 1000
  pub low : c.low ≤ 1000000
  pub max : c.max ≤ 1000000

-- of a route a key 0 to 63 and children that are made nodes
pub record BodyOk (made : ℕ) (b : Body) : Type 0 where
  pub key : route_key_of_body b ≤ 63
  pub child : (w : Bool) → is_route_body b ≡ true → child_on_body w b < made

-- a place: a holder that is none or a thread, of a base statistics within their stops, and the body
pub record PlaceOk (made : ℕ) (p : Place) : Type 0 where
  pub holder : p.lock.holder ≤ nobody
  pub statistics : is_base p ≡ true → p.lock.statistics ≤ top_statistics
  pub body : BodyOk made p.body

-- "A node register is none or a made node"
abbrev pub RegisterOk : ℕ → ℕ → Type 0
RegisterOk made r = (r ≡ none) ⊎ (r < made)

-- "phase 0 to 25", an operation 0 to 2, a key 0 to 63, "answers 0 or 1, commit numbers at most 1,000,000"
pub record NumbersOk (t : Thread) : Type 0 where
  pub phase : t.phase ≤ 25
  pub operation : t.operation ≤ 2
  pub key : t.key ≤ 63
  pub answer : t.answer ≤ 1
  pub commit : t.commit ≤ 1000000

-- the node registers of a thread
abbrev pub registers_of : Thread → List ℕ
registers_of t = t.prev ∷ t.base ∷ t.walk ∷ t.neighbour ∷ t.grandparent ∷ t.made ∷ []

-- a thread: its numbers and its registers
pub record ThreadOk (made : ℕ) (t : Thread) : Type 0 where
  pub numbers : NumbersOk t
  pub registers : (i : ℕ) → RegisterOk made (get_or (registers_of t) i none)

-- the counts and the root: made 1 to 128, at most 1,000,000 begun, "committed ≤ begun"
pub record CountsOk (s : State) : Type 0 where
  pub some : 1 ≤ s.made
  pub most : s.made ≤ 128
  pub begun : s.begun ≤ 1000000
  pub committed : s.committed ≤ s.begun
  pub root : s.root < s.made

-- a state in range; an index past the end reads a record of zeros, which is in range too
pub record InRange (s : State) : Type 0 where
  pub settings : SettingsOk s.settings
  pub counts : CountsOk s
  pub places : (n : ℕ) → PlaceOk s.made (get_or s.places n zero_place)
  pub threads : (t : ℕ) → ThreadOk s.made (thread_at s t)

-- ---- from the tests to the facts: one lemma a test of the range

pub settings_facts : (c : Settings) → settings_in_range c ≡ true → SettingsOk c
unfolding settings_in_range
settings_facts c h =
    let f = hold (leb c.succ 1000) (leb c.fail 1000 ∷ leb c.low 1000000 ∷ leb c.max 1000000 ∷ []) h in omega (arith, leb-true)

counts_facts : (s : State) → counts_in_range s ≡ true → CountsOk s
unfolding counts_in_range
counts_facts s h =
    let rest = leb s.made 128 ∷ leb s.begun 1000000 ∷ leb s.committed s.begun ∷ ltb s.root s.made ∷ [] in
    let f = hold (leb 1 s.made) rest h in
    omega (arith, leb-true, ltb-true)

statistics_facts : (made n : ℕ) (b : Body) → body_in_range made n b ≡ true → not (is_route_body b) ≡ true → n ≤ top_statistics
unfolding body_in_range
statistics_facts made n (Base ks) h e = leb-true n top_statistics h
statistics_facts made n (Route k l r) h e = absurd (true≢false (sym e))

body_facts : (made n : ℕ) (b : Body) → body_in_range made n b ≡ true → BodyOk made b
unfolding body_in_range
body_facts made n (Base ks) h = record { key = omega arith; child = λ w e. absurd (true≢false (sym e)) }
body_facts made n (Route k l r) h =
    let f = hold (leb k 63) (ltb l made ∷ ltb r made ∷ []) h in
    let child : (w : Bool) → cond w r l < made = λ w. pick (λ (n : ℕ). n < made) w (omega (arith, ltb-true)) (omega (arith, ltb-true)) in
    record { key = omega (arith, leb-true); child = λ w e. child w }

pub place_facts : (made : ℕ) (p : Place) → place_in_range made p ≡ true → PlaceOk made p
unfolding place_in_range
place_facts made p h =
    let n = p.lock.statistics in
    let f = both (leb p.lock.holder nobody) (body_in_range made n p.body) h in
    record {
      holder = omega (arith, leb-true);
      statistics = statistics_facts made n p.body f.1;
      body = body_facts made n p.body f.1;
    }

register_facts : (made r : ℕ) → register_in_range made r ≡ true → RegisterOk made r
unfolding register_in_range
register_facts made r h = ⊎_map (eqb-true r none) (ltb-true r made) (either (eqb r none) (ltb r made) h)

pub thread_facts : (made : ℕ) (t : Thread) → thread_in_range made t ≡ true → ThreadOk made t
unfolding thread_in_range registers_in_range register_in_range
thread_facts made t h =
    let numbers = leb t.operation 2 ∷ leb t.key 63 ∷ leb t.answer 1 ∷ leb t.commit 1000000 ∷ registers_in_range made t ∷ [] in
    let f = hold (leb t.phase 25) numbers h in
    let ok = register_in_range made in
    let rest = ok t.base ∷ ok t.walk ∷ ok t.neighbour ∷ ok t.grandparent ∷ ok t.made ∷ [] in
    let g = hold (ok t.prev) rest f.1.1.1.1.1.0 in
    record { numbers = omega (arith, leb-true); registers = λ i. register_facts made _ (each ok (registers_of t) none g refl i) }

-- each place passes its test
places_hold : (made : ℕ) (ps : List Place) → places_in_range made ps ≡ true → Hold (map (place_in_range made) ps)
unfolding places_in_range
places_hold made [] h = tt
places_hold made (p ∷ ps) h =
    let b = both (place_in_range made p) (places_in_range made ps) h in (b.0, places_hold made ps b.1)

-- each thread passes its test
threads_hold : (made : ℕ) (ts : List Thread) → threads_in_range made ts ≡ true → Hold (map (thread_in_range made) ts)
unfolding threads_in_range
threads_hold made [] h = tt
threads_hold made (t ∷ ts) h =
    let b = both (thread_in_range made t) (threads_in_range made ts) h in (b.0, threads_hold made ts b.1)

-- what an index past the end reads is in range too
zero_place_lem : (made : ℕ) → place_in_range made zero_place ≡ true
unfolding place_in_range body_in_range
zero_place_lem made = refl

zero_thread_lem : (made : ℕ) → 1 ≤ made → thread_in_range made zero_thread ≡ true
unfolding thread_in_range registers_in_range register_in_range
zero_thread_lem made l = simp (lt-ltb 0 made l)

-- the range test as facts
pub facts : (s : State) → in_range s ≡ true → InRange s
unfolding in_range thread_at
facts s h =
    let made = s.made in
    let f = hold (settings_in_range s.settings) (counts_in_range s ∷ places_in_range made s.places ∷ threads_in_range made s.threads ∷ []) h in
    let c = counts_facts s f.1.0 in
    let p = each (place_in_range made) s.places zero_place (places_hold made s.places f.1.1.0) (zero_place_lem made) in
    let q = each (thread_in_range made) s.threads zero_thread (threads_hold made s.threads f.1.1.1.0) (zero_thread_lem made c.some) in
    record {
      settings = settings_facts s.settings f.0;
      counts = c;
      places = λ n. place_facts made (get_or s.places n zero_place) (p n);
      threads = λ t. thread_facts made (thread_at s t) (q t);
    }

-- ---- from the facts to the tests: one lemma a test again

settings_test : (c : Settings) → SettingsOk c → settings_in_range c ≡ true
unfolding settings_in_range
settings_test c f = simp (le-leb _ _ f.succ, le-leb _ _ f.fail, le-leb _ _ f.low, le-leb _ _ f.max)

counts_test : (s : State) → CountsOk s → counts_in_range s ≡ true
unfolding counts_in_range
counts_test s f =
    simp (le-leb _ _ f.some, le-leb _ _ f.most, le-leb _ _ f.begun, le-leb _ _ f.committed, lt-ltb _ _ f.root)

body_test : (made n : ℕ) (b : Body) → (not (is_route_body b) ≡ true → n ≤ top_statistics) → BodyOk made b → body_in_range made n b ≡ true
unfolding body_in_range
body_test made n (Base ks) g f = le-leb _ _ (g refl)
body_test made n (Route k l r) g f = simp (le-leb _ _ f.key, lt-ltb _ _ (f.child false refl), lt-ltb _ _ (f.child true refl))

places_test : (made : ℕ) (ps : List Place) → ((n : ℕ) → PlaceOk made (get_or ps n zero_place)) → places_in_range made ps ≡ true
unfolding places_in_range place_in_range
places_test made [] f = refl
places_test made (p ∷ ps) f =
    let g = f 0 in
    simp (le-leb _ _ g.holder, body_test made p.lock.statistics p.body g.statistics g.body, places_test made ps (λ n. f (suc n)))

register_test : (made r : ℕ) → RegisterOk made r → register_in_range made r ≡ true
unfolding register_in_range
register_test made r (inl e) = simp (eq-eqb r none e)
register_test made r (inr l) = simp (lt-ltb r made l, or-true)

thread_test : (made : ℕ) (t : Thread) → ThreadOk made t → thread_in_range made t ≡ true
unfolding thread_in_range registers_in_range
thread_test made t f =
    let n = f.numbers in
    let r : (i : ℕ) → register_in_range made (get_or (registers_of t) i none) ≡ true = λ i. register_test made _ (f.registers i) in
    let small = le-leb _ _ n.commit in
    simp (le-leb _ _ n.phase, le-leb _ _ n.operation, le-leb _ _ n.key, le-leb _ _ n.answer, small, r 0, r 1, r 2, r 3, r 4, r 5)

threads_test : (made : ℕ) (ts : List Thread) → ((t : ℕ) → ThreadOk made (get_or ts t zero_thread)) → threads_in_range made ts ≡ true
unfolding threads_in_range
threads_test made [] f = refl
threads_test made (t ∷ ts) f = simp (thread_test made t (f 0), threads_test made ts (λ n. f (suc n)))

-- the facts as the range test
pub in_range_lem : (s : State) → InRange s → in_range s ≡ true
unfolding in_range thread_at
in_range_lem s f =
    let p = places_test s.made s.places f.places in
    let t = threads_test s.made s.threads f.threads in
    simp (settings_test _ f.settings, counts_test s f.counts, p, t)
