-- Steps that make nodes, which are not hung yet.
use Rattle.std.specs.Prelude.{false, cond, ◌≡◌, refl, ℕ, ◌+◌, ◌*◌, ◌≤◌, ◌<◌, ltb, get_or, length}
use Rattle.std.proofs.Common.{true≢false, sym, ap, ◌∙◌, arith}
use borrow.Author.Tests.{lt-ltb, le-ltb, ltb-true, ltb-false}
use Rattle.rules.specs.State.{zero_place, thread_at}
use Rattle.rules.specs.Places.{keys_of}
use Rattle.rules.specs.Step.{apply}
use Rattle.rules.specs.declared.state.Place.{Place}
use Rattle.rules.specs.declared.state.Thread.{Thread}
use Rattle.rules.specs.declared.state.State.{State}
use Rattle.rules.specs.declared.row.Plan.{Plan}
use Rattle.graph.specs.Cases.{Test, holds, fails, test}
use Rattle.graph.specs.Walk.{Cell}
use Rattle.graph.specs.Count.{routes}
use Rattle.graph.specs.Graph.{summit, hung, unmade, Makes, makes_belongs}
use Rattle.order.specs.World.{cell_same, World, graph, cell, cells_of, world_of}
use Rattle.order.specs.Stages.{Stage}
use Rattle.order.specs.Change.{Change}
use Rattle.order.specs.Steady.{Safe, Any, as_was, Calm, calm, steady}
use Rattle.order.specs.Bridge.{thread_me, thread_other}
use Rattle.order.specs.Ordered.{Ordered, Stepped}

-- the nodes from made on up to made' are me's
pub given : ℕ → ℕ → ℕ → (ℕ → ℕ) → ℕ → ℕ
given made made' me own x = cond (ltb x made) (own x) (cond (ltb x made') me (own x))

module _ (made made' me : ℕ) (own : ℕ → ℕ) (x : ℕ) where
  pub given_below : x < made → given made made' me own x ≡ own x
  unfolding given
  given_below l = rw (lt-ltb x made l)

  pub given_new : made ≤ x → x < made' → given made made' me own x ≡ me
  unfolding given
  given_new l m = rw (le-ltb x made l, lt-ltb x made' m)

  pub given_above : made ≤ x → made' ≤ x → given made made' me own x ≡ own x
  unfolding given
  given_above l m = rw (le-ltb x made l, le-ltb x made' m)

-- where a number lies
data Lies (made made' x : ℕ) : Type 0 where
  below : x < made → Lies made made' x
  among : made ≤ x → x < made' → Lies made made' x
  above : made ≤ x → made' ≤ x → Lies made made' x

lies : (made made' x : ℕ) → Lies made made' x
lies made made' x = go (test (ltb x made)) (test (ltb x made'))
  where
    go : Test (ltb x made) → Test (ltb x made') → Lies made made' x
    go (holds a) b = below (ltb-true x made a)
    go (fails a) (holds b) = among (ltb-false x made a) (ltb-true x made' b)
    go (fails a) (fails b) = above (ltb-false x made a) (ltb-false x made' b)

-- places are stored at the nodes from made on up to made' alone
pub record Adds (w w' : World) (made made' me : ℕ) : Type 0 where
  pub root : w'.root ≡ w.root
  pub tree : w'.tree ≡ w.tree
  pub own : (x : ℕ) → w'.own x ≡ given made made' me w.own x
  pub old : (x : ℕ) → (made ≤ x → x < made' → ⊥) → w'.place x ≡ w.place x
  pub room : made' ≤ 128
  pub more : made ≤ made'

module _ {w w' : World} {thread : ℕ → Thread} {made made' me : ℕ} (safe : Safe w thread made) (a : Adds w w' made made' me) (l : me ≤ 7) where
  -- a made node is as it was
  kept : (x : ℕ) → (w.own x ≡ unmade → ⊥) → w'.place x ≡ w.place x
  kept x u = a.old x (λ b c. u (safe.sound.fresh x b (omega (arith, a.room))))

  kept_own : (x : ℕ) → (w.own x ≡ unmade → ⊥) → w'.own x ≡ w.own x
  kept_own x u = a.own x ∙ go (lies made made' x)
    where
      go : Lies made made' x → given made made' me w.own x ≡ w.own x
      go (below p) = given_below made made' me w.own x p
      go (among p q) = absurd (u (safe.sound.fresh x p (omega (arith, a.room))))
      go (above p q) = given_above made made' me w.own x p q

  made_new : (x : ℕ) → made ≤ x → x < made' → w'.own x ≡ me
  made_new x p q = a.own x ∙ given_new made made' me w.own x p q

  -- what is hung or not made now is as it was
  was : (x : ℕ) → (w'.own x ≡ me → ⊥) → (w'.own x ≡ w.own x) × (w'.place x ≡ w.place x)
  was x n = go (lies made made' x)
    where
      go : Lies made made' x → (w'.own x ≡ w.own x) × (w'.place x ≡ w.place x)
      go (below p) = (a.own x ∙ given_below made made' me w.own x p, a.old x (λ b c. omega arith))
      go (among p q) = absurd (n (made_new x p q))
      go (above p q) = (a.own x ∙ given_above made made' me w.own x p q, a.old x (λ b c. omega arith))

  makes : Makes (graph w) (cell w') w'.own
  makes =
      record {
        cells = λ x u. cell_same w.place w'.place x a.root (ap (λ (p : Place). p.body) (kept x u));
        owns = kept_own;
        loose = λ x e. sym (was x (λ q. omega arith)).0 ∙ e;
        bare = λ x e.
            let k = was x (λ q. omega arith) in
            ap (λ (c : Cell). c.route) (cell_same w.place w'.place x a.root (ap (λ (p : Place). p.body) k.1))
            ∙ safe.sound.good.bare x (sym k.0 ∙ e);
      }

  calms : (m : ℕ) → Calm w w' m Any (Unit {0})
  calms m =
      record {
        tree = a.tree;
        makes = makes;
        touched = λ x h.
            let e = kept x (λ u. omega arith) in
            as_was (ap (λ (p : Place). p.lock.holder) e) (ap (λ (p : Place). p.valid) e) (ap keys_of e);
        unhung = λ v x o e. ap keys_of (kept x (λ u. omega (arith, o.thread)));
      }

  pub adds_change : Change w w' 9 Any (Unit {0})
  adds_change = calm safe.sound.good (calms 9)

  pub adds_own : (x : ℕ) → made ≤ x → x < made' → w'.own x ≡ me
  adds_own = made_new

  -- hung nodes are as they were
  pub adds_still : (x : ℕ) → w.own x ≡ hung → w'.place x ≡ w.place x
  adds_still x h = kept x (λ u. omega arith)

  -- the kinds of all but the new nodes are as they were
  pub adds_kind : (x : ℕ) → (made ≤ x → x < made' → ⊥) → (cell w' x).route ≡ (cell w x).route
  adds_kind x h = ap (λ (c : Cell). c.route) (cell_same w.place w'.place x a.root (ap (λ (p : Place). p.body) (a.old x h)))

  -- a node that is not made yet is a base
  pub adds_bare : (x : ℕ) → made ≤ x → x < made' → (cell w x).route ≡ false
  adds_bare x p q = safe.sound.good.bare x (safe.sound.fresh x p (omega (arith, a.room)))

  pub adds_safe : {thread' : ℕ → Thread} → 1 + 3 * routes (cell w') summit ≤ made' → ((v : ℕ) → (v ≡ me → ⊥) → thread' v ≡ thread v) → ((thread me).phase ≡ 8 → ⊥)
      → Stage w' me (thread' me) → Safe w' thread' made'
  adds_safe many f n c =
      steady safe
      (record {
        calm = calms me;
        threads = f;
        retires = λ z. absurd (n z);
        belongs =
            rw a.tree (makes_belongs safe.sound.good makes safe.sound.belongs (λ x h. ap keys_of (kept x (λ u. omega arith))));
        entry = rw a.root safe.sound.entry;
        room = a.room;
        fresh = λ x p q.
            a.own x ∙ given_above made made' me w.own x (omega (arith, a.more)) p ∙ safe.sound.fresh x (omega (arith, a.more)) q;
        many = many;
      }) c

-- a step of thread me that makes nodes and does nothing else to the tree
pub adds_stepped : {s : State} (r : Ordered s) → length s.threads ≡ 8 → {me : ℕ} → me ≤ 7 → (p : Plan)
    → Adds (world_of s r.tree r.own) (world_of (apply s me p) r.tree (given s.made p.made me r.own)) s.made p.made me
    → 1 + 3 * routes (cells_of (apply s me p)) summit ≤ p.made → ((thread_at s me).phase ≡ 8 → ⊥)
    → Stage (world_of (apply s me p) r.tree (given s.made p.made me r.own)) me p.thread → Stepped r me (apply s me p)
unfolding apply
adds_stepped {s} r len {me} l p a many n c =
    record {
      tree = r.tree;
      own = given s.made p.made me r.own;
      safe = adds_safe r.safe a l many (thread_other s me p) n (rw (thread_me s me p len l) c);
      unmoved = λ z.
          record {
            tree = refl;
            cells = λ x h.
                cell_same (λ y. get_or s.places y zero_place) (λ y. get_or (apply s me p).places y zero_place) x a.root
                (ap (λ (q : Place). q.body) (adds_still r.safe a l x h));
            keys = λ x h m. ap keys_of (adds_still r.safe a l x h);
          };
      kinds = λ x z. (adds_change r.safe a l).moves.kind x (λ u. true≢false (sym z ∙ r.safe.sound.good.bare x u)) ∙ z;
    }
