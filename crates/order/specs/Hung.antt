-- Rows 7 and 23 alike: a tree of my nodes takes the place of a base that I hold.
use Rattle.std.specs.Prelude.{true, false, ◌≡◌, refl, ℕ, ◌+◌, ◌≤◌}
use Rattle.std.proofs.Common.{true≢false, sym, ap, ◌∙◌, arith}
use Rattle.keys.specs.Keys.{has}
use Rattle.rules.specs.declared.state.Place.{Place}
use Rattle.rules.specs.declared.state.Thread.{Thread}
use Rattle.graph.specs.Cases.{Amount, none, some, amount, is, is_same, is_some}
use Rattle.graph.specs.Walk.{Cell, kid, by, Walk}
use Rattle.graph.specs.Tree.{Tree, count, kid_in, label_in}
use Rattle.graph.specs.Graph.{summit, hung, Good, Belongs, Moves, hung_made}
use Rattle.graph.specs.Hang.{Hangs}
use Rattle.graph.proofs.Hang.{hung_in, hung-out, hang, hang_belongs}
use Rattle.order.specs.World.{cell_at, World, graph, cell, valid, hold, keys, in_tree, out_of_tree, Late}
use Rattle.order.specs.Stages.{BaseAt, Stage}
use Rattle.order.specs.Steady.{Safe, as_was}
use Rattle.order.specs.Cuts.{Grown, before, lately, cuts}
use Rattle.order.specs.Hooks.{Hooks}

-- the world with other places under another root
abbrev pub moved : World → ℕ → (ℕ → Place) → World
moved w root place = record { root = root; place = place; tree = w.tree; own = w.own }

module _ {w : World} {thread : ℕ → Thread} {made me : ℕ} (safe : Safe w thread made) (l : me ≤ 7) (root : ℕ) (place : ℕ → Place) {y x new : ℕ} {z : Tree}
    (k : Hooks w (moved w root place) y x new) (h : Hangs (graph w) (cell_at root place) y k.side x new z)
    (mine : (n : ℕ) → 1 ≤ count n z → w.own n ≡ me) (base : BaseAt w x) (holds : hold w x ≡ me) where
  good : Good (graph w)
  good = safe.sound.good

  -- the world with z hung
  abbrev pub hung_world : World
  hung_world = record { root = root; place = place; tree = (hang safe.sound.good h).tree; own = hung_in z w.own }

  counted : (n : ℕ) → count n hung_world.tree + is n x ≡ count n w.tree + count n z
  counted n = (hang safe.sound.good h).counted n

  moves : Moves (graph w) (graph hung_world)
  moves = (hang safe.sound.good h).moves

  -- a node of z was not in the tree
  loose : (n : ℕ) → 1 ≤ count n z → out_of_tree w n
  loose n j = go (amount (count n w.tree))
    where
      go : Amount (count n w.tree) → out_of_tree w n
      go (none e) = e
      go (some i) = absurd ((h.loose n j).0 (good.grown n i))

  not_mine : (n : ℕ) → (w.own n ≡ me → ⊥) → count n z ≡ 0
  not_mine n f = go (amount (count n z))
    where
      go : Amount (count n z) → count n z ≡ 0
      go (none e) = e
      go (some j) = absurd (f (mine n j))

  pub hung-out_of : out_of_tree hung_world x
  hung-out_of =
      omega (arith, counted x, good.once x, is_same {x = x} refl, not_mine x (λ e. omega (arith, base.hung)))

  grown : (n : ℕ) → hung_in z w.own n ≡ hung → Grown w hung_world n
  grown n e = go (amount (count n z))
    where
      go : Amount (count n z) → Grown w hung_world n
      go (none o) = before (sym (hung-out z w.own n o) ∙ e)
      go (some j) =
          lately (omega (arith, counted n, is_same_not))
          (λ r s q.
          let c = h.slot.others n (λ v. (h.loose n j).0 (rw v (good.grown y h.under))) in
          let i = kid_in h.shape n j (ap (λ (b : Cell). b.route) (sym c) ∙ r) s in
          (h.loose (kid s (cell w n)) i).0 (ap (λ (b : Cell). w.own (kid s b)) (sym c) ∙ q))
        where
          is_same_not : is n x ≡ 0
          is_same_not = go' (amount (is n x))
            where
              go' : Amount (is n x) → is n x ≡ 0
              go' (none v) = v
              go' (some v) = absurd ((h.loose n j).0 (rw (is_some v) base.hung))

  -- only x leaves the tree
  leaves : (n : ℕ) → in_tree w n → out_of_tree hung_world n → n ≡ x
  leaves n i o = is_some (omega (arith, counted n))

  -- x as a base of the new world
  pub hung-base : BaseAt hung_world x
  hung-base =
      record { small = base.small; hung = moves.hangs x base.hung; base = moves.kind x (hung_made base.hung) ∙ base.base }

  pub hung_belongs : ((b : ℕ) → 1 ≤ count b z → (cell w b).route ≡ false → (j : ℕ) → has (keys w b) j ≡ true
      → Walk (cell w) (by j) summit x × Walk (cell w) (by j) new b) → Belongs (graph hung_world) (keys hung_world)
  hung_belongs f = hang_belongs safe.sound.good h safe.sound.belongs k.keysets f

  pub hung_safe : {thread' : ℕ → Thread} → ((v : ℕ) → (v ≡ me → ⊥) → thread' v ≡ thread v) → ((thread me).phase ≡ 8 → ⊥)
      → Belongs (graph hung_world) (keys hung_world) → (valid w x ≡ true → Late hung_world thread' x)
      → Stage hung_world me (thread' me) → Safe hung_world thread' made
  hung_safe f n b t c =
      cuts safe
      (record {
        slot = h.slot;
        under = good.grown y h.under;
        moves = moves;
        good = (hang safe.sound.good h).good;
        belongs = b;
        touched = λ v e. as_was (k.holders v) (k.flags v) (k.keysets v);
        grown = grown;
        unhung = λ v a o e. hung-out z w.own a (not_mine a (λ q. o.differ (sym e ∙ q))) ∙ e;
        keeps = k.keysets;
        threads = f;
        phase = n;
        holds = holds;
        out = hung-out_of;
        content = λ e q. absurd ((h.loose new (rw h.head at (label_in z))).0 e);
        leaver = λ a i o. rw (leaves a i o) holds;
        orphan = λ a i o r s q. absurd (true≢false (sym r ∙ ap (λ (v : ℕ). (cell w v).route) (leaves a i o) ∙ base.base));
        lateness = λ a i o e. rw (leaves a i o) (t (sym (k.flags x) ∙ (rw (leaves a i o) at e)));
        entry = k.entry (h.small new (rw h.head at (label_in z))) safe.sound.entry;
        room = safe.sound.room;
        many = safe.sound.many;
        fresh = λ a p q.
            let e = safe.sound.fresh a p q in hung-out z w.own a (not_mine a (λ v. omega arith)) ∙ e;
      }) c
