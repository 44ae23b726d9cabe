-- Steps that change a child slot: the split and the link are hung (7, 23), the route of a join is spliced out (19).
use Rattle.std.specs.Prelude.{Bool, true, false, ◌≡◌, ℕ, ◌+◌, ◌*◌, ◌≤◌, ◌<◌}
use Rattle.std.proofs.Common.{true≢false, sym, ap, ◌∙◌, arith}
use Rattle.rules.specs.declared.state.Thread.{Thread}
use Rattle.graph.specs.Cases.{Same, same, apart, compared, Amount, none, some, amount}
use Rattle.graph.specs.Walk.{Cell, kid}
use Rattle.graph.specs.Count.{routes, routes_same}
use Rattle.graph.specs.Tree.{count}
use Rattle.graph.specs.Slot.{Slot, slot_route, Child, kept, slot, child}
use Rattle.graph.specs.Graph.{summit, hung, unmade, Route, Good, Belongs, Moves}
use Rattle.order.specs.World.{World, graph, cell, valid, hold, keys, in_tree, out_of_tree, Late, Sound}
use Rattle.order.specs.Stages.{Stage}
use Rattle.order.specs.Change.{Other, Holds, Keeps, Was, Change}
use Rattle.order.specs.Others.{others}
use Rattle.order.specs.Steady.{Safe, Any, Touched, touched_held, touched_flag, touched_invalid, touched_valid, still_late}

-- a node that is hung now was hung, or is in the tree now with children that were not
pub data Grown (w w' : World) (x : ℕ) : Type 0 where
  before : w.own x ≡ hung → Grown w w' x
  lately : in_tree w' x → ((cell w' x).route ≡ true → (s : Bool) → w.own (kid s (cell w' x)) ≡ hung → ⊥) → Grown w w' x

-- a base child of a route that leaves the tree is held by me, and invalid
pub record Doomed (w w' : World) (me z : ℕ) : Type 0 where
  pub holds : hold w z ≡ me
  pub invalid : valid w' z ≡ false

-- thread me's step puts z in the place of p under i on side t
pub record Cuts (w w' : World) (thread thread' : ℕ → Thread) (made' me i : ℕ) (t : Bool) (p z : ℕ) : Type 0 where
  pub slot : Slot (cell w) (cell w') i t p z
  pub under : w.own i ≡ hung
  pub moves : Moves (graph w) (graph w')
  pub good : Good (graph w')
  pub belongs : Belongs (graph w') (keys w')
  pub touched : (x : ℕ) → w.own x ≡ hung → Touched w w' me Any (Unit {0}) x
  pub grown : (x : ℕ) → w'.own x ≡ hung → Grown w w' x
  pub unhung : (v x : ℕ) → Other v me → w.own x ≡ v → w'.own x ≡ v
  pub keeps : (x : ℕ) → keys w' x ≡ keys w x
  pub threads : (v : ℕ) → (v ≡ me → ⊥) → thread' v ≡ thread v
  pub phase : (thread me).phase ≡ 8 → ⊥
  -- what is replaced is mine and leaves the tree; what comes in is no base of another thread
  pub holds : hold w p ≡ me
  pub out : out_of_tree w' p
  pub content : w.own z ≡ hung → (cell w z).route ≡ false → hold w z ≡ me
  -- what leaves the tree
  pub leaver : (x : ℕ) → in_tree w x → out_of_tree w' x → hold w x ≡ me
  pub orphan : (x : ℕ) → in_tree w x → out_of_tree w' x → (cell w x).route ≡ true → (s : Bool) → (cell w (kid s (cell w x))).route ≡ false
      → Doomed w w' me (kid s (cell w x))
  pub lateness : (x : ℕ) → in_tree w x → out_of_tree w' x → valid w' x ≡ true → Late w' thread' x
  pub entry : w'.root < summit
  pub room : made' ≤ 128
  pub many : 1 + 3 * routes (cell w) summit ≤ made'
  pub fresh : (x : ℕ) → made' ≤ x → x < summit → w'.own x ≡ unmade

module _ {w w' : World} {thread thread' : ℕ → Thread} {made made' me i : ℕ} {t : Bool} {p z : ℕ} (safe : Safe w thread made)
    (c : Cuts w w' thread thread' made' me i t p z) where
  -- no other thread has what I have
  not_mine : {v x : ℕ} → Other v me → Holds w v x → hold w x ≡ me → ⊥
  not_mine o h e = o.differ (sym h.holds ∙ e)

  stays : (v x : ℕ) → Other v me → Holds w v x → in_tree w x → in_tree w' x
  stays v x o h j = go (amount (count x w'.tree))
    where
      go : Amount (count x w'.tree) → in_tree w' x
      go (some k) = k
      go (none e) = absurd (not_mine o h (c.leaver x j e))

  parent : (v x : ℕ) (s : Bool) (y : ℕ) → Other v me → Holds w v y → (cell w y).route ≡ false → Route (graph w) x → in_tree w x
      → kid s (cell w x) ≡ y → in_tree w' x
  parent v x s y o h b r j e = go (amount (count x w'.tree))
    where
      go : Amount (count x w'.tree) → in_tree w' x
      go (some k) = k
      go (none n) =
          absurd (not_mine o h (rw e at (c.orphan x j n r.route s (ap (λ (n : ℕ). (cell w n).route) e ∙ b)).holds))

  kept_child : (v x : ℕ) (s : Bool) (y : ℕ) → Other v me → Holds w v y → Route (graph w) x → kid s (cell w x) ≡ y → kid s (cell w' x) ≡ y
  kept_child v x s y o h r e = go (child c.slot x s)
    where
      go : Child c.slot x s → kid s (cell w' x) ≡ y
      go (kept k) = k ∙ e
      go (slot _ k _) = absurd (not_mine o h (ap (λ (n : ℕ). hold w n) (sym e ∙ k) ∙ c.holds))

  back : (v x : ℕ) (s : Bool) (y : ℕ) → Other v me → Holds w v y → (cell w y).route ≡ false → Route (graph w') x
      → kid s (cell w' x) ≡ y → Was w x s y
  back v x s y o h b r e = go (c.grown x r.hung) (child c.slot x s)
    where
      go : Grown w w' x → Child c.slot x s → Was w x s y
      go (before u) (kept k) = record { route = record { hung = u; route = sym (slot_route c.slot x) ∙ r.route }; child = sym k ∙ e }
      go (before u) (slot _ _ k) =
          let q : z ≡ y = sym k ∙ e in
          absurd (not_mine o h
          (ap (λ (n : ℕ). hold w n) (sym q)
          ∙ c.content (ap w.own q ∙ h.hung) (ap (λ (n : ℕ). (cell w n).route) q ∙ b)))
      go (lately j n) k = absurd (n r.route s (ap w.own e ∙ h.hung))

  live : (x : ℕ) (s : Bool) (y : ℕ) → Route (graph w) x → in_tree w x → kid s (cell w x) ≡ y → (cell w y).route ≡ false
      → valid w' y ≡ true → in_tree w' y → Keeps w' x s y
  live x s y r j e b f k = go (amount (count x w'.tree)) (child c.slot x s)
    where
      go : Amount (count x w'.tree) → Child c.slot x s → Keeps w' x s y
      go (none n) q =
          absurd (true≢false (sym f ∙ (rw e at (c.orphan x j n r.route s (ap (λ (n : ℕ). (cell w n).route) e ∙ b)).invalid)))
      go (some n) (kept q) = record { above = n; child = q ∙ e }
      go (some n) (slot _ q _) = absurd (omega (arith, c.out, ap (λ (a : ℕ). count a w'.tree) (sym e ∙ q)))

  change : Change w w' me Any (Unit {0})
  change =
      record {
        moves = c.moves;
        good = c.good;
        unhung = λ v x o e.
            record {
              own = c.unhung v x o e;
              cell = c.slot.others x (λ q. omega (arith, c.under, ap w.own q, o.thread));
              keys = c.keeps x;
            };
        held = λ v x o κ h. touched_held v x o κ h (c.touched x h.hung);
        flag = λ v x o f h. touched_flag v x o f h (c.touched x h.hung);
        invalid = λ x h e. touched_invalid x e (c.touched x h);
        stays = stays;
        parent = parent;
        child = kept_child;
        back = back;
        live = live;
      }

  was_in : (x : ℕ) → w.own x ≡ hung → in_tree w' x → in_tree w x
  was_in x h j = go (amount (count x w.tree))
    where
      go : Amount (count x w.tree) → in_tree w x
      go (some k) = k
      go (none e) = absurd (omega (arith, c.moves.gone x h e))

  new_late : (x : ℕ) → w'.own x ≡ hung → out_of_tree w' x → valid w' x ≡ true → Late w' thread' x
  new_late x h o e = go (c.grown x h) (amount (count x w.tree))
    where
      go : Grown w w' x → Amount (count x w.tree) → Late w' thread' x
      go (lately j _) a = absurd (omega arith)
      go (before u) (some j) = c.lateness x j o e
      go (before u) (none n) =
          let l = safe.sound.late x u n (touched_valid x e (c.touched x u)) in
          still_late x u (c.touched x u) l c.threads (λ q. c.phase (rw q at l.phase))

  new_stale : (x : ℕ) → w'.own x ≡ hung → (cell w' x).route ≡ true → out_of_tree w' x → (s : Bool) → (cell w' (kid s (cell w' x))).route ≡ false
      → in_tree w' (kid s (cell w' x)) → valid w' (kid s (cell w' x)) ≡ false
  new_stale x h r o s b j = go (c.grown x h) (amount (count x w.tree))
    where
      go : Grown w w' x → Amount (count x w.tree) → valid w' (kid s (cell w' x)) ≡ false
      go (lately k _) a = absurd (omega arith)
      go (before u) a = rw k (more a)
        where
          k : kid s (cell w' x) ≡ kid s (cell w x)
          k = ap (λ (q : Cell). kid s q) (c.moves.frozen x u o)

          y : ℕ
          y = kid s (cell w x)

          r' : (cell w x).route ≡ true
          r' = sym (slot_route c.slot x) ∙ r

          f : w.own y ≡ hung
          f = safe.sound.good.kids x (record { hung = u; route = r' }) s

          b' : (cell w y).route ≡ false
          b' = sym (slot_route c.slot y) ∙ (rw k at b)

          more : Amount (count x w.tree) → valid w' y ≡ false
          more (some n) = (c.orphan x n o r' s b').invalid
          more (none n) = touched_invalid y (safe.sound.stale x u r' n s b' (was_in y f (rw k at j))) (c.touched y f)

  new_sound : Sound w' thread' made'
  new_sound =
      record {
        good = c.good;
        belongs = c.belongs;
        late = new_late;
        stale = new_stale;
        entry = c.entry;
        room = c.room;
        fresh = c.fresh;
        many = rw (routes_same (cell w) (cell w') summit (λ x l. slot_route c.slot x)) c.many;
      }

  -- the invariant is kept, given the new condition of thread me
  pub cuts : Stage w' me (thread' me) → Safe w' thread' made'
  cuts q = record { sound = new_sound; each = λ v l. go v l (compared v me) }
    where
      go : (v : ℕ) → v ≤ 7 → Same v me → Stage w' v (thread' v)
      go v l (same e) = rw e q
      go v l (apart n) =
          rw (c.threads v n) (others safe.sound.good change v (record { differ = n; thread = l }) (λ x. tt) tt (thread v) (safe.each v l))
