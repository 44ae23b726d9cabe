-- Steps that leave the tree alone: of registers, locks, statistics, flags and keys, and those that make nodes.
use Rattle.std.specs.Prelude.{Bool, true, false, ◌≡◌, refl, ℕ, ◌+◌, ◌*◌, ◌≤◌, ◌<◌}
use Rattle.std.proofs.Common.{true≢false, sym, ap, ◌∙◌, arith}
use Rattle.rules.specs.declared.state.Thread.{Thread}
use Rattle.graph.specs.Cases.{Same, same, apart, compared}
use Rattle.graph.specs.Walk.{Cell, kid}
use Rattle.graph.specs.Count.{routes}
use Rattle.graph.specs.Graph.{summit, hung, unmade, Good, Belongs, Makes, hung_made, makes_good, makes_moves}
use Rattle.order.specs.World.{World, graph, cell, valid, hold, keys, in_tree, out_of_tree, Late, Sound}
use Rattle.order.specs.Stages.{Stage}
use Rattle.order.specs.Change.{Other, Holds, Kept, Change}
use Rattle.order.specs.Others.{others}

-- the invariant: of the nodes, and of each thread by its phase
pub record Safe (w : World) (thread : ℕ → Thread) (made : ℕ) : Type 0 where
  pub sound : Sound w thread made
  pub each : (t : ℕ) → t ≤ 7 → Stage w t (thread t)

-- every lock is kept but for those of me
abbrev pub Any : ℕ → Type 0
Any x = Unit {0}

-- a hung node is as it was in lock, flag and keys; or nobody but me holds it whose lock is kept, and it does not become valid; or its flag falls
pub data Touched (w w' : World) (me : ℕ) (K : ℕ → Type 0) (F : Type 0) (x : ℕ) : Type 0 where
  as_was : hold w' x ≡ hold w x → valid w' x ≡ valid w x → keys w' x ≡ keys w x → Touched w w' me K F x
  by_me : ((v : ℕ) → Other v me → hold w x ≡ v → ⊥) → (valid w x ≡ false → valid w' x ≡ false) → Touched w w' me K F x
  let_go : (K x → ⊥) → valid w' x ≡ valid w x → Touched w w' me K F x
  falls : (F → ⊥) → hold w' x ≡ hold w x → keys w' x ≡ keys w x → valid w' x ≡ false → Touched w w' me K F x

module _ {w w' : World} {me : ℕ} {K : ℕ → Type 0} {F : Type 0} where
  pub touched_held : (v x : ℕ) → Other v me → K x → Holds w v x → Touched w w' me K F x → Kept w w' v x
  touched_held v x o κ h (as_was a b c) = record { holds = a ∙ h.holds; keys = c }
  touched_held v x o κ h (by_me n f) = absurd (n v o h.holds)
  touched_held v x o κ h (let_go n f) = absurd (n κ)
  touched_held v x o κ h (falls n a c f) = record { holds = a ∙ h.holds; keys = c }

  pub touched_flag : (v x : ℕ) → Other v me → F → Holds w v x → Touched w w' me K F x → valid w' x ≡ valid w x
  touched_flag v x o f h (as_was a b c) = b
  touched_flag v x o f h (by_me n b) = absurd (n v o h.holds)
  touched_flag v x o f h (let_go n b) = b
  touched_flag v x o f h (falls n a c b) = absurd (n f)

  pub touched_invalid : (x : ℕ) → valid w x ≡ false → Touched w w' me K F x → valid w' x ≡ false
  touched_invalid x e (as_was a b c) = b ∙ e
  touched_invalid x e (by_me n f) = f e
  touched_invalid x e (let_go n b) = b ∙ e
  touched_invalid x e (falls n a c b) = b

  -- what is valid was valid
  pub touched_valid : (x : ℕ) → valid w' x ≡ true → Touched w w' me K F x → valid w x ≡ true
  touched_valid x e t = go (valid w x) refl
    where
      go : (b : Bool) → valid w x ≡ b → b ≡ true
      go true q = refl
      go false q = absurd (true≢false (sym e ∙ touched_invalid x q t))

-- a thread other than me has what it has by its registers still
pub still_late : {w w' : World} {me : ℕ} {thread thread' : ℕ → Thread} (x : ℕ) → w.own x ≡ hung → Touched w w' me Any (Unit {0}) x → Late w thread x
    → ((v : ℕ) → (v ≡ me → ⊥) → thread' v ≡ thread v) → (hold w x ≡ me → ⊥) → Late w' thread' x
still_late {w} x h t l s n =
    let k = touched_held (hold w x) x (record { differ = n; thread = l.holder }) tt (record { hung = h; holds = refl }) t in
    let e = k.holds in
    record {
      holder = rw e l.holder;
      phase = rw (e, s (hold w x) n) l.phase;
      base = rw (e, s (hold w x) n) l.base;
    }

-- the nodes change so
pub record Calm (w w' : World) (me : ℕ) (K : ℕ → Type 0) (F : Type 0) : Type 0 where
  pub tree : w'.tree ≡ w.tree
  pub makes : Makes (graph w) (cell w') w'.own
  pub touched : (x : ℕ) → w.own x ≡ hung → Touched w w' me K F x
  pub unhung : (v x : ℕ) → Other v me → w.own x ≡ v → keys w' x ≡ keys w x

module _ {w w' : World} {me : ℕ} {K : ℕ → Type 0} {F : Type 0} (good : Good (graph w)) (s : Calm w w' me K F) where
  pub same_in : (x : ℕ) → in_tree w x → in_tree w' x
  same_in x i = rw s.tree i

  pub same_cell : (x : ℕ) → w.own x ≡ hung → cell w' x ≡ cell w x
  same_cell x h = s.makes.cells x (hung_made h)

  pub same_kid : (x : ℕ) → w.own x ≡ hung → (t : Bool) → kid t (cell w' x) ≡ kid t (cell w x)
  same_kid x h t = ap (λ (c : Cell). kid t c) (same_cell x h)

  pub new_good : Good (graph w')
  new_good = rw s.tree (makes_good good s.makes)

  pub calm : Change w w' me K F
  calm =
      record {
        moves = rw s.tree (makes_moves good s.makes);
        good = new_good;
        unhung = λ v x o e.
            let n : w.own x ≡ unmade → ⊥ = λ u. omega (arith, o.thread) in
            record { own = s.makes.owns x n ∙ e; cell = s.makes.cells x n; keys = s.unhung v x o e };
        held = λ v x o κ h. touched_held v x o κ h (s.touched x h.hung);
        flag = λ v x o f h. touched_flag v x o f h (s.touched x h.hung);
        invalid = λ x h e. touched_invalid x e (s.touched x h);
        stays = λ v x o h i. same_in x i;
        parent = λ v x t z o h b r i e. same_in x i;
        child = λ v x t z o h r e. same_kid x r.hung t ∙ e;
        back = λ v x t z o h b r e.
            let u = s.makes.loose x r.hung in
            record {
              route = record { hung = u; route = ap (λ (c : Cell). c.route) (sym (same_cell x u)) ∙ r.route };
              child = sym (same_kid x u t) ∙ e;
            };
        live = λ x t z r i e b y j. record { above = same_in x i; child = same_kid x r.hung t ∙ e };
      }

-- the step of thread me
pub record Steady (w w' : World) (thread thread' : ℕ → Thread) (made' : ℕ) (me : ℕ) : Type 0 where
  pub calm : Calm w w' me Any (Unit {0})
  pub threads : (v : ℕ) → (v ≡ me → ⊥) → thread' v ≡ thread v
  -- the step at phase 8 makes its base invalid
  pub retires : (thread me).phase ≡ 8 → valid w' (thread me).base ≡ false
  pub belongs : Belongs (graph w') (keys w')
  pub entry : w'.root < summit
  pub room : made' ≤ 128
  pub fresh : (x : ℕ) → made' ≤ x → x < summit → w'.own x ≡ unmade
  pub many : 1 + 3 * routes (cell w') summit ≤ made'

module _ {w w' : World} {thread thread' : ℕ → Thread} {made made' me : ℕ} (safe : Safe w thread made) (s : Steady w w' thread thread' made' me) where
  good : Good (graph w)
  good = safe.sound.good

  was_in : (x : ℕ) → in_tree w' x → in_tree w x
  was_in x i = rw s.calm.tree at i

  was_out : (x : ℕ) → out_of_tree w' x → out_of_tree w x
  was_out x o = rw s.calm.tree at o

  new_late : (x : ℕ) → w'.own x ≡ hung → out_of_tree w' x → valid w' x ≡ true → Late w' thread' x
  new_late x h o e = go (compared (hold w x) me)
    where
      u : w.own x ≡ hung
      u = s.calm.makes.loose x h

      l : Late w thread x
      l = safe.sound.late x u (was_out x o) (touched_valid x e (s.calm.touched x u))

      go : Same (hold w x) me → Late w' thread' x
      go (same q) =
          let r = s.retires (rw q at l.phase) in absurd (true≢false (sym e ∙ (rw (rw q at l.base) at r)))
      go (apart n) = still_late x u (s.calm.touched x u) l s.threads n

  new_sound : Sound w' thread' made'
  new_sound =
      record {
        good = new_good good s.calm;
        belongs = s.belongs;
        late = new_late;
        stale = λ x h r o t b i.
            let u = s.calm.makes.loose x h in
            let k = same_kid good s.calm x u t in
            let f : w.own (kid t (cell w x)) ≡ hung =
            safe.sound.good.kids x (record { hung = u; route = ap (λ (c : Cell). c.route) (sym (same_cell good s.calm x u)) ∙ r }) t in
            rw k
            (touched_invalid (kid t (cell w x))
            (safe.sound.stale x u (ap (λ (c : Cell). c.route) (sym (same_cell good s.calm x u)) ∙ r) (was_out x o) t
            (ap (λ (c : Cell). c.route) (sym (same_cell good s.calm (kid t (cell w x)) f)) ∙ (rw k at b)) (was_in (kid t (cell w x)) (rw k at i)))
            (s.calm.touched (kid t (cell w x)) f));
        entry = s.entry;
        room = s.room;
        fresh = s.fresh;
        many = s.many;
      }

  -- the invariant is kept, given the new condition of thread me
  pub steady : Stage w' me (thread' me) → Safe w' thread' made'
  steady c = record { sound = new_sound; each = λ t l. go t l (compared t me) }
    where
      go : (t : ℕ) → t ≤ 7 → Same t me → Stage w' t (thread' t)
      go t l (same e) = rw e c
      go t l (apart n) = rw (s.threads t n) (others good (calm good s.calm) t (record { differ = n; thread = l }) (λ x. tt) tt (thread t) (safe.each t l))
