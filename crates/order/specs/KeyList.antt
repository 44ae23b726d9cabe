-- The walk that lists keys meets no node twice, and lists the keys of the bases of the tree.
use Rattle.std.specs.Prelude.{Bool, ◌||◌, List, ◌≡◌, get_or, length}
use Rattle.std.proofs.Math.Bool.{true, false}
use Rattle.std.proofs.Common.{true≢false, sym, ◌∙◌, mod-eq_of_lt, get_or-set_same, get_or-set_other}
use Rattle.std.proofs.Math.Path.{refl, ap, subst}
use Prim.Native.Nat.{ℕ, zero, suc, ◌+◌, ◌%◌, ◌≤◌, ◌<◌}
use native.Mathlib.Omega.{arith}
use Rattle.std.proofs.Math.ListN.{length-set, get_or-replicate, get_or-eq_default}
use Rattle.keys.specs.Keys.{has}
use Rattle.keys.proofs.Laws.{has-union, has-none}
use Rattle.rules.specs.State.{zero_place, thread_at}
use Rattle.rules.specs.Places.{keys_of_body}
use Rattle.rules.specs.List.{unmet, meets, lists, gather, reached}
use Rattle.rules.specs.declared.state.Body.{Body}
use Rattle.rules.specs.declared.state.Body.TheVariants.{Base, Route}
use Rattle.rules.specs.declared.state.Place.{Place}
use Rattle.rules.specs.declared.state.State.{State}
use Rattle.rules.specs.declared.list.Met.{Met}
use Rattle.states.specs.Lists.{each_replicate}
use Rattle.states.specs.Gather.{entering, enters}
use Rattle.graph.specs.Cases.{is, Same, same, apart, compared, is_same, is_some}
use Rattle.graph.specs.Walk.{Cell, kid}
use Rattle.graph.specs.Tree.{Tree, tip, fork, label, count, Shape, leaf, branch, Once, label_in, tip_count, Stands, top, in_l, in_r, stands}
use Rattle.graph.specs.Graph.{summit, Good}
use Rattle.order.specs.World.{cell_of_body, crown, cell_node, cell-summit, World, graph, cell, keys, in_tree, world_of, Sound}
use Rattle.order.specs.Invariant.{Invariant}

-- j is a key of a base of the tree
unfoldable pub keys_in : (ℕ → ℕ) → Tree → ℕ → Bool
keys_in ks (tip n) j = has (ks n) j
keys_in ks (fork n l r) j = keys_in ks l j || keys_in ks r j

-- met for the first time
entered : (d : ℕ) (ps : List Place) (n : ℕ) (m : Met) (c : Body) → n < summit → m.twice ≡ false → get_or m.seen n false ≡ false
    → (get_or ps n zero_place).body ≡ c → gather (suc d) ps n m ≡ entering d ps n m false false c
entered d ps n m c l a b e =
    let q = mod-eq_of_lt l in
    enters d ps n m ∙ ap (λ (x : Bool). entering d ps n m x (get_or m.seen (n % 128) false) (get_or ps (n % 128) zero_place).body) a
    ∙ ap (λ (x : Bool). entering d ps n m false x (get_or ps (n % 128) zero_place).body) (ap (λ (y : ℕ). get_or m.seen y false) q ∙ b)
    ∙ ap (λ (x : Body). entering d ps n m false false x) (ap (λ (y : ℕ). (get_or ps y zero_place).body) q ∙ e)

-- what a walk over the tree t has done
record Gathered (ks : ℕ → ℕ) (t : Tree) (m m' : Met) : Type 0 where
  twice : m'.twice ≡ false
  room : length m'.seen ≡ 128
  others : (x : ℕ) → count x t ≡ 0 → get_or m'.seen x false ≡ get_or m.seen x false
  met : (x : ℕ) → 1 ≤ count x t → get_or m'.seen x false ≡ true
  listed : (j : ℕ) → has m'.keys j ≡ (has m.keys j || keys_in ks t j)

-- what it needs
record Ready (t : Tree) (m : Met) : Type 0 where
  twice : m.twice ≡ false
  room : length m.seen ≡ 128
  unseen : (x : ℕ) → 1 ≤ count x t → get_or m.seen x false ≡ false

or_assoc : (a b c : Bool) → ((a || b) || c) ≡ (a || (b || c))
or_assoc true b c = refl
or_assoc false b c = refl

-- a node is met
met_seen : (n : ℕ) (m : Met) (x : ℕ) → n < summit → (x ≡ n → ⊥) → get_or (meets (n % 128) m).seen x false ≡ get_or m.seen x false
unfolding meets
met_seen n m x l h = get_or-set_other m.seen (n % 128) x true false (λ e. h (e ∙ mod-eq_of_lt l))

met_now : (n : ℕ) (m : Met) (x : ℕ) → n < summit → length m.seen ≡ 128 → x ≡ n → get_or (meets (n % 128) m).seen x false ≡ true
unfolding meets
met_now n m x l r e =
    rw (e, mod-eq_of_lt l) (get_or-set_same m.seen n true false (omega (arith, r)))

-- the walk goes deep enough: numbers of routes rise on the way down
record Deep (w : World) (d : ℕ) (t : Tree) : Type 0 where
  some : 1 ≤ d
  enough : (cell w (label t)).route ≡ true → 129 ≤ d + label t

module _ (w : World) (ps : List Place) (at : (x : ℕ) → w.place x ≡ get_or ps x zero_place)
    (rises : (x : ℕ) → in_tree w x → (cell w x).route ≡ true → x < summit → (s : Bool) → (cell w (kid s (cell w x))).route ≡ true → x < kid s (cell w x)) where
  body_of : (n : ℕ) → n < summit → cell w n ≡ cell_of_body (get_or ps n zero_place).body
  body_of n l = cell_node w.root w.place n (λ e. omega arith) ∙ ap (λ (p : Place). cell_of_body p.body) (at n)

  at_base : (n d : ℕ) (m : Met) → n < summit → (cell w n).route ≡ false → Ready (tip n) m → Gathered (keys w) (tip n) m (gather (suc d) ps n m)
  unfolding entering meets lists keys_in
  at_base n d m l b q = go (get_or ps n zero_place).body refl
    where
      go : (c : Body) → (get_or ps n zero_place).body ≡ c → Gathered (keys w) (tip n) m (gather (suc d) ps n m)
      go (Route k x y) e = absurd (true≢false (sym (ap (λ (c : Cell). c.route) (body_of n l) ∙ ap (λ (c : Body). (cell_of_body c).route) e) ∙ b))
      go (Base ks) e =
          rw (entered d ps n m (Base ks) l q.twice (q.unseen n (label_in (tip n))) e)
          (record {
            twice = q.twice;
            room = length-set m.seen (n % 128) true ∙ q.room;
            others = λ x o. met_seen n m x l (λ z. omega (arith, is_same z));
            met = λ x o. met_now n m x l q.room (is_some o);
            listed = λ j.
                has-union m.keys ks j
                ∙ ap (λ (c : Body). has m.keys j || has (keys_of_body c) j) (sym (ap (λ (p : Place). p.body) (at n) ∙ e));
          })

  gathers : {t : Tree} → Shape (cell w) t → ((x : ℕ) → 1 ≤ count x t → (x < summit) × in_tree w x) → Once t → (d : ℕ) → Deep w d t → (m : Met) → Ready t m
      → Gathered (keys w) t m (gather d ps (label t) m)
  unfolding entering meets keys_in
  gathers (leaf {n} b) i o zero p m q = absurd (omega (arith, p.some))
  gathers (leaf {n} b) i o (suc d) p m q = at_base n d m (i n (label_in (tip n))).0 b q
  gathers (branch {n} {l} {r} f a b) i o zero p m q = absurd (omega (arith, p.some))
  gathers (branch {n} {l} {r} f a b) i o (suc d) p m q =
      go (get_or ps n zero_place).body refl (λ u. gathers a (λ x j. i x (omega arith)) (λ y. omega (arith, o y)) d deep_l (meets (n % 128) m) u)
      (λ k u. gathers b (λ x j. i x (omega arith)) (λ y. omega (arith, o y)) d deep_r k u)
    where
      here_in : 1 ≤ count n (fork n l r)
      here_in = label_in (fork n l r)

      small : n < summit
      small = (i n here_in).0

      rise : (s : Bool) {x : ℕ} → kid s (cell w n) ≡ x → (cell w x).route ≡ true → n < x
      rise s e t = rw e at (rises n (i n here_in).1 f.route small s (rw e t))

      deep : 129 ≤ suc d + n
      deep = p.enough f.route

      deep_l : Deep w d l
      deep_l = record { some = omega (arith, deep, small); enough = λ t. omega (arith, deep, rise false f.left t) }

      deep_r : Deep w d r
      deep_r = record { some = omega (arith, deep, small); enough = λ t. omega (arith, deep, rise true f.right t) }

      n_left : (x : ℕ) → 1 ≤ count x l → x ≡ n → ⊥
      n_left x j e = omega (arith, o x, is_same e)

      n_right : (x : ℕ) → 1 ≤ count x r → x ≡ n → ⊥
      n_right x j e = omega (arith, o x, is_same e)

      ready_l : Ready l (meets (n % 128) m)
      ready_l =
          record {
            twice = q.twice;
            room = length-set m.seen (n % 128) true ∙ q.room;
            unseen = λ x j. met_seen n m x small (n_left x j) ∙ q.unseen x (omega arith);
          }

      met_in : (z : ℕ) {k k' : Met} → Stands z n l r → Gathered (keys w) l (meets (n % 128) m) k → Gathered (keys w) r k k'
          → get_or k'.seen z false ≡ true
      met_in z (top e) x y =
          y.others z (omega (arith, o z, is_same e)) ∙ x.others z (omega (arith, o z, is_same e)) ∙ met_now n m z small q.room e
      met_in z (in_l j) x y = y.others z (omega (arith, o z)) ∙ x.met z j
      met_in z (in_r j) x y = y.met z j

      go : (c : Body) → (get_or ps n zero_place).body ≡ c → (Ready l (meets (n % 128) m) → Gathered (keys w) l (meets (n % 128) m) (gather d ps (label l) (meets (n % 128) m)))
          → ((k : Met) → Ready r k → Gathered (keys w) r k (gather d ps (label r) k)) → Gathered (keys w) (fork n l r) m (gather (suc d) ps n m)
      go (Base ks) e left right =
          absurd (true≢false (sym f.route ∙ ap (λ (c : Cell). c.route) (body_of n small) ∙ ap (λ (c : Body). (cell_of_body c).route) e))
      go (Route k x y) e left right =
          let to_l : x ≡ label l = sym (ap (λ (c : Cell). c.left) (body_of n small) ∙ ap (λ (c : Body). (cell_of_body c).left) e) ∙ f.left in
          let to_r : y ≡ label r = sym (ap (λ (c : Cell). c.right) (body_of n small) ∙ ap (λ (c : Body). (cell_of_body c).right) e) ∙ f.right in
          let m1 = meets (n % 128) m in
          let g_l = left ready_l in
          let m2 = gather d ps (label l) m1 in
          let g_r =
          right m2
          (record {
            twice = g_l.twice;
            room = g_l.room;
            unseen = λ z j.
                g_l.others z (omega (arith, o z)) ∙ met_seen n m z small (n_right z j) ∙ q.unseen z (omega arith);
          }) in
          rw (entered d ps n m (Route k x y) small q.twice (q.unseen n here_in) e, to_l, to_r)
          (record {
            twice = g_r.twice;
            room = g_r.room;
            others = λ z j.
                g_r.others z (omega arith) ∙ g_l.others z (omega arith) ∙ met_seen n m z small (λ v. omega (arith, is_same v));
            met = λ z j. met_in z (stands j) g_l g_r;
            listed = λ j.
                g_r.listed j ∙ ap (λ (v : Bool). v || keys_in (keys w) r j) (g_l.listed j)
                ∙ or_assoc (has m.keys j) (keys_in (keys w) l j) (keys_in (keys w) r j);
          })

-- the nodes below a node are nodes
all_small : (w : World) → Good (graph w) → {t : Tree} → Shape (cell w) t → label t < summit → ((x : ℕ) → 1 ≤ count x t → in_tree w x) → (x : ℕ)
    → 1 ≤ count x t → x < summit
all_small w good (leaf s) l i x j = rw (is_some j) l
all_small w good (branch {n} {l = a} {r = b} f p q) m i x j =
    go (stands j) (all_small w good p (kid_small false f.left) (λ y k. i y (omega arith)) x)
    (all_small w good q (kid_small true f.right) (λ y k. i y (omega arith)) x)
  where
    kid_small : (s : Bool) {y : ℕ} → kid s (cell w n) ≡ y → y < summit
    kid_small s e =
        rw e at (good.small n (record { hung = good.grown n (i n (label_in (fork n a b))); route = f.route }) m s)

    go : Stands x n a b → (1 ≤ count x a → x < summit) → (1 ≤ count x b → x < summit) → x < summit
    go (top e) y z = rw e m
    go (in_l k) y z = y k
    go (in_r k) y z = z k

-- the tree under the summit
pub record Root (w : World) : Type 0 where
  pub rest : Tree
  pub shape : Shape (cell w) rest
  pub head : label rest ≡ w.root
  pub inside : (x : ℕ) → count x w.tree ≡ is x summit + count x rest + is x 129

root_of : {w : World} → Good (graph w) → (cell w 129).route ≡ false → Root w
root_of {w} good last = go good.shape good.head (λ x. refl)
  where
    c : cell w summit ≡ crown w.root
    c = cell-summit w.root w.place

    go : {t : Tree} → Shape (cell w) t → label t ≡ summit → ((x : ℕ) → count x w.tree ≡ count x t) → Root w
    go (leaf {n} s) e k = absurd (true≢false (sym (ap (λ (a : Cell). a.route) c) ∙ ap (λ (m : ℕ). (cell w m).route) (sym e) ∙ s))
    go (branch {n} {l} {r} f a b) e k =
        let q : label r ≡ 129 = sym f.right ∙ ap (λ (m : ℕ). (cell w m).right) e ∙ ap (λ (d : Cell). d.right) c in
        record {
          rest = l;
          shape = a;
          head = sym f.left ∙ ap (λ (m : ℕ). (cell w m).left) e ∙ ap (λ (d : Cell). d.left) c;
          inside = λ x.
              omega (
                arith,
                k x,
                ap (λ (m : ℕ). is x m) e,
                tip_count b (ap (λ (m : ℕ). (cell w m).route) q ∙ last) x,
                ap (λ (m : ℕ). is x m) q,
              );
        }

module _ {s : State} (i : Invariant s) where
  abbrev w : World
  w = world_of s i.nodes.tree i.nodes.own

  sound : Sound (world_of s i.nodes.tree i.nodes.own) (thread_at s) s.made
  sound = i.nodes.safe.sound

  last : (cell w 129).route ≡ false
  last =
      ap (λ (c : Cell). c.route)
      (cell_node w.root w.place 129 (λ e. omega arith)
      ∙ ap (λ (p : Place). cell_of_body p.body) (get_or-eq_default s.places zero_place {n = 129} (omega (arith, i.places))))

  pub root_tree : Root w
  root_tree = root_of sound.good last

  inner : (x : ℕ) → 1 ≤ count x root_tree.rest → in_tree w x
  inner x j = omega (arith, root_tree.inside x)

  pub rest_small : (x : ℕ) → 1 ≤ count x root_tree.rest → x < summit
  rest_small x j = all_small w sound.good root_tree.shape (rw root_tree.head sound.entry) inner x j

  walked : Gathered (keys w) root_tree.rest unmet (reached s)
  unfolding reached unmet
  walked =
      subst (λ (n : ℕ). Gathered (keys w) root_tree.rest unmet (gather 129 s.places n unmet)) root_tree.head
      (gathers w s.places (λ x. refl)
      (λ x j r l k q. sound.good.rises x (record { hung = sound.good.grown x j; route = r }) l k q) root_tree.shape
      (λ x j. (rest_small x j, inner x j))
      (λ y. omega (arith, sound.good.once y, root_tree.inside y)) 129 (record { some = omega arith; enough = λ r. omega arith }) unmet
      (record { twice = refl; room = refl; unseen = λ x j. get_or-replicate 128 x false false (rest_small x j) }))

  -- the walk that lists keys meets no node twice
  pub reached_once : (reached s).twice ≡ false
  reached_once = walked.twice

  -- it lists the keys of the bases of the tree
  pub reached-keys : (j : ℕ) → has (reached s).keys j ≡ keys_in (keys w) root_tree.rest j
  unfolding unmet
  reached-keys j = walked.listed j ∙ ap (λ (b : Bool). b || keys_in (keys w) root_tree.rest j) (has-none j)

  -- it meets the nodes of the tree and no others
  pub reached_met : (x : ℕ) → 1 ≤ count x root_tree.rest → get_or (reached s).seen x false ≡ true
  reached_met x j = walked.met x j

  pub reached-only : (x : ℕ) → get_or (reached s).seen x false ≡ true → 1 ≤ count x root_tree.rest
  unfolding unmet
  reached-only x e = go (compared (count x root_tree.rest) 0)
    where
      go : Same (count x root_tree.rest) 0 → 1 ≤ count x root_tree.rest
      go (same z) = absurd (true≢false (sym e ∙ walked.others x z ∙ each_replicate (λ (b : Bool). b ≡ false) refl refl 128 x))
      go (apart n) = omega arith
