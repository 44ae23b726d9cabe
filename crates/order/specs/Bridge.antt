-- From the state and what a step reads of it to cells.
use Rattle.std.specs.Prelude.{Bool, true, false, not, List, ◌≡◌, refl, ℕ, ◌≤◌, ◌<◌, ltb, get_or, length}
use Rattle.std.proofs.Common.{sym, ap, ◌∙◌, mod-eq_of_lt, arith, get_or-set_same, get_or-set_other, lt-ltb}
use Rattle.rules.specs.State.{zero_place, zero_thread, place_at, thread_at}
use Rattle.rules.specs.Places.{is_route, is_route_body, route_key, route_key_of_body, child_on, child_on_body, child_by}
use Rattle.rules.specs.Rows.{at, rows, row0, plan_of}
use Rattle.rules.specs.Step.{put, apply, view_before, view_of, after}
use Rattle.rules.specs.declared.state.Body.{Body}
use Rattle.rules.specs.declared.state.Body.TheVariants.{Base, Route}
use Rattle.rules.specs.declared.state.Place.{Place}
use Rattle.rules.specs.declared.state.State.{State}
use Rattle.rules.specs.declared.row.Plan.{Plan}
use Rattle.states.specs.Phase.{row_at}
use Rattle.graph.specs.Walk.{Cell, kid, by, next}
use Rattle.graph.specs.Tree.{Tree}
use Rattle.graph.specs.Graph.{summit}
use Rattle.order.specs.World.{cell_of_body, cell, cell_node, cell-summit, world_of}

pub place_at_lem : (s : State) (x : ℕ) → x < summit → place_at s x ≡ get_or s.places x zero_place
unfolding place_at
place_at_lem s x l = rw (mod-eq_of_lt l)

route_body : (b : Body) → (cell_of_body b).route ≡ is_route_body b
route_body (Base ks) = refl
route_body (Route k l r) = refl

key_body : (b : Body) → (cell_of_body b).key ≡ route_key_of_body b
key_body (Base ks) = refl
key_body (Route k l r) = refl

kid_body : (w : Bool) (b : Body) → kid w (cell_of_body b) ≡ child_on_body w b
kid_body true (Base ks) = refl
kid_body false (Base ks) = refl
kid_body w (Route k l r) = refl

module _ (s : State) (t : Tree) (own : ℕ → ℕ) where
  at_node : (x : ℕ) → x < summit → cell (world_of s t own) x ≡ cell_of_body (place_at s x).body
  at_node x l =
      cell_node s.root (λ y. get_or s.places y zero_place) x (λ e. omega arith)
      ∙ ap (λ (p : Place). cell_of_body p.body) (sym (place_at_lem s x l))

  -- the kind, the key and the children of a node as a step reads them
  pub reads_route : (x : ℕ) → x < summit → is_route (place_at s x) ≡ (cell (world_of s t own) x).route
  reads_route x l = sym (ap (λ (c : Cell). c.route) (at_node x l) ∙ route_body (place_at s x).body)

  pub reads_key : (x : ℕ) → x < summit → route_key (place_at s x) ≡ (cell (world_of s t own) x).key
  reads_key x l = sym (ap (λ (c : Cell). c.key) (at_node x l) ∙ key_body (place_at s x).body)

  pub reads_kid : (w : Bool) (x : ℕ) → x < summit → child_on w (place_at s x) ≡ kid w (cell (world_of s t own) x)
  reads_kid w x l = sym (ap (λ (c : Cell). kid w c) (at_node x l) ∙ kid_body w (place_at s x).body)

  pub reads_next : (k x : ℕ) → x < summit → child_by k (place_at s x) ≡ next (cell (world_of s t own)) (by k) x
  reads_next k x l =
      reads_kid (not (ltb k (route_key (place_at s x)))) x l
      ∙ ap (λ (q : ℕ). kid (not (ltb k q)) (cell (world_of s t own) x)) (reads_key x l)

  -- every key goes left at the summit
  pub summit-next : (k : ℕ) → k < 64 → next (cell (world_of s t own)) (by k) summit ≡ s.root
  summit-next k l = rw (cell-summit s.root (λ x. get_or s.places x zero_place), lt-ltb k 64 l)

-- ---- threads and places after a step

pub thread_me : (s : State) (me : ℕ) (p : Plan) → length s.threads ≡ 8 → me ≤ 7 → thread_at (apply s me p) me ≡ p.thread
unfolding thread_at apply
thread_me s me p e l = get_or-set_same s.threads me p.thread zero_thread (omega arith)

pub thread_other : (s : State) (me : ℕ) (p : Plan) (v : ℕ) → (v ≡ me → ⊥) → thread_at (apply s me p) v ≡ thread_at s v
unfolding thread_at apply
thread_other s me p v n = get_or-set_other s.threads me v p.thread zero_thread n

-- the registers of a thread after its step, by its plan and by its row
pub thread_after : (s : State) (me : ℕ) → length s.threads ≡ 8 → me ≤ 7 → thread_at (after s me) me ≡ (plan_of (view_of s me)).thread
unfolding after
thread_after s me e l = thread_me s me (plan_of (view_of s me)) e l

pub thread_row : (s : State) (me : ℕ) → length s.threads ≡ 8 → me ≤ 7 → (n : ℕ) → (thread_at s me).phase ≡ n
    → thread_at (after s me) me ≡ (get_or rows n row0 (view_of s me)).thread
unfolding view_of view_before
thread_row s me e l n q = thread_after s me e l ∙ ap (λ (p : Plan). p.thread) (row_at (view_of s me) n q)

pub put_new : (ps : List Place) (n : ℕ) (p : Place) → length ps ≡ 128 → n < summit → get_or (put (at n p) ps) n zero_place ≡ p
unfolding put
put_new ps n p e l = get_or-set_same ps n p zero_place (omega arith)

pub put_old : (ps : List Place) (n : ℕ) (p : Place) (x : ℕ) → (x ≡ n → ⊥) → get_or (put (at n p) ps) x zero_place ≡ get_or ps x zero_place
unfolding put
put_old ps n p x h = get_or-set_other ps n x p zero_place h
