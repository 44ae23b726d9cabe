-- Cells and walks. "Child by key k is left if k < route key, else right."
use Rattle.std.specs.Prelude.{Bool, true, false, cond, not, ◌≡◌, refl, ℕ, ltb, eqb}
use Rattle.std.proofs.Common.{true≢false, sym, ap, ◌∙◌}

-- what a walk sees of a node: whether it is a route, and then its key and children
pub record Cell : Type 0 where
  pub route : Bool
  pub key : ℕ
  pub left : ℕ
  pub right : ℕ

-- the child on a side: true is right
abbrev pub kid : Bool → Cell → ℕ
kid w c = cond w c.right c.left

-- a direction: the side that it takes at a node with a key
abbrev pub Direction : Type 0
Direction = ℕ → ℕ → Bool

-- by key k
abbrev pub by : ℕ → Direction
by k x q = not (ltb k q)

-- at the node p to the side v, from then on to the other side
abbrev pub along : ℕ → Bool → Direction
along p v x q = cond (eqb x p) v (not v)

-- the child that direction d takes at x
abbrev pub next : (ℕ → Cell) → Direction → ℕ → ℕ
next g d x = kid (d x (g x).key) (g x)

-- from x, turning by d at each route, one meets y
pub data Walk (g : ℕ → Cell) (d : Direction) : ℕ → ℕ → Type 0 where
  here : {x y : ℕ} → x ≡ y → Walk g d x y
  step : (x : ℕ) {z y : ℕ} → Walk g d z y → (g x).route ≡ true → next g d x ≡ z → Walk g d x y

-- a walk from an equal number
pub walk_from : {g : ℕ → Cell} {d : Direction} {a x y : ℕ} → a ≡ x → Walk g d x y → Walk g d a y
walk_from e w = rw e w

-- one walk after another
pub walk_join : {g : ℕ → Cell} {d : Direction} {x y z : ℕ} → Walk g d x y → Walk g d y z → Walk g d x z
walk_join (here e) w = walk_from e w
walk_join (step x u r n) w = step x (walk_join u w) r n

-- one more step
pub walk_on : {g : ℕ → Cell} {d : Direction} {x y z : ℕ} → Walk g d x y → (g y).route ≡ true → next g d y ≡ z → Walk g d x z
walk_on {y = y} w r n = walk_join w (step y (here n) r refl)

-- what a walk does that ends elsewhere than it starts
pub record First (g : ℕ → Cell) (d : Direction) (x y : ℕ) : Type 0 where
  pub route : (g x).route ≡ true
  pub rest : Walk g d (next g d x) y

pub first : {g : ℕ → Cell} {d : Direction} {x y : ℕ} → Walk g d x y → (x ≡ y → ⊥) → First g d x y
first (here e) h = absurd (h e)
first (step x w r n) h = record { route = r; rest = walk_from n w }

-- a walk from a base ends there
pub walk_stops : {g : ℕ → Cell} {d : Direction} {x y : ℕ} → Walk g d x y → (g x).route ≡ false → x ≡ y
walk_stops (here e) b = e
walk_stops (step x w r n) b = absurd (true≢false (sym r ∙ b))

-- two walks from one node by one direction that end at bases end at the same
pub walks_meet : {g : ℕ → Cell} {d : Direction} {x y z : ℕ} → Walk g d x y → Walk g d x z → (g y).route ≡ false → (g z).route ≡ false → y ≡ z
walks_meet {g} (here e) v b c = sym e ∙ walk_stops v (ap (λ (n : ℕ). (g n).route) e ∙ b)
walks_meet (step x w r n) v b c = walks_meet w (walk_from (sym n) (first v (λ e. true≢false (sym r ∙ cc))).rest) b c

-- a walk that turns alike by another direction
pub walk_turn : {g : ℕ → Cell} (d : Direction) {e : Direction} {x y : ℕ} → Walk g d x y
    → ((r : ℕ) → Walk g d x r → Walk g d r y → (g r).route ≡ true → d r (g r).key ≡ e r (g r).key) → Walk g e x y
walk_turn d (here p) h = here p
walk_turn {g} d {e} (step x w r n) h =
    step x (walk_turn d w (λ q u v s. h q (step x u r n) v s)) r (ap (λ (b : Bool). kid b (g x)) (sym (h x (here refl) (step x w r n) r)) ∙ n)

-- a walk where the cells of routes are as before
pub walk_same : {g g' : ℕ → Cell} {d : Direction} {x y : ℕ} → ((r : ℕ) → (g r).route ≡ true → g' r ≡ g r) → Walk g d x y → Walk g' d x y
walk_same h (here e) = here e
walk_same {g} {g'} {d} h (step x w r n) =
    step x (walk_same h w) (ap (λ (c : Cell). c.route) (h x r) ∙ r) (ap (λ (c : Cell). kid (d x c.key) c) (h x r) ∙ n)

-- y is met from x, going both ways
pub data Below (g : ℕ → Cell) : ℕ → ℕ → Type 0 where
  itself : {x y : ℕ} → x ≡ y → Below g x y
  down : (x : ℕ) (w : Bool) {y : ℕ} → Below g (kid w (g x)) y → (g x).route ≡ true → Below g x y

-- what is below an equal node
pub below-from : {g : ℕ → Cell} {a x y : ℕ} → a ≡ x → Below g x y → Below g a y
below-from e b = rw e b

pub walk_below : {g : ℕ → Cell} {d : Direction} {x y : ℕ} → Walk g d x y → Below g x y
walk_below (here e) = itself e
walk_below {g} {d} (step x w r n) = down x (d x (g x).key) (below-from n (walk_below w)) r
