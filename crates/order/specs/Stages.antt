-- What holds of a thread, by its phase. P is prev, B base, N neighbour, G grandparent, M the made node; k is the operation's key, v the kept side.
use Rattle.std.specs.Prelude.{Bool, true, false, not, List, [], ◌∷◌, ◌≡◌, ℕ, ◌≤◌, ◌<◌, get_or}
use Rattle.keys.specs.Keys.{has, union, below, from, size}
use Rattle.rules.specs.declared.state.Thread.{Thread}
use Rattle.graph.specs.Walk.{kid, by, along, next, Walk}
use Rattle.graph.specs.Graph.{summit, hung, Route}
use Rattle.graph.specs.Track.{Track}
use Rattle.order.specs.World.{World, graph, cell, valid, hold, keys, in_tree, out_of_tree}

-- x is a hung base
pub record BaseAt (w : World) (x : ℕ) : Type 0 where
  pub small : x < summit
  pub hung : w.own x ≡ hung
  pub base : (cell w x).route ≡ false

-- x is a hung route, or the summit: "none"
pub record RouteAt (w : World) (x : ℕ) : Type 0 where
  pub small : x ≤ summit
  pub hung : w.own x ≡ hung
  pub route : (cell w x).route ≡ true

-- ---- search

-- phase 2
pub record Searching (w : World) (k x : ℕ) : Type 0 where
  pub key : k < 64
  pub small : x < summit
  pub at : RouteAt w x
  pub track : Track (graph w) (by k) summit x

-- P is in the tree, its child by k is B, and the key k leads to B
pub record Meets (w : World) (k P B : ℕ) : Type 0 where
  pub above : in_tree w P
  pub child : next (cell w) (by k) P ≡ B
  pub path : Walk (cell w) (by k) summit B

-- phases 3 and 4
pub record Arrived (w : World) (k P B : ℕ) : Type 0 where
  pub key : k < 64
  pub base : BaseAt w B
  pub prev : RouteAt w P
  pub meets : valid w B ≡ true → in_tree w B → Meets w k P B

-- phase 5
pub record Locked (w : World) (me k P B : ℕ) : Type 0 where
  pub arrived : Arrived w k P B
  pub holds : hold w B ≡ me

-- phases 6, 7 and 9: the base that the key belongs to is held, valid
pub record Owning (w : World) (me k P B : ℕ) : Type 0 where
  pub key : k < 64
  pub base : BaseAt w B
  pub prev : RouteAt w P
  pub holds : hold w B ≡ me
  pub valid : valid w B ≡ true
  pub meets : Meets w k P B

-- ---- split

-- phase 6
pub record Dense (w : World) (me k P B : ℕ) : Type 0 where
  pub owning : Owning w me k P B
  pub dense : 2 ≤ size (keys w B)

-- x is a node that thread me has made and not hung
pub record Mine (w : World) (me x : ℕ) : Type 0 where
  pub small : x < summit
  pub own : w.own x ≡ me

-- phase 7: M is a route over two bases with B's keys
pub record Splitting (w : World) (me k P B M : ℕ) : Type 0 where
  pub owning : Owning w me k P B
  pub mine : Mine w me M
  pub mine_l : Mine w me (cell w M).left
  pub mine_r : Mine w me (cell w M).right
  pub apart : (cell w M).left ≡ (cell w M).right → ⊥
  pub route : (cell w M).route ≡ true
  pub base_l : (cell w (cell w M).left).route ≡ false
  pub base_r : (cell w (cell w M).right).route ≡ false
  pub key : has (keys w B) (cell w M).key ≡ true
  pub small : (cell w M).key < 64
  pub keys_l : keys w (cell w M).left ≡ below (keys w B) (cell w M).key
  pub keys_r : keys w (cell w M).right ≡ from (keys w B) (cell w M).key
  pub above : P < summit → P < M

-- phase 8: B has left the tree
pub record Replaced (w : World) (me B : ℕ) : Type 0 where
  pub base : BaseAt w B
  pub holds : hold w B ≡ me
  pub out : out_of_tree w B

-- ---- join

-- phase 9
pub record Turning (w : World) (me k P B : ℕ) : Type 0 where
  pub owning : Owning w me k P B
  pub small : P < summit

-- phases 10 to 19: P is in the tree and its near child is B
pub record Joining (w : World) (me : ℕ) (v : Bool) (P B : ℕ) : Type 0 where
  pub small : P < summit
  pub prev : RouteAt w P
  pub base : BaseAt w B
  pub holds : hold w B ≡ me
  pub above : in_tree w P
  pub near : kid (not v) (cell w P) ≡ B

-- phase 10
pub record Seeking (w : World) (me : ℕ) (v : Bool) (P B x : ℕ) : Type 0 where
  pub joining : Joining w me v P B
  pub rise : P < x
  pub small : x < summit
  pub at : RouteAt w x
  pub track : Track (graph w) (along P v) P x

-- phase 11
pub record Reached (w : World) (me : ℕ) (v : Bool) (P B x : ℕ) : Type 0 where
  pub joining : Joining w me v P B
  pub base : BaseAt w x
  pub meets : valid w x ≡ true → in_tree w x → Walk (cell w) (along P v) P x

-- phase 12
pub record Taken (w : World) (me : ℕ) (v : Bool) (P B N : ℕ) : Type 0 where
  pub reached : Reached w me v P B N
  pub holds : hold w N ≡ me
  pub differ : N ≡ B → ⊥

-- phases 13 to 23: M is a base with the keys of B and N, which have none in common
pub record Union (w : World) (me B N M : ℕ) : Type 0 where
  pub mine : Mine w me M
  pub base : (cell w M).route ≡ false
  pub sum : keys w M ≡ union (keys w B) (keys w N)
  pub apart : (j : ℕ) → has (keys w B) j ≡ true → has (keys w N) j ≡ true → ⊥

-- phases 13 to 19: N is the base nearest to B below P's far child, and only routes of the tree have it as a child
pub record Pairing (w : World) (me : ℕ) (v : Bool) (P B N M : ℕ) : Type 0 where
  pub joining : Joining w me v P B
  pub neighbour : BaseAt w N
  pub holds : hold w N ≡ me
  pub differ : N ≡ B → ⊥
  pub inside : in_tree w N
  pub path : Walk (cell w) (along P v) P N
  pub only : (x : ℕ) → Route (graph w) x → (s : Bool) → kid s (cell w x) ≡ N → in_tree w x
  pub union : Union w me B N M

-- phase 14
pub record Ready (w : World) (me : ℕ) (v : Bool) (P B N M : ℕ) : Type 0 where
  pub pairing : Pairing w me v P B N M
  pub holds : hold w P ≡ me

-- phases 15 to 19
pub record Dying (w : World) (me : ℕ) (v : Bool) (P B N M : ℕ) : Type 0 where
  pub pairing : Pairing w me v P B N M
  pub holds : hold w P ≡ me
  pub invalid_p : valid w P ≡ false
  pub invalid_n : valid w N ≡ false
  pub invalid_b : valid w B ≡ false

-- phase 16
pub record Towards (w : World) (P x : ℕ) : Type 0 where
  pub small : x < summit
  pub at : RouteAt w x
  pub differ : x ≡ P → ⊥
  pub path : Walk (cell w) (by (cell w P).key) x P

-- phase 17
pub record Over (w : World) (P G : ℕ) : Type 0 where
  pub small : G < summit
  pub at : RouteAt w G
  pub child : next (cell w) (by (cell w P).key) G ≡ P

-- phase 19
pub record Under (w : World) (me P G : ℕ) : Type 0 where
  pub at : RouteAt w G
  pub above : in_tree w G
  pub child : next (cell w) (by (cell w P).key) G ≡ P
  pub holds : G < summit → hold w G ≡ me

-- phases 20 to 23: P and B have left the tree, and the keys of B lead to N
pub record Linking (w : World) (me : ℕ) (v : Bool) (P B N M : ℕ) : Type 0 where
  pub small : P < summit
  pub prev : RouteAt w P
  pub base : BaseAt w B
  pub neighbour : BaseAt w N
  pub holds_b : hold w B ≡ me
  pub holds_n : hold w N ≡ me
  pub differ : N ≡ B → ⊥
  pub out_p : out_of_tree w P
  pub out_b : out_of_tree w B
  pub inside : in_tree w N
  pub invalid_b : valid w B ≡ false
  pub invalid_n : valid w N ≡ false
  pub only : (x : ℕ) → Route (graph w) x → (x ≡ P → ⊥) → (s : Bool) → kid s (cell w x) ≡ N → in_tree w x
  pub reach : (j : ℕ) → has (keys w B) j ≡ true → Walk (cell w) (by j) summit N
  pub union : Union w me B N M

-- phases 20 and 21: where P's far child is N, it is a child of G now
pub record Closing (w : World) (v : Bool) (P N G : ℕ) : Type 0 where
  pub at : RouteAt w G
  pub path : Walk (cell w) (along P v) P N
  pub above : kid v (cell w P) ≡ N → in_tree w G
  pub child : kid v (cell w P) ≡ N → next (cell w) (by (cell w P).key) G ≡ N

-- phase 22
pub record Descending (w : World) (v : Bool) (P N x : ℕ) : Type 0 where
  pub rise : P < x
  pub small : x < summit
  pub at : RouteAt w x
  pub path : Walk (cell w) (along P v) x N

-- phase 23
pub record Parent (w : World) (N x : ℕ) : Type 0 where
  pub at : RouteAt w x
  pub above : in_tree w x
  pub side : Bool
  pub child : kid side (cell w x) ≡ N

-- phases 24 and 25
pub record Holding (w : World) (me x : ℕ) : Type 0 where
  pub base : BaseAt w x
  pub holds : hold w x ≡ me

-- phase by phase
abbrev pub stages : World → ℕ → Thread → List (Type 0)
stages w me t =
    Unit {0}
    ∷ (t.key < 64)
    ∷ Searching w t.key t.walk
    ∷ Arrived w t.key t.prev t.base
    ∷ Arrived w t.key t.prev t.base
    ∷ Locked w me t.key t.prev t.base
    ∷ Dense w me t.key t.prev t.base
    ∷ Splitting w me t.key t.prev t.base t.made
    ∷ Replaced w me t.base
    ∷ Turning w me t.key t.prev t.base
    ∷ Seeking w me t.side t.prev t.base t.walk
    ∷ Reached w me t.side t.prev t.base t.walk
    ∷ Taken w me t.side t.prev t.base t.neighbour
    ∷ Pairing w me t.side t.prev t.base t.neighbour t.made
    ∷ Ready w me t.side t.prev t.base t.neighbour t.made
    ∷ Dying w me t.side t.prev t.base t.neighbour t.made
    ∷ (Dying w me t.side t.prev t.base t.neighbour t.made × Towards w t.prev t.walk)
    ∷ (Dying w me t.side t.prev t.base t.neighbour t.made × Over w t.prev t.grandparent)
    ∷ (Dying w me t.side t.prev t.base t.neighbour t.made × Over w t.prev t.grandparent
    × (hold w t.grandparent ≡ me))
    ∷ (Dying w me t.side t.prev t.base t.neighbour t.made × Under w me t.prev t.grandparent)
    ∷ (Linking w me t.side t.prev t.base t.neighbour t.made
    × Closing w t.side t.prev t.neighbour t.grandparent × (hold w t.prev ≡ me)
    × (t.grandparent < summit → hold w t.grandparent ≡ me))
    ∷ (Linking w me t.side t.prev t.base t.neighbour t.made
    × Closing w t.side t.prev t.neighbour t.grandparent)
    ∷ (Linking w me t.side t.prev t.base t.neighbour t.made
    × Descending w t.side t.prev t.neighbour t.walk)
    ∷ (Linking w me t.side t.prev t.base t.neighbour t.made × Parent w t.neighbour t.walk)
    ∷ (Holding w me t.base × Holding w me t.neighbour × (t.neighbour ≡ t.base → ⊥))
    ∷ Holding w me t.base
    ∷ []

-- the condition of a thread
pub record Stage (w : World) (me : ℕ) (t : Thread) : Type 0 where
  pub holds : get_or (stages w me t) t.phase ⊥
