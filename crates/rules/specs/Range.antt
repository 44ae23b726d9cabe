-- "A state is in range when every number is inside the above, statistics are within their stops, answers 0 or 1, commit numbers at most
-- 1,000,000, root and route children are made nodes, and committed ≤ begun."
use Rattle.std.specs.Prelude.{Bool, true, ◌&&◌, ◌||◌, List, [], ◌∷◌, ℕ, ltb, leb, eqb}
use Rattle.rules.specs.State.{none, nobody, top_statistics}
use Rattle.rules.specs.declared.state.Settings.{Settings}
use Rattle.rules.specs.declared.state.Body.{Body}
use Rattle.rules.specs.declared.state.Body.TheVariants.{Base, Route}
use Rattle.rules.specs.declared.state.Place.{Place}
use Rattle.rules.specs.declared.state.Thread.{Thread}
use Rattle.rules.specs.declared.state.State.{State}

-- "succ 0 to 1,000; fail 0 to 1,000; min −1,000,000 to 0; max 0 to 1,000,000"
unfoldable pub settings_in_range : Settings → Bool
settings_in_range c = leb c.succ 1000 && leb c.fail 1000 && leb c.low 1000000 && leb c.max 1000000

-- of a base any set of keys and statistics n within their stops; of a route, which has no statistics, a key 0 to 63 and children that are
-- made nodes
unfoldable pub body_in_range : ℕ → ℕ → Body → Bool
body_in_range made n (Base ks) = leb n top_statistics
body_in_range made n (Route k l r) = leb k 63 && ltb l made && ltb r made

-- a holder that is none or a thread, and what a base or a route has
unfoldable pub place_in_range : ℕ → Place → Bool
place_in_range made p = leb p.lock.holder nobody && body_in_range made p.lock.statistics p.body

-- "A node register is none or a made node"
unfoldable pub register_in_range : ℕ → ℕ → Bool
register_in_range made r = eqb r none || ltb r made

-- each node register of a thread
unfoldable pub registers_in_range : ℕ → Thread → Bool
registers_in_range made t =
    register_in_range made t.prev && register_in_range made t.base && register_in_range made t.walk
    && register_in_range made t.neighbour
    && register_in_range made t.grandparent
    && register_in_range made t.made

-- "phase 0 to 25", an operation 0 to 2, a key 0 to 63, the registers, "answers 0 or 1, commit numbers at most 1,000,000"
unfoldable pub thread_in_range : ℕ → Thread → Bool
thread_in_range made t =
    leb t.phase 25 && leb t.operation 2 && leb t.key 63 && leb t.answer 1 && leb t.commit 1000000
    && registers_in_range made t

-- each place
unfoldable pub places_in_range : ℕ → List Place → Bool
places_in_range made [] = true
places_in_range made (p ∷ ps) = place_in_range made p && places_in_range made ps

-- each thread
unfoldable pub threads_in_range : ℕ → List Thread → Bool
threads_in_range made [] = true
threads_in_range made (t ∷ ts) = thread_in_range made t && threads_in_range made ts

-- the counts and the root: made 1 to 128, at most 1,000,000 begun, "committed ≤ begun"
unfoldable pub counts_in_range : State → Bool
counts_in_range s =
    leb 1 s.made && leb s.made 128 && leb s.begun 1000000 && leb s.committed s.begun && ltb s.root s.made

-- "A state is in range"
unfoldable pub in_range : State → Bool
in_range s =
    settings_in_range s.settings && counts_in_range s && places_in_range s.made s.places && threads_in_range s.made s.threads
