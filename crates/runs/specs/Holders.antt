-- Where the keys are: in bases reachable from the root, and in the base registers of threads between splice and link.
use Rattle.std.specs.Prelude.{Bool, true, false, ◌&&◌, ◌≡◌, ℕ, zero, suc, ◌+◌, ◌≤◌, leb, get_or}
use Rattle.keys.specs.Keys.{has}
use Rattle.rules.specs.State.{place_at, thread_at}
use Rattle.rules.specs.Places.{is_route, is_base, keys_of, child_on}
use Rattle.rules.specs.Needs.{base}
use Rattle.rules.specs.List.{reached}
use Rattle.rules.specs.declared.state.State.{State}
use Rattle.runs.specs.Passes.{one}

-- y is reached from x, going down both ways
pub data Reaches (s : State) : ℕ → ℕ → Type 0 where
  at : {x y : ℕ} → x ≡ y → Reaches s x y
  below : (x : ℕ) (w : Bool) {y : ℕ} → Reaches s (child_on w (place_at s x)) y → is_route (place_at s x) ≡ true → Reaches s x y

-- a phase between the splice and the link
abbrev pub late : ℕ → Bool
late p = leb 20 p && leb p 23

-- no thread is in phases 20 to 23
abbrev pub Quiet : State → Type 0
Quiet s = (v : ℕ) → v ≤ 7 → late (thread_at s v).phase ≡ false

-- how many numbers below n pass a test
unfoldable pub how_many : (ℕ → Bool) → ℕ → ℕ
how_many f zero = 0
how_many f (suc n) = one (f n) + how_many f n

-- node b was met on the walk from the root, is a base and has the key j
abbrev pub keeps : State → ℕ → ℕ → Bool
keeps s j b = get_or (reached s).seen b false && (is_base (place_at s b) && has (keys_of (place_at s b)) j)

-- thread v is in phases 20 to 23, its base register names a base, and that has the key j
abbrev pub carries : State → ℕ → ℕ → Bool
carries s j v =
    let b = (thread_at s v).base in
    late (thread_at s v).phase && (base b (place_at s b) && has (keys_of (place_at s b)) j)

-- the number of such bases
unfoldable pub holders : State → ℕ → ℕ
holders s j = how_many (keeps s j) 128 + how_many (carries s j) 8
