-- "Played examples": those marked P, A to J, in one list, and what each says; proofs/Examples.antt has one statement about all. "Blanks stand for tabs."
use Rattle.std.specs.Prelude.{cond, List, [], ◌∷◌, ◌++◌, map, ℕ, ◌-◌, eqb}
use Prim.Native.Char.{code}
use Prim.Native.String.{String}
use Rattle.keys.specs.Keys.{list_of}
use Rattle.rules.specs.State.{zero_statistics, place_at, thread_at}
use Rattle.rules.specs.Places.{keys_of, route_key}
use Rattle.rules.specs.declared.state.State.{State}
use Rattle.text.specs.Text.{tab, newline}
use Rattle.forms.specs.Form.{first_form, line_form}
use Rattle.sheet.specs.Sheet.{play_form, first_played, sheet_of}

-- ---- what an example says

-- what document 01 says of a state: numbers of it, and what they are
pub record Fact : Type 0 where
  pub asks : State → List ℕ
  pub said : List ℕ

-- a line of the schedule, its sheet line, and what is said of the state after it
pub record Line : Type 0 where
  pub schedule : String
  pub sheet : String
  pub facts : List Fact

-- its lines, and the last line of its sheet
pub record Example : Type 0 where
  pub lines : List Line
  pub last : String

-- a line after which no more is said
abbrev pub line : String → String → Line
line schedule sheet = record { schedule = schedule; sheet = sheet; facts = [] }

-- a line, and what is said of the state after it
abbrev pub after : String → String → List Fact → Line
after schedule sheet facts = record { schedule = schedule; sheet = sheet; facts = facts }

-- thread t is in phase p
abbrev pub phase_is : ℕ → ℕ → Fact
phase_is t p = record { asks = λ s. (thread_at s t).phase ∷ []; said = p ∷ [] }

-- base n has statistics x, which are above 0
abbrev pub statistics_are : ℕ → ℕ → Fact
statistics_are n x = record { asks = λ s. ((place_at s n).lock.statistics - zero_statistics) ∷ []; said = x ∷ [] }

-- route n has key k
abbrev pub route_has : ℕ → ℕ → Fact
route_has n k = record { asks = λ s. route_key (place_at s n) ∷ []; said = k ∷ [] }

-- base n holds the keys ks, rising
abbrev pub base_holds : ℕ → List ℕ → Fact
base_holds n ks = record { asks = λ s. list_of (keys_of (place_at s n)); said = ks }

-- ---- the examples

-- the lines of B
unfoldable pub lines_of_b : List Line
lines_of_b =
    line "R 1 3 -1 2" "R"
    -- "thread 0 inserts 5, 9, 2, each run to its end"
    ∷ line "B 0 I 5" "B 0"
    ∷ line "S 0 1000" "D 0 4 1 1"
    ∷ line "B 0 I 9" "B 0"
    ∷ line "S 0 1000" "D 0 4 1 2"
    ∷ line "B 0 I 2" "B 0"
    ∷ line "S 0 1000" "D 0 4 1 3"
    -- "Thread 0 begins L 5 and takes 2 steps"
    ∷ line "B 0 L 5" "B 0"
    ∷ line "S 0 2" "S 0 2 5"
    -- "thread 1 begins I 7 and takes 2: phase 4"
    ∷ line "B 1 I 7" "B 1"
    ∷ after "S 1 2" "S 1 2 4" (phase_is 1 4 ∷ [])
    -- "Thread 1 takes 1 more: phase 4"
    ∷ after "S 1 1" "S 1 1 4" (phase_is 1 4 ∷ [])
    -- "Thread 0 ends: `D 0 2 1 4`"
    ∷ line "S 0 1000" "D 0 2 1 4"
    -- "Thread 1 takes 1: phase 5, statistics 3"
    ∷ after "S 1 1" "S 1 1 5" (phase_is 1 5 ∷ statistics_are 0 3 ∷ [])
    -- "1 more: phase 6"
    ∷ after "S 1 1" "S 1 1 6" (phase_is 1 6 ∷ [])
    -- "then `D 1 4 1 5`. Route 3 has key 7, base 1 holds 2, 5, base 2 holds 7, 9"
    ∷ after "S 1 1000" "D 1 4 1 5" (route_has 3 7 ∷ base_holds 1 (2 ∷ 5 ∷ []) ∷ base_holds 2 (7 ∷ 9 ∷ []) ∷ [])
    ∷ []

-- I up to a taking at phase 5: base 0 is taken once at phase 3 and then twice at phase 4; thread 1 does this operation in between
unfoldable pub twice_contended : String → String → List Line
twice_contended settings operation =
    line settings "R"
    ∷ line "B 0 I 5" "B 0"
    ∷ line "S 0 2" "S 0 2 5"
    ∷ line operation "B 1"
    ∷ line "S 1 2" "S 1 2 4"
    ∷ line "S 0 1000" "D 0 2 1 1"
    ∷ line "S 1 1" "S 1 1 5"
    ∷ line "B 0 L 5" "B 0"
    ∷ line "S 0 2" "S 0 2 4"
    ∷ line "S 1 1000" "D 1 2 1 2"
    ∷ []

-- A to J
unfoldable pub examples : List Example
examples =
    -- A
    record {
      lines =
          line "R 1 250 -1000 1000" "R"
          ∷ line "B 0 I 5" "B 0"
          ∷ line "S 0 1000" "D 0 4 1 1"
          ∷ line "B 1 L 5" "B 1"
          ∷ line "S 1 2" "S 1 2 5"
          ∷ line "S 1 1000" "D 1 2 1 2"
          ∷ [];
      last = "E 2 1 5";
    }
    ∷
    -- B
    record { lines = lines_of_b; last = "E 5 4 2,5,7,9" }
    ∷
    -- C
    record {
      lines =
          -- "after B"
          lines_of_b
          -- "thread 0 looks up 2: 5 steps, commit 6. It looks up 2 again: 16 steps"
          ++ (line "B 0 L 2" "B 0" ∷ line "S 0 1000" "D 0 5 1 6" ∷ line "B 0 L 2" "B 0" ∷ line "S 0 1000" "D 0 16 1 7" ∷ []);
      last = "E 7 5 2,5,7,9";
    }
    ∷
    -- D
    record {
      lines =
          -- "as C, but the last lookup gets 12 steps"
          lines_of_b
          ++ (line "B 0 L 2" "B 0" ∷ line "S 0 1000" "D 0 5 1 6" ∷ line "B 0 L 2" "B 0" ∷ line "S 0 12" "S 0 12 21" ∷ []);
      last = "E 7 5 7,9";
    }
    ∷
    -- E: "empty file"
    record { lines = []; last = "X 2" }
    ∷
    -- F: "`B 8 I 64` after settings"
    record { lines = line "R 1 250 -1000 1000" "R" ∷ line "B 8 I 64" "X 3" ∷ []; last = "E 0 1 -" }
    ∷
    -- G: "`B 0 I 63` accepted, `B 0 I 64` is `X 4`"
    record { lines = line "R 1 250 -1000 1000" "R" ∷ line "B 0 I 63" "B 0" ∷ line "B 0 I 64" "X 4" ∷ []; last = "E 0 1 -" }
    ∷
    -- H
    record {
      lines =
          line "R 1 250 -1000 1000" "R"
          -- "`S 0 1000` accepted when busy"
          ∷ line "B 0 I 5" "B 0"
          ∷ line "S 0 1000" "D 0 4 1 1"
          -- "`S 0 1001` is `X 10` even when idle": idle, then busy
          ∷ line "S 0 1001" "X 10"
          ∷ line "B 0 I 6" "B 0"
          ∷ line "S 0 1001" "X 10"
          ∷ [];
      last = "E 1 1 5";
    }
    ∷
    -- I: "statistics exactly 1000 with max 1000: no split". They are 0 + 500 + 500
    record {
      lines =
          twice_contended "R 0 500 0 1000" "B 1 I 6"
          ++ (after "S 0 1" "S 0 1 5" (statistics_are 0 1000 ∷ base_holds 0 (5 ∷ 6 ∷ []) ∷ [])
          ∷ line "S 0 1" "S 0 1 25"
          ∷ after "S 0 1000" "D 0 1 1 3" (statistics_are 0 1000 ∷ base_holds 0 (5 ∷ 6 ∷ []) ∷ [])
          ∷ []);
      last = "E 3 1 5,6";
    }
    ∷
    -- I: "1001: split if 2 keys". They are -1 + 501 + 501
    record {
      lines =
          twice_contended "R 1 501 -1 1000" "B 1 I 6"
          ++ (after "S 0 1" "S 0 1 5" (statistics_are 0 1001 ∷ base_holds 0 (5 ∷ 6 ∷ []) ∷ [])
          ∷ line "S 0 1" "S 0 1 6"
          ∷ after "S 0 1000" "D 0 4 1 3" (route_has 3 6 ∷ base_holds 1 (5 ∷ []) ∷ base_holds 2 (6 ∷ []) ∷ [])
          ∷ []);
      last = "E 3 4 5,6";
    }
    ∷
    -- I: "1001: split if 2 keys". With 1 key no split
    record {
      lines =
          twice_contended "R 1 501 -1 1000" "B 1 L 5"
          ++ (after "S 0 1" "S 0 1 5" (statistics_are 0 1001 ∷ base_holds 0 (5 ∷ []) ∷ [])
          ∷ line "S 0 1" "S 0 1 25"
          ∷ line "S 0 1000" "D 0 1 1 3"
          ∷ []);
      last = "E 3 1 5";
    }
    ∷
    -- J: "second begin on a busy thread: `X 5`, and its first operation ends as before"
    record {
      lines = line "R 1 250 -1000 1000" "R" ∷ line "B 0 I 5" "B 0" ∷ line "B 0 D 5" "X 5" ∷ line "S 0 1000" "D 0 4 1 1" ∷ [];
      last = "E 1 1 5";
    }
    ∷ []

-- ---- the statement

-- what an example comes to: the bytes of its sheet, those of its sheet with no final newline in the schedule, and the numbers of its states
pub record Outcome : Type 0 where
  pub sheet : List ℕ
  pub unended : List ℕ
  pub numbers : List (List ℕ)

-- the bytes of a text: "Blanks stand for tabs"
abbrev pub bytes : String → List ℕ
bytes String.[] = []
bytes (String.◌∷◌ c s) = cond (eqb (code c) 32) tab (code c) ∷ bytes s

-- some lines, parted by newlines
unfoldable pub parted : List String → List ℕ
parted [] = []
parted (l ∷ []) = bytes l
parted (l ∷ m ∷ ls) = bytes l ++ (newline ∷ parted (m ∷ ls))

-- some lines, each ended by a newline
unfoldable pub ended : List String → List ℕ
ended [] = []
ended (l ∷ ls) = bytes l ++ (newline ∷ ended ls)

-- the lines of the schedule
abbrev pub schedule_of : Example → List String
schedule_of e = map (λ (l : Line). l.schedule) e.lines

-- the numbers asked of the state after each line, from a state on
unfoldable pub asked : State → List Line → List (List ℕ)
asked s [] = []
asked s (l ∷ ls) =
    let u = (play_form s (line_form (bytes l.schedule))).state in
    map (λ (f : Fact). f.asks u) l.facts ++ asked u ls

-- the first line makes the state
unfoldable pub asked_of : List Line → List (List ℕ)
asked_of [] = []
asked_of (l ∷ ls) = asked (first_played (first_form (bytes l.schedule))).state ls

-- the numbers said
unfoldable pub said_of : List Line → List (List ℕ)
said_of [] = []
said_of (l ∷ ls) = map (λ (f : Fact). f.said) l.facts ++ said_of ls

-- what the definitions give
abbrev pub played : Example → Outcome
played e = record { sheet = sheet_of (ended (schedule_of e)); unended = sheet_of (parted (schedule_of e)); numbers = asked_of e.lines }

-- what is wanted: what document 01 says, and where it gives no whole sheet, the lines that its rules give
abbrev pub written : Example → Outcome
written e =
    let sheet = ended (map (λ (l : Line). l.sheet) e.lines ++ (e.last ∷ [])) in
    record { sheet = sheet; unended = sheet; numbers = said_of e.lines }
