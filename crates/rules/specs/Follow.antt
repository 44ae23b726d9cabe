-- "The table of phases that may follow each phase is kept as one constant table, and every accepted step agrees with it."
use Rattle.std.specs.Prelude.{Bool, List, [], ◌∷◌, map, ℕ, ◌+◌, ◌/◌, ◌%◌, ◌^◌, eqb, get_or}

-- the phases that may follow each phase: the third column of the table, row by row
abbrev pub followers : List (List ℕ)
followers =
    []  -- 0
    ∷ (2 ∷ 3 ∷ [])  -- 1
    ∷ (2 ∷ 3 ∷ [])  -- 2
    ∷ (4 ∷ 5 ∷ [])  -- 3
    ∷ (4 ∷ 5 ∷ [])  -- 4
    ∷ (1 ∷ 6 ∷ 9 ∷ 25 ∷ [])  -- 5
    ∷ (7 ∷ 25 ∷ [])  -- 6
    ∷ (8 ∷ [])  -- 7
    ∷ (25 ∷ [])  -- 8
    ∷ (10 ∷ 11 ∷ [])  -- 9
    ∷ (10 ∷ 11 ∷ [])  -- 10
    ∷ (12 ∷ 25 ∷ [])  -- 11
    ∷ (13 ∷ 25 ∷ [])  -- 12
    ∷ (13 ∷ 14 ∷ [])  -- 13
    ∷ (15 ∷ [])  -- 14
    ∷ (16 ∷ 19 ∷ [])  -- 15
    ∷ (16 ∷ 17 ∷ [])  -- 16
    ∷ (17 ∷ 18 ∷ [])  -- 17
    ∷ (15 ∷ 19 ∷ [])  -- 18
    ∷ (20 ∷ [])  -- 19
    ∷ (21 ∷ [])  -- 20
    ∷ (22 ∷ 23 ∷ [])  -- 21
    ∷ (22 ∷ 23 ∷ [])  -- 22
    ∷ (24 ∷ [])  -- 23
    ∷ (25 ∷ [])  -- 24
    ∷ (0 ∷ [])  -- 25
    ∷ []

-- the set of some phases as a mask: digit p is 1 where p is among them
abbrev pub mask_of : List ℕ → ℕ
mask_of [] = 0
mask_of (p ∷ ps) = 2 ^ p + mask_of ps

-- the mask of phase p; no phase above 25 has a follower
abbrev pub follow_mask : ℕ → ℕ
follow_mask p = get_or (map mask_of followers) p 0

-- phase q may follow phase p
abbrev pub follows : ℕ → ℕ → Bool
follows p q = eqb (follow_mask p / 2 ^ q % 2) 1
