-- Example D once more, its step lines as counted steps: these calls come to its moves.
use Rattle.std.specs.Prelude.{List, [], ◌∷◌}
use Rattle.runs.specs.Calls.{begins, Call, move, counted}

-- its lines, and two more that are refused with 10: they come to no move
unfoldable pub lines_d : List Call
lines_d =
    move (begins 0 0 5) ∷ counted 0 1000
    ∷ move (begins 0 0 9) ∷ counted 0 1000
    ∷ move (begins 0 0 2) ∷ counted 0 1000
    ∷ move (begins 0 2 5) ∷ counted 0 2
    ∷ move (begins 1 0 7) ∷ counted 1 2 ∷ counted 1 0 ∷ counted 1 1 ∷ counted 1 1001
    ∷ counted 0 1000
    ∷ counted 1 1 ∷ counted 1 1 ∷ counted 1 1000
    ∷ move (begins 0 2 2) ∷ counted 0 1000
    ∷ move (begins 0 2 2) ∷ counted 0 12
    ∷ []
