-- What a state's steps and key list compute with, named once: to unfold `computes` is to unfold each of these definitions. A statement that plays
-- a run says it.
use Rattle.std.specs.Prelude.{Bool, true}
use Rattle.keys.specs.Keys.{with, without, union, below, from, rising, list_of, size, split_key}
use Rattle.rules.specs.State.{fresh, place_at, thread_at}
use Rattle.rules.specs.Rows.{hangs, searches, seeks, row1, row2, row3, row4, commits, decides, row5, no_split, split, row6, row7, row8, row9, row10, row11, no_join, join, row12, row13, row14, row15, row16, row17, row18, row19, row20, row21, row22, row23, row24, row25, row0, rows, plan_of}
use Rattle.rules.specs.Needs.{needs, stuck}
use Rattle.rules.specs.Range.{settings_in_range, body_in_range, place_in_range, register_in_range, registers_in_range, thread_in_range, places_in_range, threads_in_range, counts_in_range, in_range}
use Rattle.rules.specs.Step.{zero_settings, fresh_of, begun, begin_of, view_before, next_of, view_of, put, apply, after, reply_of, step_of, steps, run_of}
use Rattle.rules.specs.List.{unmet, again, meets, lists, gather, reached, key_list_of}

-- stands for all of them
unfoldable pub computes : Bool
unfolding with without union below from rising list_of size split_key fresh place_at thread_at hangs searches seeks row1 row2 row3 row4 commits decides row5 no_split split row6 row7 row8 row9 row10 row11 no_join join row12 row13 row14 row15 row16 row17 row18 row19 row20 row21 row22 row23 row24 row25 row0 rows plan_of needs stuck settings_in_range body_in_range place_in_range register_in_range registers_in_range thread_in_range places_in_range threads_in_range counts_in_range in_range zero_settings fresh_of begun begin_of view_before next_of view_of put apply after reply_of step_of steps run_of unmet again meets lists gather reached key_list_of
computes = true
