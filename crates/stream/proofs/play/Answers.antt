use Rattle.sheet.specs.Sheet.{sheet_of}
use Rattle.std.proofs.Common.{ℕ, take_all, le_refl, take, [], ◌∷◌, ◌++◌, arith, length, refl, sym, ap, ◌∙◌, subst}
use lib.Seq.{length-take-le}
use Rattle.std.specs.Io.KnownBytes.{Appends}
use Rattle.std.proofs.KnownBytes.{Appends-nil, Appends-trans}
use Rattle.std.proofs.lemmas.List.{length-replicate}
use Rattle.std.proofs.Math.Seq.{length-sets}
use Rattle.player.specs.Several.{several_of}
use Rattle.player.specs.Turns.{opened, turned_to}
use Rattle.player.specs.Sheets.{Call, none, call, taken, reached, playing_opened, playing_on, playing_less, several_within, several_ended}
use Rattle.player.specs.declared.Player.{Player}
use Rattle.stream.proofs.Calls.{calls_append, reached_append, taken_more, taken_front, front_within}
use Rattle.stream.proofs.play.Goals as goal

pub loop-p-init : goal.loop-p-init
unfolding reached taken
loop-p-init g c = rw c.open-p.ensures (rw (length-replicate {A = ℕ} _ 0) (omega arith), playing_opened c.args.file.now, [], none, refl, Appends-nil _)

pub slice_bounds-room-end : goal.slice_bounds-room-end
slice_bounds-room-end g c = several_within c.args.file.now c.loop-p.p c.several-answer.ensures

pub slice_bounds-put-end : goal.slice_bounds-put-end
slice_bounds-put-end g c = sym (length-take-le _ _ (several_within c.args.file.now c.loop-p.p c.several-answer.ensures))

pub loop-p-smaller : goal.loop-p-smaller
loop-p-smaller g c =
    playing_less c.args.file.now c.loop-p.p c.several-answer.ensures c.loop-p.invariant.0 c.loop-p.invariant.1 c.loop-p-test.true

-- the call stands behind those before it, and the writer took what it left
pub loop-p-preserved : goal.loop-p-preserved
unfolding reached
loop-p-preserved g c =
    let file = c.args.file.now in
    let (wide, playing, cs, calls, at, took) = c.loop-p.invariant in
    let one : Call = record { before = c.loop-p.room; answered = turned_to c.several-answer.result c.several-answer.new.p; after = c.several-answer.new.room } in (
      omega (arith, wide, ap length c.several-answer.ensures.bytes, length-sets c.loop-p.room 0 (several_of (length c.loop-p.room) file c.loop-p.p).sheet),
      playing_on file c.loop-p.p c.several-answer.ensures wide playing,
      cs ++ one ∷ [],
      calls_append calls (call one wide (rw at c.several-answer.ensures) none),
      reached_append opened cs (one ∷ []),
      rw (taken_more cs one) (Appends-trans _ _ _ _ _ took c.in_ok-put.ensures.whole),
    )

-- at the end what the calls left is the sheet
pub returns-clause-whole : goal.returns-clause-whole
returns-clause-whole g c =
    let (wide, playing, cs, calls, at, took) = c.loop-p.invariant in
    subst (Appends _ _) (several_ended c.args.file.now cs calls (ap (λ (p : Player). p.stage) at ∙ c.loop-p-test.false)) took

pub returns-clause-front : goal.returns-clause-front
returns-clause-front g c =
    let (wide, playing, cs, calls, at, took) = c.loop-p.invariant in
    let all = several_ended c.args.file.now cs calls (ap (λ (p : Player). p.stage) at ∙ c.loop-p-test.false) in
    (taken cs, rw all (take_all (length (sheet_of c.args.file.now)) (sheet_of c.args.file.now) (le_refl _)), took)

-- where a write failed, what was taken of the call's part stands behind what the calls before it left
pub returns-in_err-put-clause-front : goal.returns-in_err-put-clause-front
unfolding reached
returns-in_err-put-clause-front g c =
    let file = c.args.file.now in
    let (wide, playing, cs, calls, at, took) = c.loop-p.invariant in
    let one : Call = record { before = c.loop-p.room; answered = turned_to c.several-answer.result c.several-answer.new.p; after = c.several-answer.new.room } in
    let made = calls_append calls (call one wide (rw at c.several-answer.ensures) none) in
    let on = playing_on file c.loop-p.p c.several-answer.ensures wide playing in
    let (rest, whole) = taken_front file (cs ++ one ∷ []) made (rw (reached_append opened cs (one ∷ [])) on) in
    let part = take c.several-answer.result.length c.several-answer.new.room in
    let (bs, starts, given) = c.put.ensures.front in
    (taken cs ++ bs, front_within _ (taken cs) part rest bs (whole ∙ ap (λ l. l ++ rest) (taken_more cs one)) starts, Appends-trans _ _ _ _ _ took given)
