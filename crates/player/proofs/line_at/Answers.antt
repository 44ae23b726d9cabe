-- `player::line_at` meets its contract.
use mathlib.Core.Path.{◌≡◌, refl, sym, ◌∙◌}
use native.Mathlib.Omega.{arith}
use Prim.Native.Nat.{◌-◌}
use lib.ListN.{length, take, drop, length-drop}
use lib.Seq.{length-take-le}
use Rattle.text.specs.Text.{newline, until}
use Rattle.text.proofs.Reading.{until-le, rest_part}
use Rattle.player.proofs.line_at.Goals as goal

pub slice_bounds-result-end : goal.slice_bounds-result-end
slice_bounds-result-end c =
    let a = c.args in
    sym (length-take-le _ _ (omega (arith, c.until.ensures, until-le newline (take (length a.file.now - a.at) (drop a.at a.file.now)))))

pub returns : goal.returns
returns c =
    let a = c.args in
    let part = rest_part a.at a.file.now in
    let e : c.until.result ≡ until newline (drop a.at a.file.now) = rw part at c.until.ensures in
    let size : length (take c.until.result (drop a.at a.file.now)) ≡ c.until.result =
    length-take-le _ _ (omega (arith, e, until-le newline (drop a.at a.file.now))) in
    record {
      line = rw (part, e) refl;
      size = rw part (size ∙ e);
      within = rw part (omega (arith, size, e, until-le newline (drop a.at a.file.now), length-drop a.at a.file.now, c.requires));
    }
