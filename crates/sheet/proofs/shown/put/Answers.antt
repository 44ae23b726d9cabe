-- `sheet::shown::put` meets its contract: each line fits.
use Rattle.sheet.proofs.Called.{fits_wrote}
use native.Mathlib.Omega.{arith}
use Rattle.sheet.proofs.shown.put.Goals as goal

pub returns-in-Settings : goal.returns-in-Settings
returns-in-Settings c = rw c.in-Settings.is (fits_wrote _ _ c.put_line.ensures (omega (arith, c.requires)))

pub returns-in-Begun : goal.returns-in-Begun
returns-in-Begun c = rw c.in-Begun.is (fits_wrote _ _ c.put_line-in-Begun.ensures (omega (arith, c.requires)))

pub returns-in-Stops : goal.returns-in-Stops
returns-in-Stops c = rw c.in-Stops.is (fits_wrote _ _ c.put_line-in-Stops.ensures (omega (arith, c.requires)))

pub returns-in-Ends : goal.returns-in-Ends
returns-in-Ends c = rw c.in-Ends.is (fits_wrote _ _ c.put_line-in-Ends.ensures (omega (arith, c.requires)))

pub returns-in-Keys : goal.returns-in-Keys
returns-in-Keys c = rw c.in-Keys.is (fits_wrote _ _ c.put_keys_line.ensures (omega (arith, c.requires)))
