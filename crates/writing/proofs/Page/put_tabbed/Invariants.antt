-- `writing::Page::put_tabbed` meets its contract. The invariant: whoever puts the numbers that are left has put all of them.
use Rattle.std.proofs.Common.{◌-◌, ◌*◌, length, drop}
use Rattle.text.specs.Text.{tabbed}
use Rattle.writing.specs.declared.Page.{Page}
use Rattle.writing.specs.Page.{HasRoom, Puts}
use Rattle.writing.proofs.Page.put_tabbed.Given as goal

abbrev pub invariant-loop-n : goal.invariant-loop-n
invariant-loop-n l = record {
  room : HasRoom l.self (8 * (length l.numbers - l.n-index));
  rest : (p : Page) → Puts l.self (8 * (length l.numbers - l.n-index)) (tabbed (drop l.n-index l.numbers)) p → Puts l.initial.self (8 * length l.numbers) (tabbed l.numbers) p;
}
