-- `writing::Page::put_commas` meets its contract. The invariant: whoever puts the keys that are left has put all of them.
use Rattle.std.proofs.Common.{◌-◌, ◌*◌}
use Rattle.keys.specs.Keys.{rising, list_of}
use Rattle.text.specs.Text.{commas}
use Rattle.writing.specs.declared.Page.{Page}
use Rattle.writing.specs.Page.{HasRoom, Puts}
use Rattle.writing.proofs.Page.put_commas.Given as goal

abbrev pub invariant-loop-k : goal.invariant-loop-k
invariant-loop-k l = record {
  room : HasRoom l.self (3 * (64 - l.k));
  rest : (p : Page) → Puts l.self (3 * (64 - l.k)) (commas (rising l.keys l.k (64 - l.k))) p → Puts l.initial.self 192 (commas (list_of l.keys)) p;
}
