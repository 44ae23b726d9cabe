-- What is written on a page: behind what is there, and no other byte changes.
use Rattle.std.specs.Prelude.{List, ℕ, ◌≡◌, ◌+◌, ◌≤◌, length}
use Rattle.text.specs.Text.{Wrote}
use Rattle.writing.specs.declared.Page.{Page}

-- there is room for so many bytes more
abbrev pub HasRoom : Page → ℕ → Type 0
HasRoom p most = p.written + most ≤ length p.room.now

-- xs, of so many bytes at most, was put on the page
pub record Puts (p : Page) (most : ℕ) (xs : List ℕ) (p' : Page) : Type 0 where
  pub place : p'.room.ghost_name ≡ p.room.ghost_name
  pub size : length p'.room.now ≡ length p.room.now
  pub wrote : Wrote p.room.now p.written xs p'.written p'.room.now
  pub fits : p'.written ≤ p.written + most
