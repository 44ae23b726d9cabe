-- How what is put on a page joins, and what the room holds in the end.
use Rattle.std.specs.Prelude.{List, [], ◌++◌, ◌≡◌, refl, ℕ, ◌+◌, ◌≤◌}
use Rattle.std.proofs.Common.{arith, ◌∙◌}
use Rattle.text.specs.Text.{Wrote}
use Rattle.text.proofs.Writing.{wrote_none, wrote-both}
use Rattle.writing.specs.declared.Page.{Page}
use Rattle.writing.specs.Page.{Puts}

pub puts_none : (p : Page) (most : ℕ) → Puts p most [] p
puts_none p most = record { place = refl; size = refl; wrote = wrote_none _ _; fits = omega arith }

-- what is put on a page, and what is put right behind it
pub puts_both : {p q r : Page} {m n : ℕ} {xs ys : List ℕ} → Puts p m xs q → Puts q n ys r → Puts p (m + n) (xs ++ ys) r
puts_both v w =
    record {
      place = w.place ∙ v.place;
      size = w.size ∙ v.size;
      wrote = wrote-both v.wrote w.wrote;
      fits = omega (arith, v.fits, w.fits);
    }

-- the bound may be larger
pub puts_within : {p q : Page} {m : ℕ} {xs : List ℕ} → Puts p m xs q → (most : ℕ) → m ≤ most → Puts p most xs q
puts_within w most h = record { place = w.place; size = w.size; wrote = w.wrote; fits = omega (arith, w.fits) }

-- the room ends as the page's
pub puts_end : {p q : Page} {most : ℕ} {xs l' : List ℕ} → Puts p most xs q → l' ≡ q.room.now → Wrote p.room.now p.written xs q.written l'
puts_end w e = rw e w.wrote
