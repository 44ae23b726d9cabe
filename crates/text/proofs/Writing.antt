-- Laws of writing: how writes join, what is written of a number, how long a sheet line is, and that it is one line.
use Rattle.std.specs.Prelude.{Bool, true, false, cond, List, [], ◌∷◌, ◌++◌, ◌≡◌, refl, ℕ, zero, suc, ◌+◌, ◌-◌, ◌*◌, ◌/◌, ◌%◌, ◌≤◌, ◌<◌, ltb, eqb, length, get_or, take, drop, set}
use Rattle.std.proofs.Common.{append_assoc, sym, ap, ◌∙◌, zero-le, add-zero, add-one, arith, lt-ltb, le-ltb, ne_eqb, length-append, length-drop, drop-cons, drop-drop, set-set}
use Rattle.std.proofs.lemmas.List.{append_cancel_left, append_cancel_right, set_comm}
use Rattle.std.proofs.Math.Decide.{dec_lt}
use Rattle.std.proofs.lemmas.List.Edits.{sets, sets-eq}
use Rattle.std.proofs.Math.Seq.{take-append_seam}
use Rattle.keys.specs.Keys.{has, rising, list_of}
use Rattle.text.specs.Text.{tab, newline, minus, onto, lines, decimal_of, decimal, tabbed, sheet_line, commas, key_text, keys_text, Wrote, keys_line, Unbroken, OneLine}

-- ---- joined writes

sets_append : (l : List ℕ) (i : ℕ) (xs ys : List ℕ) → sets (sets l i xs) (i + length xs) ys ≡ sets l i (xs ++ ys)
sets_append l i [] ys = rw add-zero
sets_append l i (x ∷ xs) ys =
    let e : i + suc (length xs) ≡ suc i + length xs = omega arith in rw e (sets_append (set l i x) (suc i) xs ys)

pub wrote_none : (l : List ℕ) (at : ℕ) → Wrote l at [] at l
wrote_none l at = record { next = omega arith; bytes = refl }

pub wrote_byte : (l : List ℕ) (at b : ℕ) → Wrote l at (b ∷ []) (at + 1) (set l at b)
wrote_byte l at b = record { next = refl; bytes = refl }

-- two replies that the same write allows are equal, and so is each byte of the room
pub wrote_same : {l l₁ l₂ xs : List ℕ} {at r₁ r₂ : ℕ} → Wrote l at xs r₁ l₁ → Wrote l at xs r₂ l₂ → (r₁ ≡ r₂) × (l₁ ≡ l₂)
wrote_same v w = (v.next ∙ sym w.next, v.bytes ∙ sym w.bytes)

-- a write, and one right behind it
pub wrote-both : {l k l' xs ys : List ℕ} {at m r : ℕ} → Wrote l at xs m k → Wrote k m ys r l' → Wrote l at (xs ++ ys) r l'
wrote-both {l} {k} {l'} {xs} {ys} {at} {m} {r} v w =
    record {
      next = omega (arith, length-append xs ys, v.next, w.next);
      bytes = w.bytes ∙ rw (v.bytes, v.next) (sets_append l at xs ys);
    }

-- a byte in front of a write
set_sets : (l : List ℕ) (i j b : ℕ) (xs : List ℕ) → i < j → set (sets l j xs) i b ≡ sets (set l i b) j xs
set_sets l i j b [] h = refl
set_sets l i j b (x ∷ xs) h = set_sets (set l j x) i (suc j) b xs (omega arith) ∙ rw (set_comm l j i x b (λ e. omega arith))

-- the first byte that was written, written again
pub wrote_over : {l l' xs : List ℕ} {at a r : ℕ} (b : ℕ) → Wrote l at (a ∷ xs) r l' → Wrote l at (b ∷ xs) r (set l' at b)
wrote_over {l} {l'} {xs} {at} {a} {r} b w =
    record {
      next = w.next;
      bytes = rw (w.bytes, set_sets (set l at a) at (suc at) b xs (omega arith), set-set);
    }

-- ---- numbers

-- one digit
pub decimal-one : (d n : ℕ) → 0 < d → n < 10 → decimal_of d n ≡ (48 + n) ∷ []
unfolding decimal_of
decimal-one zero n h l = absurd (omega arith)
decimal-one (suc d) n h l = rw (lt-ltb n 10 l)

-- the last of several digits
pub decimal_last : (d n : ℕ) → 0 < d → 10 ≤ n → decimal_of d n ≡ decimal_of (d - 1) (n / 10) ++ ((48 + n % 10) ∷ [])
unfolding decimal_of
decimal_last zero n h l = absurd (omega arith)
decimal_last (suc d) n h l = let e : suc d - 1 ≡ d = omega arith in rw (le-ltb n 10 l, e)

-- a key has at most two digits
pub decimal_key : (k : ℕ) → k < 64 → decimal_of 2 k ≡ decimal k
unfolding decimal decimal_of
decimal_key k h = simp (lt-ltb (k / 10) 10 (omega arith))

-- a number has a digit at least
decimal_some : (d n : ℕ) → 0 < d → 1 ≤ length (decimal_of d n)
decimal_some d n h = go (dec_lt n 10)
  where
    go : Dec (n < 10) → 1 ≤ length (decimal_of d n)
    go (yes l) = rw (decimal-one d n h l) (omega arith)
    go (no l) =
        rw (decimal_last d n h (omega arith)) (omega (arith, length-append (decimal_of (d - 1) (n / 10)) ((48 + n % 10) ∷ [])))

-- a number of one digit is written as no other number is
decimal_same : (n m : ℕ) → m < 10 → decimal n ≡ decimal m → n ≡ m
unfolding decimal
decimal_same n m h e = go (dec_lt n 10) (e ∙ decimal-one 7 m (omega arith) h)
  where
    go : Dec (n < 10) → decimal_of 7 n ≡ (48 + m) ∷ [] → n ≡ m
    go (yes l) e = omega (arith, ap (λ (x : List ℕ). get_or x 0 0) (sym (decimal-one 7 n (omega arith) l) ∙ e))
    go (no l) e =
        absurd (omega (
          arith,
          ap length (sym (decimal_last 7 n (omega arith) (omega arith)) ∙ e),
          length-append (decimal_of 6 (n / 10)) ((48 + n % 10) ∷ []),
          decimal_some 6 (n / 10) (omega arith),
        ))

-- and so is a sheet line with this number alone
pub line_same : (letter n m : ℕ) → m < 10 → sheet_line letter (n ∷ []) ≡ sheet_line letter (m ∷ []) → n ≡ m
unfolding sheet_line tabbed
line_same letter n m h e =
    let bare = append_cancel_right (letter ∷ tab ∷ (decimal n ++ [])) (letter ∷ tab ∷ (decimal m ++ [])) (newline ∷ []) e in
    decimal_same n m h
    (append_cancel_right (decimal n) (decimal m) [] (append_cancel_left (letter ∷ tab ∷ []) (decimal n ++ []) (decimal m ++ []) bare))

-- by the number at i
pub tabbed-at : (l : List ℕ) (i : ℕ) → i < length l → tabbed (drop i l) ≡ (tab ∷ decimal (get_or l i 0)) ++ tabbed (drop (suc i) l)
unfolding tabbed
tabbed-at l i h = rw (drop-cons l i 0 h)

-- by the key k
pub commas-at : (m k : ℕ) → k < 64 → commas (rising m k (64 - k)) ≡ key_text m k ++ commas (rising m (suc k) (64 - suc k))
unfolding rising commas key_text
commas-at m k h = let e : 64 - k ≡ suc (64 - suc k) = omega arith in rw e (go (has m k))
  where
    go : (t : Bool)
        → commas (cond t (k ∷ rising m (suc k) (64 - suc k)) (rising m (suc k) (64 - suc k)))
        ≡ cond t (44 ∷ decimal k) [] ++ commas (rising m (suc k) (64 - suc k))
    go true = refl
    go false = refl

-- the tab takes the place of the first comma
pub keys_some : {l l' : List ℕ} {at r : ℕ} (ks : List ℕ) → Wrote l at (commas ks) r l' → (r ≡ at → ⊥) → Wrote l at (tab ∷ keys_text ks) r (set l' at tab)
unfolding commas keys_text
keys_some [] w h = absurd (h (w.next ∙ add-zero _))
keys_some (n ∷ ns) w h = wrote_over tab w

-- with no comma there is no key
pub keys_none : {l l' : List ℕ} {at r : ℕ} (ks : List ℕ) → Wrote l at (commas ks) r l' → r ≡ at
    → Wrote l at (tab ∷ keys_text ks) (at + 2) (set (set l' at tab) (at + 1) minus)
unfolding commas keys_text
keys_none [] w h = record { next = refl; bytes = rw (w.bytes, add-one) }
keys_none (n ∷ ns) w h = absurd (omega (arith, w.next))

-- ---- lengths

pub decimal-length : (d n : ℕ) → length (decimal_of d n) ≤ d
unfolding decimal_of
decimal-length zero n = zero-le
decimal-length (suc d) n = go (ltb n 10) (decimal-length d (n / 10))
  where
    go : (t : Bool) → length (decimal_of d (n / 10)) ≤ d
        → length (cond t ((48 + n) ∷ []) (decimal_of d (n / 10) ++ ((48 + n % 10) ∷ []))) ≤ suc d
    go true h = omega arith
    go false h = simp length-append (omega arith)

tabbed-length : (ns : List ℕ) → length (tabbed ns) ≤ 8 * length ns
unfolding tabbed decimal
tabbed-length [] = zero-le
tabbed-length (n ∷ ns) = simp length-append (omega (arith, decimal-length 7 n, tabbed-length ns))

-- a sheet line of numbers
pub line-length : (letter : ℕ) (ns : List ℕ) → length (sheet_line letter ns) ≤ 2 + 8 * length ns
unfolding sheet_line
line-length letter ns = simp length-append (omega (arith, tabbed-length ns))

-- three bytes a key
commas-length : (m k n : ℕ) → k + n ≤ 64 → length (commas (rising m k n)) ≤ 3 * n
unfolding rising commas
commas-length m k zero h = zero-le
commas-length m k (suc n) h = go (has m k) (commas-length m (suc k) n (omega arith))
  where
    go : (t : Bool) → length (commas (rising m (suc k) n)) ≤ 3 * n
        → length (commas (cond t (k ∷ rising m (suc k) n) (rising m (suc k) n))) ≤ 3 * suc n
    go true e = simp length-append (omega (arith, ap length (decimal_key k (omega arith)), decimal-length 2 k))
    go false e = omega arith

-- the first key has no comma
keys_length : (ks : List ℕ) (most : ℕ) → length (commas ks) ≤ most → 2 ≤ most → length (keys_text ks) < most
unfolding keys_text commas
keys_length [] most h k = omega arith
keys_length (n ∷ ns) most h k = omega arith

-- a sheet line that ends in the keys of a set
pub keys-line-length : (letter : ℕ) (ns : List ℕ) (m : ℕ) → length (keys_line letter ns (list_of m)) ≤ 194 + 8 * length ns
unfolding keys_line list_of
keys-line-length letter ns m =
    simp length-append (omega (arith, tabbed-length ns, keys_length (rising m 0 64) 192 (commas-length m 0 64 (omega arith)) (omega arith)))

-- ---- reading back

-- what fits can be read back at the front
pub front_read : (l xs : List ℕ) → length xs ≤ length l → take (length xs) (sets l 0 xs) ≡ xs
front_read l xs h = rw (sets-eq xs l 0 (omega arith)) (take-append_seam xs _)

take_none : (l : List ℕ) → take 0 l ≡ []
take_none [] = refl
take_none (x ∷ l) = refl

-- a write at the front of the bytes from a place on is a write at that place
pub sets_behind : (l : List ℕ) (i : ℕ) (xs : List ℕ) → i + length xs ≤ length l → take i l ++ sets (drop i l) 0 xs ≡ sets l i xs
sets_behind l i xs h =
    let z : 0 + length xs ≡ length xs = omega arith in
    let front : sets (drop i l) 0 xs ≡ xs ++ drop (length xs) (drop i l) =
    rw (sets-eq xs (drop i l) 0 (simp length-drop (omega arith)), z) (ap (λ t. (t ++ xs) ++ drop (length xs) (drop i l)) (take_none (drop i l)))
    in
    rw (sets-eq xs l i h, front, drop-drop, append_assoc)

-- ---- lines

unbroken_both : (a b : List ℕ) → Unbroken a → Unbroken b → Unbroken (a ++ b)
unbroken_both [] b x y = y
unbroken_both (c ∷ a) b x y = (x.0, unbroken_both a b x.1 y)

decimal_unbroken : (d n : ℕ) → Unbroken (decimal_of d n)
unfolding decimal_of
decimal_unbroken zero n = tt
decimal_unbroken (suc d) n = go (ltb n 10) (decimal_unbroken d (n / 10))
  where
    digit : (k : ℕ) → Unbroken ((48 + k) ∷ [])
    digit k = (ne_eqb (48 + k) newline (λ e. omega arith), tt)

    go : (t : Bool) → Unbroken (decimal_of d (n / 10)) → Unbroken (cond t ((48 + n) ∷ []) (decimal_of d (n / 10) ++ ((48 + n % 10) ∷ [])))
    go true x = digit n
    go false x = unbroken_both (decimal_of d (n / 10)) ((48 + n % 10) ∷ []) x (digit (n % 10))

tabbed_unbroken : (ns : List ℕ) → Unbroken (tabbed ns)
unfolding tabbed decimal
tabbed_unbroken [] = tt
tabbed_unbroken (n ∷ ns) = (refl, unbroken_both (decimal n) (tabbed ns) (decimal_unbroken 7 n) (tabbed_unbroken ns))

commas_unbroken : (ns : List ℕ) → Unbroken (commas ns)
unfolding commas decimal
commas_unbroken [] = tt
commas_unbroken (n ∷ ns) = (refl, unbroken_both (decimal n) (commas ns) (decimal_unbroken 7 n) (commas_unbroken ns))

keys_unbroken : (ks : List ℕ) → Unbroken (keys_text ks)
unfolding keys_text decimal
keys_unbroken [] = (refl, tt)
keys_unbroken (k ∷ ks) = unbroken_both (decimal k) (commas ks) (decimal_unbroken 7 k) (commas_unbroken ks)

-- a sheet line is one line
pub sheet_line-one : (letter : ℕ) (ns : List ℕ) → eqb letter newline ≡ false → OneLine (sheet_line letter ns)
unfolding sheet_line
sheet_line-one letter ns e = record { bare = letter ∷ tabbed ns; unbroken = (e, tabbed_unbroken ns); whole = refl }

-- so is one that ends in keys
pub keys-line-one : (letter : ℕ) (ns ks : List ℕ) → eqb letter newline ≡ false → OneLine (keys_line letter ns ks)
unfolding keys_line
keys-line-one letter ns ks e =
    record {
      bare = letter ∷ (tabbed ns ++ (tab ∷ keys_text ks));
      unbroken = (e, unbroken_both (tabbed ns) (tab ∷ keys_text ks) (tabbed_unbroken ns) (refl, keys_unbroken ks));
      whole = ap (λ (l : List ℕ). letter ∷ l) (sym (append_assoc (tabbed ns) (tab ∷ keys_text ks) (newline ∷ [])));
    }

-- up to its newline
line_first : (a rest : List ℕ) → Unbroken a → lines (a ++ (newline ∷ rest)) ≡ a ∷ lines rest
unfolding lines onto
line_first [] rest x = refl
line_first (b ∷ a) rest x = rw (x.0, line_first a rest x.1)

-- the lines of some bytes that begin with one line: first that one
pub lines-first : {l : List ℕ} (o : OneLine l) (rest : List ℕ) → lines (l ++ rest) ≡ o.bare ∷ lines rest
lines-first o rest =
    ap (λ (x : List ℕ). lines (x ++ rest)) o.whole ∙ ap lines (append_assoc o.bare (newline ∷ []) rest) ∙ line_first o.bare rest o.unbroken
