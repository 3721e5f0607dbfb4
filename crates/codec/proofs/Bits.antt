-- Laws of bits that a layout and a word share: parts of a word, a run of bytes cut at a byte, and lists of bits compared.
use mathlib.Core.Path.{◌≡◌, refl, sym, ap, ◌∙◌}
use mathlib.Core.Bool.{Bool, true, false, ◌&&◌, false≢true, and-eq-true_iff}
use mathlib.Core.List.{List, [], ◌∷◌, ◌++◌, append_assoc, append-nil}
use Prim.Native.Nat.{ℕ, suc, ◌+◌, ◌-◌, ◌*◌, ◌/◌, ◌%◌, ◌^◌, ◌<◌, ◌≤◌}
use native.Mathlib.Nat.{mod-eq_of_lt}
use native.Mathlib.Omega.{arith}
use borrow.Author.Tests.{eqb-true, eq-eqb}
use lib.Dec.{eqb}
use lib.ListN.{length, get_or, take, drop, take-append-drop, drop_of_length-le}
use lib.Seq.{take_at, drop_at, length-take-le, drop-cons}
use Rattle.crc.specs.Bits.{bits, number, bits_of}
use Rattle.crc.specs.Detection.{same}
use Rattle.crc.proofs.Bits.{length-bits, number-bits, bits-number, bits-split, bits_of_append, length-bits_of}

-- ---- parts of a word

pub bits_of_lem : (w : ℕ) (bs : List Bool) → length bs ≡ w → bits w (number bs) ≡ bs
bits_of_lem w bs h = ap (λ (k : ℕ). bits k (number bs)) (sym h) ∙ bits-number bs

pub number_inj : (xs ys : List Bool) → length xs ≡ length ys → number xs ≡ number ys → xs ≡ ys
number_inj xs ys h e = sym (bits_of_lem (length ys) xs h) ∙ ap (bits (length ys)) e ∙ bits-number ys

pub bits_inj : (w a b : ℕ) → a < 2 ^ w → b < 2 ^ w → bits w a ≡ bits w b → a ≡ b
bits_inj w a b ha hb e = sym (mod-eq_of_lt ha) ∙ sym (number-bits w a) ∙ ap number e ∙ number-bits w b ∙ mod-eq_of_lt hb

-- the first w of k bits, and those behind them
cut : (w k n : ℕ) (rest : List Bool) → w ≤ k → bits k n ++ rest ≡ bits w (n / 2 ^ (k - w)) ++ (bits (k - w) n ++ rest)
cut w k n rest h =
    let e : k ≡ w + (k - w) = omega arith in
    ap (λ (j : ℕ). bits j n ++ rest) e
    ∙ ap (λ (x : List Bool). x ++ rest) (bits-split w (k - w) n)
    ∙ append_assoc (bits w (n / 2 ^ (k - w))) (bits (k - w) n) rest

pub number-take : (w k n : ℕ) (rest : List Bool) → w ≤ k → number (take w (bits k n ++ rest)) ≡ n / 2 ^ (k - w) % 2 ^ w
number-take w k n rest h =
    ap (λ (x : List Bool). number (take w x)) (cut w k n rest h)
    ∙ ap number (take_at (bits w (n / 2 ^ (k - w))) (bits (k - w) n ++ rest) w (length-bits w (n / 2 ^ (k - w))))
    ∙ number-bits w (n / 2 ^ (k - w))

pub drop_bits : (w k n : ℕ) (rest : List Bool) → w ≤ k → drop w (bits k n ++ rest) ≡ bits (k - w) n ++ rest
drop_bits w k n rest h =
    ap (drop w) (cut w k n rest h)
    ∙ drop_at (bits w (n / 2 ^ (k - w))) (bits (k - w) n ++ rest) w (length-bits w (n / 2 ^ (k - w)))

-- ---- a run of bytes, cut behind its first n

module _ (n : ℕ) (s : List ℕ) (h : n ≤ length s) where
  pub length-bits_of_take : length (bits_of (take n s)) ≡ 8 * n
  length-bits_of_take = length-bits_of (take n s) ∙ ap (λ (k : ℕ). 8 * k) (length-take-le n s h)

  pub bits_of-cut : bits_of s ≡ bits_of (take n s) ++ bits_of (drop n s)
  bits_of-cut = ap bits_of (sym (take-append-drop n s)) ∙ bits_of_append (take n s) (drop n s)

  pub take-bits_of : take (8 * n) (bits_of s) ≡ bits_of (take n s)
  take-bits_of = ap (take (8 * n)) bits_of-cut ∙ take_at (bits_of (take n s)) (bits_of (drop n s)) (8 * n) length-bits_of_take

  pub drop-bits_of : drop (8 * n) (bits_of s) ≡ bits_of (drop n s)
  drop-bits_of = ap (drop (8 * n)) bits_of-cut ∙ drop_at (bits_of (take n s)) (bits_of (drop n s)) (8 * n) length-bits_of_take

pub bits_of-last : (n : ℕ) (s : List ℕ) → length s ≡ suc n → bits_of (drop n s) ≡ bits 8 (get_or s n 0)
unfolding bits_of
bits_of-last n s h =
    ap bits_of (drop-cons s n 0 (omega arith))
    ∙ ap (λ (l : List ℕ). bits 8 (get_or s n 0) ++ bits_of l) (drop_of_length-le s {i = suc n} (omega arith))
    ∙ append-nil (bits 8 (get_or s n 0))

-- ---- tests

-- two tests that hold together are the same
pub test_eq : (p q : Bool) → (p ≡ true → q ≡ true) → (q ≡ true → p ≡ true) → p ≡ q
test_eq true true f g = refl
test_eq true false f g = sym (f refl)
test_eq false true f g = g refl
test_eq false false f g = refl

pub both : {a b : Bool} → a ≡ true → b ≡ true → (a && b) ≡ true
both {a} {b} p q = (and-eq-true_iff a b).1 (p, q)

pub same_refl : (xs : List Bool) → same xs xs ≡ true
unfolding same
same_refl [] = refl
same_refl (true ∷ xs) = same_refl xs
same_refl (false ∷ xs) = same_refl xs

pub same_true : (xs ys : List Bool) → same xs ys ≡ true → xs ≡ ys
unfolding same
same_true [] [] e = refl
same_true [] (y ∷ ys) e = absurd (false≢true e)
same_true (x ∷ xs) [] e = absurd (false≢true e)
same_true (true ∷ xs) (true ∷ ys) e = ap {B = List Bool} (λ l. true ∷ l) (same_true xs ys e)
same_true (true ∷ xs) (false ∷ ys) e = absurd (false≢true e)
same_true (false ∷ xs) (true ∷ ys) e = absurd (false≢true e)
same_true (false ∷ xs) (false ∷ ys) e = ap {B = List Bool} (λ l. false ∷ l) (same_true xs ys e)

pub same_eq : (xs ys : List Bool) → xs ≡ ys → same xs ys ≡ true
same_eq xs ys e = ap (same xs) (sym e) ∙ same_refl xs

pub same_bits : (w a b : ℕ) → a < 2 ^ w → b < 2 ^ w → same (bits w a) (bits w b) ≡ eqb a b
same_bits w a b ha hb =
    test_eq (same (bits w a) (bits w b)) (eqb a b)
    (λ e. eq-eqb a b (bits_inj w a b ha hb (same_true (bits w a) (bits w b) e)))
    (λ e. same_eq (bits w a) (bits w b) (ap (bits w) (eqb-true a b e)))
