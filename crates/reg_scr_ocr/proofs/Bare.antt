-- The bytes of SCR and OCR: one word, and no check.
use mathlib.Core.Path.{◌≡◌, refl, sym, ap, ◌∙◌}
use mathlib.Core.Bool.{Bool, true, false, cond}
use mathlib.Core.List.{List}
use Prim.Native.Nat.{ℕ, ◌*◌, ◌%◌, ◌^◌, ◌<◌, ◌≤◌}
use native.Mathlib.Nat.{mod-eq_of_lt, lt_of_lt_of_le}
use native.Mathlib.Omega.{arith}
use borrow.Author.Tests.{eqb-true}
use lib.Dec.{eqb}
use lib.ListN.{length}
use lib.Pow.{pow_mono}
use Rattle.std.specs.Prelude.{Ok, Err}
use Rattle.crc.specs.Bits.{bits, number, bits_of}
use Rattle.crc.proofs.Bits.{length-bits_of, number_lt}
use Rattle.codec.specs.declared.Refusal.TheVariants.{Size}
use Rattle.codec.specs.Answer.{done}
use Rattle.codec.specs.Layout.{Slot, width, write, read, fits, judged}
use Rattle.codec.specs.Format.{Format, bare, encode, decode}
use Rattle.reg_scr_ocr.specs.Bare.{emitted}
use Rattle.codec.proofs.Bits.{bits_of_lem}
use Rattle.codec.proofs.Words.{within, right-bare, image-bare}
use Rattle.codec.proofs.RoundTrip.{decode-done}
use Rattle.reg_cid.proofs.Words.{read_one}

-- a register of n bytes with no check
abbrev pub unchecked : ℕ → List Slot → Format
unchecked n slots = record { size = n; slots = slots; ending = bare }

-- a word that was read comes from so many bytes
word_read : (b : Bool) (w x : ℕ) → Ok w ≡ cond b (Ok x) (Err Size) → (b ≡ true) × (w ≡ x)
word_read true w x e = (refl, cc)
word_read false w x e = let z : ◌≡◌ {A = ℕ} 0 1 = cc in absurd (omega arith)

module _ (n : ℕ) (slots : List Slot) (wide : width slots ≡ 8 * n) where
  pub word_fields : ((bs : List Bool) → judged slots bs ≡ true) → (s : List ℕ) (w : ℕ) → 8 * n ≤ 64
      → Ok w ≡ cond (eqb (length s) n) (Ok (number (bits_of s) % 2 ^ 64)) (Err Size) → done (within slots (8 * n) w) ≡ decode (unchecked n slots) s
  word_fields free s w room e =
      let p = word_read (eqb (length s) n) w _ e in
      let h : length s ≡ n = eqb-true (length s) n p.0 in
      let l : length (bits_of s) ≡ 8 * n = length-bits_of s ∙ ap (λ (k : ℕ). 8 * k) h in
      let lt : number (bits_of s) < 2 ^ (8 * n) = rw l at (number_lt (bits_of s)) in
      let is : w ≡ number (bits_of s) = p.1 ∙ mod-eq_of_lt (lt_of_lt_of_le lt (pow_mono room)) in
      sym
      (decode-done (unchecked n slots) s (within slots (8 * n) w)
      (record {
        whole = h;
        sound = right-bare (unchecked n slots) s refl (wide ∙ ap (λ (k : ℕ). 8 * k) (sym h)) ∙ free (bits_of s);
        values =
            ap (read slots) (sym (ap (bits (8 * n)) is ∙ bits_of_lem (8 * n) (bits_of s) l))
            ∙ read_one (8 * n) slots w wide;
      }))

  pub emitted_encode : (fit : Bool) (w : ℕ) (out vs : List ℕ) → fit ≡ fits slots vs → bits (8 * n) w ≡ write slots vs
      → emitted fit w n out ≡ encode (unchecked n slots) vs out
  unfolding emitted encode
  emitted_encode fit w out vs h e = rw (h, e, image-bare (unchecked n slots) vs refl)
