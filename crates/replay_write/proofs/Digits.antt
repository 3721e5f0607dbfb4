-- Hex digits, a byte at a time: what a turn of the loop that writes them does.
use mathlib.Core.Path.{◌≡◌, sym, ap, ap₂, ◌∙◌}
use mathlib.Core.List.{List, [], ◌∷◌, ◌++◌, append_assoc, append-nil}
use Prim.Native.Nat.{ℕ, suc, ◌+◌, ◌*◌, ◌/◌, ◌<◌, ◌≤◌}
use native.Mathlib.Numerals.{add-one}
use native.Mathlib.Omega.{arith}
use lib.Bits.{bit_and, and_mask}
use lib.ListN.{length, get_or, take, drop, set, drop_of_length-le}
use lib.Seq.{drop-cons, take_all, take-suc-set, lt-length-set}
use Rattle.replay_read.specs.Hex.{hex_digit, hex}

module _ (bytes out : List ℕ) (i : ℕ) where
  pub hex-more : (high low : ℕ) → i < length bytes → 2 * i + 1 < length out
      → high ≡ hex_digit (get_or bytes i 0 / 16) → low ≡ hex_digit (bit_and (get_or bytes i 0) 15)
      → hex bytes ≡ take (2 * i) out ++ hex (drop i bytes)
      → hex bytes ≡ take (2 * (i + 1)) (set (set out (2 * i) high) (2 * i + 1) low) ++ hex (drop (i + 1) bytes)
  unfolding hex
  hex-more high low h k eh el inv =
      let j : ℕ = 2 * i in
      let rest : List ℕ = hex (drop (suc i) bytes) in
      let first : List ℕ = set out j high in
      let e : 2 * (i + 1) ≡ suc (j + 1) = omega arith in
      let two : take (2 * (i + 1)) (set first (j + 1) low) ≡ take j out ++ (high ∷ []) ++ (low ∷ []) =
      ap (λ (n : ℕ). take n (set first (j + 1) low)) e
      ∙ take-suc-set first (j + 1) low (lt-length-set out j high k)
      ∙ ap (λ (l : List ℕ). l ++ (low ∷ [])) (ap (λ (n : ℕ). take n first) (add-one j) ∙ take-suc-set out j high (omega arith)) in
      inv
      ∙ ap (λ (l : List ℕ). take j out ++ hex l) (drop-cons bytes i 0 h)
      ∙ ap₂ (λ (a b : ℕ). take j out ++ (a ∷ b ∷ rest)) (sym eh) (sym (el ∙ ap hex_digit (and_mask (get_or bytes i 0) 4)))
      ∙ sym (append_assoc (take j out) (high ∷ []) (low ∷ rest))
      ∙ sym (append_assoc (take j out ++ (high ∷ [])) (low ∷ []) rest)
      ∙ ap₂ (λ (l : List ℕ) (n : ℕ). l ++ hex (drop n bytes)) (sym two) (sym (add-one i))

  pub hex_all : length bytes ≤ i → length out ≤ 2 * i → hex bytes ≡ take (2 * i) out ++ hex (drop i bytes) → out ≡ hex bytes
  unfolding hex
  hex_all h k inv =
      sym (inv ∙ ap (λ (l : List ℕ). take (2 * i) out ++ hex l) (drop_of_length-le bytes h) ∙ append-nil (take (2 * i) out) ∙ take_all (2 * i) out k)
