-- Hex that was written is read back.
use mathlib.Core.Path.{◌≡◌, refl, ap₂, ◌∙◌}
use mathlib.Core.Bool.{true, and-false}
use mathlib.Core.List.{List, [], ◌∷◌, ◌++◌}
use Prim.Native.Nat.{ℕ, suc, ◌+◌, ◌-◌, ◌*◌, ◌/◌, ◌%◌, ◌<◌, ◌≤◌}
use native.Mathlib.Omega.{arith}
use borrow.Author.Tests.{lt-ltb, le-leb, lt-leb, eq-eqb, ltb-true, ltb-false}
use lib.Dec.{ltb}
use lib.ListN.{length}
use Rattle.crc.specs.Bits.{Bytes}
use Rattle.card.specs.Soundness.{equal}
use Rattle.card.proofs.Choices.{cond_elim}
use Rattle.replay_read.specs.Hex.{hex_digit, hex, hex_value, all_hex, unhex}
use Rattle.replay_read.specs.Read.{Request, cmd, blk, CMD, BLK, field, read_line}
use Rattle.replay_read.proofs.Digits.{length-hex}

-- ---- a digit

low_digit : (n : ℕ) → n < 10 → hex_value (48 + n) ≡ n
low_digit n h =
    let e : 48 + n - 48 ≡ n = omega arith in
    simp (le-leb 48 (48 + n) (omega arith), le-leb (48 + n) 57 (omega arith), e)

high_digit : (n : ℕ) → 10 ≤ n → n < 16 → hex_value (55 + n) ≡ n
high_digit n l h =
    let e : 55 + n - 55 ≡ n = omega arith in
    simp (lt-leb (55 + n) 57 (omega arith), le-leb 65 (55 + n) (omega arith), le-leb (55 + n) 70 (omega arith), and-false, e)

value-digit : (n : ℕ) → n < 16 → hex_value (hex_digit n) ≡ n
value-digit n h =
    cond_elim (λ (c : ℕ). hex_value c ≡ n) (ltb n 10) (λ e. low_digit n (ltb-true n 10 e)) (λ e. high_digit n (ltb-false n 10 e) h)

-- ---- bytes

pub all-hex : (s : List ℕ) → Bytes s → all_hex (hex s) ≡ true
unfolding hex all_hex
all-hex [] b = refl
all-hex (x ∷ s) b =
    let high : hex_value (hex_digit (x / 16)) ≡ x / 16 = value-digit (x / 16) (omega (arith, b 0)) in
    let low : hex_value (hex_digit (x % 16)) ≡ x % 16 = value-digit (x % 16) (omega arith) in
    rw (high, low, lt-ltb (x / 16) 16 (omega (arith, b 0)), lt-ltb (x % 16) 16 (omega arith)) (all-hex s (λ i. b (suc i)))

pub unhex-hex : (s : List ℕ) → Bytes s → unhex (hex s) ≡ s
unfolding hex unhex
unhex-hex [] b = refl
unhex-hex (x ∷ s) b =
    let high : hex_value (hex_digit (x / 16)) ≡ x / 16 = value-digit (x / 16) (omega (arith, b 0)) in
    let low : hex_value (hex_digit (x % 16)) ≡ x % 16 = value-digit (x % 16) (omega arith) in
    let whole : x / 16 * 16 + x % 16 ≡ x = omega arith in
    ap₂ (λ (y : ℕ) (t : List ℕ). y ∷ t) (ap₂ (λ (h l : ℕ). h * 16 + l) high low ∙ whole) (unhex-hex s (λ i. b (suc i)))

-- ---- lines

field-hex : (n : ℕ) (s : List ℕ) (make : List ℕ → Request) → Bytes s → 2 * length s ≡ n → field n (hex s) make ≡ make s
unfolding field
field-hex n s make b h = rw (eq-eqb _ n (length-hex s ∙ h), all-hex s b, unhex-hex s b)

pub frame-read : (f : List ℕ) → Bytes f → length f ≡ 6 → read_line (CMD ++ hex f) ≡ cmd f
unfolding read_line equal
frame-read f b h = field-hex 12 f cmd b (omega arith)

pub block_read : (p : List ℕ) → Bytes p → length p ≡ 514 → read_line (BLK ++ hex p) ≡ blk p
unfolding read_line equal
block_read p b h = field-hex 1028 p blk b (omega arith)
