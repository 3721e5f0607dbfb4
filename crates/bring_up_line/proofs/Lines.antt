-- Lines of the card: those that its program writes, and those that are too long.
use mathlib.Core.Path.{◌≡◌, refl, sym, ap, ◌∙◌}
use mathlib.Core.Bool.{Bool, true, false, cond}
use mathlib.Core.List.{List, [], ◌++◌}
use Prim.Native.Nat.{ℕ, ◌+◌, ◌*◌, ◌%◌, ◌≤◌, ◌<◌}
use native.Mathlib.Omega.{arith}
use borrow.Author.Tests.{le-leb, eq-eqb, leb-true, leb-false}
use lib.Dec.{leb}
use lib.ListN.{length, take, drop, length-take, length-drop}
use lib.Seq.{take_all}
use Rattle.crc.specs.Bits.{Bytes}
use Rattle.card.specs.Soundness.{equal}
use Rattle.replay_read.specs.Hex.{hex}
use Rattle.replay_read.specs.Keep.{collected, keep_all, kept}
use Rattle.replay_read.proofs.Collecting.{all-kept}
use Rattle.replay_read.proofs.Digits.{length-hex}
use Rattle.replay_read.proofs.RoundTrip.{all-hex, unhex-hex}
use Rattle.replay_read.proofs.Words.{lengths_differ}
use Rattle.replay_write.specs.declared.Kind.TheVariants.{Response}
use Rattle.replay_write.specs.Write.{word}
use Rattle.bring_up_line.specs.Answer.{Said, bytes, other, NONE, field, read_answer}
use Rattle.bring_up_line.specs.Laws.{ROOM}
use Rattle.bring_up_line.proofs.Fields.{field_off}

-- ---- lines that were written

field-hex : (most : ℕ) (s : List ℕ) → Bytes s → 1 ≤ length s → length s ≤ most → field most (hex s) ≡ bytes s
unfolding field
field-hex most s b l m =
    let n = length-hex s in
    rw (
      le-leb 1 (length (hex s)) (omega arith),
      le-leb (length (hex s)) (2 * most) (omega arith),
      eq-eqb (length (hex s) % 2) 0 (omega arith),
      all-hex s b,
      unhex-hex s b,
    )

pub response-read : (most : ℕ) (s : List ℕ) → Bytes s → 1 ≤ length s → length s ≤ most → read_answer most (word Response ++ hex s) ≡ bytes s
unfolding read_answer equal
response-read most s b l m = field-hex most s b l m

pub silence-read : (most : ℕ) → read_answer most NONE ≡ bytes []
unfolding read_answer equal
silence-read most = refl

-- ---- lines that are too long

cond_same : (b : Bool) (l : Said) → cond b l l ≡ l
cond_same true l = refl
cond_same false l = refl

too_long : (most : ℕ) (s : List ℕ) → 2 * most + 4 < length s → read_answer most s ≡ other
unfolding read_answer
too_long most s h =
    let tail = length-drop 4 s in
    rw (lengths_differ s NONE (λ e. omega arith), field_off most (drop 4 s) (omega arith), cond_same)

module _ (most : ℕ) where
  pub front_enough : (s : List ℕ) → read_answer most s ≡ read_answer most (take (ROOM most) s)
  front_enough s = by (leb (length s) (ROOM most)) refl
    where
      by : (b : Bool) → leb (length s) (ROOM most) ≡ b → read_answer most s ≡ read_answer most (take (ROOM most) s)
      by true e = ap (read_answer most) (sym (take_all (ROOM most) s (leb-true _ _ e)))
      by false e =
          let h : ROOM most < length s = leb-false _ _ e in
          too_long most s (omega arith) ∙ sym (too_long most (take (ROOM most) s) (omega (arith, length-take (ROOM most) s)))

  pub kept_read : (buffer s : List ℕ) → length buffer ≡ ROOM most → read_answer most (kept (keep_all (collected buffer 0) s)) ≡ read_answer most s
  kept_read buffer s h = ap (read_answer most) (all-kept buffer s ∙ ap (λ (n : ℕ). take n s) h) ∙ sym (front_enough s)
