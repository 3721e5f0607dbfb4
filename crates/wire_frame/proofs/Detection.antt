-- A damaged frame is never well formed: the error-detection law on bytes.
use mathlib.Core.Path.{◌≡◌, refl, sym, ap, ◌∙◌}
use mathlib.Core.Bool.{Bool, true, and-eq-true_iff}
use mathlib.Core.List.{List, [], ◌∷◌, ◌++◌, append_assoc}
use Prim.Native.Nat.{ℕ}
use native.Mathlib.Omega.{arith}
use lib.ListN.{length, take, drop, take-append-drop, length-append}
use lib.Seq.{length-take-le}
use Rattle.crc.specs.Bits.{bits_of}
use Rattle.crc.specs.Crc.{crc, poly7}
use Rattle.crc.specs.Altered.{Altered}
use Rattle.crc.specs.Detection.{same}
use Rattle.crc.proofs.Bits.{length-bits, length-bits_of}
use Rattle.crc.proofs.Register.{length-crc}
use Rattle.crc.proofs.Detection.{poly7_detects}
use Rattle.codec.specs.Layout.{width, judged}
use Rattle.codec.proofs.Bits.{same_true}
use Rattle.codec.proofs.RoundTrip.{done-decode}
use Rattle.wire_frame.specs.Command.{command}
use Rattle.wire_frame.specs.Damage.{WellFormed, DamagedFrame}
use Rattle.wire_frame.specs.Claims.{FrameCaught}
use Rattle.wire_frame.specs.Frame.{closing}
use Rattle.wire_frame.proofs.Commands.{decode-checked}
use Rattle.wire_frame.proofs.Frames.{right-frame}
use Rattle.wire_frame.proofs.Fronts.{altered-front}

-- ---- the bits of a well-formed frame

length-poly7 : length poly7 ≡ 7
unfolding poly7
length-poly7 = length-bits 7 9

-- the 47 bits before the end bit
abbrev word : List ℕ → List Bool
word s = take 40 (bits_of s) ++ crc poly7 (take 40 (bits_of s))

length-word : (s : List ℕ) → length s ≡ 6 → length (word s) ≡ 47
length-word s h =
    let head = take 40 (bits_of s) in
    length-append head (crc poly7 head)
    ∙ omega (arith, length-take-le 40 (bits_of s) (omega (arith, length-bits_of s)), length-crc poly7 (omega (arith, length-poly7)) head, length-poly7)

word_end : (s : List ℕ) → WellFormed s → bits_of s ≡ word s ++ (true ∷ [])
unfolding closing width
word_end s w =
    let bs = bits_of s in
    let last = closing true (take 40 bs) in
    let (j, c) = (and-eq-true_iff (judged command.slots bs) (same (drop 40 bs) last)).0 (sym (right-frame command.slots s refl) ∙ w.sound) in
    sym (take-append-drop 40 bs)
    ∙ ap (λ (x : List Bool). take 40 bs ++ x) (same_true (drop 40 bs) last c)
    ∙ sym (append_assoc (take 40 bs) (crc poly7 (take 40 bs)) (true ∷ []))

-- ---- the law

caught : (got : List ℕ) → DamagedFrame got → WellFormed got → ⊥
caught got d w =
    let sent = d.sent in
    let l : length (word sent) ≡ 47 = length-word sent d.well_formed.size in
    let k : length (word got) ≡ 47 = length-word got w.size in
    let a : Altered 2 7 (word sent ++ (true ∷ [])) (word got ++ (true ∷ [])) =
    rw (← word_end sent d.well_formed, ← word_end got w) d.altered in
    poly7_detects (word sent) (word got) (omega arith)
    (record { message = take 40 (bits_of sent); checked = refl })
    (rw length-poly7 (altered-front 2 7 (word sent) (word got) true (l ∙ sym k) a))
    (record { message = take 40 (bits_of got); checked = refl })

pub frame-caught : FrameCaught
frame-caught = record {
  never_well_formed = caught;
  never-good =
      λ got d index argument e.
      let r = done-decode command got _ (sym (decode-checked got _ (sym e))) in
      caught got d (record { size = r.whole; sound = r.sound });
}
