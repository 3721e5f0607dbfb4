-- Command frames: start 0, transmission 1, 6-bit index, 32-bit argument, CRC7, end 1.
use Rattle.std.specs.Prelude.{Bool, cond, not, ◌&&◌, ◌||◌, List, [], ◌∷◌, ℕ, ◌%◌, eqb, length, get_or, Result, Ok, Err}
use Rattle.crc.specs.Bits.{bits_of}
use Rattle.codec.specs.declared.Refusal.{Refusal}
use Rattle.codec.specs.declared.Refusal.TheVariants as Row
use Rattle.codec.specs.Answer.{Outcome, done, refused, SIZE, WRONG, outcome_of}
use Rattle.codec.specs.Layout.{field, fixed, read, judged}
use Rattle.codec.specs.Format.{Format, crc7_from, right}
use Rattle.wire_frame.specs.declared.command.CommandFields.{CommandFields}
use Rattle.wire_frame.specs.declared.command.Fault.{Fault}
use Rattle.wire_frame.specs.declared.command.Fault.TheVariants.{Size, Start, Check}

abbrev pub command : Format
command = record {
  size = 6;
  slots = fixed 1 0 ∷ fixed 1 1 ∷ field 6 ∷ field 32 ∷ [];
  ending = crc7_from 0;
}

-- what the frame check says
abbrev pub FrameCheck : Type 0
FrameCheck = Result CommandFields Fault

-- a frame with this index and argument
abbrev pub good : ℕ → ℕ → FrameCheck
good index argument = Ok (record { index = index; argument = argument })

-- the frame rules' order: size; start or transmission bit; check or end bit
unfoldable pub frame_check : List ℕ → FrameCheck
frame_check s =
    let fs = read command.slots (bits_of s) in
    cond (eqb (length s) 6) (cond (judged command.slots (bits_of s)) (cond (right command s) (good (get_or fs 0 0) (get_or fs 1 0)) (Err Check)) (Err Start)) (Err Size)

-- SPI mode (02, order 5): with checks off a wrong CRC7 is passed over; that of 8 is always judged, and so is every end bit
abbrev pub passed_over : Bool → List ℕ → Bool
passed_over checks s = not checks && (not (eqb (get_or (read command.slots (bits_of s)) 0 0) 8) && eqb (get_or s 5 0 % 2) 1)

unfoldable pub frame_check_by : Bool → List ℕ → FrameCheck
frame_check_by checks s =
    let fs = read command.slots (bits_of s) in
    cond (eqb (length s) 6) (cond (judged command.slots (bits_of s)) (cond (right command s || passed_over checks s) (good (get_or fs 0 0) (get_or fs 1 0)) (Err Check)) (Err Start)) (Err Size)

-- 01's numbers and values of the answers
abbrev pub frame_outcome : FrameCheck → Outcome (List ℕ)
frame_outcome (Ok fields) = done (fields.index ∷ fields.argument ∷ [])
frame_outcome (Err Size) = refused SIZE
frame_outcome (Err Start) = refused WRONG
frame_outcome (Err Check) = refused WRONG

-- why the decoder refuses a frame
abbrev pub refusal_of : Fault → Refusal
refusal_of Size = Row.Size
refusal_of Start = Row.Wrong
refusal_of Check = Row.Wrong

abbrev pub command_read : Result CommandFields Refusal → Outcome (List ℕ)
command_read = outcome_of (λ fields. fields.index ∷ fields.argument ∷ [])
