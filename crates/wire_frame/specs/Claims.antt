-- What is proved of command frames beside the contracts.
use Rattle.std.specs.Prelude.{◌≡◌, Bool, true, List, ℕ}
use Rattle.codec.specs.Format.{decode}
use Rattle.codec.specs.RoundTrip.{RoundTrip}
use Rattle.wire_frame.specs.Command.{command, good, frame_check, frame_check_by, frame_outcome}
use Rattle.wire_frame.specs.Damage.{WellFormed, DamagedFrame}

-- the frame check says what the decoder says
abbrev pub FrameDecoded : Type 0
FrameDecoded = (s : List ℕ) → frame_outcome (frame_check s) ≡ decode command s

-- with checks on it is the frame check of SD mode, and a frame that passes that one passes with checks off, too
pub record CheckedBy : Type 0 where
  pub on : (s : List ℕ) → frame_check_by true s ≡ frame_check s
  pub good : (checks : Bool) (s : List ℕ) (index argument : ℕ) → frame_check s ≡ good index argument → frame_check_by checks s ≡ good index argument

abbrev pub CommandRoundTrip : Type 0
CommandRoundTrip = RoundTrip command

-- a damaged frame is never well formed, and its check is never good
pub record FrameCaught : Type 0 where
  pub never_well_formed : (got : List ℕ) → DamagedFrame got → WellFormed got → ⊥
  pub never-good : (got : List ℕ) → DamagedFrame got → (index argument : ℕ) → frame_check got ≡ good index argument → ⊥
