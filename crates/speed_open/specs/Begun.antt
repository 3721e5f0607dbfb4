-- A card that is brought up in either bus mode and given a command: the model's step, frame after frame.
use Rattle.std.specs.Prelude.{Bool, false, cond, List, [], ◌∷◌, ℕ, ◌/◌, ◌%◌, ◌^◌, length, replicate}
use Rattle.std.specs.List.{fold}
use Rattle.card.specs.declared.Settings.{Settings}
use Rattle.card.specs.Settings.{BLOCK}
use Rattle.card.specs.Lock.{no_password}
use Rattle.card.specs.Step.{World, world, power_up, command_frame, ROOM, next, unpowered}

-- a block count that memory gives, no polls, CID zero, unprotected
abbrev pub settings : ℕ → Settings
settings n = record {
  blocks = n / BLOCK % 2 ^ 32;
  polls = 0;
  cid = record { mid = 0; oid = 0; pnm = 0; prv = 0; psn = 0; mdt = 0 };
  permanent = false;
  temporary = false;
}

abbrev pub powered : List ℕ → World
powered memory = next (world unpowered memory) (power_up (settings (length memory)) no_password)

-- a frame with a buffer of zeroes, chip select low for SPI mode
abbrev pub heard : World → Bool → List ℕ → World
heard w spi frame = next w (command_frame frame spi (replicate ROOM 0))

-- 0, 55, A41, 59 and 13
abbrev pub SPI_MODE : List (List ℕ)
SPI_MODE =
    (0x40 ∷ 0 ∷ 0 ∷ 0 ∷ 0 ∷ 0x95 ∷ [])
    ∷ (0x77 ∷ 0 ∷ 0 ∷ 0 ∷ 0 ∷ 0x65 ∷ [])
    ∷ (0x69 ∷ 0 ∷ 0 ∷ 0 ∷ 0 ∷ 0xE5 ∷ [])
    ∷ (0x7B ∷ 0 ∷ 0 ∷ 0 ∷ 1 ∷ 0x83 ∷ [])
    ∷ (0x4D ∷ 0 ∷ 0 ∷ 0 ∷ 0 ∷ 0x0D ∷ [])
    ∷ []

-- 55, A41, 2, 3 and 7: as many
abbrev pub SD_MODE : List (List ℕ)
SD_MODE =
    (0x77 ∷ 0 ∷ 0 ∷ 0 ∷ 0 ∷ 0x65 ∷ [])
    ∷ (0x69 ∷ 0 ∷ 0xFF ∷ 0x80 ∷ 0 ∷ 0x85 ∷ [])
    ∷ (0x42 ∷ 0 ∷ 0 ∷ 0 ∷ 0 ∷ 0x4D ∷ [])
    ∷ (0x43 ∷ 0 ∷ 0 ∷ 0 ∷ 0 ∷ 0x21 ∷ [])
    ∷ (0x47 ∷ 0 ∷ 1 ∷ 0 ∷ 0 ∷ 0xDD ∷ [])
    ∷ []

-- by the frames of the mode, and then the command that opens the transfer
abbrev pub begun : Bool → List ℕ → List ℕ → World
begun spi frame memory = heard (fold (λ w sent. heard w spi sent) (powered memory) (cond spi SPI_MODE SD_MODE)) spi frame
