-- The card's turns: each command of the sequence at its place, with the world behind it and what is heard.
use mathlib.Core.Path.{◌≡◌, refl}
use mathlib.Core.Bool.{Bool, true, false}
use mathlib.Core.List.{List, [], ◌∷◌}
use Prim.Native.Nat.{ℕ, suc, ◌-◌}
use native.Mathlib.Omega.{arith}
use borrow.Author.Tests.{ne_eqb}
use lib.Dec.{eqb}
use Rattle.crc.specs.Bits.{bits, number}
use Rattle.codec.specs.Layout.{fits}
use Rattle.codec.specs.Format.{image}
use Rattle.wire_response.specs.Response.{r1, r3, r6, r7, r2_bytes}
use Rattle.wire_response.specs.Status.{short_status}
use Rattle.card.specs.declared.Settings.{Settings}
use Rattle.card.specs.declared.Password.{Password}
use Rattle.card.specs.declared.Mode.TheVariants.{Sd}
use Rattle.card.specs.declared.State.{State}
use Rattle.card.specs.declared.State.TheVariants.{Idle, Ready, Ident, Stby, Tran}
use Rattle.card.specs.Settings.{BLOCK, csd_of, cid_bytes, csd_bytes}
use Rattle.card.specs.Record.{no_erase}
use Rattle.card.specs.State.{number_in, arrive}
use Rattle.card.specs.Status.{no_bits, status}
use Rattle.card.specs.Table.{row, fits as fitsRow, find, own, command_of, moves, has, lead, legal, accepts, after}
use Rattle.card.specs.Execute.{send_op_cond, sd_send_op_cond, settled, run_at}
use Rattle.card.specs.Effects.{affected}
use Rattle.card.specs.Frame.{judge, message_of, cleared}
use Rattle.card.specs.Receive.{shown_sd, show_sd}
use Rattle.card.specs.Step.{World, world, line, wire, flagged, show}
use Rattle.host_card.proofs.Exchange.{Turns}

-- ---- the answers

abbrev pub echo : List ℕ
echo = image r7 (1 ∷ 0xAA ∷ [])

-- ready for data, and bit 5; on a locked card bit 25 too
abbrev pub marked : Bool → List ℕ
marked false = image (r1 55) (0x120 ∷ [])
marked true = image (r1 55) (0x2000120 ∷ [])

abbrev pub busy_ocr : List ℕ
busy_ocr = image r3 (0x00FF8000 ∷ [])

abbrev pub ready_ocr : List ℕ
ready_ocr = image r3 (0x80FF8000 ∷ [])

-- ready for data, in ident
abbrev pub published : List ℕ
published = image r6 (1 ∷ short_status 1280 ∷ [])

-- ready for data, in stby; on a locked card bit 25 too
abbrev pub chosen : Bool → List ℕ
chosen false = image (r1 7) (0x700 ∷ [])
chosen true = image (r1 7) (0x2000700 ∷ [])

-- ---- the card at its places

module _ (s : Settings) (p : Password) (marks memory : List ℕ) where
  -- no bits are kept, no erase is marked, no COM_CRC_ERROR
  abbrev pub at : Bool → State → ℕ → ℕ → Bool → World
  at locked state rca polls app = world (record {
    core = record {
      settings = s;
      csd = csd_of s;
      bus = record { mode = Sd; state = state; rca = rca; published = rca; polls = polls; app = app };
      kept = no_bits;
      erase = no_erase;
      length = BLOCK;
      written = 0;
      locked = locked;
      marks = marks;
    };
    password = p;
    line = line false;
  }) memory

  -- a turn for each command; A41 is one of two
  pub record Answers (locked : Bool) : Type 0 where
    pub go_idle_state : Turns (at locked Idle 0 s.polls false) 0 0 (at locked Idle 0 s.polls false) []
    pub send_if_cond : (q : ℕ) → Turns (at locked Idle 0 q false) 8 0x1AA (at locked Idle 0 q false) echo
    pub app_cmd : (q : ℕ) → Turns (at locked Idle 0 q false) 55 0 (at locked Idle 0 q true) (marked locked)
    pub still_busy : (q : ℕ) → Turns (at locked Idle 0 (suc q) true) 41 0xFF8000 (at locked Idle 0 q false) busy_ocr
    pub ready : Turns (at locked Idle 0 0 true) 41 0xFF8000 (at locked Ready 0 0 false) ready_ocr
    pub all_send_cid : Turns (at locked Ready 0 0 false) 2 0 (at locked Ident 0 0 false) (r2_bytes (cid_bytes s))
    pub send_relative_addr : Turns (at locked Ident 0 0 false) 3 0 (at locked Stby 1 0 false) published
    pub send_csd : Turns (at locked Stby 1 0 false) 9 0x10000 (at locked Stby 1 0 false) (r2_bytes (csd_bytes (csd_of s)))
    pub select_card : Turns (at locked Stby 1 0 false) 7 0x10000 (at locked Tran 1 0 false) (chosen locked)

  -- those whose answer shows the lock, or might
  app_cmd-turns : (locked : Bool) (q : ℕ) → Turns (at locked Idle 0 q false) 55 0 (at locked Idle 0 q true) (marked locked)
  unfolding fits short_status number bits judge own command_of find fitsRow row moves number_in legal accepts has lead after arrive settled run_at sd_send_op_cond send_op_cond shown_sd show_sd cleared message_of show wire flagged affected status
  app_cmd-turns false q = record { fit = refl; sd = refl; awake = refl; next = refl; says = refl }
  app_cmd-turns true q = record { fit = refl; sd = refl; awake = refl; next = refl; says = refl }

  send_relative_addr-turns : (locked : Bool) → Turns (at locked Ident 0 0 false) 3 0 (at locked Stby 1 0 false) published
  unfolding fits short_status number bits judge own command_of find fitsRow row moves number_in legal accepts has lead after arrive settled run_at sd_send_op_cond send_op_cond shown_sd show_sd cleared message_of show wire flagged affected status
  send_relative_addr-turns false = record { fit = refl; sd = refl; awake = refl; next = refl; says = refl }
  send_relative_addr-turns true = record { fit = refl; sd = refl; awake = refl; next = refl; says = refl }

  select_card-turns : (locked : Bool) → Turns (at locked Stby 1 0 false) 7 0x10000 (at locked Tran 1 0 false) (chosen locked)
  unfolding fits short_status number bits judge own command_of find fitsRow row moves number_in legal accepts has lead after arrive settled run_at sd_send_op_cond send_op_cond shown_sd show_sd cleared message_of show wire flagged affected status
  select_card-turns false = record { fit = refl; sd = refl; awake = refl; next = refl; says = refl }
  select_card-turns true = record { fit = refl; sd = refl; awake = refl; next = refl; says = refl }

  pub answers : (locked : Bool) → Answers locked
  unfolding fits short_status number bits judge own command_of find fitsRow row moves number_in legal accepts has lead after arrive settled run_at sd_send_op_cond send_op_cond shown_sd show_sd cleared message_of show wire flagged affected status
  answers locked = record {
    go_idle_state = record { fit = refl; sd = refl; awake = refl; next = refl; says = refl };
    send_if_cond = λ q. record { fit = refl; sd = refl; awake = refl; next = refl; says = refl };
    app_cmd = app_cmd-turns locked;
    still_busy = λ q.
        let some : eqb (suc q) 0 ≡ false = ne_eqb (suc q) 0 (λ e. omega arith) in
        let fewer : suc q - 1 ≡ q = omega arith in
        record { fit = refl; sd = refl; awake = refl; next = rw (some, fewer); says = rw some };
    ready = record { fit = refl; sd = refl; awake = refl; next = refl; says = refl };
    all_send_cid = record { fit = refl; sd = refl; awake = refl; next = refl; says = refl };
    send_relative_addr = send_relative_addr-turns locked;
    send_csd = record { fit = refl; sd = refl; awake = refl; next = refl; says = refl };
    select_card = select_card-turns locked;
  }
