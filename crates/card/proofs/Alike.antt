-- Each call does the same on two worlds that differ in COM_CRC_ERROR only, in SD mode: no command is named, since only the line is
-- different. In SPI mode the two are one.
use mathlib.Core.Path.{◌≡◌, refl, sym, ap, subst, ◌∙◌}
use mathlib.Core.Bool.{Bool, true, false, true≢false}
use mathlib.Core.List.{List, [], ◌++◌}
use Prim.Native.Nat.{ℕ}
use lib.ListN.{length, drop}
use Rattle.codec.specs.Answer.{done}
use Rattle.card.specs.declared.Password.{Password}
use Rattle.card.specs.declared.Line.{Line}
use Rattle.card.specs.declared.done.Flag.{Flag}
use Rattle.card.specs.declared.done.Flag.TheVariants.{Keep, Clear}
use Rattle.card.specs.declared.command.Command.TheVariants.{StopTransmission}
use Rattle.card.specs.State.{in_spi}
use Rattle.card.specs.Frame.{Turn, quiet}
use Rattle.card.specs.Receive.{receive}
use Rattle.card.specs.Execute.{moved}
use Rattle.card.specs.Data.{take_from, block_into, password_into, over_from}
use Rattle.card.specs.Step.{Call, power_up, command_frame, block_in, take_block, busy_over, World, world, Result, refuse, over, flagged, show, fresh, start, opened, Incoming, payload, stop, ignored, entered, arrived, handed, power_refusal, frame_refusal, block_refusal, success, take_refusal, over_refusal, powered_up, framed, given, taken, overed, step}
use Rattle.card.specs.History.{spi_of, SameWorld, hidden}
use Rattle.card.proofs.Choices.{unless-either}
use Rattle.card.proofs.Modes.{take-mode, block-mode, over-mode, receive-clears}
use Rattle.card.proofs.Messages.{Stateless, receive_clean, take_bare, block-bare, led-stateless, over-bare}
use Rattle.card.proofs.HiddenBits.{hidden_same, wire_same, reply_same}

-- what `Alike` says of two results of a call, in a mode
pub record Matched (spi : Bool) (c : Call) (x y : Result) : Type 0 where
  pub answer : x.answer ≡ y.answer
  pub out : hidden spi c x.answer x.out ≡ hidden spi c y.answer y.out
  pub world : SameWorld x.world y.world

-- ---- SD mode: the world with another line

abbrev relined : World → Line → World
relined w l = record { card = record { core = w.card.core; password = w.card.password; line = l }; memory = w.memory }

module _ (w : World) (l : Line) (sd : spi_of w ≡ false) where
  never : {A : Type 0} → spi_of w ≡ true → A
  never spi = absurd (true≢false (sym spi ∙ sd))

  refuse-alike : (c : Call) (out : List ℕ) (k : ℕ) → Matched false c (refuse w out k) (refuse (relined w l) out k)
  refuse-alike c out k = record { answer = refl; out = refl; world = record { core = refl; password = refl; memory = refl; line = λ spi. never spi } }

  frame-alike : (frame : List ℕ) (low : Bool) (out : List ℕ)
      → Matched false (command_frame frame low out) (show w w.card.password out (receive w.card.core low frame)) (show (relined w l) w.card.password out (receive w.card.core low frame))
  unfolding show flagged
  frame-alike frame low out =
      let c = w.card.core in
      let t = receive c low frame in
      record {
        answer = ap done (reply_same t.message w.card.line.com_crc_error l.com_crc_error);
        out =
            hidden_same t.message (receive_clean c low frame sd) w.card.line.com_crc_error l.com_crc_error frame low out out;
        world = record {
          core = refl;
          password = refl;
          memory = refl;
          line = λ spi.
              let e : t.flag ≡ Clear = receive-clears c low frame sd spi in
              ap (λ (f : Flag). flagged f w.card.line) e ∙ ap (λ (f : Flag). flagged f l) (sym e);
        };
      }

  -- a turn of data shows the same bytes
  data_alike : (c : Call) (password : Password) (out : List ℕ) (t : Turn) → Stateless t.message → t.core.bus.mode ≡ w.card.core.bus.mode
      → Matched false c (show w password out t) (show (relined w l) password out t)
  unfolding show
  data_alike c password out t h kept =
      let p = w.card.line.com_crc_error in
      let q = l.com_crc_error in
      record {
        answer = ap done (reply_same t.message p q);
        out =
            λ i. hidden false c (done (reply_same t.message p q i))
            (wire_same t.message h p q i ++ drop (length (wire_same t.message h p q i)) out);
        world = record { core = refl; password = refl; memory = refl; line = λ spi. never (ap in_spi (sym kept) ∙ spi) };
      }

  entered-alike : (block : List ℕ) (i : Incoming) → Matched false (block_in block) (entered w i) (entered (relined w l) i)
  unfolding entered
  entered-alike block (payload right s) =
      let c = w.card.core in
      let o = opened w in
      data_alike (block_in block) (password_into o right (success w s) w.card.password s) [] (block_into o right (success w s) c s)
      (block-bare o right (success w s) c s) (block-mode c o right (success w s) s)
  entered-alike block stop = data_alike (block_in block) w.card.password [] (quiet (moved StopTransmission w.card.core) Keep) tt refl
  entered-alike block ignored = data_alike (block_in block) w.card.password [] (quiet w.card.core Keep) tt refl

  relined-alike : (c : Call) → Matched false c (step w c) (step (relined w l) c)
  unfolding step powered_up framed given taken overed start fresh
  relined-alike (power_up s p) =
      let r : Result = record { answer = done over; world = world (start s p) w.memory; out = [] } in
      unless-either (Matched false (power_up s p)) (power_refusal w s p) w (relined w l) [] {x = r} {y = r} (refuse-alike (power_up s p) [])
      (record { answer = refl; out = refl; world = record { core = refl; password = refl; memory = refl; line = λ spi. refl } })
  relined-alike (command_frame frame low out) =
      unless-either (Matched false (command_frame frame low out)) (frame_refusal w frame out) w (relined w l) out
      {x = show w w.card.password out (receive w.card.core low frame)} {y = show (relined w l) w.card.password out (receive w.card.core low frame)}
      (refuse-alike (command_frame frame low out) out) (frame-alike frame low out)
  relined-alike (block_in s) =
      unless-either (Matched false (block_in s)) (block_refusal w s) w (relined w l) [] {x = entered w (arrived w s)} {y = entered (relined w l) (arrived w s)}
      (refuse-alike (block_in s) []) (entered-alike s (arrived w s))
  relined-alike (take_block out) =
      let t = take_from (opened w) w.card.core w.memory in
      unless-either (Matched false (take_block out)) (take_refusal w out) w (relined w l) out {x = show w w.card.password out (handed w)} {y = show (relined w l) w.card.password out (handed w)}
      (refuse-alike (take_block out) out)
      (data_alike (take_block out) w.card.password out (handed w)
      (led-stateless (spi_of w) t.message (take_bare (opened w) w.card.core w.memory)) (take-mode w.card.core (opened w) w.memory))
  relined-alike busy_over =
      let t = over_from (opened w) w.card.core in
      unless-either (Matched false busy_over) (over_refusal w) w (relined w l) [] {x = show w w.card.password [] t} {y = show (relined w l) w.card.password [] t}
      (refuse-alike busy_over [])
      (data_alike busy_over w.card.password [] t (over-bare (opened w) w.card.core) (over-mode w.card.core (opened w)))

-- ---- SPI mode: the two are the same

same-matched : (spi : Bool) (c : Call) (x : Result) → Matched spi c x x
same-matched spi c x = record { answer = refl; out = refl; world = record { core = refl; password = refl; memory = refl; line = λ e. refl } }

pub step-alike : (a b : World) → SameWorld a b → (c : Call) → Matched (spi_of a) c (step a c) (step b c)
step-alike a b s c = go (spi_of a) refl
  where
    go : (spi : Bool) → spi_of a ≡ spi → Matched spi c (step a c) (step b c)
    go true e =
        subst (λ (w : World). Matched true c (step a c) (step w c))
        (λ i. record { card = record { core = s.core i; password = s.password i; line = s.line e i }; memory = s.memory i })
        (same-matched true c (step a c))
    go false e =
        subst (λ (w : World). Matched false c (step a c) (step w c))
        (λ i. record { card = record { core = s.core i; password = s.password i; line = b.card.line }; memory = s.memory i })
        (relined-alike a b.card.line e c)
