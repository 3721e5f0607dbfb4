-- The messages of the card: in an R1 that a frame gets COM_CRC_ERROR is free, and its first byte says that it is one; blocks and their
-- answers carry no status.
use mathlib.Core.Path.{◌≡◌, refl, sym, ap, ◌∙◌}
use mathlib.Core.Bool.{Bool, true, false, not, ◌||◌, true≢false, false≢true}
use mathlib.Core.List.{List, [], ◌∷◌}
use mathlib.Core.Option.{some}
use Prim.Native.Nat.{ℕ, ◌+◌, ◌*◌, ◌^◌, ◌<◌}
use native.Mathlib.Omega.{arith}
use lib.Dec.{eqb}
use Rattle.crc.specs.Bits.{digit, bits, number}
use Rattle.crc.proofs.Bits.{digit_lt}
use Rattle.card.specs.declared.Source.{Source}
use Rattle.card.specs.declared.Source.TheVariants.{Blocks, WriteProtect, SdStatus as SdStatusBlock, WrittenBlocks, Scr, Csd as CsdBlock, Cid as CidBlock}
use Rattle.card.specs.declared.Sink.TheVariants.{Single, Multiple, LockUnlock as LockBlock}
use Rattle.card.specs.declared.State.{State}
use Rattle.card.specs.declared.Open.{Open}
use Rattle.card.specs.declared.Open.TheVariants.{Nothing, Read, Write, Busy}
use Rattle.card.specs.declared.Kept.{Kept}
use Rattle.card.specs.declared.Core.{Core}
use Rattle.card.specs.declared.command.Command.{Command}
use Rattle.card.specs.declared.command.Command.TheVariants.{GoIdleState, AllSendCid, SendRelativeAddr, SelectCard, DeselectCard, SendIfCond, SendCsd, SendCid, StopTransmission, SendStatus, AppCmd, GoInactiveState, SetBlocklen, ReadSingleBlock, ReadMultipleBlock, SendWriteProt, WriteBlock, WriteMultipleBlock, LockUnlock, SetWriteProt, ClrWriteProt, Erase, EraseWrBlkStart, EraseWrBlkEnd, SdStatus, SendNumWrBlocks, SendScr, SetWrBlkEraseCount, SetClrCardDetect, SdSendOpCond, ReadOcr, CrcOnOff, Unknown}
use Rattle.card.specs.declared.done.Response.{Response}
use Rattle.card.specs.declared.done.Response.TheVariants.{R1, R6, Cid, Csd, R3, R7}
use Rattle.card.specs.declared.done.Done.{Done}
use Rattle.card.specs.Settings.{capacity, address_of}
use Rattle.card.specs.State.{number as number_of, in_spi}
use Rattle.card.specs.Protect.{whole, guarded}
use Rattle.card.specs.Checks.{outside, crossing}
use Rattle.card.specs.Table.{row}
use Rattle.card.specs.Execute.{settled, run_at}
use Rattle.card.specs.Frame.{Message, silence, r1, r6, spi_r1, plain, block, token, finished, Turn, message_of}
use Rattle.card.specs.Spi.{r1_byte, behind_r1}
use Rattle.card.specs.Receive.{receive}
use Rattle.card.specs.Data.{take_source, take_from, write_into, lock_into, block_into, over_from}
use Rattle.card.specs.Step.{led_message}
use Rattle.card.specs.History.{carrier}
use Rattle.card.proofs.Words.{Free, status-free}
use Rattle.card.proofs.Choices.{cond_either}
use Rattle.card.proofs.Received.{doing, receive_elim}

-- ---- data: no status

abbrev pub Stateless : Message → Type 0
Stateless silence = Unit {0}
Stateless (r1 index word) = ⊥
Stateless (r6 rca word) = ⊥
Stateless (spi_r1 byte s) = ⊥
Stateless (plain s) = Unit {0}
Stateless (block payload) = Unit {0}
Stateless (token n) = Unit {0}
Stateless finished = Unit {0}

abbrev Bare : Turn → Type 0
Bare t = Stateless t.message

source_bare : (s : Source) (c : Core) (memory : List ℕ) → Bare (take_source s c memory)
unfolding take_source
source_bare (Blocks multiple address held) c memory =
    cond_either Bare held tt
    (cond_either Bare (outside (capacity c.settings) address) tt (cond_either Bare (crossing c.length address) tt tt))
source_bare (WriteProtect address) c memory = tt
source_bare SdStatusBlock c memory = tt
source_bare WrittenBlocks c memory = tt
source_bare Scr c memory = tt
source_bare CsdBlock c memory = tt
source_bare CidBlock c memory = tt

pub take_bare : (o : Open) (c : Core) (memory : List ℕ) → Bare (take_from o c memory)
unfolding take_from
take_bare Nothing c memory = tt
take_bare (Read s) c memory = source_bare s c memory
take_bare (Write s) c memory = tt
take_bare (Busy s) c memory = tt

write-bare : (multiple held right : Bool) (a : ℕ) (c : Core) (payload : List ℕ) → Bare (write_into multiple a held right c payload)
unfolding write_into
write-bare multiple held right a c payload =
    cond_either Bare held tt
    (cond_either Bare (not right) tt
    (cond_either Bare (outside (capacity c.settings) a) tt (cond_either Bare (guarded (whole c.settings) c.marks a) tt tt)))

lock-bare : (right success : Bool) (c : Core) (payload : List ℕ) → Bare (lock_into right success c payload)
unfolding lock_into
lock-bare right success c payload = cond_either Bare (not right) tt (cond_either Bare success tt tt)

pub block-bare : (o : Open) (right success : Bool) (c : Core) (payload : List ℕ) → Bare (block_into o right success c payload)
unfolding block_into
block-bare Nothing right success c payload = tt
block-bare (Read s) right success c payload = tt
block-bare (Write (Single a held)) right success c payload = write-bare false held right a c payload
block-bare (Write (Multiple a held)) right success c payload = write-bare true held right a c payload
block-bare (Write LockBlock) right success c payload = lock-bare right success c payload
block-bare (Busy s) right success c payload = tt

-- a token before a block carries no status either
pub led-stateless : (spi : Bool) (m : Message) → Stateless m → Stateless (led_message spi m)
unfolding led_message
led-stateless spi silence h = tt
led-stateless spi (r1 index word) h = absurd h
led-stateless spi (r6 rca word) h = absurd h
led-stateless spi (spi_r1 byte s) h = absurd h
led-stateless spi (plain s) h = tt
led-stateless true (block payload) h = tt
led-stateless false (block payload) h = tt
led-stateless spi (token n) h = tt
led-stateless spi finished h = tt

pub over-bare : (o : Open) (c : Core) → Bare (over_from o c)
unfolding over_from
over-bare Nothing c = tt
over-bare (Read s) c = tt
over-bare (Write s) c = tt
over-bare (Busy s) c = tt

-- ---- frames

-- the first byte of a response with this index
abbrev pub lead_byte : ℕ → ℕ
lead_byte index = number (false ∷ (false ∷ bits 6 index))

-- an R1 of SPI mode has COM_CRC_ERROR free, and nothing behind it
pub record FreeR1 (byte : ℕ) (s : List ℕ) : Type 0 where
  pub high : ℕ
  pub low : ℕ
  pub below : low < 8
  pub parts : byte ≡ low + 16 * high
  pub alone : s ≡ []

abbrev pub Clean : Message → Type 0
Clean silence = Unit {0}
Clean (r1 index word) = Free word × (carrier (lead_byte index) ≡ some 2)
Clean (r6 rca word) = Unit {0}
Clean (spi_r1 byte s) = FreeR1 byte s
Clean (plain s) = Unit {0}
Clean (block payload) = Unit {0}
Clean (token n) = Unit {0}
Clean finished = Unit {0}

abbrev Says : Turn → Type 0
Says t = Clean t.message

-- a command that is answered by R1 has none of the indices that tell the other responses
abbrev Told : Command → Type 0
Told k = carrier (lead_byte (row k).index) ≡ some 2

r1-told : (k : Command) (c : Core) (x a : ℕ) → (run_at k c x a).response ≡ R1 → Told k
unfolding run_at row carrier number bits
r1-told GoIdleState c x a e = refl
r1-told AllSendCid c x a e = refl
r1-told SendRelativeAddr c x a e = let z : ◌≡◌ {A = ℕ} 0 1 = cc in absurd (omega arith)
r1-told SelectCard c x a e = refl
r1-told DeselectCard c x a e = refl
r1-told SendIfCond c x a e = let z : ◌≡◌ {A = ℕ} 0 1 = cc in absurd (omega arith)
r1-told SendCsd c x a e = refl
r1-told SendCid c x a e = refl
r1-told StopTransmission c x a e = refl
r1-told SendStatus c x a e = refl
r1-told AppCmd c x a e = refl
r1-told GoInactiveState c x a e = refl
r1-told SetBlocklen c x a e = refl
r1-told ReadSingleBlock c x a e = refl
r1-told ReadMultipleBlock c x a e = refl
r1-told SendWriteProt c x a e = refl
r1-told WriteBlock c x a e = refl
r1-told WriteMultipleBlock c x a e = refl
r1-told LockUnlock c x a e = refl
r1-told SetWriteProt c x a e = refl
r1-told ClrWriteProt c x a e = refl
r1-told Erase c x a e = refl
r1-told EraseWrBlkStart c x a e = refl
r1-told EraseWrBlkEnd c x a e = refl
r1-told SdStatus c x a e = refl
r1-told SendNumWrBlocks c x a e = refl
r1-told SendScr c x a e = refl
r1-told SetWrBlkEraseCount c x a e = refl
r1-told SetClrCardDetect c x a e = refl
r1-told SdSendOpCond c x a e = refl
r1-told ReadOcr c x a e = refl
r1-told CrcOnOff c x a e = refl
r1-told Unknown c x a e = refl

response_clean : (k : Command) (s : State) (d : Done) (r : Response) → (r ≡ R1 → Told k) → Clean (message_of k (number_of s) d r)
unfolding message_of
response_clean k s d Response.Nothing h = tt
response_clean k s d R1 h = (status-free _ _ s _, h refl)
response_clean k s d R6 h = tt
response_clean k s d Cid h = tt
response_clean k s d Csd h = tt
response_clean k s d (R3 ocr) h = tt
response_clean k s d (R7 voltage pattern) h = cond_either Clean (eqb voltage 0) tt tt

-- 0 alone has index 0, and has no response of its own
nothing-behind : (k : Command) (c : Core) (x a : ℕ) → eqb (row k).index 0 ≡ true → (run_at k c x a).response ≡ Response.Nothing
unfolding run_at row
nothing-behind GoIdleState c x a e = refl
nothing-behind AllSendCid c x a e = absurd (false≢true e)
nothing-behind SendRelativeAddr c x a e = absurd (false≢true e)
nothing-behind SelectCard c x a e = absurd (false≢true e)
nothing-behind DeselectCard c x a e = absurd (false≢true e)
nothing-behind SendIfCond c x a e = absurd (false≢true e)
nothing-behind SendCsd c x a e = absurd (false≢true e)
nothing-behind SendCid c x a e = absurd (false≢true e)
nothing-behind StopTransmission c x a e = absurd (false≢true e)
nothing-behind SendStatus c x a e = absurd (false≢true e)
nothing-behind AppCmd c x a e = absurd (false≢true e)
nothing-behind GoInactiveState c x a e = absurd (false≢true e)
nothing-behind SetBlocklen c x a e = absurd (false≢true e)
nothing-behind ReadSingleBlock c x a e = absurd (false≢true e)
nothing-behind ReadMultipleBlock c x a e = absurd (false≢true e)
nothing-behind SendWriteProt c x a e = absurd (false≢true e)
nothing-behind WriteBlock c x a e = absurd (false≢true e)
nothing-behind WriteMultipleBlock c x a e = absurd (false≢true e)
nothing-behind LockUnlock c x a e = absurd (false≢true e)
nothing-behind SetWriteProt c x a e = absurd (false≢true e)
nothing-behind ClrWriteProt c x a e = absurd (false≢true e)
nothing-behind Erase c x a e = absurd (false≢true e)
nothing-behind EraseWrBlkStart c x a e = absurd (false≢true e)
nothing-behind EraseWrBlkEnd c x a e = absurd (false≢true e)
nothing-behind SdStatus c x a e = absurd (false≢true e)
nothing-behind SendNumWrBlocks c x a e = absurd (false≢true e)
nothing-behind SendScr c x a e = absurd (false≢true e)
nothing-behind SetWrBlkEraseCount c x a e = absurd (false≢true e)
nothing-behind SetClrCardDetect c x a e = absurd (false≢true e)
nothing-behind SdSendOpCond c x a e = absurd (false≢true e)
nothing-behind ReadOcr c x a e = absurd (false≢true e)
nothing-behind CrcOnOff c x a e = absurd (false≢true e)
nothing-behind Unknown c x a e = absurd (false≢true e)

r1-free : (k : Kept) (isIdle : Bool) (s : List ℕ) → s ≡ [] → FreeR1 (r1_byte k isIdle) s
unfolding r1_byte
r1-free k isIdle s e = record {
  high = digit (k.out_of_range || k.block_len_error) * 2 ^ 2 + digit k.address_error * 2 + digit k.erase_seq_error;
  low = digit k.illegal_command * 2 ^ 2 + digit k.erase_reset * 2 + digit isIdle;
  below = omega (arith, digit_lt k.illegal_command, digit_lt k.erase_reset, digit_lt isIdle);
  parts = omega arith;
  alone = e;
}

-- SD mode
pub receive_clean : (c : Core) (low : Bool) (frame : List ℕ) → in_spi c.bus.mode ≡ false → Says (receive c low frame)
unfolding behind_r1
receive_clean c low frame =
    receive_elim c (λ t. in_spi c.bus.mode ≡ false → Says t) (record {
      still = λ sd. tt;
      damaged = λ sd. tt;
      elsewhere = λ sd. tt;
      illegal = λ sd. tt;
      runs = λ k x may sd.
          let d = settled k c in
          response_clean k c.bus.state (doing c k x) (doing c k x).response (r1-told k d x (address_of d.settings x));
      choosing = λ k x may zero sd.
          let d = settled k c in
          r1-free _ _ _ (ap (behind_r1 k _ _) (nothing-behind k d x (address_of d.settings x) zero));
      damaged_spi = λ spi sd. tt;
      illegal_spi = λ spi sd. tt;
      runs_spi = λ spi k x may sd. absurd (true≢false (sym spi ∙ sd));
    }) low frame
