-- The moves of a row by the digits of a number.
use mathlib.Core.Path.{◌≡◌, refl, sym, ap, ◌∙◌}
use mathlib.Core.Bool.{Bool, true, false, cond, not, ◌&&◌, ◌||◌, false≢true}
use mathlib.Core.List.{List, [], ◌∷◌}
use Prim.Native.Nat.{ℕ, zero, suc, ◌+◌, ◌*◌, ◌/◌, ◌%◌, ◌^◌, ◌<◌, ◌≤◌}
use native.Mathlib.Nat.{div-div-eq-div-mul, zero-add}
use native.Mathlib.Omega.{arith}
use borrow.Author.Tests.{ltb-true, ne_eqb}
use lib.Bits.{bit_and, and_mask}
use lib.Dec.{eqb, ltb}
use lib.Pow.{pow-add}
use Rattle.std.specs.Prelude.{Option}
use Rattle.std.specs.Bool.{then_some}
use Rattle.std.specs.Option.{is_some, unwrap_or}
use Rattle.card.specs.declared.command.Command.{Command}
use Rattle.card.specs.declared.command.Command.TheVariants.{GoIdleState, AllSendCid, SendRelativeAddr, SelectCard, DeselectCard, SendIfCond, SendCsd, SendCid, StopTransmission, SendStatus, AppCmd, GoInactiveState, SetBlocklen, ReadSingleBlock, ReadMultipleBlock, SendWriteProt, WriteBlock, WriteMultipleBlock, LockUnlock, SetWriteProt, ClrWriteProt, Erase, EraseWrBlkStart, EraseWrBlkEnd, SdStatus, SendNumWrBlocks, SendScr, SetWrBlkEraseCount, SetClrCardDetect, SdSendOpCond, ReadOcr, CrcOnOff, Unknown}
use Rattle.card.specs.declared.Bus.{Bus}
use Rattle.card.specs.declared.State.{State}
use Rattle.card.specs.State.{in_spi, number_in, arrive}
use Rattle.card.specs.Table.{Move, row, moves, has, lead, legal, after}
use Rattle.card_table.specs.declared.Columns.{Columns}
use Rattle.card_table.specs.Packed.{lead_or, move_from, packed, packed_row}

-- every state that the moves lead to is below 15, which stands for none
low : List Move → Bool
low [] = true
low (m ∷ ms) = ltb m.to 15 && low ms

low-row : (k : Command) → (low (row k).sd ≡ true) × (low (row k).spi ≡ true)
unfolding low row
low-row GoIdleState = (refl, refl)
low-row AllSendCid = (refl, refl)
low-row SendRelativeAddr = (refl, refl)
low-row SelectCard = (refl, refl)
low-row DeselectCard = (refl, refl)
low-row SendIfCond = (refl, refl)
low-row SendCsd = (refl, refl)
low-row SendCid = (refl, refl)
low-row StopTransmission = (refl, refl)
low-row SendStatus = (refl, refl)
low-row AppCmd = (refl, refl)
low-row GoInactiveState = (refl, refl)
low-row SetBlocklen = (refl, refl)
low-row ReadSingleBlock = (refl, refl)
low-row ReadMultipleBlock = (refl, refl)
low-row SendWriteProt = (refl, refl)
low-row WriteBlock = (refl, refl)
low-row WriteMultipleBlock = (refl, refl)
low-row LockUnlock = (refl, refl)
low-row SetWriteProt = (refl, refl)
low-row ClrWriteProt = (refl, refl)
low-row Erase = (refl, refl)
low-row EraseWrBlkStart = (refl, refl)
low-row EraseWrBlkEnd = (refl, refl)
low-row SdStatus = (refl, refl)
low-row SendNumWrBlocks = (refl, refl)
low-row SendScr = (refl, refl)
low-row SetWrBlkEraseCount = (refl, refl)
low-row SetClrCardDetect = (refl, refl)
low-row SdSendOpCond = (refl, refl)
low-row ReadOcr = (refl, refl)
low-row CrcOnOff = (refl, refl)
low-row Unknown = (refl, refl)

-- in either mode
low_in : (spi : Bool) (k : Command) → low (moves spi k) ≡ true
unfolding moves
low_in true k = (low-row k).1
low_in false k = (low-row k).0

both : (a b : Bool) → (a && b) ≡ true → (a ≡ true) × (b ≡ true)
both true b h = (refl, h)
both false b h = absurd (false≢true h)

-- by whether the first move is the one
low_at : (t : Bool) (to x : ℕ) (rest : Bool) → ltb to 15 ≡ true → (rest ≡ true → x < 15) → (t || rest) ≡ true → cond t to x < 15
low_at true to x rest e more h = ltb-true to 15 e
low_at false to x rest e more h = more h

lead_low : (ms : List Move) (n : ℕ) → low ms ≡ true → has ms n ≡ true → lead ms n < 15
unfolding low has lead
lead_low [] n l h = absurd (false≢true h)
lead_low (m ∷ ms) n l h =
    let (e, more) = both (ltb m.to 15) (low ms) l in
    low_at (eqb m.from n) m.to (lead ms n) (has ms n) e (lead_low ms n more) h

stays_at : (t : Bool) (to x n : ℕ) (rest : Bool) → (rest ≡ false → x ≡ n) → (t || rest) ≡ false → cond t to x ≡ n
stays_at true to x n rest more h = absurd (false≢true (sym h))
stays_at false to x n rest more h = more h

-- with no move it stays
lead-stays : (ms : List Move) (n : ℕ) → has ms n ≡ false → lead ms n ≡ n
unfolding has lead
lead-stays [] n h = refl
lead-stays (m ∷ ms) n h = stays_at (eqb m.from n) m.to (lead ms n) n (has ms n) (lead-stays ms n) h

-- ---- digits

below_at : (t : Bool) (x : ℕ) → (t ≡ true → x < 15) → cond t x 15 < 16
below_at true x h = omega (arith, h refl)
below_at false x h = omega arith

below : (ms : List Move) (n : ℕ) → low ms ≡ true → lead_or ms n < 16
unfolding lead_or
below ms n l = below_at (has ms n) (lead ms n) (lead_low ms n l)

first-digit : (a p : ℕ) → a < 16 → (a + 16 * p) / 2 ^ (4 * 0) % 16 ≡ a
first-digit a p h = omega arith

next-digit : (a p n : ℕ) → a < 16 → (a + 16 * p) / 2 ^ (4 * suc n) ≡ p / 2 ^ (4 * n)
next-digit a p n h =
    let more : 4 * suc n ≡ 4 + 4 * n = omega arith in
    let rest : (a + 16 * p) / 16 ≡ p = omega arith in
    ap (λ (e : ℕ). (a + 16 * p) / 2 ^ e) more
    ∙ ap (λ (d : ℕ). (a + 16 * p) / d) (pow-add 2 4 (4 * n))
    ∙ sym (div-div-eq-div-mul (a + 16 * p) 16 (2 ^ (4 * n)))
    ∙ ap (λ (x : ℕ). x / 2 ^ (4 * n)) rest

digit_at : (ms : List Move) → low ms ≡ true → (s k n : ℕ) → n < k → packed ms s k / 2 ^ (4 * n) % 16 ≡ lead_or ms (s + n)
unfolding packed
digit_at ms l s zero n h = absurd (let never : ⊥ = omega arith in never)
digit_at ms l s (suc k) zero h =
    let e : s ≡ s + 0 = omega arith in
    first-digit (lead_or ms s) (packed ms (suc s) k) (below ms s l) ∙ ap (lead_or ms) e
digit_at ms l s (suc k) (suc n) h =
    let less : n < k = omega arith in
    let e : suc s + n ≡ s + suc n = omega arith in
    ap (λ (x : ℕ). x % 16) (next-digit (lead_or ms s) (packed ms (suc s) k) n (below ms s l))
    ∙ digit_at ms l (suc s) k n less
    ∙ ap (lead_or ms) e

digit_of : (ms : List Move) → low ms ≡ true → (n : ℕ) → n ≤ 9 → packed ms 0 10 / 2 ^ (4 * n) % 16 ≡ lead_or ms n
digit_of ms l n h =
    let less : n < 10 = omega arith in
    digit_at ms l 0 10 n less ∙ ap (lead_or ms) (zero-add n)

-- ---- the table read, by the row that the code has and the mode

pub digit_in : (k : Command) (spi : Bool) (r : Columns) (n : ℕ) → r ≡ packed_row k → n ≤ 9 → cond spi r.spi r.sd / 2 ^ (4 * n) % 16 ≡ lead_or (moves spi k) n
unfolding moves
digit_in k true r n e h = ap (λ (x : Columns). x.spi / 2 ^ (4 * n) % 16) e ∙ digit_of (row k).spi (low-row k).1 n h
digit_in k false r n e h = ap (λ (x : Columns). x.sd / 2 ^ (4 * n) % 16) e ∙ digit_of (row k).sd (low-row k).0 n h

-- the digit of a row, by the word that the mode has
pub digit_by : (k : Command) (spi : Bool) (r : Columns) (n w : ℕ) → r ≡ packed_row k → n ≤ 9 → w ≡ cond spi r.spi r.sd
    → bit_and (w / 2 ^ (4 * n)) 15 ≡ lead_or (moves spi k) n
digit_by k spi r n w e h p =
    and_mask (w / 2 ^ (4 * n)) 4 ∙ ap (λ (x : ℕ). x / 2 ^ (4 * n) % 16) p ∙ digit_in k spi r n e h

led_at : (t : Bool) (x : ℕ) → (t ≡ true → x < 15) → then_some (not (eqb (cond t x 15) 15)) (cond t x 15) ≡ then_some t x
led_at true x h = ap (λ (b : Bool). then_some (not b) x) (ne_eqb x 15 (λ e. omega (arith, h refl)))
led_at false x h = refl

-- F is none
pub led_by : (k : Command) (spi : Bool) (n d : ℕ) → d ≡ lead_or (moves spi k) n → then_some (not (eqb d 15)) d ≡ move_from (moves spi k) n
unfolding lead_or
led_by k spi n d e = rw e (led_at (has (moves spi k) n) (lead (moves spi k) n) (lead_low (moves spi k) n (low_in spi k)))

some_at : (t : Bool) (x : ℕ) → is_some (then_some t x) ≡ t
some_at true x = refl
some_at false x = refl

or_at : (t : Bool) (x n : ℕ) → (t ≡ false → x ≡ n) → unwrap_or (then_some t x) n ≡ x
or_at true x n h = refl
or_at false x n h = sym (h refl)

module _ (k : Command) (b : Bus) (spi : Bool) (n : ℕ) (to : Option ℕ) (p : spi ≡ in_spi b.mode) (q : n ≡ number_in spi b.state) (r : to ≡ move_from (moves spi k) n) where
  pub legal_by : is_some to ≡ legal k b
  unfolding legal
  legal_by = rw (r, some_at (has (moves spi k) n) (lead (moves spi k) n), q, p)

  pub after_by : (t : State) → arrive (unwrap_or to n) t ≡ after k b t
  unfolding after
  after_by t = rw (r, or_at (has (moves spi k) n) (lead (moves spi k) n) n (lead-stays (moves spi k) n), q, p)
