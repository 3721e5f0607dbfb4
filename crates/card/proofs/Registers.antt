-- The registers on the wire: what the card encodes goes through R2 and comes back as the fields of the record.
use Rattle.std.specs.Prelude.{Option, Some, None}
use mathlib.Core.Path.{◌≡◌, refl, ap, ◌∙◌}
use mathlib.Core.Bool.{Bool, true, false, not, ◌&&◌, and-eq-true_iff, false≢true}
use mathlib.Core.List.{List, [], ◌∷◌}
use mathlib.Core.Option.{none}
use Prim.Native.Nat.{ℕ, suc, ◌≤◌}
use native.Mathlib.Omega.{arith}
use borrow.Author.Tests.{eqb-true, lt-ltb}
use lib.Dec.{eqb, leb}
use lib.ListN.{length}
use lib.Seq.{take_at}
use Rattle.crc.specs.Bits.{digit}
use Rattle.crc.proofs.Bits.{digit_lt}
use Rattle.codec.specs.Answer.{Outcome, done, refused}
use Rattle.codec.specs.Layout.{fits, width, judged}
use Rattle.codec.specs.Format.{Format, image, right, decode}
use Rattle.codec.specs.RoundTrip.{RoundTrip}
use Rattle.codec.proofs.RoundTrip.{done-decode, length-image}
use Rattle.wire_frame.specs.Command.{frame_check, good}
use Rattle.wire_response.specs.Response.{r2_bytes, register_right}
use Rattle.wire_response.proofs.Registers.{r2_trip}
use Rattle.reg_cid.specs.Cid.{cid, cid_values}
use Rattle.reg_cid.proofs.RoundTrips.{cid_round_trip}
use Rattle.reg_csd.specs.Csd.{csd, csd_values}
use Rattle.reg_csd.proofs.RoundTrips.{csd_round_trip}
use Rattle.reg_size.specs.Size.{size_pair}
use Rattle.reg_size.specs.declared.SizePair.{SizePair}
use Rattle.reg_size.proofs.SizeLaws.{size-pair_right}
use Rattle.card.specs.declared.Settings.{Settings}
use Rattle.card.specs.declared.Mode.TheVariants.{Sd}
use Rattle.card.specs.declared.State.{State}
use Rattle.card.specs.declared.State.TheVariants.{Ready, Stby}
use Rattle.card.specs.declared.Core.{Core}
use Rattle.card.specs.declared.command.Command.{Command}
use Rattle.card.specs.declared.command.Command.TheVariants.{AllSendCid, SendCsd, SendCid, Unknown}
use Rattle.card.specs.Settings.{LEAST, MOST, POLLS, is_pair, pair_size, pair_mult, allowed, csd_of, cid_bytes, csd_bytes}
use Rattle.card.specs.Soundness.{equal, unsound}
use Rattle.card.specs.State.{number, ina, number_in}
use Rattle.card.specs.Status.{ERASE_RESET}
use Rattle.card.specs.Table.{row, commands, fits as fitsRow, find, command_of, own, misses, has, moves, legal, accepts}
use Rattle.card.specs.Execute.{raise, drop_erase, pending, settled, run_at, run}
use Rattle.card.specs.Frame.{plain, judge, message_of}
use Rattle.card.specs.Receive.{shown_sd, show_sd, by_check, receive_sd, receive}
use Rattle.card.specs.Step.{World, command_frame, wire, reply_of, show, applies, frame_refusal, framed, step}
use Rattle.card.specs.Registers.{read_register, Reads, ReadsRegisters}
use Rattle.card.proofs.Choices.{cond_either, neither, spared}
use Rattle.card.proofs.Facts.{Fixed, facts-sound}

-- ---- a register of sixteen bytes with its check, in any format of that shape

module _ (f : Format) (trip : RoundTrip f) (vs : List ℕ) (fit : fits f.slots vs ≡ true) (size : f.size ≡ 16)
    (shape : right f (image f vs) ≡ true → register_right (image f vs) ≡ true)
  where
    pub register-read : read_register f (r2_bytes (image f vs)) ≡ done vs
    register-read =
        let back : decode f (image f vs) ≡ done vs = trip.decode-encode vs fit in
        let whole : right f (image f vs) ≡ true = (done-decode f (image f vs) vs back).sound in
        ap (λ (o : Outcome (List ℕ)). elim o as (λ x. Outcome (List ℕ)) [ done register ↦ decode f register | refused k ↦ refused k ])
        (r2_trip.decode-encode (image f vs) (length-image f vs ∙ size) (shape whole))
        ∙ back

    -- a call that is not refused, and answers with that register
    register-sent : (w : World) (frame : List ℕ) (low : Bool) (out : List ℕ) → frame_refusal w frame out ≡ none
        → (receive w.card.core low frame).message ≡ plain (r2_bytes (image f vs)) → Reads f vs (step w (command_frame frame low out))
    unfolding step framed show wire reply_of
    register-sent w frame low out passed says =
        let n : length (r2_bytes (image f vs)) ≡ 17 = ap suc (length-image f vs ∙ size) in
        record { answer = rw (passed, says, n); register = rw (passed, says, take_at (r2_bytes (image f vs)) _ 17 n) register-read }

-- ---- the fields of a sound record fit

pub cid-fits : (s : Settings) → allowed s ≡ true → fits cid.slots (cid_values s.cid) ≡ true
unfolding allowed
cid-fits s e =
    let fit = fits cid.slots (cid_values s.cid) in
    let d = leb s.polls POLLS && fit in
    let c = is_pair (size_pair s.blocks) && d in
    let b = leb s.blocks MOST && c in
    ((and-eq-true_iff (leb s.polls POLLS) fit).0
    ((and-eq-true_iff (is_pair (size_pair s.blocks)) d).0
    ((and-eq-true_iff (leb s.blocks MOST) c).0 ((and-eq-true_iff (leb LEAST s.blocks) b).0 e).1).1).1).1

-- what the pair gives fits C_SIZE and C_SIZE_MULT
pair_fits : (n : ℕ) (p : Option SizePair) → size_pair n ≡ p → (pair_size p ≤ 4095) × (pair_mult p ≤ 7)
pair_fits n (Some pair) e =
    let g = (size-pair_right.pair n pair e).gives in
    (g.size_fits, g.mult_fits)
pair_fits n None e = (omega arith, omega arith)

pub csd-fits : (s : Settings) → fits csd.slots (csd_values (csd_of s)) ≡ true
unfolding fits csd_of
csd-fits s =
    let p = pair_fits s.blocks (size_pair s.blocks) refl in
    simp (
      lt-ltb (pair_size (size_pair s.blocks)) 4096 (let h = p.0 in omega arith),
      lt-ltb (pair_mult (size_pair s.blocks)) 8 (let h = p.1 in omega arith),
      lt-ltb (digit s.permanent) 2 (digit_lt s.permanent),
      lt-ltb (digit s.temporary) 2 (digit_lt s.temporary),
    )

equal_eq : (xs ys : List ℕ) → equal xs ys ≡ true → xs ≡ ys
unfolding equal
equal_eq [] [] e = refl
equal_eq [] (y ∷ ys) e = absurd (false≢true e)
equal_eq (x ∷ xs) [] e = absurd (false≢true e)
equal_eq (x ∷ xs) (y ∷ ys) e =
    let p = (and-eq-true_iff (eqb x y) (equal xs ys)).0 e in
    let h : x ≡ y = eqb-true x y p.0 in
    let t : xs ≡ ys = equal_eq xs ys p.1 in
    cc

-- ---- the two registers, in a call that is not refused

pub cid_shape : (s : List ℕ) → right cid s ≡ true → register_right s ≡ true
unfolding right register_right width judged
cid_shape s e = e

pub csd_shape : (s : List ℕ) → right csd s ≡ true → register_right s ≡ true
unfolding right register_right width judged
csd_shape s e = e

abbrev cid_r2 : Core → List ℕ
cid_r2 c = r2_bytes (cid_bytes c.settings)

abbrev csd_r2 : Core → List ℕ
csd_r2 c = r2_bytes (csd_bytes c.csd)

module _ (w : World) (frame : List ℕ) (low : Bool) (out : List ℕ) (passed : frame_refusal w frame out ≡ none) where
  fixed : Fixed w.card.core.settings w.card.core.csd
  unfolding applies
  fixed =
      let two = neither (unsound w.card.core) _ (spared 2 (3 ∷ 4 ∷ []) _ (spared 1 (2 ∷ 3 ∷ 4 ∷ []) _ passed).1).0 in
      (facts-sound w.card.core two.0).0.fixed

  cid-sent : (receive w.card.core low frame).message ≡ plain (cid_r2 w.card.core)
      → Reads cid (cid_values w.card.core.settings.cid) (step w (command_frame frame low out))
  cid-sent = register-sent cid cid_round_trip _ (cid-fits w.card.core.settings fixed.settings) refl (cid_shape _) w frame low out passed

  csd-sent : (receive w.card.core low frame).message ≡ plain (csd_r2 w.card.core)
      → Reads csd (csd_values w.card.core.csd) (step w (command_frame frame low out))
  csd-sent =
      let same : csd_values w.card.core.csd ≡ csd_values (csd_of w.card.core.settings) = equal_eq _ _ fixed.csd in
      register-sent csd csd_round_trip _ (rw same (csd-fits w.card.core.settings)) refl (csd_shape _) w frame low out passed

-- ---- the command

-- one that runs in this state, found after 55 too; its answer is bytes of the record, which dropped erase marks leave alone
module _
    (c : Core) (argument : ℕ) (k : Command) (s : State) (bytes : Core → List ℕ)
    (bare : find commands false (row k).index (own c.bus argument) Unknown ≡ k)
    (marked : find commands true (row k).index (own c.bus argument) k ≡ k)
    (awake : eqb (number s) ina ≡ false)
    (accepted : accepts k c.locked ≡ true)
    (permitted : has (row k).sd (number s) ≡ true)
    (another : eqb (row k).index 0 ≡ false)
    (says : (d : Core) → message_of k (number s) (run k d argument) (run k d argument).response ≡ plain (bytes d))
    (kept : bytes (drop_erase (raise c ERASE_RESET)) ≡ bytes c)
  where
    found : command_of c.bus (row k).index argument ≡ k
    unfolding command_of
    found = cond_either (λ (x : Command). x ≡ k) c.bus.app (rw bare marked) bare

    settles : bytes (settled k c) ≡ bytes c
    unfolding settled
    settles =
        let P : Core → Type 0 = λ d. bytes d ≡ bytes c in
        cond_either P (row k).keeps_erase refl (cond_either P (pending c) kept refl)

    answers : c.bus.mode ≡ Sd → c.bus.state ≡ s → misses (row k).rca (own c.bus argument) ≡ false → (frame : List ℕ) (low : Bool)
        → frame_check frame ≡ good (row k).index argument → (receive c low frame).message ≡ plain (bytes c)
    unfolding receive receive_sd by_check judge show_sd shown_sd legal moves number_in
    answers mode state mine frame low check =
        let chip : (low && eqb (row k).index 0) ≡ false = rw another (never low) in
        simp (mode, state, awake, check, found, accepted, permitted, mine, chip, says, settles)
      where
        never : (b : Bool) → (b && false) ≡ false
        never true = refl
        never false = refl

-- ---- the claim

pub reads_registers : ReadsRegisters
unfolding row fitsRow find has legal accepts run_at message_of
reads_registers w argument frame low out =
    let c = w.card.core in
    record {
      all_send_cid =
          λ state h. cid-sent w frame low out h.passed
          (answers c argument AllSendCid Ready cid_r2 refl refl refl refl refl refl (λ d. refl) refl h.mode state refl frame low h.check);
      send_cid =
          λ state mine h. cid-sent w frame low out h.passed
          (answers c argument SendCid Stby cid_r2 refl refl refl refl refl refl (λ d. refl) refl h.mode state (ap not mine) frame low h.check);
      send_csd =
          λ state mine h. csd-sent w frame low out h.passed
          (answers c argument SendCsd Stby csd_r2 refl refl refl refl refl refl (λ d. refl) refl h.mode state (ap not mine) frame low h.check);
    }
