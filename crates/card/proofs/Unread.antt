-- Status bits that are kept are shown and read by nothing: a command, a block and a take do the same whatever they are.
use mathlib.Core.Path.{◌≡◌, refl, sym, ap, subst, ◌∙◌}
use mathlib.Core.Bool.{Bool, true, false, cond, not, ◌&&◌}
use mathlib.Core.List.{List, [], ◌∷◌}
use mathlib.Core.Option.{Option, none, some}
use Prim.Native.Nat.{ℕ, ◌+◌, ◌-◌, ◌/◌}
use lib.Dec.{eqb, leb, ltb}
use lib.ListN.{length, replicate}
use Rattle.std.specs.Prelude.{Ok, Err}
use Rattle.wire_frame.specs.declared.command.Fault.TheVariants.{Size, Start, Check as WrongCheck}
use Rattle.wire_response.specs.Response as Wire
use Rattle.wire_frame.specs.Command.{FrameCheck}
use Rattle.card.specs.declared.Source.{Source}
use Rattle.card.specs.declared.Source.TheVariants.{Blocks, WriteProtect, SdStatus, WrittenBlocks, Scr, Csd as CsdBlock, Cid as CidBlock}
use Rattle.card.specs.declared.Sink.{Sink}
use Rattle.card.specs.declared.Sink.TheVariants.{Single, Multiple}
use Rattle.card.specs.declared.Open.{Open}
use Rattle.card.specs.declared.Open.TheVariants.{Read, Write, Busy}
use Rattle.card.specs.declared.Kept.{Kept}
use Rattle.card.specs.declared.Core.{Core}
use Rattle.card.specs.declared.lock.Operation.{Operation}
use Rattle.card.specs.declared.lock.Operation.TheVariants.{ForceErase, Lock, Unlock, ClearPassword, SetPassword, Invalid}
use Rattle.card.specs.declared.command.Command.{Command}
use Rattle.card.specs.declared.command.Command.TheVariants.{GoIdleState, AllSendCid, SendRelativeAddr, SelectCard, DeselectCard, SendIfCond, SendCsd, SendCid, StopTransmission, SendStatus, AppCmd, GoInactiveState, SetBlocklen, ReadSingleBlock, ReadMultipleBlock, SendWriteProt, WriteBlock, WriteMultipleBlock, LockUnlock, SetWriteProt, ClrWriteProt, Erase, EraseWrBlkStart, EraseWrBlkEnd, SendNumWrBlocks, SendScr, SetWrBlkEraseCount, SetClrCardDetect, SdSendOpCond, ReadOcr, CrcOnOff, Unknown}
use Rattle.card.specs.declared.done.Response.{Response}
use Rattle.card.specs.declared.done.Response.TheVariants.{R1, R6, Cid, Csd, R3, R7}
use Rattle.card.specs.declared.done.Effect.{Effect}
use Rattle.card.specs.declared.done.Done.{Done}
use Rattle.card.specs.declared.done.Judged.{Judged}
use Rattle.card.specs.declared.done.Flag.{Flag}
use Rattle.card.specs.declared.done.Flag.TheVariants.{Keep}
use Rattle.card.specs.declared.Mode.TheVariants.{Spi}
use Rattle.card.specs.Settings.{BLOCK, capacity, cid_bytes, csd_bytes}
use Rattle.card.specs.Record.{with_kept, with_app, with_mode, is_set, address}
use Rattle.card.specs.State.{idle, number, ina, in_spi}
use Rattle.card.specs.Status.{no_bits, join}
use Rattle.card.specs.Table.{row, command_of, own, misses, sets_app, legal, accepts}
use Rattle.card.specs.Protect.{whole, guarded, any_guarded}
use Rattle.card.specs.Checks.{Check, first_failure, outside, crossing}
use Rattle.card.specs.Execute.{ran, raise, moved, checked, read_blocks, write_blocks, set_mark, window, fitting, drop_erase, pending, settled, erase_start, erase_end, skipped, erased, erase, send_op_cond, send_op_cond_spi, sd_send_op_cond, run_at, run}
use Rattle.card.specs.Lock.{operation}
use Rattle.card.specs.Frame.{Message, silence, r1, r6, spi_r1, plain, block, token, finished, Turn, quiet, judge, message_of, cleared, finish}
use Rattle.card.specs.Spi.{sends_r2, behind_r1, finish_spi}
use Rattle.card.specs.Receive.{chooses, chosen, shown_sd, show_sd, by_check, receive_sd, show_spi, by_check_spi, receive}
use Rattle.card.specs.Data.{take_source, take_from, write_into, operate, lock_into, block_into, over_from}
use Rattle.card.proofs.Received.{doing}
use Rattle.card.proofs.Frames.{cleared-kept}

-- the same choice on both sides
cond_both : {A : Type 0} (R : A → A → Type 0) (b : Bool) {x x' y y' : A} → R x x' → R y y' → R (cond b x y) (cond b x' y')
cond_both R true p q = p
cond_both R false p q = q

-- the same record, but for the status bits
abbrev pub Same : Core → Core → Type 0
Same c d = with_kept c no_bits ≡ with_kept d no_bits

pub rekept : (c d : Core) → Same c d → d ≡ with_kept c d.kept
rekept c d p = ap (λ (x : Core). with_kept x d.kept) (sym p)

-- ---- commands

record SameDone (d e : Done) : Type 0 where
  pub core : Same d.core e.core
  pub response : d.response ≡ e.response
  pub effect : d.effect ≡ e.effect

same : {c d : Core} {r : Response} {e : Effect} → Same c d
    → SameDone (record { core = c; response = r; effect = e }) (record { core = d; response = r; effect = e })
same p = record { core = p; response = refl; effect = refl }

checked_same : (c : Core) (b : Kept) (checks : List Check) {d e : Done} → SameDone d e → SameDone (checked c checks d) (checked (with_kept c b) checks e)
checked_same c b checks {d} {e} p = go (first_failure checks)
  where
    go : (o : Option ℕ) → SameDone (elim o [ none ↦ d | some n ↦ ran (raise c n) R1 ]) (elim o [ none ↦ e | some n ↦ ran (raise (with_kept c b) n) R1 ])
    go none = p
    go (some n) = same refl

skipped_same : (c : Core) (b : Kept) (first count : ℕ) → Same (skipped c first count) (skipped (with_kept c b) first count)
unfolding skipped
skipped_same c b first count = cond_both Same (any_guarded (whole c.settings) c.marks first count) refl refl

erased_same : (c : Core) (b : Kept) (from to : ℕ) → SameDone (erased c from to) (erased (with_kept c b) from to)
erased_same c b from to =
    let first = from / BLOCK in
    same (ap (λ (x : Core). moved Erase (drop_erase x)) (skipped_same c b first (to / BLOCK + 1 - first)))

erase_same : (c : Core) (b : Kept) → SameDone (erase c) (erase (with_kept c b))
unfolding erase
erase_same c b =
    let first = c.erase.first in
    let second = c.erase.second in
    cond_both SameDone (is_set first && is_set second)
    (cond_both SameDone (ltb (address second) (address first)) (same refl) (erased_same c b (address first) (address second)))
    (same refl)

read_same : (c : Core) (b : Kept) (k : Command) (multiple : Bool) (a : ℕ) → SameDone (read_blocks k c multiple a) (read_blocks k (with_kept c b) multiple a)
read_same c b k multiple a = checked_same c b _ (same refl)

write_same : (c : Core) (b : Kept) (k : Command) (multiple : Bool) (a : ℕ) → SameDone (write_blocks k c multiple a) (write_blocks k (with_kept c b) multiple a)
write_same c b k multiple a = checked_same c b _ (same refl)

mark_same : (c : Core) (b : Kept) (k : Command) (value : Bool) (a : ℕ) → SameDone (set_mark k c value a) (set_mark k (with_kept c b) value a)
mark_same c b k value a = checked_same c b _ (same refl)

start_same : (c : Core) (b : Kept) (a : ℕ) → SameDone (erase_start c a) (erase_start (with_kept c b) a)
unfolding erase_start
start_same c b a = checked_same c b _ (same refl)

end_same : (c : Core) (b : Kept) (a : ℕ) → SameDone (erase_end c a) (erase_end (with_kept c b) a)
unfolding erase_end
end_same c b a = cond_both SameDone (is_set c.erase.first) (checked_same c b _ (same refl)) (same refl)

poll_same : (c : Core) (b : Kept) (x : ℕ) → SameDone (sd_send_op_cond c x) (sd_send_op_cond (with_kept c b) x)
unfolding sd_send_op_cond send_op_cond_spi send_op_cond
poll_same c b x =
    cond_both SameDone (in_spi c.bus.mode)
    (same (cond_both Same (eqb (number c.bus.state) idle) (cond_both Same (eqb c.bus.polls 0) refl refl) refl))
    (cond_both SameDone (eqb (window x) 0) (same refl)
    (cond_both SameDone (eqb (fitting x) 0) (same refl)
    (cond_both SameDone (eqb c.bus.polls 0) (same refl) (same refl))))

run_at_same : (k : Command) (c : Core) (b : Kept) (x a : ℕ) → SameDone (run_at k c x a) (run_at k (with_kept c b) x a)
unfolding run_at
run_at_same GoIdleState c b x a = same refl
run_at_same AllSendCid c b x a = same refl
run_at_same SendRelativeAddr c b x a = same refl
run_at_same SelectCard c b x a = same refl
run_at_same DeselectCard c b x a = same refl
run_at_same SendIfCond c b x a = same refl
run_at_same SendCsd c b x a = same refl
run_at_same SendCid c b x a = same refl
run_at_same StopTransmission c b x a = same refl
run_at_same SendStatus c b x a = same refl
run_at_same AppCmd c b x a = same refl
run_at_same GoInactiveState c b x a = same refl
run_at_same SetBlocklen c b x a = same (cond_both Same (leb 1 x && leb x BLOCK) refl refl)
run_at_same ReadSingleBlock c b x a = read_same c b ReadSingleBlock false a
run_at_same ReadMultipleBlock c b x a = read_same c b ReadMultipleBlock true a
run_at_same SendWriteProt c b x a = checked_same c b _ (same refl)
run_at_same WriteBlock c b x a = write_same c b WriteBlock false a
run_at_same WriteMultipleBlock c b x a = write_same c b WriteMultipleBlock true a
run_at_same LockUnlock c b x a = same refl
run_at_same SetWriteProt c b x a = mark_same c b SetWriteProt true a
run_at_same ClrWriteProt c b x a = mark_same c b ClrWriteProt false a
run_at_same Erase c b x a = erase_same c b
run_at_same EraseWrBlkStart c b x a = start_same c b a
run_at_same EraseWrBlkEnd c b x a = end_same c b a
run_at_same Command.SdStatus c b x a = same refl
run_at_same SendNumWrBlocks c b x a = same refl
run_at_same SendScr c b x a = same refl
run_at_same SetWrBlkEraseCount c b x a = same refl
run_at_same SetClrCardDetect c b x a = same refl
run_at_same SdSendOpCond c b x a = poll_same c b x
run_at_same ReadOcr c b x a = same refl
run_at_same CrcOnOff c b x a = same refl
run_at_same Unknown c b x a = same refl

settled_same : (k : Command) (c : Core) (b : Kept) → Same (settled k c) (settled k (with_kept c b))
unfolding settled
settled_same k c b = cond_both Same (row k).keeps_erase refl (cond_both Same (pending c) refl refl)

run_same : (k : Command) (c d : Core) → Same c d → (x : ℕ) → SameDone (run k c x) (run k d x)
run_same k c d p x = subst (λ (e : Core). SameDone (run k c x) (run k e x)) (sym (rekept c d p)) (run_at_same k c d.kept x _)

-- ---- what a call comes to, but for the status that a response shows

abbrev pub statusless : Message → Message
statusless silence = silence
statusless (r1 index word) = r1 index 0
statusless (r6 rca word) = r6 rca 0
statusless (spi_r1 byte s) = spi_r1 0 (replicate (length s) 0)
statusless (plain s) = plain s
statusless (block payload) = block payload
statusless (token n) = token n
statusless finished = finished

pub record SameTurn (t u : Turn) : Type 0 where
  pub core : Same t.core u.core
  pub flag : t.flag ≡ u.flag
  pub message : statusless t.message ≡ statusless u.message
  pub effect : t.effect ≡ u.effect
  pub payload : t.payload ≡ u.payload

-- one that shows no status
turned : {c d : Core} {f : Flag} {m : Message} {e : Effect} {s : List ℕ} → Same c d
    → SameTurn (record { core = c; flag = f; message = m; effect = e; payload = s }) (record { core = d; flag = f; message = m; effect = e; payload = s })
turned p = record { core = p; flag = refl; message = refl; effect = refl; payload = refl }

message_same : (k : Command) (n : ℕ) (d e : Done) → Same d.core e.core → (r : Response)
    → statusless (message_of k n d r) ≡ statusless (message_of k n e r)
unfolding message_of
message_same k n d e p Response.Nothing = refl
message_same k n d e p R1 = refl
message_same k n d e p R6 = ap (λ (c : Core). r6 c.bus.rca 0) p
message_same k n d e p Cid = ap (λ (c : Core). plain (Wire.r2_bytes (cid_bytes c.settings))) p
message_same k n d e p Csd = ap (λ (c : Core). plain (Wire.r2_bytes (csd_bytes c.csd))) p
message_same k n d e p (R3 ocr) = refl
message_same k n d e p (R7 voltage pattern) = refl

cleared_same : (r : Response) (c : Core) → Same (cleared r c) c
cleared_same r c = ap (λ (x : Core). with_kept x no_bits) (cleared-kept r c).1

finish_same : (k : Command) (n : ℕ) (d e : Done) → SameDone d e → SameTurn (finish k n d) (finish k n e)
finish_same k n d e s =
    record {
      core =
          ap (λ (x : Core). with_app x (sets_app (row k).kind))
          (cleared_same d.response d.core ∙ s.core ∙ sym (cleared_same e.response e.core));
      flag = refl;
      message = ap (λ (r : Response). statusless (message_of k n d r)) s.response ∙ message_same k n d e s.core e.response;
      effect = s.effect;
      payload = refl;
    }

-- in SPI mode, with other bits held before it
second_same : (r2 : Bool) (x y : ℕ) → length (cond r2 (x ∷ []) []) ≡ length (cond r2 (y ∷ []) [])
second_same true x y = refl
second_same false x y = refl

behind_same : (k : Command) (v w : Kept) (l m : Bool) (r : Response) → length (behind_r1 k v l r) ≡ length (behind_r1 k w m r)
unfolding behind_r1
behind_same k v w l m Response.Nothing = refl
behind_same k v w l m R1 = second_same (sends_r2 k) _ _
behind_same k v w l m R6 = refl
behind_same k v w l m Cid = refl
behind_same k v w l m Csd = refl
behind_same k v w l m (R3 ocr) = refl
behind_same k v w l m (R7 voltage pattern) = refl

finish_spi_same : (k : Command) (v w : Kept) (d e : Done) → SameDone d e → SameTurn (finish_spi v k d) (finish_spi w k e)
finish_spi_same k v w d e s =
    let x = join v d.core.kept in
    let y = join w e.core.kept in
    record {
      core = ap (λ (x : Core). with_app x (sets_app (row k).kind)) s.core;
      flag = refl;
      message = ap (λ (n : ℕ). spi_r1 0 (replicate n 0))
          (ap (λ (r : Response). length (behind_r1 k x d.core.locked r)) s.response ∙ behind_same k x y d.core.locked e.core.locked e.response);
      effect = s.effect;
      payload = refl;
    }

chosen_same : {d e : Done} → SameDone d e → SameDone (chosen d) (chosen e)
chosen_same s = record { core = ap (λ (x : Core). with_mode x (Spi false)) s.core; response = s.response; effect = s.effect }

module _ (c : Core) (b : Kept) where
  doing_same : (k : Command) (x : ℕ) → SameDone (doing c k x) (doing (with_kept c b) k x)
  doing_same k x = run_same k (settled k c) (settled k (with_kept c b)) (settled_same k c b) x

  shown_same : (low : Bool) (k : Command) (x : ℕ) → SameTurn (shown_sd c low k (doing c k x)) (shown_sd (with_kept c b) low k (doing (with_kept c b) k x))
  unfolding shown_sd
  shown_same low k x =
      let d = doing c k x in
      let e = doing (with_kept c b) k x in
      let s : SameDone d e = doing_same k x in
      cond_both SameTurn (chooses low k) (finish_spi_same k c.kept b (chosen d) (chosen e) (chosen_same s)) (finish_same k (number c.bus.state) d e s)

  shown_same-spi : (k : Command) (x : ℕ) → SameTurn (finish_spi c.kept k (doing c k x)) (finish_spi b k (doing (with_kept c b) k x))
  shown_same-spi k x = finish_spi_same k c.kept b (doing c k x) (doing (with_kept c b) k x) (doing_same k x)

  judge_same : (low : Bool) (index x : ℕ) → SameTurn (show_sd c low (judge c index x)) (show_sd (with_kept c b) low (judge (with_kept c b) index x))
  unfolding judge show_sd
  judge_same low index x =
      let k = command_of c.bus index x in
      let R : Judged → Judged → Type 0 = λ i j. SameTurn (show_sd c low i) (show_sd (with_kept c b) low j) in
      cond_both R (accepts k c.locked && legal k c.bus)
      (cond_both R (misses (row k).rca (own c.bus x)) (turned refl) (shown_same low k x))
      (turned refl)

  judge_same-spi : (index x : ℕ) → SameTurn (show_spi c (judge c index x)) (show_spi (with_kept c b) (judge (with_kept c b) index x))
  unfolding judge show_spi
  judge_same-spi index x =
      let k = command_of c.bus index x in
      let R : Judged → Judged → Type 0 = λ i j. SameTurn (show_spi c i) (show_spi (with_kept c b) j) in
      cond_both R (accepts k c.locked && legal k c.bus)
      (cond_both R (misses (row k).rca (own c.bus x)) (turned refl) (shown_same-spi k x))
      (turned refl)

  by_check_same : (low : Bool) (f : FrameCheck) → SameTurn (by_check f c low) (by_check f (with_kept c b) low)
  unfolding by_check
  by_check_same low (Ok fields) = judge_same low fields.index fields.argument
  by_check_same low (Err Size) = turned refl
  by_check_same low (Err Start) = turned refl
  by_check_same low (Err WrongCheck) = turned refl

  by_check_same-spi : (f : FrameCheck) → SameTurn (by_check_spi f c) (by_check_spi f (with_kept c b))
  unfolding by_check_spi
  by_check_same-spi (Ok fields) = judge_same-spi fields.index fields.argument
  by_check_same-spi (Err Size) = turned refl
  by_check_same-spi (Err Start) = turned refl
  by_check_same-spi (Err WrongCheck) = turned refl

  pub receive_same : (low : Bool) (frame : List ℕ) → SameTurn (receive c low frame) (receive (with_kept c b) low frame)
  unfolding receive receive_sd
  receive_same low frame =
      cond_both SameTurn (in_spi c.bus.mode) (by_check_same-spi _)
      (cond_both SameTurn (eqb (number c.bus.state) ina) (turned refl) (by_check_same low _))

  -- ---- data

  source_same : (s : Source) (memory : List ℕ) → SameTurn (take_source s c memory) (take_source s (with_kept c b) memory)
  unfolding take_source
  source_same (Blocks multiple address held) memory =
      cond_both SameTurn held (turned refl)
      (cond_both SameTurn (outside (capacity c.settings) address) (turned refl)
      (cond_both SameTurn (crossing c.length address) (turned refl) (turned refl)))
  source_same (WriteProtect address) memory = turned refl
  source_same SdStatus memory = turned refl
  source_same WrittenBlocks memory = turned refl
  source_same Scr memory = turned refl
  source_same CsdBlock memory = turned refl
  source_same CidBlock memory = turned refl

  pub take_same : (o : Open) (memory : List ℕ) → SameTurn (take_from o c memory) (take_from o (with_kept c b) memory)
  unfolding take_from
  take_same Open.Nothing memory = turned refl
  take_same (Read s) memory = source_same s memory
  take_same (Write s) memory = turned refl
  take_same (Busy s) memory = turned refl

  sink_same : (multiple : Bool) (address : ℕ) (held right : Bool) (payload : List ℕ)
      → SameTurn (write_into multiple address held right c payload) (write_into multiple address held right (with_kept c b) payload)
  unfolding write_into
  sink_same multiple address held right payload =
      cond_both SameTurn held (turned refl)
      (cond_both SameTurn (not right) (turned (cond_both Same multiple refl refl))
      (cond_both SameTurn (outside (capacity c.settings) address) (turned refl)
      (cond_both SameTurn (guarded (whole c.settings) c.marks address) (turned refl) (turned refl))))

  operate_same : (o : Operation) → SameTurn (operate o c) (operate o (with_kept c b))
  operate_same ForceErase = turned refl
  operate_same Lock = turned refl
  operate_same Unlock = turned refl
  operate_same ClearPassword = turned refl
  operate_same (SetPassword lock) = turned refl
  operate_same Invalid = turned refl

  lock_same : (right success : Bool) (payload : List ℕ) → SameTurn (lock_into right success c payload) (lock_into right success (with_kept c b) payload)
  unfolding lock_into
  lock_same right success payload =
      cond_both SameTurn (not right) (turned refl) (cond_both SameTurn success (operate_same (operation payload)) (turned refl))

  pub block_same : (o : Open) (right success : Bool) (payload : List ℕ)
      → SameTurn (block_into o right success c payload) (block_into o right success (with_kept c b) payload)
  unfolding block_into
  block_same Open.Nothing right success payload = turned refl
  block_same (Read s) right success payload = turned refl
  block_same (Write (Single address held)) right success payload = sink_same false address held right payload
  block_same (Write (Multiple address held)) right success payload = sink_same true address held right payload
  block_same (Write Sink.LockUnlock) right success payload = lock_same right success payload
  block_same (Busy s) right success payload = turned refl

  -- the stop token
  pub stop_same : SameTurn (quiet (moved StopTransmission c) Keep) (quiet (moved StopTransmission (with_kept c b)) Keep)
  stop_same = turned refl

  pub over_same : (o : Open) → SameTurn (over_from o c) (over_from o (with_kept c b))
  unfolding over_from
  over_same Open.Nothing = turned refl
  over_same (Read s) = turned refl
  over_same (Write s) = turned refl
  over_same (Busy s) = turned refl
