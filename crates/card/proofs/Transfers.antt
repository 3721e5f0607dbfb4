-- Data blocks and busy over keep a record sound, and a block that is stored is inside the card.
use mathlib.Core.Path.{◌≡◌, refl, sym, subst, ◌∙◌}
use mathlib.Core.Bool.{Bool, true, false, cond, not}
use mathlib.Core.List.{List}
use Prim.Native.Nat.{ℕ, ◌+◌, ◌/◌, ◌%◌, ◌≤◌, ◌<◌}
use native.Mathlib.Omega.{arith}
use borrow.Author.Tests.{leb-false, ltb-false, eqb-true, not-false}
use lib.Dec.{eqb}
use lib.ListN.{length}
use Rattle.wire_packet.specs.Packet.{CHECK}
use Rattle.card.specs.declared.Source.{Source}
use Rattle.card.specs.declared.Source.TheVariants.{Blocks, WriteProtect, SdStatus, WrittenBlocks, Scr, Csd, Cid}
use Rattle.card.specs.declared.Sink.TheVariants.{Single, Multiple, LockUnlock}
use Rattle.card.specs.declared.State.{State}
use Rattle.card.specs.declared.State.TheVariants.{Idle, Ready, Ident, Stby, Tran, Data, Rcv, Prg, Dis, Ina}
use Rattle.card.specs.declared.Open.{Open}
use Rattle.card.specs.declared.Open.TheVariants.{Nothing, Read, Write, Busy}
use Rattle.card.specs.declared.Core.{Core}
use Rattle.card.specs.declared.command.Command.TheVariants.{StopTransmission}
use Rattle.card.specs.declared.done.Flag.TheVariants.{Keep}
use Rattle.card.specs.declared.lock.Operation.{Operation}
use Rattle.card.specs.declared.lock.Operation.TheVariants.{ForceErase, Lock, Unlock, ClearPassword, SetPassword, Invalid}
use Rattle.card.specs.Settings.{BLOCK, capacity}
use Rattle.card.specs.Record.{with_state, with_written}
use Rattle.card.specs.State.{in_spi, open_of, locking, source_address, sink}
use Rattle.card.specs.Protect.{whole, guarded}
use Rattle.card.specs.Checks.{outside, crossing}
use Rattle.card.specs.Frame.{Turn, token, quiet, said}
use Rattle.card.specs.Lock.{operation}
use Rattle.card.specs.Data.{take_source, take_from, write_into, operate, lock_into, block_into, over_from, hold_write, accepted, REJECTED}
use Rattle.card.specs.Table.{after}
use Rattle.card.specs.Execute.{moved}
use Rattle.card.specs.Soundness.{bad_rca, bad_app}
use Rattle.card.specs.Step.{packet_size}
use Rattle.card.proofs.Choices.{cond_elim, cond_either}
use Rattle.card.proofs.Facts.{Transfer, Facts}
use Rattle.card.proofs.Changes.{stand, unprotect, none-transfer, data_transfer, rcv-transfer}
use Rattle.card.proofs.Moves.{arrive-transfer, Selected, stby-selected, tran-selected, data_selected, rcv-selected, prg-selected, dis-selected}
use Rattle.card.proofs.Frames.{Lasting, lasting}

-- what is known of a state by what it has open
abbrev Opens : Open → State → Type 0
Opens Nothing s = Unit {0}
Opens (Read src) s = Selected s
Opens (Write k) s = Selected s
Opens (Busy to) s = Selected s × Selected to × (open_of to ≡ Nothing)

opens : (s : State) → Opens (open_of s) s
opens Idle = tt
opens Ready = tt
opens Ident = tt
opens Stby = tt
opens Tran = tt
opens (Data s) = data_selected s
opens (Rcv s) = rcv-selected s
opens Prg = (prg-selected, tran-selected, refl)
opens Dis = (dis-selected, stby-selected, refl)
opens Ina = tt

module _ (c : Core) (f : Facts c) where
  -- from one such state to another
  goes : (to : State) (n : ℕ) → Selected c.bus.state → Selected to → Transfer c.settings (open_of to) n
      → Facts (with_written (with_state c to) n)
  goes to n here there t =
      let spi = in_spi c.bus.mode in
      (stand c f.0 to c.bus.rca n t (there.rca spi c.bus.rca ∙ sym (here.rca spi c.bus.rca) ∙ f.0.rca), there.app spi c.bus.app)

  -- the transfer is over
  ends : (to : State) → Selected c.bus.state → Selected to → open_of to ≡ Nothing → Facts (with_state c to)
  ends to here there e =
      goes to c.written here there
      (subst (λ (o : Open). Transfer c.settings o c.written) (sym e) (none-transfer c.settings c.written f.0.transfer.count))

  -- busy, with so many blocks written
  busy-transfer : (n : ℕ) → n ≤ c.settings.blocks → Transfer c.settings (Busy Tran) n
  busy-transfer n room = record { inside = omega arith; aligned = refl; count = room; most = room }

  tran-facts : Selected c.bus.state → Facts (with_state c Tran)
  tran-facts here = ends Tran here tran-selected refl

  -- ---- a take

  data_facts : Selected c.bus.state → (src : Source) → source_address src ≤ capacity c.settings → Facts (with_state c (Data src))
  data_facts here src h =
      goes (Data src) c.written here (data_selected src) (data_transfer c.settings src c.written h f.0.transfer.count)

  source_lasting : (memory : List ℕ) (src : Source) → Selected c.bus.state → source_address src ≤ capacity c.settings
      → Lasting c (take_source src c memory)
  unfolding take_source
  source_lasting memory (Blocks multiple address held) here near =
      let P : Turn → Type 0 = λ t. Lasting c t in
      let top = capacity c.settings in
      let last = address % BLOCK + c.length in
      let hold : Facts (with_state c (Data (Blocks multiple address true))) = data_facts here (Blocks multiple address true) near in
      cond_elim P held (λ t. lasting f refl)
      (λ t. cond_elim P (outside top address) (λ u. lasting hold refl)
      (λ u. cond_elim P (crossing c.length address) (λ v. lasting hold refl)
      (λ v.
      let below : address < top = leb-false top address u in
      let fits : last ≤ BLOCK = ltb-false BLOCK last v in
      let behind = Blocks true (address + c.length) false in
      let go = cond_elim (λ (s : State). Facts (with_state c s)) multiple (λ q. data_facts here behind (omega arith)) (λ q. tran-facts here) in
      lasting go refl)))
  source_lasting memory (WriteProtect address) here near = lasting (tran-facts here) refl
  source_lasting memory SdStatus here near = lasting (tran-facts here) refl
  source_lasting memory WrittenBlocks here near = lasting (tran-facts here) refl
  source_lasting memory Scr here near = lasting (tran-facts here) refl
  source_lasting memory Csd here near = lasting (tran-facts here) refl
  source_lasting memory Cid here near = lasting (tran-facts here) refl

  take_open : (memory : List ℕ) (o : Open) → Opens o c.bus.state → Transfer c.settings o c.written → Lasting c (take_from o c memory)
  unfolding take_from
  take_open memory Nothing h t = lasting f refl
  take_open memory (Read src) h t = source_lasting memory src h t.inside
  take_open memory (Write k) h t = lasting f refl
  take_open memory (Busy to) h t = lasting f refl

  pub take-lasting : (memory : List ℕ) → Lasting c (take_from (open_of c.bus.state) c memory)
  take-lasting memory = take_open memory (open_of c.bus.state) (opens c.bus.state) f.0.transfer

  -- ---- a block in

  module _
      (multiple held : Bool) (a : ℕ) (here : Selected c.bus.state) (near : a ≤ capacity c.settings) (aligned : a % BLOCK ≡ 0)
      (most : c.written ≤ a / BLOCK)
    where
      rcv-facts : (m h : Bool) (at n : ℕ) → at ≤ capacity c.settings → at % BLOCK ≡ 0 → n ≤ at / BLOCK
          → Facts (with_written (with_state c (Rcv (sink m at h))) n)
      rcv-facts m h at n near on count =
          goes (Rcv (sink m at h)) n here (rcv-selected (sink m at h)) (rcv-transfer c.settings m h at n near on count)

      hold : Facts (hold_write c multiple a)
      hold = rcv-facts multiple true a c.written near aligned most

      -- one block more, and the address behind it
      on : a < capacity c.settings → Facts (accepted c multiple a)
      on h =
          let n = c.written + 1 in
          let more : n ≤ (a + BLOCK) / BLOCK = omega arith in
          let room : n ≤ c.settings.blocks = omega arith in
          cond_elim (λ (s : State). Facts (with_state (with_written c n) s)) multiple
          (λ q. rcv-facts true false (a + BLOCK) n (omega arith) (omega arith) more)
          (λ q. goes Prg n here prg-selected (busy-transfer n room))

      write-lasting : (right : Bool) (payload : List ℕ) → length payload ≡ BLOCK → Lasting c (write_into multiple a held right c payload)
      unfolding write_into
      write-lasting right payload size =
          let P : Turn → Type 0 = λ t. Lasting c t in
          let top = capacity c.settings in
          cond_elim P held (λ t. lasting f refl)
          (λ t. cond_elim P (not right)
          (λ u. cond_elim (λ (d : Core). Lasting c (said d (token REJECTED))) multiple (λ q. lasting hold refl) (λ q. lasting (tran-facts here) refl))
          (λ u. cond_elim P (outside top a) (λ v. lasting hold refl)
          (λ v. cond_elim P (guarded (whole c.settings) c.marks a) (λ x. lasting hold refl)
          (λ x.
          let below : a < top = leb-false top a v in
          record { facts = on below; blocks = refl; inside = omega arith }))))

  -- ---- a block of 42

  prg-facts : Selected c.bus.state → Facts (with_state c Prg)
  prg-facts here = goes Prg c.written here prg-selected (busy-transfer c.written f.0.transfer.count)

  operate-lasting : Facts (with_state c Prg) → (o : Operation) → Lasting c (operate o c)
  operate-lasting g ForceErase = record { facts = (unprotect (with_state c Prg) g.0, g.1); blocks = refl; inside = tt }
  operate-lasting g Lock = lasting g refl
  operate-lasting g Unlock = lasting g refl
  operate-lasting g ClearPassword = lasting g refl
  operate-lasting g (SetPassword lock) = lasting g refl
  operate-lasting g Invalid = lasting g refl

  lock-lasting : (right success : Bool) (payload : List ℕ) → Selected c.bus.state → Lasting c (lock_into right success c payload)
  unfolding lock_into
  lock-lasting right success payload here =
      let P : Turn → Type 0 = λ t. Lasting c t in
      let prg : Facts (with_state c Prg) = prg-facts here in
      cond_either P (not right) (lasting (tran-facts here) refl)
      (cond_either P success (operate-lasting prg (operation payload)) (lasting prg refl))

  block_open : (right success : Bool) (payload : List ℕ) (o : Open) → length payload ≡ cond (locking o) c.length BLOCK → Opens o c.bus.state
      → Transfer c.settings o c.written → Lasting c (block_into o right success c payload)
  unfolding block_into
  block_open right success payload Nothing size h t = lasting f refl
  block_open right success payload (Read src) size h t = lasting f refl
  block_open right success payload (Write (Single a held)) size h t =
      let aligned : a % BLOCK ≡ 0 = eqb-true (a % BLOCK) 0 (not-false (eqb (a % BLOCK) 0) t.aligned) in
      write-lasting false held a h t.inside aligned t.most right payload size
  block_open right success payload (Write (Multiple a held)) size h t =
      let aligned : a % BLOCK ≡ 0 = eqb-true (a % BLOCK) 0 (not-false (eqb (a % BLOCK) 0) t.aligned) in
      write-lasting true held a h t.inside aligned t.most right payload size
  block_open right success payload (Write LockUnlock) size h t = lock-lasting right success payload h
  block_open right success payload (Busy to) size h t = lasting f refl

  pub block-lasting : (right success : Bool) (payload : List ℕ) → length payload + CHECK ≡ packet_size c
      → Lasting c (block_into (open_of c.bus.state) right success c payload)
  unfolding packet_size
  block-lasting right success payload size =
      block_open right success payload (open_of c.bus.state) (omega arith) (opens c.bus.state) f.0.transfer

  -- ---- the stop token

  -- in SPI mode nothing is asked of the state that it leaves
  pub stop-lasting : in_spi c.bus.mode ≡ true → Lasting c (quiet (moved StopTransmission c) Keep)
  unfolding after bad_rca bad_app
  stop-lasting spi =
      let to = after StopTransmission c.bus c.bus.state in
      lasting
      (stand c f.0 to c.bus.rca c.written (arrive-transfer _ c.bus.state f.0.transfer) (rw spi refl), rw spi refl) refl

  -- ---- busy over

  over_open : (o : Open) → Opens o c.bus.state → Lasting c (over_from o c)
  unfolding over_from
  over_open Nothing h = lasting f refl
  over_open (Read src) h = lasting f refl
  over_open (Write k) h = lasting f refl
  over_open (Busy to) (here, there, none_open) = lasting (ends to here there none_open) refl

  pub over-lasting : Lasting c (over_from (open_of c.bus.state) c)
  over-lasting = over_open (open_of c.bus.state) (opens c.bus.state)
