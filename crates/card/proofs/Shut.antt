-- Nothing of a locked card's memory shows, and nothing of it changes but by a force erase: no command that such a card accepts touches
-- memory or opens a transfer of it.
use mathlib.Core.Path.{◌≡◌, refl, ap, subst, ◌∙◌}
use mathlib.Core.Bool.{Bool, true, ◌&&◌, false≢true}
use mathlib.Core.List.{List, []}
use Prim.Native.Nat.{ℕ}
use lib.Dec.{eqb, leb}
use Rattle.card.specs.declared.State.{State}
use Rattle.card.specs.declared.State.TheVariants.{Data, Rcv}
use Rattle.card.specs.declared.Source.TheVariants.{Csd, Cid}
use Rattle.card.specs.declared.Bus.{Bus}
use Rattle.card.specs.declared.Sink.{Sink}
use Rattle.card.specs.declared.Core.{Core}
use Rattle.card.specs.declared.command.Command.{Command}
use Rattle.card.specs.declared.command.Command.TheVariants.{GoIdleState, AllSendCid, SendRelativeAddr, SelectCard, DeselectCard, SendIfCond, SendCsd, SendCid, StopTransmission, SendStatus, AppCmd, GoInactiveState, SetBlocklen, ReadSingleBlock, ReadMultipleBlock, SendWriteProt, WriteBlock, WriteMultipleBlock, LockUnlock, SetWriteProt, ClrWriteProt, Erase, EraseWrBlkStart, EraseWrBlkEnd, SdStatus, SendNumWrBlocks, SendScr, SetWrBlkEraseCount, SetClrCardDetect, SdSendOpCond, ReadOcr, CrcOnOff, Unknown}
use Rattle.card.specs.declared.done.Effect.TheVariants.{Nothing}
use Rattle.card.specs.declared.done.Response.{Response}
use Rattle.card.specs.declared.done.Response.TheVariants.{R1}
use Rattle.card.specs.declared.done.Done.{Done}
use Rattle.card.specs.declared.done.Flag.{Flag}
use Rattle.card.specs.Settings.{BLOCK, address_of}
use Rattle.card.specs.State.{idle, number, in_spi, open_of}
use Rattle.card.specs.Table.{row, accepts, after}
use Rattle.card.specs.Execute.{ran, moved, window, fitting, pending, settled, send_op_cond, send_op_cond_spi, sd_send_op_cond, run_at}
use Rattle.card.specs.Frame.{Message, Turn}
use Rattle.card.specs.Receive.{receive}
use Rattle.card.specs.Locked.{shut}
use Rattle.card.proofs.Choices.{cond_either}
use Rattle.card.proofs.Received.{Permitted, doing, receive_elim}
use Rattle.card.proofs.Frames.{cleared-kept}
use Rattle.card.proofs.Moves.{arrive_elim}

-- ---- commands

-- no transfer of memory is open in a state
abbrev pub Closed : State → Type 0
Closed s = shut (open_of s) ≡ true

-- a command leaves memory and marks alone, and opens no transfer of memory
pub record Still (d : Done) : Type 0 where
  pub effect : d.effect ≡ Nothing
  pub closed : Closed d.core.bus.state

pub after-closed : (k : Command) (b : Bus) (t : State) → Closed t → Closed (after k b t)
unfolding after
after-closed k b t h = arrive_elim Closed _ t h (λ x e f. f.closed) refl

still : {c : Core} {r : Response} → Closed c.bus.state → Still (ran c r)
still h = record { effect = refl; closed = h }

module _ (c : Core) (h : Closed c.bus.state) where
  moved-still : (k : Command) (r : Response) → Still (ran (moved k c) r)
  moved-still k r = still (after-closed k c.bus c.bus.state h)

  -- those that a locked card accepts; x is the argument, a the address that it means
  run-still : (k : Command) (x a : ℕ) → accepts k true ≡ true → Still (run_at k c x a)
  unfolding accepts row run_at sd_send_op_cond send_op_cond_spi send_op_cond
  run-still GoIdleState x a e = still refl
  run-still AllSendCid x a e = moved-still AllSendCid _
  run-still SendRelativeAddr x a e = still (after-closed SendRelativeAddr _ c.bus.state h)
  run-still SelectCard x a e = moved-still SelectCard _
  run-still DeselectCard x a e = moved-still DeselectCard _
  run-still SendIfCond x a e = still h
  run-still SendCsd x a e = still (after-closed SendCsd c.bus (Data Csd) refl)
  run-still SendCid x a e = still (after-closed SendCid c.bus (Data Cid) refl)
  run-still StopTransmission x a e = moved-still StopTransmission _
  run-still SendStatus x a e = still h
  run-still AppCmd x a e = still h
  run-still GoInactiveState x a e = moved-still GoInactiveState _
  run-still SetBlocklen x a e = cond_either (λ (d : Core). Still (ran d R1)) (leb 1 x && leb x BLOCK) (still h) (still h)
  run-still ReadSingleBlock x a e = absurd (false≢true e)
  run-still ReadMultipleBlock x a e = absurd (false≢true e)
  run-still SendWriteProt x a e = absurd (false≢true e)
  run-still WriteBlock x a e = absurd (false≢true e)
  run-still WriteMultipleBlock x a e = absurd (false≢true e)
  run-still LockUnlock x a e = still (after-closed LockUnlock c.bus (Rcv Sink.LockUnlock) refl)
  run-still SetWriteProt x a e = absurd (false≢true e)
  run-still ClrWriteProt x a e = absurd (false≢true e)
  run-still Erase x a e = absurd (false≢true e)
  run-still EraseWrBlkStart x a e = absurd (false≢true e)
  run-still EraseWrBlkEnd x a e = absurd (false≢true e)
  run-still SdStatus x a e = absurd (false≢true e)
  run-still SendNumWrBlocks x a e = absurd (false≢true e)
  run-still SendScr x a e = absurd (false≢true e)
  run-still SetWrBlkEraseCount x a e = absurd (false≢true e)
  run-still SetClrCardDetect x a e = still h
  run-still SdSendOpCond x a e =
      let P : Core → Type 0 = λ d. Still (ran d R1) in
      cond_either Still (in_spi c.bus.mode)
      (cond_either P (eqb (number c.bus.state) idle) (cond_either P (eqb c.bus.polls 0) (still refl) (still h)) (still h))
      (cond_either Still (eqb (window x) 0) (still h)
      (cond_either Still (eqb (fitting x) 0) (still refl) (cond_either Still (eqb c.bus.polls 0) (still refl) (still h))))
  run-still ReadOcr x a e = still h
  run-still CrcOnOff x a e = still h
  run-still Unknown x a e = absurd (false≢true e)

-- ---- what a frame comes to

pub record Quiet (t : Turn) : Type 0 where
  pub effect : t.effect ≡ Nothing
  pub closed : Closed t.core.bus.state

module _ (c : Core) (locked : c.locked ≡ true) (h : Closed c.bus.state) where
  settled-state : (k : Command) → Closed (settled k c).bus.state
  unfolding settled
  settled-state k =
      let P : Core → Type 0 = λ d. Closed d.bus.state in
      cond_either P (row k).keeps_erase h (cond_either P (pending c) h h)

  doing-still : (k : Command) (x : ℕ) → Permitted c k → Still (doing c k x)
  doing-still k x may =
      let d = settled k c in
      run-still d (settled-state k) k x (address_of d.settings x) (subst (λ (b : Bool). accepts k b ≡ true) locked may.accepted)

  pub receive-quiet : (low : Bool) (frame : List ℕ) → Quiet (receive c low frame)
  receive-quiet =
      let same : (d : Core) (f : Flag) (m : Message) → Closed d.bus.state → Quiet (record { core = d; flag = f; message = m; effect = Nothing; payload = [] }) =
      λ d f m e. record { effect = refl; closed = e } in
      receive_elim c Quiet (record {
        still = same _ _ _ h;
        damaged = same _ _ _ h;
        elsewhere = same _ _ _ h;
        illegal = same _ _ _ h;
        runs = λ k x may.
            let s = doing-still k x may in
            record {
              effect = s.effect;
              closed = ap (λ (d : Core). shut (open_of d.bus.state)) (cleared-kept (doing c k x).response (doing c k x).core).1 ∙ s.closed;
            };
        choosing = λ k x may zero. let s = doing-still k x may in record { effect = s.effect; closed = s.closed };
        damaged_spi = λ spi. same _ _ _ h;
        illegal_spi = λ spi. same _ _ _ h;
        runs_spi = λ spi k x may. let s = doing-still k x may in record { effect = s.effect; closed = s.closed };
      })
