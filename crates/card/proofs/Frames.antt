-- A frame keeps a record sound: the frame rules, and the application mark that a command leaves.
use mathlib.Core.Path.{◌≡◌, refl, sym, ap, subst, ◌∙◌}
use mathlib.Core.Bool.{Bool, true, false}
use mathlib.Core.List.{List, []}
use Prim.Native.Nat.{ℕ}
use Rattle.card.specs.declared.Settings.{Settings}
use Rattle.card.specs.declared.State.{State}
use Rattle.card.specs.declared.State.TheVariants.{Idle, Ready, Ident, Stby, Tran, Data, Rcv, Prg, Dis, Ina}
use Rattle.card.specs.declared.Bus.{Bus}
use Rattle.card.specs.declared.Kept.{Kept}
use Rattle.card.specs.declared.Core.{Core}
use Rattle.card.specs.declared.command.Command.{Command}
use Rattle.card.specs.declared.command.Command.TheVariants.{GoIdleState, AllSendCid, SendRelativeAddr, SelectCard, DeselectCard, SendIfCond, SendCsd, SendCid, StopTransmission, SendStatus, AppCmd, GoInactiveState, SetBlocklen, ReadSingleBlock, ReadMultipleBlock, SendWriteProt, WriteBlock, WriteMultipleBlock, LockUnlock, SetWriteProt, ClrWriteProt, Erase, EraseWrBlkStart, EraseWrBlkEnd, SdStatus, SendNumWrBlocks, SendScr, SetWrBlkEraseCount, SetClrCardDetect, SdSendOpCond, ReadOcr, CrcOnOff, Unknown}
use Rattle.card.specs.declared.done.Response.{Response}
use Rattle.card.specs.declared.done.Response.TheVariants.{R1, R6, Cid, Csd, R3, R7}
use Rattle.card.specs.declared.done.Effect.TheVariants.{Nothing}
use Rattle.card.specs.declared.done.Done.{Done}
use Rattle.card.specs.declared.done.Flag.{Flag}
use Rattle.card.specs.Settings.{address_of}
use Rattle.card.specs.Record.{no_erase, with_kept, with_app}
use Rattle.card.specs.State.{number, in_spi, number_in}
use Rattle.card.specs.Table.{row, moves, sets_app, has, legal}
use Rattle.card.specs.Execute.{pending, settled, run_at}
use Rattle.card.specs.Frame.{Message, Turn, cleared, finish}
use Rattle.card.specs.Spi.{finish_spi}
use Rattle.card.specs.Receive.{chosen, receive}
use Rattle.card.specs.Soundness.{bad_app}
use Rattle.card.proofs.Choices.{cond_elim}
use Rattle.card.proofs.Facts.{Sturdy, Facts}
use Rattle.card.proofs.Changes.{pend, in_mode, none-pending}
use Rattle.card.proofs.Commands.{run-right}
use Rattle.card.proofs.Erased.{Alike}
use Rattle.card.proofs.Extent.{Inside}
use Rattle.card.proofs.Received.{Permitted, doing, receive_elim}
use Rattle.card.proofs.Started.{Right}

-- what a call comes to
pub record Lasting (c : Core) (t : Turn) : Type 0 where
  pub facts : Facts t.core
  pub blocks : t.core.settings.blocks ≡ c.settings.blocks
  pub inside : Inside c.settings t.effect t.payload

-- memory and marks stay
pub lasting : {c d : Core} {f : Flag} {m : Message} → Facts d → d.settings.blocks ≡ c.settings.blocks
    → Lasting c (record { core = d; flag = f; message = m; effect = Nothing; payload = [] })
lasting f e = record { facts = f; blocks = e; inside = tt }

-- ---- the application mark

-- none, in any state
app-off : (spi : Bool) (n : ℕ) → bad_app spi n false ≡ false
unfolding bad_app
app-off true n = refl
app-off false n = refl

-- 55 runs where the mark may stand; in SPI mode it may stand anywhere
app-here : (spi : Bool) (s : State) → has (moves spi AppCmd) (number_in spi s) ≡ true → bad_app spi (number s) true ≡ false
unfolding bad_app moves number_in row has
app-here true s p = refl
app-here false Idle p = refl
app-here false Ready p = sym p
app-here false Ident p = sym p
app-here false Stby p = refl
app-here false Tran p = refl
app-here false (Data s) p = refl
app-here false (Rcv s) p = refl
app-here false Prg p = refl
app-here false Dis p = refl
app-here false Ina p = sym p

app_on : (b : Bus) → legal AppCmd b ≡ true → bad_app (in_spi b.mode) (number b.state) true ≡ false
unfolding legal
app_on b p = app-here (in_spi b.mode) b.state p

-- the state that a command leaves may bear the mark that it leaves
abbrev AppRight : Command → Done → Type 0
AppRight k d = bad_app (in_spi d.core.bus.mode) (number d.core.bus.state) (sets_app (row k).kind) ≡ false

app-after : (k : Command) (c : Core) (x a : ℕ) → legal k c.bus ≡ true → AppRight k (run_at k c x a)
unfolding row run_at
app-after GoIdleState c x a p = app-off _ _
app-after AllSendCid c x a p = app-off _ _
app-after SendRelativeAddr c x a p = app-off _ _
app-after SelectCard c x a p = app-off _ _
app-after DeselectCard c x a p = app-off _ _
app-after SendIfCond c x a p = app-off _ _
app-after SendCsd c x a p = app-off _ _
app-after SendCid c x a p = app-off _ _
app-after StopTransmission c x a p = app-off _ _
app-after SendStatus c x a p = app-off _ _
app-after AppCmd c x a p = app_on c.bus p
app-after GoInactiveState c x a p = app-off _ _
app-after SetBlocklen c x a p = app-off _ _
app-after ReadSingleBlock c x a p = app-off _ _
app-after ReadMultipleBlock c x a p = app-off _ _
app-after SendWriteProt c x a p = app-off _ _
app-after WriteBlock c x a p = app-off _ _
app-after WriteMultipleBlock c x a p = app-off _ _
app-after LockUnlock c x a p = app-off _ _
app-after SetWriteProt c x a p = app-off _ _
app-after ClrWriteProt c x a p = app-off _ _
app-after Erase c x a p = app-off _ _
app-after EraseWrBlkStart c x a p = app-off _ _
app-after EraseWrBlkEnd c x a p = app-off _ _
app-after SdStatus c x a p = app-off _ _
app-after SendNumWrBlocks c x a p = app-off _ _
app-after SendScr c x a p = app-off _ _
app-after SetWrBlkEraseCount c x a p = app-off _ _
app-after SetClrCardDetect c x a p = app-off _ _
app-after SdSendOpCond c x a p = app-off _ _
app-after ReadOcr c x a p = app-off _ _
app-after CrcOnOff c x a p = app-off _ _
app-after Unknown c x a p = app-off _ _

-- ---- a command that runs

settled-alike : (k : Command) (c : Core) → Sturdy c → Alike c (settled k c)
unfolding settled
settled-alike k c f =
    let same : Alike c c = record { sturdy = f; state = refl; settings = refl; marks = refl } in
    cond_elim (Alike c) (row k).keeps_erase (λ t. same)
    (λ t. cond_elim (Alike c) (pending c)
    (λ u. record { sturdy = pend c f no_erase (none-pending c.settings); state = refl; settings = refl; marks = refl })
    (λ u. same))

pub cleared-kept : (r : Response) (c : Core) → (k : Kept) × (cleared r c ≡ with_kept c k)
unfolding cleared
cleared-kept Response.Nothing c = (_, refl)
cleared-kept R1 c = (_, refl)
cleared-kept R6 c = (_, refl)
cleared-kept Cid c = (_, refl)
cleared-kept Csd c = (_, refl)
cleared-kept (R3 ocr) c = (_, refl)
cleared-kept (R7 voltage pattern) c = (_, refl)

finish-lasting : (k : Command) (n : ℕ) (c : Core) (d : Done) → Right c d → AppRight k d → Lasting c (finish k n d)
finish-lasting k n c d f app =
    let b = sets_app (row k).kind in
    let e : cleared d.response d.core ≡ with_kept d.core _ = (cleared-kept d.response d.core).1 in
    record {
      facts = subst (λ (x : Core). Facts (with_app x b)) (sym e) (f.sturdy, app);
      blocks = ap (λ (x : Core). x.settings.blocks) e ∙ ap (λ (s : Settings). s.blocks) f.settings;
      inside = f.inside;
    }

-- in SPI mode
finish_spi-lasting : (k : Command) (held : Kept) (c : Core) (d : Done) → Right c d → AppRight k d → Lasting c (finish_spi held k d)
finish_spi-lasting k held c d f app =
    record { facts = (f.sturdy, app); blocks = ap (λ (s : Settings). s.blocks) f.settings; inside = f.inside }

chosen-right : {c : Core} {d : Done} → Right c d → Right c (chosen d)
chosen-right {c} {d} f = record { sturdy = in_mode d.core f.sturdy false; settings = f.settings; marks = f.marks; inside = f.inside }

-- ---- a frame

module _ (c : Core) (f : Facts c) where
  off : Facts (with_app c false)
  off = (f.0, app-off (in_spi c.bus.mode) (number c.bus.state))

  -- what a command that runs does, behind the erase marks that it drops
  doing-right : (k : Command) (x : ℕ) → Permitted c k → Right c (doing c k x) × AppRight k (doing c k x)
  doing-right k x may =
      let d = settled k c in
      let s : Alike c d = settled-alike k c f.0 in
      let here : legal k d.bus ≡ true = rw s.state may.legal in
      let a = address_of d.settings x in
      let r : Right d (doing c k x) = run-right k d x a s.sturdy here in (
        record {
          sturdy = r.sturdy;
          settings = r.settings ∙ s.settings;
          marks = r.marks ∙ s.marks;
          inside = subst (λ (t : Settings). Inside t (doing c k x).effect []) s.settings r.inside;
        },
        app-after k d x a here,
      )

  pub receive-lasting : (low : Bool) (frame : List ℕ) → Lasting c (receive c low frame)
  unfolding bad_app
  receive-lasting =
      receive_elim c (λ t. Lasting c t) (record {
        still = lasting f refl;
        damaged = lasting f refl;
        elsewhere = lasting off refl;
        illegal = lasting off refl;
        runs = λ k x may. let r = doing-right k x may in finish-lasting k (number c.bus.state) c (doing c k x) r.0 r.1;
        choosing = λ k x may zero. finish_spi-lasting k c.kept c (chosen (doing c k x)) (chosen-right (doing-right k x may).0) refl;
        damaged_spi = λ spi. lasting f refl;
        illegal_spi = λ spi. lasting off refl;
        runs_spi = λ spi k x may. let r = doing-right k x may in finish_spi-lasting k c.kept c (doing c k x) r.0 r.1;
      })
