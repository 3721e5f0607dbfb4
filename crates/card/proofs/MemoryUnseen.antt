-- A locked card stays shut, and each call does the same on two worlds with one record and any two memories.
use mathlib.Core.Path.{◌≡◌, refl, sym, ap, subst, ◌∙◌}
use mathlib.Core.Bool.{Bool, true, false, cond, not, ◌&&◌, ◌||◌, false≢true}
use mathlib.Core.List.{List, [], ◌∷◌}
use mathlib.Core.Option.{Option, none, some}
use Prim.Native.Nat.{ℕ}
use lib.Dec.{eqb, ltb}
use lib.ListN.{length, replicate}
use Rattle.codec.specs.Answer.{done}
use Rattle.card.specs.declared.Settings.{Settings}
use Rattle.card.specs.declared.Source.{Source}
use Rattle.card.specs.declared.Source.TheVariants.{Blocks, WriteProtect, SdStatus, WrittenBlocks, Scr, Csd, Cid}
use Rattle.card.specs.declared.Sink.TheVariants.{Single, Multiple, LockUnlock}
use Rattle.card.specs.declared.State.{State}
use Rattle.card.specs.declared.State.TheVariants.{Idle, Ready, Ident, Stby, Tran, Data, Rcv, Prg, Dis, Ina}
use Rattle.card.specs.declared.Open.{Open}
use Rattle.card.specs.declared.Open.TheVariants.{Read, Write, Busy}
use Rattle.card.specs.declared.Core.{Core}
use Rattle.card.specs.declared.Card.{Card}
use Rattle.card.specs.declared.Password.{Password}
use Rattle.card.specs.declared.command.Command.TheVariants.{StopTransmission}
use Rattle.card.specs.declared.lock.Operation.{Operation}
use Rattle.card.specs.declared.lock.Operation.TheVariants.{ForceErase, Lock, Unlock, ClearPassword, SetPassword, Invalid}
use Rattle.card.specs.declared.done.Effect.{Effect}
use Rattle.card.specs.declared.done.Effect.TheVariants.{Nothing}
use Rattle.card.specs.declared.done.Flag.TheVariants.{Keep}
use Rattle.card.specs.Settings.{capacity, cid_bytes, csd_bytes, scr_bytes}
use Rattle.card.specs.Record.{with_state, with_marks}
use Rattle.card.specs.State.{open_of, locking, reading, writing, busy}
use Rattle.card.specs.Status.{LOCK_UNLOCK_FAILED}
use Rattle.card.specs.Soundness.{unsound, bad_password}
use Rattle.card.specs.Protect.{whole}
use Rattle.card.specs.Execute.{raise, moved}
use Rattle.card.specs.Effects.{Stored, stored, affected}
use Rattle.card.specs.Frame.{Turn, token, quiet, said}
use Rattle.card.specs.Receive.{receive}
use Rattle.card.specs.Lock.{operation}
use Rattle.card.specs.Data.{word32, mark_bytes, single, operate, lock_into, write_into, take_source, take_from, block_into, password_into, over_from, ACCEPTED, REJECTED}
use Rattle.card.specs.Step.{Call, power_up, command_frame, block_in, take_block, busy_over, World, world, Result, over, refuse, refusal, POWER_ROWS, FRAME_ROWS, BLOCK_ROWS, TAKE_ROWS, OVER_ROWS, unless, other_size, FRAME, ROOM, other_block, block_room, flagged, show, fresh, start, permitted, opened, Incoming, payload, stop, ignored, success, entered, arrived, led, handed, power_refusal, frame_refusal, block_refusal, take_refusal, over_refusal, powered_up, framed, given, taken, overed, step, next}
use Rattle.card.specs.Locked.{erases_by, source_shut, shut, Shut, StartsShut, KeepsShut, is_force_erase, passes, force_erases, MemoryUnseen}
use Rattle.card.proofs.Choices.{cond_either, unless_keeps}
use Rattle.card.proofs.Locked.{receive-held, source_held, write-held}
use Rattle.card.proofs.Shut.{Closed, after-closed, receive-quiet}
use Rattle.card.proofs.Sound.{keeps_sound}

-- ---- a locked card stays shut

module _ (c : Core) (h : c.locked ≡ true → Closed c.bus.state) where
  abbrev Keeps : Turn → Type 0
  Keeps t = t.core.locked ≡ true → Closed t.core.bus.state

  -- a card that is not locked is not locked by such a turn
  held : (t : Turn) → t.core.locked ≡ c.locked → (c.locked ≡ true → Closed t.core.bus.state) → Keeps t
  held t e k = λ locked. k (sym e ∙ locked)

  receive-shut : (low : Bool) (frame : List ℕ) → Keeps (receive c low frame)
  receive-shut low frame =
      held (receive c low frame) (receive-held c low frame) (λ locked. (receive-quiet c locked (h locked) low frame).closed)

  lock-closed : (right b : Bool) (s : List ℕ) → Closed (lock_into right b c s).core.bus.state
  unfolding lock_into
  lock-closed right b s =
      let P : Turn → Type 0 = λ t. Closed t.core.bus.state in
      cond_either P (not right) refl (cond_either P b refl refl)

  block-shut : (o : Open) → (c.locked ≡ true → shut o ≡ true) → (right b : Bool) (s : List ℕ) → Keeps (block_into o right b c s)
  unfolding block_into
  block-shut Open.Nothing k right b s = h
  block-shut (Read x) k right b s = h
  block-shut (Write (Single a m)) k right b s =
      held (write_into false a m right c s) (write-held c false a m right s) (λ locked. absurd (false≢true (k locked)))
  block-shut (Write (Multiple a m)) k right b s =
      held (write_into true a m right c s) (write-held c true a m right s) (λ locked. absurd (false≢true (k locked)))
  block-shut (Write LockUnlock) k right b s = λ locked. lock-closed right b s
  block-shut (Busy x) k right b s = h

  stop-shut : Keeps (quiet (moved StopTransmission c) Keep)
  stop-shut = λ locked. after-closed StopTransmission c.bus c.bus.state (h locked)

  source_shut_lem : (x : Source) → (c.locked ≡ true → source_shut x ≡ true) → (memory : List ℕ) → Keeps (take_source x c memory)
  unfolding take_source
  source_shut_lem (Blocks multiple address m) k memory =
      held (take_source (Blocks multiple address m) c memory) (source_held c (Blocks multiple address m) memory) (λ locked. absurd (false≢true (k locked)))
  source_shut_lem (WriteProtect address) k memory = λ locked. refl
  source_shut_lem SdStatus k memory = λ locked. refl
  source_shut_lem WrittenBlocks k memory = λ locked. refl
  source_shut_lem Scr k memory = λ locked. refl
  source_shut_lem Csd k memory = λ locked. refl
  source_shut_lem Cid k memory = λ locked. refl

  take-shut : (o : Open) → (c.locked ≡ true → shut o ≡ true) → (memory : List ℕ) → Keeps (take_from o c memory)
  unfolding take_from
  take-shut Open.Nothing k memory = h
  take-shut (Read x) k memory = source_shut_lem x k memory
  take-shut (Write x) k memory = h
  take-shut (Busy x) k memory = h

  over-shut : (s : State) → (c.locked ≡ true → Closed s) → Keeps (over_from (open_of s) c)
  unfolding over_from
  over-shut Idle k = h
  over-shut Ready k = h
  over-shut Ident k = h
  over-shut Stby k = h
  over-shut Tran k = h
  over-shut (Data x) k = h
  over-shut (Rcv x) k = h
  over-shut Prg k = λ locked. refl
  over-shut Dis k = λ locked. refl
  over-shut Ina k = h

abbrev Good : Result → Type 0
Good r = Shut r.world

start-shut : (s : Settings) (p : Password) (memory : List ℕ) → Shut (world (start s p) memory)
unfolding start fresh
start-shut s p memory = λ locked. refl

show-shut : (w : World) (p : Password) (out : List ℕ) (t : Turn) → (t.core.locked ≡ true → Closed t.core.bus.state) → Good (show w p out t)
unfolding show
show-shut w p out t h = h

entered-shut : (w : World) → Shut w → (i : Incoming) → Good (entered w i)
unfolding entered
entered-shut w h (payload right s) =
    let c = w.card.core in
    let o = opened w in
    show-shut w (password_into o right (success w s) w.card.password s) [] (block_into o right (success w s) c s) (block-shut c h o h right (success w s) s)
entered-shut w h stop = show-shut w w.card.password [] (quiet (moved StopTransmission w.card.core) Keep) (stop-shut w.card.core h)
entered-shut w h ignored = show-shut w w.card.password [] (quiet w.card.core Keep) h

pub keeps_shut : KeepsShut
unfolding step powered_up framed given taken overed
keeps_shut w (power_up s p) h =
    unless_keeps Good (power_refusal w s p) w [] {x = record { answer = done over; world = world (start s p) w.memory; out = [] }} (λ k. h)
    (λ e. start-shut s p w.memory)
keeps_shut w (command_frame frame low out) h =
    unless_keeps Good (frame_refusal w frame out) w out {x = show w w.card.password out (receive w.card.core low frame)} (λ k. h)
    (λ e. show-shut w w.card.password out (receive w.card.core low frame) (receive-shut w.card.core h low frame))
keeps_shut w (block_in s) h =
    unless_keeps Good (block_refusal w s) w [] {x = entered w (arrived w s)} (λ k. h) (λ e. entered-shut w h (arrived w s))
keeps_shut w (take_block out) h =
    let t = handed w in
    unless_keeps Good (take_refusal w out) w out {x = show w w.card.password out t} (λ k. h)
    (λ e. show-shut w w.card.password out t (take-shut w.card.core h (opened w) h w.memory))
keeps_shut w busy_over h =
    let t = over_from (opened w) w.card.core in
    unless_keeps Good (over_refusal w) w [] {x = show w w.card.password [] t} (λ k. h)
    (λ e. show-shut w w.card.password [] t (over-shut w.card.core h w.card.core.bus.state h))

pub starts-shut : StartsShut
starts-shut w s = subst (λ (c : Card). Shut (world c w.memory)) (sym s.powered) (start-shut s.settings s.password w.memory)

-- ---- two memories

record Matched (w : World) (erases : Bool) (x y : Result) : Type 0 where
  answer : x.answer ≡ y.answer
  out : x.out ≡ y.out
  card : x.world.card ≡ y.world.card
  memory : x.world.memory ≡ cond erases (replicate (length w.memory) 0) w.memory

module _ (w : World) (m : List ℕ) (long : length w.memory ≡ length m) where
  abbrev other : World
  other = world w.card m

  abbrev core : Core
  core = w.card.core

  refuse-alike : (out : List ℕ) (k : ℕ) → Matched w false (refuse w out k) (refuse other out k)
  refuse-alike out k = record { answer = refl; out = refl; card = refl; memory = refl }

  -- memory and marks stay
  show-alike : (p : Password) (out : List ℕ) (t : Turn) → t.effect ≡ Nothing → Matched w false (show w p out t) (show other p out t)
  unfolding show affected
  show-alike p out t e =
      let marks : (memory : List ℕ) → affected (whole core.settings) t.effect t.payload (stored memory core.marks) ≡ stored memory core.marks =
      λ memory. ap (λ (f : Effect). affected (whole core.settings) f t.payload (stored memory core.marks)) e in
      record {
        answer = refl;
        out = refl;
        card =
            ap (λ (x : List ℕ). record { core = with_marks t.core x; password = p; line = flagged t.flag w.card.line })
            (ap (λ (s : Stored). s.marks) (marks w.memory) ∙ sym (ap (λ (s : Stored). s.marks) (marks m)));
        memory = ap (λ (s : Stored). s.memory) (marks w.memory);
      }

  -- ---- a block of 42

  abbrev failed : Turn
  failed = said (with_state (raise core LOCK_UNLOCK_FAILED) Prg) (token ACCEPTED)

  operate-alike : (o : Operation) (p : Password) → Matched w (is_force_erase o) (show w p [] (operate o core)) (show other p [] (operate o core))
  unfolding show affected
  operate-alike ForceErase p = record { answer = refl; out = refl; card = refl; memory = refl }
  operate-alike Lock p = show-alike p [] (operate Lock core) refl
  operate-alike Unlock p = show-alike p [] (operate Unlock core) refl
  operate-alike ClearPassword p = show-alike p [] (operate ClearPassword core) refl
  operate-alike (SetPassword lock) p = show-alike p [] (operate (SetPassword lock) core) refl
  operate-alike Invalid p = show-alike p [] (operate Invalid core) refl

  lock-alike : (s : List ℕ) (right b : Bool) (p : Password)
      → Matched w (right && (b && is_force_erase (operation s))) (show w p [] (lock_into right b core s)) (show other p [] (lock_into right b core s))
  unfolding lock_into
  lock-alike s true true p = operate-alike (operation s) p
  lock-alike s true false p = show-alike p [] failed refl
  lock-alike s false b p = show-alike p [] (said (with_state core Tran) (token REJECTED)) refl

  block-alike : (s : List ℕ) (right b : Bool) (p : Password) (o : Open) → shut o ≡ true
      → Matched w (locking o && (right && (b && is_force_erase (operation s)))) (show w p [] (block_into o right b core s)) (show other p [] (block_into o right b core s))
  unfolding block_into
  block-alike s right b p Open.Nothing h = show-alike p [] (quiet core Keep) refl
  block-alike s right b p (Read x) h = show-alike p [] (quiet core Keep) refl
  block-alike s right b p (Write (Single a held)) h = absurd (false≢true h)
  block-alike s right b p (Write (Multiple a held)) h = absurd (false≢true h)
  block-alike s right b p (Write LockUnlock) h = lock-alike s right b p
  block-alike s right b p (Busy x) h = show-alike p [] (quiet core Keep) refl

  nothing-erased : (b : Bool) {x y : Result} → Matched w false x y → Matched w (b && false) x y
  nothing-erased true h = h
  nothing-erased false h = h

  entered-alike : shut (opened w) ≡ true → (i : Incoming) → Matched w (locking (opened w) && erases_by w i) (entered w i) (entered other i)
  unfolding entered
  entered-alike h (payload right s) = block-alike s right (success w s) (password_into (opened w) right (success w s) w.card.password s) (opened w) h
  entered-alike h stop = nothing-erased (locking (opened w)) (show-alike w.card.password [] (quiet (moved StopTransmission core) Keep) refl)
  entered-alike h ignored = nothing-erased (locking (opened w)) (show-alike w.card.password [] (quiet core Keep) refl)

  -- what is handed out is no memory
  source_alike : (p : Password) (out : List ℕ) (x : Source) → source_shut x ≡ true
      → Matched w false (show w p out (led core.bus.mode (take_source x core w.memory))) (show other p out (led core.bus.mode (take_source x core m)))
  unfolding take_source
  source_alike p out (Blocks multiple address held) h = absurd (false≢true h)
  source_alike p out (WriteProtect address) h = show-alike p out (led core.bus.mode (single core (mark_bytes core address))) refl
  source_alike p out SdStatus h = show-alike p out (led core.bus.mode (single core (replicate 64 0))) refl
  source_alike p out WrittenBlocks h = show-alike p out (led core.bus.mode (single core (word32 core.written))) refl
  source_alike p out Scr h = show-alike p out (led core.bus.mode (single core scr_bytes)) refl
  source_alike p out Csd h = show-alike p out (led core.bus.mode (single core (csd_bytes core.csd))) refl
  source_alike p out Cid h = show-alike p out (led core.bus.mode (single core (cid_bytes core.settings))) refl

  take-alike : (p : Password) (out : List ℕ) (o : Open) → shut o ≡ true
      → Matched w false (show w p out (led core.bus.mode (take_from o core w.memory))) (show other p out (led core.bus.mode (take_from o core m)))
  unfolding take_from
  take-alike p out Open.Nothing h = show-alike p out (led core.bus.mode (quiet core Keep)) refl
  take-alike p out (Read x) h = source_alike p out x h
  take-alike p out (Write x) h = show-alike p out (led core.bus.mode (quiet core Keep)) refl
  take-alike p out (Busy x) h = show-alike p out (led core.bus.mode (quiet core Keep)) refl

  over-still : (o : Open) → (over_from o core).effect ≡ Nothing
  unfolding over_from
  over-still Open.Nothing = refl
  over-still (Read x) = refl
  over-still (Write x) = refl
  over-still (Busy x) = refl

  -- ---- the five calls

  -- refused alike, or run; what runs erases where e says so
  unless-alike : (e : Bool) (o p : Option ℕ) → o ≡ p → (out : List ℕ) (x y : Result) → Matched w e x y
      → Matched w (passes o && e) (unless o w out x) (unless p other out y)
  unless-alike e o p same out x y h = subst (λ (q : Option ℕ). Matched w (passes o && e) (unless o w out x) (unless q other out y)) same (go o)
    where
      go : (q : Option ℕ) → Matched w (passes q && e) (unless q w out x) (unless q other out y)
      go none = h
      go (some k) = refuse-alike out k

  none-erased : (o : Option ℕ) {x y : Result} → Matched w (passes o && false) x y → Matched w false x y
  none-erased none h = h
  none-erased (some k) h = h

  -- rows look at the length of memory alone
  same-refusal : (ns : List ℕ) (size unsound buffer closed settings : Bool) (s : Settings)
      → refusal ns (record { size = size; unsound = unsound; memory = other_size w.memory s; buffer = buffer; closed = closed; settings = settings })
      ≡ refusal ns (record { size = size; unsound = unsound; memory = other_size m s; buffer = buffer; closed = closed; settings = settings })
  same-refusal ns size unsound buffer closed settings s =
      ap
      (λ (n : ℕ). refusal ns (record { size = size; unsound = unsound; memory = not (eqb n (capacity s)); buffer = buffer; closed = closed; settings = settings }))
      long

  abbrev bad : Bool
  bad = unsound core || bad_password core.locked w.card.password.length

  step-alike : core.locked ≡ true → shut (opened w) ≡ true → (c : Call) → Matched w (force_erases w c) (step w c) (step other c)
  unfolding step powered_up framed given taken overed force_erases
  step-alike locked h (power_up s p) =
      let x : Result = record { answer = done over; world = world (start s p) w.memory; out = [] } in
      let y : Result = record { answer = done over; world = world (start s p) m; out = [] } in
      none-erased (power_refusal w s p)
      (unless-alike false (power_refusal w s p) (power_refusal other s p) (same-refusal POWER_ROWS false false false false (not (permitted s p)) s) [] x y
      (record { answer = refl; out = refl; card = refl; memory = refl }))
  step-alike locked h (command_frame frame low out) =
      let t = receive core low frame in
      none-erased (frame_refusal w frame out)
      (unless-alike false (frame_refusal w frame out) (frame_refusal other frame out)
      (same-refusal FRAME_ROWS (not (eqb (length frame) FRAME)) bad (ltb (length out) ROOM) false false core.settings) out
      (show w w.card.password out t) (show other w.card.password out t)
      (show-alike w.card.password out t (receive-quiet core locked h low frame).effect))
  step-alike locked h (block_in s) =
      let o = opened w in
      unless-alike (locking o && erases_by w (arrived w s)) (block_refusal w s) (block_refusal other s)
      (same-refusal BLOCK_ROWS (other_block core s) bad false (not (writing o)) false core.settings) []
      (entered w (arrived w s)) (entered other (arrived w s)) (entered-alike h (arrived w s))
  step-alike locked h (take_block out) =
      let o = opened w in
      none-erased (take_refusal w out)
      (unless-alike false (take_refusal w out) (take_refusal other out)
      (same-refusal TAKE_ROWS false bad (ltb (length out) (block_room core)) (not (reading o)) false core.settings) out
      (show w w.card.password out (handed w)) (show other w.card.password out (handed other)) (take-alike w.card.password out o h))
  step-alike locked h busy_over =
      let t = over_from (opened w) core in
      none-erased (over_refusal w)
      (unless-alike false (over_refusal w) (over_refusal other) (same-refusal OVER_ROWS false bad false (not (busy (opened w))) false core.settings) []
      (show w w.card.password [] t) (show other w.card.password [] t) (show-alike w.card.password [] t (over-still (opened w))))

-- ---- lists of calls

pub memory_unseen : MemoryUnseen
memory_unseen a b s t h e [] = tt
memory_unseen a b s t h e (c ∷ cs) =
    λ locked.
    let long : length a.memory ≡ length b.memory = s.memory ∙ ap (λ (x : Card). capacity x.core.settings) e ∙ sym t.memory in
    let x : Matched a (force_erases a c) (step a c) (step b c) =
    subst (λ (k : Card). Matched a (force_erases a c) (step a c) (step (world k b.memory) c)) e (step-alike a b.memory long locked (h locked) c) in (
      record { answer = x.answer; out = x.out; card = x.card; memory = x.memory },
      memory_unseen (next a c) (next b c) (keeps_sound a c s) (keeps_sound b c t) (keeps_shut a c h) x.card cs,
    )
