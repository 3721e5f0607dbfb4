-- Commands that move by the table: plain moves, reads, writes and protection marks.
use mathlib.Core.Path.{◌≡◌, refl, ◌∙◌}
use mathlib.Core.Bool.{Bool, true, false, not}
use mathlib.Core.List.{[], ◌∷◌}
use Prim.Native.Nat.{ℕ, ◌%◌, ◌≤◌, ◌<◌}
use native.Mathlib.Omega.{arith}
use borrow.Author.Tests.{eqb-true, leb-false, not-false}
use lib.Dec.{eqb}
use Rattle.card.specs.declared.Source.{Source}
use Rattle.card.specs.declared.Source.TheVariants.{Blocks}
use Rattle.card.specs.declared.Sink.TheVariants.{LockUnlock}
use Rattle.card.specs.declared.State.{State}
use Rattle.card.specs.declared.State.TheVariants.{Data, Rcv}
use Rattle.card.specs.declared.Core.{Core}
use Rattle.card.specs.declared.command.Command.{Command}
use Rattle.card.specs.declared.done.Response.{Response}
use Rattle.card.specs.declared.done.Response.TheVariants.{R1}
use Rattle.card.specs.Settings.{BLOCK, capacity}
use Rattle.card.specs.Record.{with_written}
use Rattle.card.specs.State.{number, in_spi, open_of, source_address, sink}
use Rattle.card.specs.Status.{BLOCK_LEN_ERROR, OUT_OF_RANGE, ADDRESS_ERROR, WP_VIOLATION}
use Rattle.card.specs.Table.{row, legal, after}
use Rattle.card.specs.Protect.{whole, guarded}
use Rattle.card.specs.Checks.{◌sets◌, outside, crossing, off_block, address_checks, read_checks, write_checks}
use Rattle.card.specs.Execute.{ran, moved, opening, read_blocks, write_blocks, set_mark}
use Rattle.card.specs.Soundness.{bad_rca}
use Rattle.card.proofs.Facts.{Transfer, Sturdy}
use Rattle.card.proofs.Changes.{stand, data_transfer, rcv-transfer, lock-transfer}
use Rattle.card.proofs.Marks.{group_in}
use Rattle.card.proofs.Moves.{all, keeps_rca, selects, Selected, data_selected, rcv-selected, arrive-transfer, after-rca, selected-rca}
use Rattle.card.proofs.Started.{Right, right, passed, checked-right, address_in}

module _ (c : Core) (f : Sturdy c) where
  module _ (cmd : Command) (permitted : legal cmd c.bus ≡ true) where
    opened-sturdy : (t : State) (n : ℕ) → all keeps_rca (row cmd).sd ≡ true → Transfer c.settings (open_of t) n
        → bad_rca (in_spi c.bus.mode) (number t) c.bus.rca ≡ false → Sturdy (with_written (opening cmd c t) n)
    unfolding after
    opened-sturdy t n k h r =
        stand c f (after cmd c.bus t) c.bus.rca n (arrive-transfer _ t h)
        (after-rca cmd c.bus permitted t c.bus.rca k f.rca r)

    pub moved-sturdy : all keeps_rca (row cmd).sd ≡ true → Sturdy (moved cmd c)
    moved-sturdy k = opened-sturdy c.bus.state c.written k f.transfer f.rca

    pub moved-right : (r : Response) → all keeps_rca (row cmd).sd ≡ true → Right c (ran (moved cmd c) r)
    moved-right r k = right (moved-sturdy k) refl refl

    -- a command that runs from stby on finds an RCA, in SD mode
    found-rca : (to : State) → Selected to → all selects (row cmd).sd ≡ true → bad_rca (in_spi c.bus.mode) (number to) c.bus.rca ≡ false
    found-rca to there t =
        there.rca (in_spi c.bus.mode) c.bus.rca ∙ selected-rca cmd c.bus permitted c.bus.rca t f.rca

    pub data_right : (src : Source) → all keeps_rca (row cmd).sd ≡ true → all selects (row cmd).sd ≡ true
        → source_address src ≤ capacity c.settings → (r : Response) → Right c (ran (opening cmd c (Data src)) r)
    data_right src k t h r =
        right (opened-sturdy (Data src) c.written k (data_transfer c.settings src c.written h f.transfer.count) (found-rca (Data src) (data_selected src) t)) refl refl

    pub read_right : (multiple : Bool) (a : ℕ) → all keeps_rca (row cmd).sd ≡ true → all selects (row cmd).sd ≡ true
        → Right c (read_blocks cmd c multiple a)
    read_right multiple a k t =
        let top = capacity c.settings in
        checked-right c (read_checks top c.length a) _ f
        (λ e.
        data_right (Blocks multiple a false) k t
        (let h : a < top = address_in top a (crossing c.length a sets ADDRESS_ERROR ∷ []) e in omega arith) R1)

    pub rcv-right : (multiple : Bool) (a : ℕ) → all keeps_rca (row cmd).sd ≡ true → all selects (row cmd).sd ≡ true
        → Right c (write_blocks cmd c multiple a)
    rcv-right multiple a k t =
        let top = capacity c.settings in
        let wp = guarded (whole c.settings) c.marks a in
        let last = wp sets WP_VIOLATION ∷ [] in
        let place = off_block a sets ADDRESS_ERROR ∷ last in
        let range = outside top a sets OUT_OF_RANGE ∷ place in
        checked-right c (write_checks top c.length wp a) _ f
        (λ e.
        let p = passed (not (eqb c.length BLOCK) sets BLOCK_LEN_ERROR) range e in
        let q = passed (outside top a sets OUT_OF_RANGE) place p.1 in
        let r = passed (off_block a sets ADDRESS_ERROR) last q.1 in
        let on : a % BLOCK ≡ 0 = eqb-true (a % BLOCK) 0 (not-false (eqb (a % BLOCK) 0) r.0) in
        let below : a < top = leb-false top a q.0 in
        right
        (opened-sturdy (Rcv (sink multiple a false)) 0 k (rcv-transfer c.settings multiple false a 0 (omega arith) on (omega arith))
        (found-rca (Rcv (sink multiple a false)) (rcv-selected (sink multiple a false)) t))
        refl refl)

    pub lock-right : all keeps_rca (row cmd).sd ≡ true → all selects (row cmd).sd ≡ true → Right c (ran (opening cmd c (Rcv LockUnlock)) R1)
    lock-right k t =
        right (opened-sturdy (Rcv LockUnlock) c.written k (lock-transfer c.settings c.written f.transfer.count) (found-rca (Rcv LockUnlock) (rcv-selected LockUnlock) t)) refl refl

    pub marks-right : (value : Bool) (a : ℕ) → all keeps_rca (row cmd).sd ≡ true → Right c (set_mark cmd c value a)
    marks-right value a k =
        let top = capacity c.settings in
        checked-right c (address_checks top a) _ f
        (λ e. record { sturdy = moved-sturdy k; settings = refl; marks = refl; inside = group_in c.settings a (address_in top a [] e) })
