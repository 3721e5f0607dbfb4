-- By what the line asks for.
use mathlib.Core.Path.{sym}
use Rattle.replay_line.proofs.Asked.{no_room, by_word, cmd-line, blk-line, take-line, over-line, bad-line}
use Rattle.replay_line.proofs.play.Goals as goal

pub returns-then-text-lt-ROOM : goal.returns-then-text-lt-ROOM
returns-then-text-lt-ROOM c = sym (no_room _ _ _ c.if-text-lt-ROOM.true)

pub returns-in-Some-Cmd : goal.returns-in-Some-Cmd
returns-in-Some-Cmd c = by_word _ _ _ _ c.if-text-lt-ROOM.false (rw c.in-Some-Cmd.field-0-is at c.in-Some-Cmd.ensures) _ _ (cmd-line _ _) c.command.ensures

pub returns-in-Some-Blk : goal.returns-in-Some-Blk
returns-in-Some-Blk c = by_word _ _ _ _ c.if-text-lt-ROOM.false (rw c.in-Some-Blk.field-0-is at c.in-Some-Blk.ensures) _ _ (blk-line _ _) c.block.ensures

pub returns-in-Some-Take : goal.returns-in-Some-Take
returns-in-Some-Take c = by_word _ _ _ _ c.if-text-lt-ROOM.false (rw c.in-Some-Take.field-0-is at c.in-Some-Take.ensures) _ _ (take-line _) c.take.ensures.answered

pub returns-in-Some-Over : goal.returns-in-Some-Over
returns-in-Some-Over c = by_word _ _ _ _ c.if-text-lt-ROOM.false (rw c.in-Some-Over.field-0-is at c.in-Some-Over.ensures) _ _ (over-line _) c.over.ensures

pub returns-in-None : goal.returns-in-None
returns-in-None c = by_word _ _ _ _ c.if-text-lt-ROOM.false c.in-None.ensures _ _ (bad-line _) (c.unreadable.ensures _)
