-- Line by line: each line of input gives one call of the step that the histories run, and one line of output.
use Rattle.std.specs.Prelude.{false, cond, List, ℕ, ltb, length, replicate}
use Rattle.codec.specs.Answer.{BUFFER, refuse}
use Rattle.card.specs.Step.{World, command_frame, block_in, take_block, busy_over, step}
use Rattle.card_call.specs.Seen.{seen}
use Rattle.replay_read.specs.Read.{Request, cmd, blk, bare_take, bare_over, unreadable, read_line}
use Rattle.replay_write.specs.declared.Kind.TheVariants.{Response, Block}
use Rattle.replay_write.specs.Write.{refusal, ROOM}
use Rattle.replay_answer.specs.Played.{Played, Shown, played, on_text}

-- every frame comes with chip select high; the output buffers are zero before each call, and as long as row 4 asks for in SD mode
unfoldable pub play : World → Request → Played
play w (cmd frame) = played Response (seen (step w (command_frame frame false (replicate 17 0))))
play w (blk s) = played Response (seen (step w (block_in s)))
play w bare_take = played Block (seen (step w (take_block (replicate 514 0))))
play w bare_over = played Response (seen (step w busy_over))
play w unreadable = record { world = w; text = refusal 1 }

abbrev pub replayed : World → List ℕ → Played
replayed w line = play w (read_line line)

-- a text that has no room for the longest line is refused before the card is called (row 4)
unfoldable pub play_line : World → List ℕ → List ℕ → Shown
play_line w line text =
    cond (ltb (length text) ROOM) (record { line = refuse BUFFER text; world = w }) (on_text (replayed w line) text)
