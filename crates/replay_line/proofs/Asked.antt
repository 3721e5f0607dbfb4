-- The call that a line asks for.
use mathlib.Core.Path.{◌≡◌, refl, sym, ap, ◌∙◌}
use mathlib.Core.Bool.{false}
use mathlib.Core.List.{List}
use Prim.Native.Nat.{ℕ, ◌<◌, ◌≤◌}
use borrow.Author.Tests.{le-ltb, lt-ltb}
use lib.ListN.{length, replicate}
use Rattle.std.specs.Prelude.{Option, Some, None}
use Rattle.codec.specs.Answer.{BUFFER, refuse}
use Rattle.card.specs.Step.{World, step, command_frame, block_in, take_block, busy_over}
use Rattle.card_call.specs.Seen.{seen}
use Rattle.replay_read.specs.declared.Input.{Input}
use Rattle.replay_read.specs.declared.Input.TheVariants.{Cmd, Blk, Take, Over}
use Rattle.replay_read.specs.Read.{Request, read_line, held, request_of}
use Rattle.replay_read.proofs.Laws.{read_laws}
use Rattle.replay_write.specs.declared.Kind.TheVariants.{Response, Block}
use Rattle.replay_write.specs.Write.{refusal}
use Rattle.replay_answer.specs.Played.{Played, Shown, played, on_text}
use Rattle.replay_line.specs.Replay.{play, play_line}

module _ (w : World) (line text : List ℕ) where
  pub no_room : length text < 1035 → play_line w line text ≡ record { line = refuse BUFFER text; world = w }
  unfolding play_line
  no_room h = rw (lt-ltb (length text) 1035 h)

  module _ (i : Option Input) (room : 1035 ≤ length text) (e : i ≡ held (read_line line)) where
    by-line : play_line w line text ≡ on_text (play w (request_of i)) text
    unfolding play_line
    by-line =
        rw (le-ltb (length text) 1035 room)
        (ap (λ (l : Request). on_text (play w l) text) (sym (ap request_of e ∙ read_laws.whole line)))

    pub by_word : (p : Played) (a : Shown) → play w (request_of i) ≡ p → a ≡ on_text p text → a ≡ play_line w line text
    by_word p a h k = k ∙ sym (by-line ∙ ap (λ (x : Played). on_text x text) h)

module _ (w : World) where
  pub cmd-line : (frame : List ℕ) → play w (request_of (Some (Cmd frame))) ≡ played Response (seen (step w (command_frame frame false (replicate 17 0))))
  unfolding request_of play
  cmd-line frame = refl

  pub blk-line : (s : List ℕ) → play w (request_of (Some (Blk s))) ≡ played Response (seen (step w (block_in s)))
  unfolding request_of play
  blk-line s = refl

  pub take-line : play w (request_of (Some Take)) ≡ played Block (seen (step w (take_block (replicate 514 0))))
  unfolding request_of play
  take-line = refl

  pub over-line : play w (request_of (Some Over)) ≡ played Response (seen (step w busy_over))
  unfolding request_of play
  over-line = refl

  pub bad-line : play w (request_of None) ≡ record { world = w; text = refusal 1 }
  unfolding request_of play
  bad-line = refl
