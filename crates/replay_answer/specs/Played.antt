-- What is seen of a call, as a line of output.
use Rattle.std.specs.Prelude.{List, ℕ}
use Rattle.codec.specs.Answer.{Encoding, encoding}
use Rattle.card.specs.Step.{World}
use Rattle.card_call.specs.Seen.{Seen}
use Rattle.replay_write.specs.declared.Kind.{Kind}
use Rattle.replay_write.specs.Write.{written, fitted}
use Rattle.replay_answer.specs.declared.Replayed.{Replayed}

pub record Played : Type 0 where
  pub world : World
  pub text : List ℕ

-- what is seen of a call, with its answer on a line
abbrev pub played : Kind → Seen → Played
played kind s = record { world = record { card = s.card; memory = s.memory }; text = written kind s.answer s.out }

-- ---- as a call

pub record Shown : Type 0 where
  pub line : Encoding
  pub world : World

-- what the function returned, and the two lent slices afterwards
abbrev pub shown : Replayed → List ℕ → List ℕ → Shown
shown r memory text = record { line = encoding r.wrote text; world = record { card = r.card; memory = memory } }

-- the answer's line as a prefix of the text
abbrev pub on_text : Played → List ℕ → Shown
on_text p text = record { line = fitted p.text text; world = p.world }
