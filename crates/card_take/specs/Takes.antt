-- What a take asks of the record and the slices: rows 2 to 4 have been passed.
use Rattle.std.specs.Prelude.{List, ℕ, ◌≤◌, length}
use Rattle.card.specs.declared.Core.{Core}
use Rattle.card.specs.Settings.{BLOCK}
use Rattle.card.specs.Step.{block_room}
use Rattle.card_refuse.specs.Rows.{Sized}

pub record Takes (c : Core) (memory out : List ℕ) : Type 0 where
  pub size : Sized c (length memory)
  pub low : 1 ≤ c.length
  pub high : c.length ≤ BLOCK
  pub room : block_room c ≤ length out
