-- What showing a frame asks of the settings, the effect and the slices: rows 1 to 4 have been passed.
use Rattle.std.specs.Prelude.{◌≡◌, true, List, ℕ, ◌≤◌, length}
use Rattle.card.specs.declared.Settings.{Settings}
use Rattle.card.specs.declared.done.Effect.{Effect}
use Rattle.card.specs.Step.{ROOM}
use Rattle.card_effect.specs.Apply.{reaches}

pub record Shows (s : Settings) (e : Effect) (memory out : List ℕ) : Type 0 where
  pub room : ROOM ≤ length out
  pub inside : reaches e 0 (length memory) ≡ true
