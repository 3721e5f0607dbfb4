-- The model's rows by the lengths of the password and of memory.
use Rattle.std.specs.Prelude.{◌≡◌, Bool, false, not, ◌||◌, ℕ, ◌≤◌, eqb}
use Rattle.card.specs.declared.answer.Rows.{Rows}
use Rattle.card.specs.declared.Core.{Core}
use Rattle.card.specs.Settings.{MOST, capacity}
use Rattle.card.specs.Soundness.{unsound, bad_password}

-- `Step.rows` of a world with that record, and a password and memory of those lengths
abbrev pub rows_of : Core → ℕ → ℕ → Bool → Bool → Bool → Rows
rows_of c password memory size buffer closed = record {
  size = size;
  unsound = unsound c || bad_password c.locked password;
  memory = not (eqb memory (capacity c.settings));
  buffer = buffer;
  closed = closed;
  settings = false;
}

-- what rows 2 and 3 leave known: memory has its size, and the size its bound
pub record Sized (c : Core) (memory : ℕ) : Type 0 where
  pub blocks : c.settings.blocks ≤ MOST
  pub whole : memory ≡ capacity c.settings
