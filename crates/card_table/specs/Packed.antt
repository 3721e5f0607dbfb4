-- A row of the transition table as the code has it: its moves in a mode are one number, a hex digit for each state.
use Rattle.std.specs.Prelude.{cond, List, ℕ, zero, suc, ◌+◌, ◌*◌, Option}
use Rattle.std.specs.Bool.{then_some}
use Rattle.card.specs.declared.command.Command.{Command}
use Rattle.card.specs.Table.{Move, has, lead, row}
use Rattle.card_table.specs.declared.Columns.{Columns}

-- the state that a row leads to; 15 where it has no move
unfoldable pub lead_or : List Move → ℕ → ℕ
lead_or ms s = cond (has ms s) (lead ms s) 15

-- the state that a row leads to, if it has a move
abbrev pub move_from : List Move → ℕ → Option ℕ
move_from ms s = then_some (has ms s) (lead ms s)

-- the digits of k states from one on, the first the lowest
unfoldable pub packed : List Move → ℕ → ℕ → ℕ
packed ms s zero = 0
packed ms s (suc k) = lead_or ms s + 16 * packed ms (suc s) k

abbrev pub packed_row : Command → Columns
packed_row k = record {
  index = (row k).index;
  kind = (row k).kind;
  rca = (row k).rca;
  keeps_erase = (row k).keeps_erase;
  when_locked = (row k).when_locked;
  sd = packed (row k).sd 0 10;
  spi = packed (row k).spi 0 10;
}
