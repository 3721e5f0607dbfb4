-- The library's `find` by what the closure computes.
use mathlib.Core.Path.{sym, ap, ◌∙◌}
use Rattle.std.proofs.Common.{rules, tests}
use Rattle.std.specs.Prelude.{Option}
use Rattle.std.specs.Option.{unwrap_or}
use Rattle.std.proofs.lemmas.Iterator.{YieldsList-from_slice}
use Rattle.std.proofs.lemmas.Iterator.Adapters.{option_map_id}
use Rattle.std.proofs.lemmas.Iterator.Consumers.{YieldsList-at, YieldsList-from_copied}
use Rattle.std.proofs.lemmas.Iterator.Search.{find_from_yields_List}
use Rattle.card.specs.declared.command.Command.{Command}
use Rattle.card.specs.Table.{commands, fits}
use Rattle.card_index.proofs.Found.{found-is}
use Rattle.card_index.proofs.find.Goals as goal

pub returns : goal.returns
returns c other =
    let a = c.args in
    ap (λ (o : Option Command). unwrap_or o other)
    (sym (option_map_id _)
    ∙ find_from_yields_List (fits a.application a.index a.own) _ _ _ c.find.ensures.ran
    (YieldsList-from_copied (YieldsList-at c.copied.ensures.source (YieldsList-from_slice commands c.iter.ensures.rest))) (λ x b q k. search (rules, tests)))
    ∙ found-is a.application a.index a.own other commands
