-- A protected block stays; of another its part of memory is zeroed.
use mathlib.Core.Path.{sym, ◌∙◌}
use Rattle.card.specs.Effects.{swept_block}
use Rattle.card_effect.proofs.Sweeps.{swept-part}
use Rattle.card_effect.proofs.sweep_block.Goals as goal

pub returns-then-guarded_block : goal.returns-then-guarded_block
unfolding swept_block
returns-then-guarded_block c = rw (sym c.guarded_block.ensures ∙ c.if-guarded_block.true)

pub returns : goal.returns
returns c =
    let a = c.args in
    swept-part a.all a.marks.now a.block a.memory.now _ c.requires.1 (sym c.guarded_block.ensures ∙ c.if-guarded_block.false) c.zero.ensures
