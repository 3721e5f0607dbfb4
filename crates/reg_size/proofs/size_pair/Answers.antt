-- `size_pair` tries the multipliers in their order.
use Rattle.reg_size.proofs.Search.{passed_none, passed_all, found, not_divided, not_counted, not_small}
use Rattle.reg_size.proofs.size_pair.Goals as goal
use Rattle.reg_size.proofs.size_pair.Goals.{else-blocks-unit-eq0-via-then-blocks-unit-eq0+then-blocks-gt0+else-blocks-unit-le4096, else-blocks-unit-eq0-via-then-blocks-unit-eq0+else-blocks-gt0, else-blocks-unit-eq0-via-else-blocks-unit-eq0}

pub loop-c_size_mult-init : goal.loop-c_size_mult-init
loop-c_size_mult-init c = passed_none c.args.blocks

pub returns-then-blocks-unit-le4096 : goal.returns-then-blocks-unit-le4096
returns-then-blocks-unit-le4096 c =
    found _ _ c.loop-c_size_mult.invariant c.loop-c_size_mult-test.true c.if-blocks-unit-eq0.true c.if-blocks-gt0.true c.if-blocks-unit-le4096.true

pub loop-c_size_mult-preserved : goal.loop-c_size_mult-preserved
loop-c_size_mult-preserved c =
    let left = c.loop-c_size_mult.invariant in
    let lt = c.loop-c_size_mult-test.true in
    elim c.else-blocks-unit-eq0.branch [
      | else-blocks-unit-eq0-via-then-blocks-unit-eq0+then-blocks-gt0+else-blocks-unit-le4096 w ↦ not_small _ _ left lt w.if-blocks-unit-le4096.false
      | else-blocks-unit-eq0-via-then-blocks-unit-eq0+else-blocks-gt0 w ↦ not_counted _ _ left lt w.if-blocks-gt0.false
      | else-blocks-unit-eq0-via-else-blocks-unit-eq0 w ↦ not_divided _ _ left lt w.if-blocks-unit-eq0.false
    ]

pub returns : goal.returns
returns c = passed_all _ _ c.loop-c_size_mult.invariant c.loop-c_size_mult-test.false
