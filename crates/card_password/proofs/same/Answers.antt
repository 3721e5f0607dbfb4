-- At the loop's head, the whole is equal where what was looked at was right and what is left is equal.
use mathlib.Core.Path.{sym}
use Rattle.std.proofs.lemmas.Iterator.{empty_from_Zip}
use Rattle.std.proofs.lemmas.Slice.Zip.{Zip-more}
use Rattle.card_password.proofs.Equal.{lengths_differ, right-more, right_end}
use Rattle.card_password.proofs.same.Goals as goal

pub returns-then-a-b : goal.returns-then-a-b
returns-then-a-b c = sym (lengths_differ _ _ c.if-a-b.true)

pub loop-x-preserved : goal.loop-x-preserved
loop-x-preserved c =
    let more = Zip-more _ c.next.new.self _ _ c.in-Some.is c.next.ensures.steps in
    right-more c.in-Some.x.now c.in-Some.y.now _ _ _ _ more.0 more.1 c.loop-x.right _ c.loop-x.invariant

pub returns : goal.returns
returns c =
    let spent = empty_from_Zip _ c.next.new.self _ c.in-None.is c.next.ensures.steps c.loop-x.invariant.0 in
    right_end _ _ spent.0 spent.1 c.loop-x.right _ c.loop-x.invariant.1
