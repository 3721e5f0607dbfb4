-- Frame after frame.
use Rattle.std.proofs.Common.{◌≡◌, take}
use Rattle.std.specs.List.{fold}
use Rattle.card.specs.Step.{world}
use Rattle.speed_open.specs.Begun.{powered, heard}
use Rattle.speed_open.proofs.open.Given as goal

abbrev pub invariant-loop-sent : goal.invariant-loop-sent
invariant-loop-sent l =
    world l.card l.memory ≡ fold (λ w sent. heard w l.spi sent) (powered l.initial.memory) (take l.sent-index l.sent-items)
