-- Byte by byte: at the loop's head, the bytes that are left lead where all of them lead.
use Rattle.std.proofs.Common.{drop}
use Rattle.replay_session.specs.Session.{session, HearsAll}
use Rattle.replay_session.proofs.hear_all_with.Given as goal

abbrev pub invariant-loop-byte : goal.invariant-loop-byte
invariant-loop-byte g l =
    (last : _) → HearsAll g.P.Player.plays (session l.now l.memory l.line l.text) (drop l.byte-index l.chunk) last
    → HearsAll g.P.Player.plays (session l.initial.now l.initial.memory l.initial.line l.initial.text) l.chunk last
