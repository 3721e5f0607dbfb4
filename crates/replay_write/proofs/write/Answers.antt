-- `write` goes by the answer.
use Rattle.std.proofs.Common.{inl, inr}
use Rattle.replay_write.specs.Write.{written}
use Rattle.replay_write.proofs.write.Goals as goal

pub returns-in-Silence : goal.returns-in-Silence
unfolding written
returns-in-Silence c = elim c.in-Silence.is [ inl e ↦ simp e c.put.ensures | inr e ↦ simp e c.put.ensures ]

pub returns-in-Sent : goal.returns-in-Sent
unfolding written
returns-in-Sent c =
    simp c.in-Sent.is
    (simp c.front.ensures at c.bytes_line.ensures)

pub returns-in-Accepted : goal.returns-in-Accepted
unfolding written
returns-in-Accepted c = simp c.in-Accepted.is c.put-in-Accepted.ensures

pub returns-in-Rejected : goal.returns-in-Rejected
unfolding written
returns-in-Rejected c = simp c.in-Rejected.is c.put-in-Rejected.ensures

pub returns-in-Refused : goal.returns-in-Refused
unfolding written
returns-in-Refused c = simp c.in-Refused.is c.refusal.ensures
