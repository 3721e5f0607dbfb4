-- The laws of specs/Laws.antt.
use Rattle.bring_up_line.specs.Laws.{AnswerLaws}
use Rattle.bring_up_line.proofs.Lines.{response-read, silence-read, front_enough, kept_read}

pub answer_laws : AnswerLaws
answer_laws = record { response = response-read; silence = silence-read; front = front_enough; read = kept_read }
