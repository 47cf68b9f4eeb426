-- A refusal.
use Rattle.script.proofs.ReplyLaws.{refused_answered}
use Rattle.script.proofs.replies.put_answer.Goals as goal

pub returns-in-Err : goal.returns-in-Err
returns-in-Err c = rw c.in-Err.is (refused_answered _ c.put_refusal.ensures)
