-- The record that `put_record` stores, and the message that `send` sends.
use Rattle.lahzavar.proofs.FrameLaws.{comes_sent}
use Rattle.lahzavar.proofs.frames.sent.Goals as goal

pub returns : goal.returns
returns c =
    let a = c.args in
    comes_sent a.words.now a.sums.now a.spread.now a.out.now _ _ _ _ a.i a.r _ c.send-answer.result c.answered.result c.requires.1 c.put_record.ensures c.send-answer.ensures c.answered.ensures
