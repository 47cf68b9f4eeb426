-- `ends::send` meets its contract: it tells what writing gave.
use Rattle.std.proofs.Common.{length}
use Rattle.messages.specs.Answers.{message_of, besides}
use Rattle.messages.specs.Writing.{write_rules}
use Rattle.ends.proofs.SendLaws.{says_written}
use Rattle.ends.proofs.send.Goals as goal

pub returns : goal.returns
returns c =
    let a = c.args in
    says_written (write_rules (message_of a.edition a.message (besides a.values a.ids)) (length a.out.now)) _ _ _ c.write-written.result c.told.result c.write-written.ensures.result_value c.write-written.ensures.out_after c.told.ensures
