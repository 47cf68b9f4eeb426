-- `receiving::reply::report` meets its contract: the report, in the record's words.
use Rattle.rules.specs.Replies.{report_of}
use Rattle.receiving.proofs.reply.report.Goals as goal

pub returns : goal.returns
unfolding report_of
returns c = rw c.groups_in.ensures
