-- The message written.
use Rattle.station.proofs.ReportLaws.{writes_confirmation}
use borrow.Author.Rules.{rules}
use Rattle.station.proofs.confirming.confirm.Goals as goal

pub returns : goal.returns
returns c = writes_confirmation c.args.config c.args.r c.args.toggles c.args.res c.validate_cnf-message.result _ _ _ c.requires.0 (search rules) c.requires.1.0 c.validate_cnf-message.ensures c.requires.1.1 c.write-written.ensures.out_after
