-- `receiving::judge::validate_req` meets its contract, by the destination.
use Rattle.receiving.proofs.JudgeLaws.{to_all_lem, to_one}
use Rattle.receiving.proofs.judge.validate_req.Goals as goal

pub returns-then-receiver-eq-BROADCAST : goal.returns-then-receiver-eq-BROADCAST
returns-then-receiver-eq-BROADCAST c = let a = c.args in to_all_lem a.config a.car a.receiver a.timer _ c.if-receiver-eq-BROADCAST.true c.for_us.ensures

pub returns-else-receiver-eq-BROADCAST : goal.returns-else-receiver-eq-BROADCAST
returns-else-receiver-eq-BROADCAST c = let a = c.args in to_one a.config a.car a.receiver a.timer _ c.if-receiver-eq-BROADCAST.false c.for_us-else-receiver-eq-BROADCAST.ensures
