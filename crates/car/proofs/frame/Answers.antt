-- `car::frame` meets its contract: what judging refuses, and what the message comes to.
use Rattle.car.proofs.JudgeLaws.{frame_refused, frame_taken, frame_ready}
use Rattle.car.proofs.StepLaws.{promised, refuses}
use Rattle.car.proofs.frame.Goals as goal

pub take-requires : goal.take-requires
take-requires c = let a = c.args in frame_ready a.car a.octets.now a.out.now _ c.judge.ensures _ c.in-Ok.is c.requires

pub returns-in-Err : goal.returns-in-Err
returns-in-Err c =
    let a = c.args in
    refuses _ _ c.requires c.refused.result _ a.out.now (frame_refused a.car a.octets.now a.out.now _ c.judge.ensures _ c.in-Err.is) c.refused.ensures

pub returns-in-Ok : goal.returns-in-Ok
returns-in-Ok c =
    let a = c.args in
    promised _ _ c.requires c.take.result _ a.out.now _ (frame_taken a.car a.octets.now a.out.now _ c.judge.ensures _ c.in-Ok.is) (c.take.ensures 0)
