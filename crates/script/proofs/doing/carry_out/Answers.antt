-- A part of the output is lent.
use Rattle.std.proofs.Common.{rules, refl}
use Rattle.script.proofs.CallLaws.{of_station, of_said, behind_length, lent_fits, lent}
use Rattle.script.proofs.ReductionLaws.{reply_same}
use Rattle.script.proofs.doing.carry_out.Goals as goal

pub put_answer-requires : goal.put_answer-requires
put_answer-requires c = lent_fits c.requires.ready (of_station c.step-stepped.ensures) (search rules) (search rules)

pub put_answer-requires-in-Reduction : goal.put_answer-requires-in-Reduction
put_answer-requires-in-Reduction c = lent_fits c.requires.ready (of_said c.requires.ready.ready.kept c.reduce-answer.ensures) (search rules) (search rules)

pub returns-in-Call : goal.returns-in-Call
returns-in-Call c = rw c.in-Call.is (lent c.requires.ready (of_station (rw (behind_length c.requires.ready) at c.step-stepped.ensures)) (search rules) (refl, c.put_answer.ensures))

pub returns-in-Reduction : goal.returns-in-Reduction
returns-in-Reduction c =
    rw (c.in-Reduction.is, ← reply_same _)
    (lent c.requires.ready (of_said c.requires.ready.ready.kept (rw (behind_length c.requires.ready) at c.reduce-answer.ensures)) (search rules) (refl, c.put_answer-in-Reduction.ensures))
