-- A part of the output is lent.
use Rattle.std.proofs.Common.{rules, refl}
use Rattle.script.proofs.CallLaws.{of_car, behind_length, lent_fits, lent}
use Rattle.script.proofs.car_doing.carry_out.Goals as goal

pub put_answer-requires : goal.put_answer-requires
put_answer-requires c = lent_fits c.requires (of_car c.step-stepped.ensures) (search rules) (search rules)

pub returns-in-Call : goal.returns-in-Call
returns-in-Call c = rw c.in-Call.is (lent c.requires (of_car (rw (behind_length c.requires) at c.step-stepped.ensures)) (search rules) (refl, c.put_answer.ensures))
