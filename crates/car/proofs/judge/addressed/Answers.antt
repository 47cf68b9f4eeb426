-- `car::judge::addressed` meets its contract, by the message.
use Rattle.std.proofs.Common.{refl}
use Rattle.car.proofs.JudgeLaws.{addressed_as}
use Rattle.car.proofs.judge.addressed.Goals as goal

pub returns-in-SlacParmCnf : goal.returns-in-SlacParmCnf
returns-in-SlacParmCnf c = let a = c.args in addressed_as a.config _ _ a.message _ _ c.for_us.ensures c.in-SlacParmCnf.is (λ b. refl)

pub returns-in-AttenCharInd : goal.returns-in-AttenCharInd
returns-in-AttenCharInd c = let a = c.args in addressed_as a.config _ _ a.message _ _ c.for_us-in-AttenCharInd.ensures c.in-AttenCharInd.is (λ b. refl)

pub returns-in-SlacMatchCnf : goal.returns-in-SlacMatchCnf
returns-in-SlacMatchCnf c = let a = c.args in addressed_as a.config _ _ a.message _ _ c.for_us-in-SlacMatchCnf.ensures c.in-SlacMatchCnf.is (λ b. refl)
