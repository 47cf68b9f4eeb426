-- `receiving::judge::addressed` meets its contract, by the message.
use Rattle.messages.specs.declared.Message.{Message}
use Rattle.messages.specs.Answers.{message_of}
use Rattle.receiving.specs.Judge.{addressed_rule}
use Rattle.receiving.proofs.JudgeLaws.{addressed_as}
use mathlib.Core.Path.{refl, sym, ap, ◌∙◌}
use Rattle.receiving.proofs.judge.addressed.Goals as goal

pub returns-in-SlacParmReq : goal.returns-in-SlacParmReq
returns-in-SlacParmReq c =
    let a = c.args in
    addressed_as a.config _ _ _ _ a.message _ _ c.for_us.ensures refl c.in-SlacParmReq.is (λ g. refl)

pub returns-in-StartAttenCharInd : goal.returns-in-StartAttenCharInd
returns-in-StartAttenCharInd c =
    let a = c.args in
    addressed_as a.config _ _ _ _ a.message _ _ c.for_us-in-StartAttenCharInd.ensures c.of_run.ensures c.in-StartAttenCharInd.is (λ g. refl)

pub returns-in-MnbcSoundInd : goal.returns-in-MnbcSoundInd
returns-in-MnbcSoundInd c =
    let a = c.args in
    addressed_as a.config _ _ _ _ a.message _ _ c.for_us-in-MnbcSoundInd.ensures c.of_run-in-MnbcSoundInd.ensures c.in-MnbcSoundInd.is (λ g. refl)

pub returns-in-AttenCharRsp : goal.returns-in-AttenCharRsp
returns-in-AttenCharRsp c =
    let a = c.args in
    addressed_as a.config _ _ _ _ a.message _ _ c.for_us-in-AttenCharRsp.ensures c.of_run-in-AttenCharRsp.ensures c.in-AttenCharRsp.is (λ g. refl)

pub returns-in-ValidateReq : goal.returns-in-ValidateReq
returns-in-ValidateReq c = let o = c.args.config in λ b. c.validate_req.ensures b ∙ sym (ap (λ (m : Message). addressed_rule o (message_of o.edition m b)) c.in-ValidateReq.is)

pub returns-in-SlacMatchReq : goal.returns-in-SlacMatchReq
returns-in-SlacMatchReq c =
    let a = c.args in
    addressed_as a.config _ _ _ _ a.message _ _ c.for_us-in-SlacMatchReq.ensures refl c.in-SlacMatchReq.is (λ g. refl)

pub returns-in-AttenProfileInd : goal.returns-in-AttenProfileInd
returns-in-AttenProfileInd c =
    let a = c.args in
    addressed_as a.config _ _ _ _ a.message _ _ (rw c.eq.ensures at c.for_us-in-AttenProfileInd.ensures) refl c.in-AttenProfileInd.is (λ g. refl)
