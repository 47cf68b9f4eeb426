-- What the frame reads as, and to whom it goes.
use Rattle.std.proofs.lemmas.Result.{err_from_is_err_and}
use Rattle.std.specs.Prelude.{Ok}
use mathlib.Core.Path.{sym, ap, ◌∙◌}
use Rattle.messages.specs.Reading.{Checked}
use Rattle.amplitude.specs.Answers.{answer_of}
use Rattle.amplitude.specs.Reading.{Summary}
use Rattle.amplitude.specs.declared.MapMessage.{MapMessage}
use Rattle.rules.specs.Received.{map_in}
use Rattle.receiving.specs.Judge.{for_us_rule, map_judge_rule}
use Rattle.receiving.proofs.judge.judge_map.Goals as goal

pub returns-in_err-message : goal.returns-in_err-message
unfolding map_judge_rule
returns-in_err-message c =
    let p = err_from_is_err_and c.from_residual.result c.from_residual.ensures.1 in
    rw (p.1, p.2) (ap (λ (z : Checked Summary). for_us_rule c.args.config (map_in z)) c.in_err-message.ensures)

pub returns-in-AmpMapReq : goal.returns-in-AmpMapReq
unfolding map_judge_rule
returns-in-AmpMapReq c =
    c.map_req.ensures
    ∙ ap (λ (z : Checked Summary). for_us_rule c.args.config (map_in z)) (sym (ap (λ (m : MapMessage). answer_of (Ok m)) c.in-AmpMapReq.is) ∙ c.in_ok-message.ensures)

pub returns-in-AmpMapCnf : goal.returns-in-AmpMapCnf
unfolding map_judge_rule
returns-in-AmpMapCnf c =
    ap (λ (z : Checked Summary). for_us_rule c.args.config (map_in z)) (sym (ap (λ (m : MapMessage). answer_of (Ok m)) c.in-AmpMapCnf.is) ∙ c.in_ok-message.ensures)
