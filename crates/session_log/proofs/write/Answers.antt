-- By what judging answers; then the length of the output.
use mathlib.Core.Path.{◌∙◌}
use Rattle.std.proofs.lemmas.Result.{err_from_is_err_and}
use Rattle.session_log.specs.Writing.{given_in}
use Rattle.session_log.proofs.WriteLaws.{write_refused, write_short, write_right}
use Rattle.session_log.proofs.write.Goals as goal

pub returns-in_err-judge : goal.returns-in_err-judge
returns-in_err-judge c =
    let a = c.args in
    let p = err_from_is_err_and c.from_residual.result c.from_residual.ensures.1 in
    let w = write_refused (given_in a.session) a.out.now _ c.in_err-judge.ensures in
    record { result_value = rw (p.1, p.2) w.0; out_after = w.1 }

pub returns-then-total-out : goal.returns-then-total-out
returns-then-total-out c =
    let a = c.args in
    let w = write_short (given_in a.session) a.out.now c.in_ok-judge.ensures c.total_of-total.ensures c.if-total-out.true in
    record { result_value = w.0; out_after = w.1 }

pub returns : goal.returns
returns c =
    let a = c.args in
    let w = write_right (given_in a.session) a.out.now c.in_ok-judge.ensures c.total_of-total.ensures c.if-total-out.false in
    record { result_value = w.0; out_after = c.put_log.ensures ∙ w.1 }
