-- In the order of the refusals.
use Rattle.std.proofs.lemmas.Result.{err_from_is_err_and}
use borrow.Author.Tests.{not-true, not-false}
use Rattle.receiving.proofs.JudgeLaws.{judged_bad, judged_short, judged_unread, judged_message}
use Rattle.receiving.proofs.judge.judge.Goals as goal

pub returns-then-not-config : goal.returns-then-not-config
returns-then-not-config c = let a = c.args in judged_bad a.config a.room a.octets.now (not-true _ c.if-not-config.true)

pub returns-then-room-lt-LEAST_OUTPUT : goal.returns-then-room-lt-LEAST_OUTPUT
returns-then-room-lt-LEAST_OUTPUT c = let a = c.args in judged_short a.config a.room a.octets.now (not-false _ c.if-not-config.false) c.if-room-lt-LEAST_OUTPUT.true

pub returns-in_err-message : goal.returns-in_err-message
returns-in_err-message c =
    let a = c.args in
    let p = err_from_is_err_and c.from_residual.result c.from_residual.ensures.1 in
    rw (p.1, p.2) (judged_unread a.config a.room a.octets.now (not-false _ c.if-not-config.false) c.if-room-lt-LEAST_OUTPUT.false _ c.in_err-message.ensures)

pub returns : goal.returns
returns c =
    let a = c.args in
    judged_message a.config a.room a.octets.now (not-false _ c.if-not-config.false) c.if-room-lt-LEAST_OUTPUT.false c.in_ok-message.message c.addressed.result c.in_ok-message.ensures c.addressed.ensures
