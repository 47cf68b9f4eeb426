-- The items one after the other; then what is left over.
use native.Mathlib.Omega.{arith}
use mathlib.Core.Path.{ap, ◌∙◌}
use Rattle.std.proofs.lemmas.Result.{err_from_is_err_and}
use Rattle.messages.specs.Reading.{no}
use Rattle.session_log.proofs.JudgeLaws.{taking_start, taking_end, taking_over, taking_past, taking_next}
use Rattle.session_log.proofs.writer.items.Goals as goal

pub loop-i-init : goal.loop-i-init
loop-i-init c = let a = c.args in taking_start a.which a.heads.now a.octets.now

pub item-requires : goal.item-requires
item-requires c = (omega arith, c.loop-i.invariant.within)

pub returns-in_err-item : goal.returns-in_err-item
returns-in_err-item c =
    let p = err_from_is_err_and c.from_residual.result c.from_residual.ensures.1 in
    rw (p.1, p.2) (taking_past c.loop-i.invariant (omega arith) _ c.in_err-item.ensures)

pub loop-i-preserved : goal.loop-i-preserved
loop-i-preserved c = taking_next c.loop-i.invariant (omega arith) c.in_ok-item.ensures

pub returns-then-at-octets : goal.returns-then-at-octets
returns-then-at-octets c = taking_end c.loop-i.invariant (omega arith) c.if-at-octets.true

pub returns-else-at-octets : goal.returns-else-at-octets
returns-else-at-octets c = ap no c.left_over.ensures ∙ taking_over c.loop-i.invariant (omega arith) c.if-at-octets.false
