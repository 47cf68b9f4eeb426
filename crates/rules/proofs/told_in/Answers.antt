-- By the first record that is the car's.
use Rattle.std.proofs.Common.{rules, ◌<◌, length}
use mathlib.Core.Path.{sym, ◌∙◌}
use Rattle.rules.proofs.IndexLaws.{passed, told_here, told_next, told_none}
use Rattle.rules.proofs.told_in.Goals as goal

pub returns-then-holds : goal.returns-then-holds
returns-then-holds c =
    let a = c.args in
    let inside : c.loop-r.r-index < length a.records = search rules in
    c.told_of.ensures ∙ sym (c.loop-r.invariant ∙ told_here a.car a.records c.loop-r.r-index _ inside (sym c.holds.ensures ∙ c.if-holds.true))

pub loop-r-preserved : goal.loop-r-preserved
loop-r-preserved c =
    let a = c.args in
    let inside : c.loop-r.r-index < length a.records = search rules in
    c.loop-r.invariant ∙ told_next a.car a.records c.loop-r.r-index _ inside (sym c.holds.ensures ∙ c.if-holds.false)

pub returns : goal.returns
returns c =
    let a = c.args in
    sym (c.loop-r.invariant ∙ told_none a.car a.records c.loop-r.r-index (search (rules, passed)))
