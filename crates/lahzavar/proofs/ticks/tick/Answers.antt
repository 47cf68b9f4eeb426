-- By the elapsed time.
use mathlib.Core.Path.{sym, ap, ◌∙◌}
use Rattle.messages.specs.Answers.{checked_of}
use Rattle.lahzavar.proofs.TickLaws.{tick_here, tick_not_taken}
use Rattle.lahzavar.proofs.ticks.tick.Goals as goal

pub run-requires : goal.run-requires
run-requires c =
    let a = c.args in
    sym (ap checked_of c.in-Ok.is) ∙ c.tick_time.ensures ∙ tick_here a.words.now a.sums.now a.spread.now _ _ _ a.reading c.identity_of-us.ensures c.clock_of-last.ensures

pub returns-in-Err : goal.returns-in-Err
returns-in-Err c =
    let a = c.args in
    tick_not_taken a.words.now a.sums.now a.spread.now a.out.now a.reading c.in-Err.refusal c.refused.result
    (sym (ap checked_of c.in-Err.is) ∙ c.tick_time.ensures ∙ tick_here a.words.now a.sums.now a.spread.now _ _ _ a.reading c.identity_of-us.ensures c.clock_of-last.ensures) c.refused.ensures
