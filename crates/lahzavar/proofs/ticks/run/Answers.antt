-- By the state.
use Rattle.lahzavar.proofs.TickLaws.{passes_lent}
use borrow.Enum.Refused.{opened}
use Rattle.lahzavar.proofs.ticks.run.Goals as goal

pub returns-in_default : goal.returns-in_default
returns-in_default c =
    let a = c.args in
    passes_lent a.words.now a.sums.now a.spread.now _ a.out.now a.reading a.elapsed _ c.pass.result c.requires c.state_of-state.ensures (opened c.in_default.in_default-own.keys2) c.pass.ensures
