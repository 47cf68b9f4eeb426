-- `words::whole::free_all` meets its contract: the records before i are freed.
use Rattle.words.proofs.FreeLaws.{FreedSo}
use Rattle.words.proofs.whole.free_all.Given as goal

abbrev pub invariant-loop-i : goal.invariant-loop-i
invariant-loop-i l = FreedSo l.initial.words l.words l.i
