-- `words::whole::store_all` meets its contract: the records before i are stored.
use Rattle.words.proofs.WholeLaws.{StoredSo}
use Rattle.words.proofs.whole.store_all.Given as goal

abbrev pub invariant-loop-i : goal.invariant-loop-i
invariant-loop-i l = StoredSo l.records l.initial.words l.initial.sums l.initial.spread l.words l.sums l.spread l.i
