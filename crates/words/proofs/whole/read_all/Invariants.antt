-- `words::whole::read_all` meets its contract: the records before i are read.
use Rattle.words.proofs.WholeLaws.{ReadSo}
use Rattle.words.proofs.whole.read_all.Given as goal

abbrev pub invariant-loop-i : goal.invariant-loop-i
invariant-loop-i l = ReadSo l.words l.sums l.spread l.rs l.i
