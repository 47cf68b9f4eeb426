-- `car_words::reports::read` meets its contract: the reports before i are read.
use Rattle.car_words.proofs.WholeLaws.{ReadSo}
use Rattle.car_words.proofs.reports.read.Given as goal

abbrev pub invariant-loop-i : goal.invariant-loop-i
invariant-loop-i l = ReadSo l.words l.rs l.i
