-- `car_words::reports::count` meets its contract: the reports passed are kept.
use Rattle.car_words.proofs.CountLaws.{Counting}
use Rattle.car_words.proofs.reports.count.Given as goal

abbrev pub invariant-loop-i : goal.invariant-loop-i
invariant-loop-i l = Counting l.most l.reports l.i
