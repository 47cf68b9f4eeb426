-- `car_words::reports::store` meets its contract: the reports before i are stored.
use Rattle.car_words.proofs.WholeLaws.{StoredSo}
use Rattle.car_words.proofs.reports.store.Given as goal

abbrev pub invariant-loop-i : goal.invariant-loop-i
invariant-loop-i l = StoredSo l.reports l.initial.words l.words l.i
