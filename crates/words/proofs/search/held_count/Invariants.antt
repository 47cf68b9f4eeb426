-- `words::search::held_count` meets its contract: the records passed are counted.
use Rattle.words.proofs.SearchLaws.{Counting}
use Rattle.words.proofs.search.held_count.Given as goal

abbrev pub invariant-loop-i : goal.invariant-loop-i
invariant-loop-i l = Counting l.words l.i l.n
