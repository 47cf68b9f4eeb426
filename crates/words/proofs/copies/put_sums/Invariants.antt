-- So much is copied so far.
use Rattle.ends.proofs.CopyLaws.{Copied}
use Rattle.words.proofs.copies.put_sums.Given as goal

abbrev pub invariant-loop-i : goal.invariant-loop-i
invariant-loop-i l = Copied l.own l.initial.sums l.at l.sums l.i
