-- `words::copies::only_first` meets its contract: those before i are left or cleared.
use Rattle.messages.specs.Table.{group_count}
use Rattle.words.proofs.CopyLaws.{Cutting}
use Rattle.words.proofs.copies.only_first.Given as goal

abbrev pub invariant-loop-i : goal.invariant-loop-i
invariant-loop-i l = Cutting l.initial.r l.groups group_count l.r l.i
