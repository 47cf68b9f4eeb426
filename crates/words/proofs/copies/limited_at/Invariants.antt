-- `words::copies::limited_at` meets its contract: so many sums are copied, each at most the most.
use Prim.Native.Nat.{min}
use Rattle.messages.specs.Table.{group_count}
use Rattle.words.proofs.CopyLaws.{Changed}
use Rattle.words.proofs.copies.limited_at.Given as goal

abbrev pub invariant-loop-i : goal.invariant-loop-i
invariant-loop-i l = Changed (min l.most) l.sums l.at group_count l.r l.i
