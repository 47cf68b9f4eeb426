-- `words::copies::only_first` meets its contract: those before i are left or cleared.
use Rattle.words.proofs.CopyLaws.{cutting_next, cutting_end}
use borrow.Author.Rules.{rules}
use mathlib.Core.Path.{refl}
use native.Mathlib.Omega.{arith}
use Rattle.words.proofs.copies.only_first.Goals as goal

pub loop-i-init : goal.loop-i-init
loop-i-init c = record { size = search rules; left = refl }

pub loop-i-preserved : goal.loop-i-preserved
loop-i-preserved c = cutting_next _ _ _ _ _ c.loop-i.invariant

pub returns : goal.returns
returns c = cutting_end _ _ _ _ _ c.loop-i.invariant (omega arith)
