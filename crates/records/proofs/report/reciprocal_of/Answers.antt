-- The table's entry at the number of profiles.
use Prim.Native.Nat.{suc}
use native.Mathlib.Omega.{arith}
use mathlib.Core.Path.{ap, ◌∙◌}
use native.Mathlib.Nat.{zero-add}
use Rattle.records.specs.Means.{most_profiles, reciprocal}
use Rattle.records.proofs.MeanLaws.{reciprocal_at}
use Rattle.records.proofs.report.reciprocal_of.Goals as goal

pub returns : goal.returns
unfolding reciprocal
returns c = rw c.from.ensures (reciprocal_at (suc most_profiles) 0 c.args.profiles (omega (arith, c.requires)) ∙ ap reciprocal (zero-add c.args.profiles))
