-- The invariant says what was tested, and what is left.
use mathlib.Core.Path.{refl}
use Rattle.amplitude.specs.Halves.{is_half}
use Rattle.amplitude.proofs.RunLaws.{tested_more, tested_all}
use Rattle.amplitude.proofs.halves.are_halves.Goals as goal

pub loop-value-init : goal.loop-value-init
loop-value-init c = refl

pub loop-value-preserved : goal.loop-value-preserved
loop-value-preserved c =
    tested_more is_half c.args.values.now 0 c.loop-value.right _ c.loop-value.value-index c.loop-value-test.true refl c.loop-value.invariant

pub returns : goal.returns
returns c =
    tested_all is_half c.args.values.now c.loop-value.right c.loop-value.value-index c.loop-value-test.false c.loop-value.invariant
