-- The invariant says what was tested, and what is left.
use mathlib.Core.Path.{refl}
use borrow.Author.Rules.{rules}
use lib.IntN.{pos}
use lib.ListN.{get_or}
use Rattle.amplitude.specs.Reductions.{is_level}
use Rattle.amplitude.proofs.RunLaws.{tested_more, tested_all}
use Rattle.amplitude.proofs.LevelLaws.{level_arrives}
use Rattle.amplitude.proofs.levels.are_levels.Goals as goal

pub loop-level-init : goal.loop-level-init
loop-level-init c = refl

pub loop-level-preserved : goal.loop-level-preserved
loop-level-preserved c =
    let ls = c.args.levels.now in
    let i = c.loop-level.level-index in
    tested_more is_level ls (pos 0) c.loop-level.right _ i c.loop-level-test.true (level_arrives (get_or ls i (pos 0)) c.is_level-right.result (search rules) c.is_level-right.ensures) c.loop-level.invariant

pub returns : goal.returns
returns c =
    tested_all is_level c.args.levels.now c.loop-level.right c.loop-level.level-index c.loop-level-test.false c.loop-level.invariant
