-- The invariant says which levels are read.
use Rattle.std.proofs.Common.{ap, ◌∙◌, arith}
use mir.Facts.{to_z-of_z}
use mir.Syntax.{w16}
use Rattle.script.specs.Layout.{level_of}
use Rattle.script.proofs.LevelLaws.{levels_more}
use Rattle.script.proofs.reductions.read_levels.Goals as goal

pub loop-i-preserved : goal.loop-i-preserved
loop-i-preserved c =
    let a = c.args in
    levels_more a.octets.now a.from a.levels.now c.loop-i.levels c.loop-i.i _ (omega (arith, c.loop-i.invariant.size, c.requires.0)) (to_z-of_z {w = w16} (record { sfits = c.level_of.type_inv }) ∙ c.level_of.ensures ∙ ap level_of c.low_number_at.ensures) c.loop-i.invariant
