-- How far the level lies below 0 is taken from how far the limit does.
use Rattle.amplitude.proofs.LevelLaws.{lowered_by}
use mathlib.Core.Path.{◌∙◌}
use Rattle.amplitude.proofs.levels.lowered.Goals as goal

pub returns : goal.returns
returns c =
    c.saturating_sub.ensures
    ∙ lowered_by c.args.value c.args.level c.unsigned_abs.result c.from.result c.ranges.level.sfits c.requires.1 c.unsigned_abs.ensures.value c.from.ensures
