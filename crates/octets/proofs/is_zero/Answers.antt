-- `octets::is_zero` meets its contract: what is past the end is zero.
use mathlib.Core.Path.{◌∙◌}
use Rattle.octets.proofs.LoopLaws.{zero_tested}
use Rattle.octets.proofs.is_zero.Goals as goal

pub returns : goal.returns
returns c = c.are_zero.ensures ∙ zero_tested c.part_of.result.now c.args.s.now c.args.at c.args.n c.part_of.ensures
