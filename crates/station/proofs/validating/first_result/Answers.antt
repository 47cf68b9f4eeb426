-- By the records, and whether validation is not required.
use mathlib.Core.Path.{◌∙◌}
use Rattle.station.proofs.ResultLaws.{first_by, any_validating}
use Rattle.station.proofs.validating.first_result.Goals as goal

pub returns : goal.returns
returns c = first_by _ _ _ _ (c.any_validates.ensures ∙ any_validating c.args.records) c.first_result.ensures
