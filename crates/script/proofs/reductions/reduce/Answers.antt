-- The octets taken apart; then the call.
use Rattle.script.proofs.ReductionLaws.{reductions_said}
use Rattle.script.proofs.reductions.reduce.Goals as goal

pub returns : goal.returns
returns c =
    reductions_said c.args.octets.now c.value_count-start.ensures.0 _ c.args.out.now _ _ _ c.read_levels.ensures c.reduce-reduced.ensures.result_value c.reduce-reduced.ensures.out_after c.told.ensures
