-- Read by read, what was read is what the input lost.
use Rattle.std.proofs.Common.{rules}
use Rattle.script_io.proofs.Reading.{consumes_part}
use Rattle.script_io.proofs.read_full.Goals as goal

pub loop-done-preserved : goal.loop-done-preserved
loop-done-preserved g c = record {
  same = search rules;
  within = search rules;
  read = consumes_part _ _ _ _ _ _ _ _ c.loop-done.invariant.within c.in_ok-n.ensures.bound.0 c.loop-done.invariant.read c.in_ok-n.ensures.bytes.0;
}
