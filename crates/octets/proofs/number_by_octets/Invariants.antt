-- `octets::number_by_octets` meets its contract: the number of the octets passed so far.
use mathlib.Core.Path.{◌≡◌}
use Rattle.octets.specs.Octets.{value}
use Rattle.octets.proofs.number_by_octets.Given as goal

abbrev pub invariant-loop-i : goal.invariant-loop-i
invariant-loop-i l = l.v ≡ value l.s l.at l.i
