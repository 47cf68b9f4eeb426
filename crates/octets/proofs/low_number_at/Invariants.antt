-- `octets::low_number_at` meets its contract: the number of the octets passed so far, from the last one on.
use Prim.Native.Nat.{◌+◌, ◌-◌, min}
use mathlib.Core.Path.{◌≡◌}
use Rattle.octets.specs.Octets.{low_value}
use Rattle.octets.proofs.low_number_at.Given as goal

abbrev pub invariant-loop-i : goal.invariant-loop-i
invariant-loop-i l = l.v ≡ low_value l.s (l.at + l.i) (min l.n 8 - l.i)
