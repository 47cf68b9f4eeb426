-- `octets::put_low_number` meets its contract: what is still to be written, from octet i on.
use Prim.Native.Nat.{◌+◌, ◌-◌}
use lib.ListN.{length}
use lib.Seq.{sets}
use mathlib.Core.Path.{◌≡◌}
use Rattle.octets.specs.Octets.{low_bytes}
use Rattle.octets.proofs.put_low_number.Given as goal

abbrev pub invariant-loop-i : goal.invariant-loop-i
invariant-loop-i l = (length l.out ≡ length l.initial.out) × (sets l.out (l.at + l.i) (low_bytes (l.n - l.i) l.w) ≡ sets l.initial.out l.at (low_bytes l.n l.v))
