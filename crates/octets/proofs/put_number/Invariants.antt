-- `octets::put_number` meets its contract: what is still to be written, from the last octet on.
use lib.ListN.{length}
use lib.Seq.{sets}
use mathlib.Core.Path.{◌≡◌}
use Rattle.octets.specs.Octets.{bytes}
use Rattle.octets.proofs.put_number.Given as goal

abbrev pub invariant-loop-i : goal.invariant-loop-i
invariant-loop-i l = (length l.out ≡ length l.initial.out) × (sets l.out l.at (bytes l.i l.w) ≡ sets l.initial.out l.at (bytes l.n l.v))
