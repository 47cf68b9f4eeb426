-- Head, result and padding are stored one behind the other.
use mathlib.Core.Bool.{Bool, true, false, not}
use mathlib.Core.Path.{◌≡◌, refl}
use mir.Val.{bool_byte}
use Rattle.amplitude.specs.Maps.{amp_map_cnf}
use Rattle.amplitude.specs.Answers.{result_of}
use Rattle.amplitude.proofs.WriteLaws.{result_octet, frame_stored}
use Rattle.amplitude.proofs.writer.put_cnf.Goals as goal

-- the octet of a result is 1 where it is no success
result_is : (b : Bool) → bool_byte (not b) ≡ result_of b
result_is true = refl
result_is false = refl

pub returns : goal.returns
returns c =
    let a = c.args in
    rw (c.put_number-2.ensures, c.put_number.ensures, c.from.ensures, result_is a.success, c.put_head.ensures, result_octet a.success)
    (frame_stored (amp_map_cnf a.addresses.receiver.0 a.addresses.sender.0 (result_of a.success)) a.out.now)
