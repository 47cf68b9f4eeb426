-- Four octets.
use native.Mathlib.Omega.{arith}
use Rattle.octets.proofs.OctetLaws.{low_lt}
use Rattle.session_log.proofs.reader.number_in.Goals as goal

pub overflow_cast-result : goal.overflow_cast-result
overflow_cast-result c = record { fits = omega (arith, c.low_number_at.ensures, low_lt c.args.log.now c.args.at 4 (λ i. (c.type_inv.log i).fits)) }
