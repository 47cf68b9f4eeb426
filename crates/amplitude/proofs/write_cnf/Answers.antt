-- What writing answers is judged, and then the frame is stored.
use mathlib.Core.Path.{refl}
use mathlib.Core.Bool.{true}
use Rattle.std.proofs.lemmas.Result.{err_from_is_err_and}
use Rattle.amplitude.specs.Maps.{amp_map_cnf}
use Rattle.amplitude.specs.Answers.{result_of}
use Rattle.amplitude.proofs.WriteLaws.{result_limited, refused, written}
use Rattle.amplitude.proofs.write_cnf.Goals as goal

pub returns : goal.returns
returns c =
    let a = c.args in
    let r = written (amp_map_cnf a.receiver.0 a.sender.0 (result_of a.success)) a.out.now c.are_unicast-addressed.result true _ c.are_unicast-addressed.ensures (result_limited a.success) refl c.in_ok-octets.octets _ c.in_ok-octets.ensures c.put_cnf.ensures in
    record { result_value = r.0; out_after = r.1 }

pub returns-in_err-octets : goal.returns-in_err-octets
returns-in_err-octets c =
    let a = c.args in
    let r = refused (amp_map_cnf a.receiver.0 a.sender.0 (result_of a.success)) a.out.now c.are_unicast-addressed.result true _ c.are_unicast-addressed.ensures (result_limited a.success) refl _ c.in_err-octets.ensures in
    let p = err_from_is_err_and c.from_residual.result c.from_residual.ensures.1 in
    record { result_value = rw (p.1, p.2) r.0; out_after = r.1 }
