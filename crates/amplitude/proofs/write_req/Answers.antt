-- What writing answers is judged, and then the frame is stored.
use mathlib.Core.Path.{sym, ◌∙◌}
use lib.ListN.{length}
use Rattle.std.proofs.lemmas.Result.{err_from_is_err_and}
use Rattle.amplitude.specs.Maps.{amp_map_req}
use Rattle.amplitude.proofs.WriteLaws.{req_length, map_halves, right, refused, written}
use Rattle.amplitude.proofs.write_req.Goals as goal

pub put_req-requires : goal.put_req-requires
put_req-requires c =
    let a = c.args in
    let e = req_length (length a.values.now) c.octets_for.result c.padded_size-whole.result c.octets_for.ensures c.padded_size-whole.ensures in
    let r = right c.are_unicast-addressed.result c.is_map-limited.result c.padded_size-whole.result (length a.out.now) c.in_ok-octets.octets c.in_ok-octets.ensures in
    record { values_value = map_halves a.values.now (sym c.is_map-limited.ensures ∙ r.limited); whole_value = (e, r.room) }

pub returns : goal.returns
returns c =
    let a = c.args in
    let m = amp_map_req a.receiver.0 a.sender.0 a.values.now in
    let e = req_length (length a.values.now) c.octets_for.result c.padded_size-whole.result c.octets_for.ensures c.padded_size-whole.ensures in
    let r = written m a.out.now c.are_unicast-addressed.result c.is_map-limited.result c.padded_size-whole.result c.are_unicast-addressed.ensures c.is_map-limited.ensures e c.in_ok-octets.octets _ c.in_ok-octets.ensures c.put_req.ensures in
    record { result_value = r.0; out_after = r.1 }

pub returns-in_err-octets : goal.returns-in_err-octets
returns-in_err-octets c =
    let a = c.args in
    let m = amp_map_req a.receiver.0 a.sender.0 a.values.now in
    let e = req_length (length a.values.now) c.octets_for.result c.padded_size-whole.result c.octets_for.ensures c.padded_size-whole.ensures in
    let r = refused m a.out.now c.are_unicast-addressed.result c.is_map-limited.result c.padded_size-whole.result c.are_unicast-addressed.ensures c.is_map-limited.ensures e _ c.in_err-octets.ensures in
    let p = err_from_is_err_and c.from_residual.result c.from_residual.ensures.1 in
    record { result_value = rw (p.1, p.2) r.0; out_after = r.1 }
