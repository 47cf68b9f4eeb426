-- What was read decides; then the values are stored.
use Rattle.std.proofs.lemmas.Result.{err_from_is_err_and}
use mathlib.Core.Path.{sym, ap, ◌∙◌}
use native.Mathlib.Omega.{arith}
use Rattle.std.specs.Prelude.{Ok}
use Rattle.amplitude.specs.Answers.{answer_of, result_of}
use Rattle.amplitude.specs.declared.MapMessage.{MapMessage}
use Rattle.amplitude.proofs.AcceptedLaws.{told, values_given, values_short, values_none, values_refused}
use Rattle.amplitude.proofs.values.Goals as goal

pub returns-in_err-carriers : goal.returns-in_err-carriers
returns-in_err-carriers c =
    let p = err_from_is_err_and c.from_residual.result c.from_residual.ensures.1 in
    let r = values_refused c.args.frame.now c.args.out.now _ c.in_err-carriers.ensures in
    record { result_value = rw (p.1, p.2) r.0; out_after = r.1 }

pub returns-in_default : goal.returns-in_default
returns-in_default c =
    let m = c.in_default in
    let r = values_none c.args.frame.now c.args.out.now m.field-0.0 m.field-1.0 (result_of m.field-2) (sym (ap (λ (x : MapMessage). answer_of (Ok x)) m.is) ∙ c.in_ok-carriers.ensures) in
    record { result_value = r.0; out_after = r.1 }

pub slice_bounds-unpack-end : goal.slice_bounds-unpack-end
slice_bounds-unpack-end c =
    let m = c.in-AmpMapReq in
    let t = told c.args.frame.now m.receiver.0 m.sender.0 m.carriers (sym (ap (λ (x : MapMessage). answer_of (Ok x)) m.is) ∙ c.in_ok-carriers.ensures) in
    omega (arith, t.whole, c.octets_for-end.ensures)

pub returns-then-out-carriers : goal.returns-then-out-carriers
returns-then-out-carriers c =
    let m = c.in-AmpMapReq in
    let t = told c.args.frame.now m.receiver.0 m.sender.0 m.carriers (sym (ap (λ (x : MapMessage). answer_of (Ok x)) m.is) ∙ c.in_ok-carriers.ensures) in
    let r = values_short c.args.frame.now c.args.out.now m.receiver.0 m.sender.0 m.carriers t c.if-out-carriers.true in
    record { result_value = r.0; out_after = r.1 }

pub returns : goal.returns
returns c =
    let m = c.in-AmpMapReq in
    let t = told c.args.frame.now m.receiver.0 m.sender.0 m.carriers (sym (ap (λ (x : MapMessage). answer_of (Ok x)) m.is) ∙ c.in_ok-carriers.ensures) in
    let r = values_given c.args.frame.now c.args.out.now m.receiver.0 m.sender.0 m.carriers t c.if-out-carriers.false c.octets_for-end.result c.octets_for-end.ensures _ c.unpack.ensures in
    record { result_value = r.0; out_after = r.1 }
