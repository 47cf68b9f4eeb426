-- The half-octet behind the last value is zero.
use mathlib.Core.Path.{sym, ◌∙◌}
use Rattle.amplitude.proofs.ReadLaws.{request_right}
use Rattle.amplitude.proofs.reader.request_of.Goals as goal

pub returns : goal.returns
returns c =
    let a = c.args in
    request_right a.frame.now a.carriers (sym c.is_carriers.ensures ∙ c.if-not-is_carriers.false) c.octets_for-end.result c.octets_for-end.ensures c.in_ok-receiver.field-0.receiver.0 c.in_ok-receiver.field-0.sender.0 c.in_ok-receiver.ensures c.half_at.result c.half_at.ensures c.if-half_at-ne0.false
