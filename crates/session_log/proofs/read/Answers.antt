-- By what judging answers.
use mathlib.Core.Path.{ap₂, ◌∙◌}
use Prim.Native.Nat.{ℕ}
use Rattle.std.proofs.lemmas.Result.{err_from_is_err_and}
use Rattle.messages.specs.Reading.{yes}
use Rattle.session_log.specs.Layout.{events_start}
use Rattle.session_log.proofs.ReadLaws.{fields_right, fields_refused, parts_right, parts_refused}
use Rattle.session_log.proofs.read.Goals as goal

pub returns-in_err-parts : goal.returns-in_err-parts
returns-in_err-parts c =
    let p = err_from_is_err_and c.from_residual.result c.from_residual.ensures.1 in
    rw (p.1, p.2) (parts_refused c.args.log.now _ c.in_err-parts.ensures)

pub returns-in_err-fields : goal.returns-in_err-fields
returns-in_err-fields c =
    let s = c.args.log.now in
    let p = err_from_is_err_and c.from_residual-in_err-fields.result c.from_residual-in_err-fields.ensures.1 in
    rw (p.1, p.2) (fields_refused s _ c.in_err-fields.ensures ∙ parts_right s c.in_ok-parts.ensures)

pub returns : goal.returns
returns c =
    let s = c.args.log.now in
    ap₂ (λ (n r : ℕ). yes (record { count = n; events = events_start; replies = r })) c.size_in.ensures.0 c.size_in-2.ensures.0
    ∙ fields_right s c.in_ok-fields.ensures
    ∙ parts_right s c.in_ok-parts.ensures
