-- By the configuration, and by where the pilot was and is.
use mathlib.Core.Path.{sym, ◌∙◌}
use borrow.Author.Tests.{not-true, not-false}
use Rattle.lahzavar.proofs.EventLaws.{unconfigured, unplugs, plugs}
use Rattle.lahzavar.proofs.events.pilot.Goals as goal

pub returns-then-not-config_of : goal.returns-then-not-config_of
returns-then-not-config_of c = unconfigured _ _ _ _ c.config_of.ensures (not-true _ c.if-not-config_of.true) c.refused.ensures _ _

pub returns-then-not-plugged : goal.returns-then-not-plugged
returns-then-not-plugged c = unplugs _ _ _ _ c.config_of.ensures (not-false _ c.if-not-config_of.false) _ _ _ _ (sym c.plugged.ensures ∙ c.if-not-plugged.true) c.end.ensures

pub returns-then-plugged : goal.returns-then-plugged
returns-then-plugged c = c.by_value.ensures

pub returns : goal.returns
returns c =
    plugs _ _ _ _ c.config_of.ensures (not-false _ c.if-not-config_of.false) _ _ _ _ _ c.pilot_of.ensures
    (sym c.plugged-2.ensures ∙ c.if-plugged.false)
    (sym c.plugged.ensures ∙ c.if-not-plugged.false)
    c.free.ensures
