-- By where the pilot was and is.
use mathlib.Core.Path.{refl, sym, ap, ◌∙◌}
use Rattle.station.proofs.StepLaws.{no_frames}
use Rattle.station.proofs.EventLaws.{all_freed, stays, plugs, unplugs}
use mathlib.Core.List.{map}
use Rattle.rules.specs.declared.Turn.{Turn}
use Rattle.rules.specs.Validation.{toggled_record}
use Rattle.station.specs.Steps.{anew}
use Rattle.station.proofs.events.change.Goals as goal

pub returns-then-not-plugged : goal.returns-then-not-plugged
returns-then-not-plugged c = unplugs _ _ _ _ (sym c.plugged.ensures ∙ c.if-not-plugged.true) c.end.ensures

pub returns-then-plugged : goal.returns-then-plugged
returns-then-plugged c =
    let a = c.args in
    stays _ _ _ _
    (sym c.plugged-2.ensures ∙ c.if-plugged.true)
    (sym c.plugged.ensures ∙ c.if-not-plugged.false)
    (no_frames a.station _ _ _ _ _ c.anew-next.result _ _ (c.anew-next.ensures ∙ ap (anew a.station a.pilot a.station.clock a.station.state) (c.toggle_all-toggled.ensures ∙ ap (λ (w : Turn). map (toggled_record w) a.station.records) c.turn_of-turn.ensures)) c.without_frames.ensures)

pub returns-else-plugged : goal.returns-else-plugged
returns-else-plugged c =
    let a = c.args in
    plugs _ _ _ _
    (sym c.plugged-2.ensures ∙ c.if-plugged.false)
    (sym c.plugged.ensures ∙ c.if-not-plugged.false)
    (all_freed a.station _ _ _ _ _ _ _ _ c.free_all-free.ensures refl c.anew-next-else-plugged.ensures c.without_frames-else-plugged.ensures)
