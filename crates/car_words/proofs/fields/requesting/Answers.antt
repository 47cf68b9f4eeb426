-- `car_words::fields::requesting` meets its contract.
use Rattle.car_rules.specs.declared.State.TheVariants.{Requesting}
use Rattle.car_words.specs.Words.{requesting_of}
use mathlib.Core.Path.{sym, ap₂, ◌∙◌}
use Rattle.car_words.proofs.fields.requesting.Goals as goal

pub returns-then-is_unicast : goal.returns-then-is_unicast
unfolding requesting_of
returns-then-is_unicast c = rw (sym c.is_unicast.ensures ∙ c.if-is_unicast.true) (ap₂ (λ t n. Requesting t n c.args.station) c.time.ensures c.at_most_count.ensures)

pub returns-else-is_unicast : goal.returns-else-is_unicast
unfolding requesting_of
returns-else-is_unicast c = rw (sym c.is_unicast.ensures ∙ c.if-is_unicast.false)
