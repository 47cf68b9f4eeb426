-- The examples of foreign frames, and of others, compute as they must.
use mathlib.Core.Path.{refl}
use Rattle.octets.specs.Octets.{value, bytes, low_value, low_bytes}
use Rattle.messages.specs.Reading.{kind_rules, read_rules, no_id}
use Rattle.messages.specs.Writing as writing
use Rattle.ends.specs.Clock.{tick_time}
use Rattle.ends.specs.Lists.{only}
use Rattle.car_rules.specs.Cars.{no_reports}
use Rattle.car_rules.specs.Sending.{frame_from}
use Rattle.car_rules.specs.Received.{received}
use Rattle.car_rules.specs.Choice.{total, least, choice}
use Rattle.car_rules.specs.Frames.{same_station, effect_in, from_chosen, has_reported, effect_rule, state_rule, frame_rule}
use Rattle.car_rules.specs.Ticks.{tick_done}
use Rattle.car_rules.specs.Rules.{configured, is_idle, rule, step, outcome}
use Rattle.car_rules.specs.Demand3.{is_of_matching, is_ours, is_own, is_foreign}
use Rattle.car_rules.specs.Examples.{Examples}
use Rattle.ends.proofs.Logic.{clash}

pub examples_hold : Examples
unfolding value bytes low_value low_bytes kind_rules read_rules no_id writing.frame tick_time only no_reports frame_from received total least choice same_station effect_in from_chosen has_reported effect_rule state_rule frame_rule tick_done configured is_idle rule step outcome is_of_matching is_ours is_own is_foreign
examples_hold = record {
  foreign = (λ e. clash _ e refl, (λ e. refl, (λ e. clash _ e refl, (λ e. clash _ e refl, (λ e. refl, (λ e. clash _ e refl, (λ e. clash _ e refl, tt)))))));
  whole = refl;
  shorter = refl;
  own_cnf = refl;
  own_report = refl;
  answered = refl;
  found = refl;
  another = refl;
  same = refl;
  idle = refl;
  validation = refl;
  no_state = refl;
  only_stations = refl;
}
