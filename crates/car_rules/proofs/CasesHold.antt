-- The cases C1 to C10 hold: both sides of the table compute to the same.
use mathlib.Core.Path.{refl}
use Rattle.octets.specs.Octets.{value, bytes, low_value, low_bytes}
use Rattle.messages.specs.Reading.{kind_rules, read_rules, no_id}
use Rattle.messages.specs.Writing as writing
use Rattle.ends.specs.Clock.{tick_time}
use Rattle.car_rules.specs.Cars.{no_reports}
use Rattle.car_rules.specs.Sending.{frame_from}
use Rattle.car_rules.specs.Received.{received}
use Rattle.car_rules.specs.Choice.{total, least, choice}
use Rattle.car_rules.specs.Frames.{same_station, effect_in, from_chosen, has_reported, effect_rule, state_rule, frame_rule}
use Rattle.car_rules.specs.Ticks.{tick_done}
use Rattle.car_rules.specs.Rules.{configured, is_idle, link_rule, rule, step, outcome, key_query}
use Rattle.car_rules.specs.Demand3.{outcomes}
use Rattle.car_rules.specs.Cases.{result_of, table, AllHold}

pub cases_hold : AllHold
unfolding value bytes low_value low_bytes kind_rules read_rules no_id writing.frame tick_time no_reports frame_from received total least choice same_station effect_in from_chosen has_reported effect_rule state_rule frame_rule tick_done configured is_idle link_rule rule step outcome key_query outcomes result_of table
cases_hold = refl
