-- The cases P1 to P12, V1 to V10, S1 to S9 and M6 hold: both sides of the table compute to the same.
use mathlib.Core.Path.{refl}
use Rattle.octets.specs.Octets.{value, bytes, low_value, low_bytes}
use Rattle.messages.specs.Reading.{kind_rules, read_rules, no_id}
use Rattle.messages.specs.Writing as writing
use Rattle.amplitude.specs.Halves as halves
use Rattle.amplitude.specs.Reading as maps
use Rattle.amplitude.specs.Writing as map_writing
use Rattle.ends.specs.Lists.{only, joins}
use Rattle.rules.specs.Records.{same_car, same_run, is_empty, is_held, holds, owned, freed, update, insert, no_sums, fresh, in_phase, with_heard, merged, no_spread, widened, fits_groups, counted}
use Rattle.rules.specs.Sounds.{is_in, marked}
use Rattle.rules.specs.Replies.{mean, report_of, is_report, is_confirmation, frame_to, map_cnf_to}
use Rattle.rules.specs.Received.{received}
use Rattle.rules.specs.Validation.{validates, is_validating, any_validates, first_result, from_b, from_c, from_d, turn, one_more, counts, toggled_phase, toggled_record}
use Rattle.rules.specs.Events.{plugged, is_b, lost, pilot_done, link_rule}
use Rattle.rules.specs.Frames.{start_rule, sound_rule, profile_rule, rsp_rule, answered, first_rule, second_rule, may_match, requested, parm_rule, change_rule, match_rule, put, map_rule, state_rule, admitted}
use Rattle.ends.specs.Clock.{tick_time}
use Rattle.rules.specs.Ticks.{tick_phase, record_of, replies_of, tick_record, tick_frames, all_frames, window_ends, admission_done, joining_done, tick_done}
use Rattle.rules.specs.Rules.{free_record, rule, takes_reading, takes_pilot, shared_step, step, outcome}
use Rattle.rules.specs.Cases.{result_of, table, AllHold}

pub cases_hold : AllHold
unfolding value bytes low_value low_bytes kind_rules read_rules no_id writing.frame halves.halves maps.read_rules map_writing.frame only joins same_car same_run is_empty is_held holds owned freed update insert no_sums fresh in_phase with_heard merged no_spread widened fits_groups counted is_in marked mean report_of frame_to map_cnf_to received plugged lost pilot_done link_rule start_rule sound_rule profile_rule rsp_rule answered first_rule second_rule may_match requested parm_rule change_rule match_rule put map_rule state_rule admitted tick_time tick_phase record_of replies_of tick_record tick_frames all_frames window_ends validates is_validating any_validates first_result from_b from_c from_d turn one_more counts toggled_phase toggled_record is_report is_confirmation is_b admission_done joining_done tick_done free_record rule takes_reading takes_pilot shared_step step outcome result_of table
cases_hold = refl
