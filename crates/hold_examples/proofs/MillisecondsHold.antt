-- The examples with a tick each millisecond compute as they must, each by itself: together they take more steps than one check may.
use mathlib.Core.Path.{refl}
use mathlib.Core.Bool.{true, false}
use mathlib.Core.List.{[], ◌∷◌}
use Rattle.messages.specs.declared.Edition.TheVariants.{Iso, Sae}
use Rattle.rules.specs.declared.Pilot.TheVariants.{B}
use Rattle.rules.specs.Calls.{pilot}
use Rattle.octets.specs.Octets.{value, bytes, low_value, low_bytes}
use Rattle.messages.specs.Reading.{kind_rules, read_rules, no_id}
use Rattle.messages.specs.Writing as writing
use Rattle.ends.specs.Lists.{only, joins}
use Rattle.rules.specs.Records.{same_car, same_run, is_empty, is_held, holds, owned, freed, update, insert, no_sums, fresh, in_phase, with_heard, merged, no_spread, widened, fits_groups, counted}
use Rattle.rules.specs.Sounds.{is_in, marked}
use Rattle.rules.specs.Replies.{mean, report_of, is_report, is_confirmation, frame_to}
use Rattle.rules.specs.Received.{received}
use Rattle.rules.specs.Validation.{validates, is_validating, any_validates, first_result, from_b, from_c, from_d, turn, one_more, counts, toggled_phase, toggled_record}
use Rattle.rules.specs.Events.{plugged, is_b, lost, pilot_done, link_rule}
use Rattle.rules.specs.Frames.{start_rule, sound_rule, profile_rule, rsp_rule, answered, first_rule, second_rule, may_match, requested, parm_rule, change_rule, match_rule, put, state_rule, admitted}
use Rattle.ends.specs.Clock.{tick_time}
use Rattle.rules.specs.Ticks.{tick_phase, record_of, replies_of, tick_record, tick_frames, all_frames, window_ends, admission_done, joining_done, tick_done}
use Rattle.rules.specs.Rules.{free_record, configured, rule, takes_reading, takes_pilot, shared_step, step, outcome}
use Rattle.rules.specs.Demand3.{named, is_car, accepted, is_read, is_kind, is_own_accepted, any_result}
use Rattle.rules.specs.HoldTime.{asks, is_holder, is_readied, any_readied, spans, ticked, held_for}
use Rattle.rules.specs.Exceptions.{car, request}
use Rattle.rules.specs.HoldExamples.{slow, asked, to_the_end, NearLimit}
use Rattle.rules.proofs.HoldExamplesHold.{is_quiet, quiet}
use Rattle.hold_examples.specs.Milliseconds.{Milliseconds}

iso_holds : NearLimit 1 Iso (pilot B 0 ∷ []) (slow Iso false) false 6
unfolding value bytes low_value low_bytes kind_rules read_rules no_id writing.frame only joins same_car same_run is_empty is_held holds owned freed update insert no_sums fresh in_phase with_heard merged no_spread widened fits_groups counted is_in marked mean report_of frame_to received plugged lost pilot_done link_rule start_rule sound_rule profile_rule rsp_rule answered first_rule second_rule may_match requested parm_rule change_rule match_rule put state_rule admitted tick_time tick_phase record_of replies_of tick_record tick_frames all_frames window_ends validates is_validating any_validates first_result from_b from_c from_d turn one_more counts toggled_phase toggled_record is_report is_confirmation is_b admission_done joining_done tick_done free_record rule takes_reading takes_pilot shared_step step outcome configured named is_car accepted is_read is_kind is_own_accepted any_result asks is_holder is_readied any_readied spans ticked held_for is_quiet
iso_holds = record { asks_first = refl; unasked = quiet (car 1) 1 (asked Iso (pilot B 0 ∷ [])) (to_the_end 1 (slow Iso false)) refl; is_readied_lem = refl; still_held_lem = refl; so_far = refl; is_freed = refl; in_all = refl }

sae_first_holds : NearLimit 1 Sae (pilot B 0 ∷ []) (slow Sae false) false 6
unfolding value bytes low_value low_bytes kind_rules read_rules no_id writing.frame only joins same_car same_run is_empty is_held holds owned freed update insert no_sums fresh in_phase with_heard merged no_spread widened fits_groups counted is_in marked mean report_of frame_to received plugged lost pilot_done link_rule start_rule sound_rule profile_rule rsp_rule answered first_rule second_rule may_match requested parm_rule change_rule match_rule put state_rule admitted tick_time tick_phase record_of replies_of tick_record tick_frames all_frames window_ends validates is_validating any_validates first_result from_b from_c from_d turn one_more counts toggled_phase toggled_record is_report is_confirmation is_b admission_done joining_done tick_done free_record rule takes_reading takes_pilot shared_step step outcome configured named is_car accepted is_read is_kind is_own_accepted any_result asks is_holder is_readied any_readied spans ticked held_for is_quiet
sae_first_holds = record { asks_first = refl; unasked = quiet (car 1) 1 (asked Sae (pilot B 0 ∷ [])) (to_the_end 1 (slow Sae false)) refl; is_readied_lem = refl; still_held_lem = refl; so_far = refl; is_freed = refl; in_all = refl }

sae_later_holds : NearLimit 1 Sae (pilot B 0 ∷ request 1 ∷ []) (slow Sae true) false 6
unfolding value bytes low_value low_bytes kind_rules read_rules no_id writing.frame only joins same_car same_run is_empty is_held holds owned freed update insert no_sums fresh in_phase with_heard merged no_spread widened fits_groups counted is_in marked mean report_of frame_to received plugged lost pilot_done link_rule start_rule sound_rule profile_rule rsp_rule answered first_rule second_rule may_match requested parm_rule change_rule match_rule put state_rule admitted tick_time tick_phase record_of replies_of tick_record tick_frames all_frames window_ends validates is_validating any_validates first_result from_b from_c from_d turn one_more counts toggled_phase toggled_record is_report is_confirmation is_b admission_done joining_done tick_done free_record rule takes_reading takes_pilot shared_step step outcome configured named is_car accepted is_read is_kind is_own_accepted any_result asks is_holder is_readied any_readied spans ticked held_for is_quiet
sae_later_holds = record { asks_first = refl; unasked = quiet (car 1) 1 (asked Sae (pilot B 0 ∷ request 1 ∷ [])) (to_the_end 1 (slow Sae true)) refl; is_readied_lem = refl; still_held_lem = refl; so_far = refl; is_freed = refl; in_all = refl }

pub milliseconds_hold : Milliseconds
milliseconds_hold = record { iso = iso_holds; sae_first = sae_first_holds; sae_later = sae_later_holds }
