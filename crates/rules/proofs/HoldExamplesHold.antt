-- The examples of specs/HoldExamples compute as they must.
use Prim.Native.Nat.{ℕ}
use mathlib.Core.Path.{◌≡◌, refl}
use mathlib.Core.Bool.{Bool, true, false, not, ◌&&◌}
use mathlib.Core.List.{List, [], ◌∷◌}
use lib.Dec.{leb}
use borrow.Author.Tests.{not-true, leb-true}
use Rattle.messages.specs.declared.CarAddress.{CarAddress}
use Rattle.messages.specs.declared.Edition.TheVariants.{Iso, Sae}
use Rattle.messages.proofs.LayoutLaws.{and_left, and_right}
use Rattle.rules.specs.declared.Pilot.TheVariants.{B}
use Rattle.rules.specs.declared.Station.{Station}
use Rattle.rules.specs.Calls.{Call, pilot}
use Rattle.octets.specs.Octets.{value, bytes, low_value, low_bytes}
use Rattle.messages.specs.Reading.{kind_rules, read_rules, no_id}
use Rattle.messages.specs.Writing as writing
use Rattle.ends.specs.Lists.{only, joins}
use Rattle.rules.specs.Records.{same_car, same_run, is_empty, is_held, holds, owned, freed, update, insert, no_sums, fresh, in_phase, with_heard, merged, no_spread, widened, fits_groups, counted}
use Rattle.rules.specs.Sounds.{is_in, marked}
use Rattle.rules.specs.Replies.{mean, report_of, is_report, is_confirmation, frame_to}
use Rattle.rules.specs.Received.{received}
use Rattle.rules.specs.Validation.{validates, is_validating, any_validates, first_result, from_b, from_c, from_d, turn, one_more, counts, toggled_phase, toggled_record}
use Rattle.rules.specs.Events.{plugged, is_b, lost, pilot_done, link_rule}
use Rattle.rules.specs.Frames.{start_rule, sound_rule, profile_rule, rsp_rule, answered, first_rule, second_rule, may_match, requested, parm_rule, change_rule, match_rule, put, state_rule, admitted}
use Rattle.ends.specs.Clock.{tick_time}
use Rattle.rules.specs.Ticks.{tick_phase, record_of, replies_of, tick_record, tick_frames, all_frames, window_ends, admission_done, joining_done, tick_done}
use Rattle.rules.specs.Rules.{free_record, configured, rule, takes_reading, takes_pilot, shared_step, step, outcome}
use Rattle.rules.specs.Demand3.{named, is_car, accepted, is_read, is_kind, is_own_accepted, any_result}
use Rattle.rules.specs.HoldTime.{asks, is_holder, is_readied, any_readied, spans, Unasked, ticked, held_for}
use Rattle.rules.specs.Exceptions.{car, request}
use Rattle.rules.specs.HoldExamples.{slow, slower, second, asked, to_the_end, HoldExamples}

-- "no PARM.REQ of c is accepted and no accepted tick spans more than e", as a test
unfoldable pub is_quiet : CarAddress → ℕ → Station → List Call → Bool
is_quiet c e s [] = true
is_quiet c e s (x ∷ xs) = not (asks c s x) && (leb (spans s x) e && is_quiet c e (step s x) xs)

pub quiet : (c : CarAddress) (e : ℕ) (s : Station) (xs : List Call) → is_quiet c e s xs ≡ true → Unasked c e s xs
unfolding is_quiet
quiet c e s [] h = tt
quiet c e s (x ∷ xs) h =
    let k = and_right (not (asks c s x)) (leb (spans s x) e && is_quiet c e (step s x) xs) h in
    (not-true _ (and_left (not (asks c s x)) _ h), leb-true (spans s x) e (and_left (leb (spans s x) e) _ k), quiet c e (step s x) xs (and_right (leb (spans s x) e) _ k))

pub hold_examples_hold : HoldExamples
unfolding value bytes low_value low_bytes kind_rules read_rules no_id writing.frame only joins same_car same_run is_empty is_held holds owned freed update insert no_sums fresh in_phase with_heard merged no_spread widened fits_groups counted is_in marked mean report_of frame_to received plugged lost pilot_done link_rule start_rule sound_rule profile_rule rsp_rule answered first_rule second_rule may_match requested parm_rule change_rule match_rule put state_rule admitted tick_time tick_phase record_of replies_of tick_record tick_frames all_frames window_ends validates is_validating any_validates first_result from_b from_c from_d turn one_more counts toggled_phase toggled_record is_report is_confirmation is_b admission_done joining_done tick_done free_record rule takes_reading takes_pilot shared_step step outcome configured named is_car accepted is_read is_kind is_own_accepted any_result asks is_holder is_readied any_readied spans ticked held_for is_quiet
hold_examples_hold = record {
  iso_time = refl;
  first_time = refl;
  later_time = refl;
  validation_time = refl;
  iso = record { asks_first = refl; unasked = quiet (car 1) second (asked Iso (pilot B 0 ∷ [])) (to_the_end second (slow Iso false)) refl; is_readied_lem = refl; still_held_lem = refl; so_far = refl; is_freed = refl; in_all = refl };
  sae_first = record { asks_first = refl; unasked = quiet (car 1) second (asked Sae (pilot B 0 ∷ [])) (to_the_end second (slow Sae false)) refl; is_readied_lem = refl; still_held_lem = refl; so_far = refl; is_freed = refl; in_all = refl };
  sae_later = record { asks_first = refl; unasked = quiet (car 1) second (asked Sae (pilot B 0 ∷ request 1 ∷ [])) (to_the_end second (slow Sae true)) refl; is_readied_lem = refl; still_held_lem = refl; so_far = refl; is_freed = refl; in_all = refl };
  validated = record { asks_first = refl; unasked = quiet (car 1) second (asked Iso (pilot B 0 ∷ [])) (to_the_end second slower) refl; is_readied_lem = refl; still_held_lem = refl; so_far = refl; is_freed = refl; in_all = refl };
}
