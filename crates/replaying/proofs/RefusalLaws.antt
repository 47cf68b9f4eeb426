-- Every number that refuses a call of the station fits four octets.
use Prim.Native.Nat.{ℕ, ◌+◌, ◌^◌, ◌<◌}
use mathlib.Core.Path.{◌≡◌, refl}
use mathlib.Core.Bool.{Bool, true, false, not, ◌&&◌}
use mathlib.Core.List.{List, [], ◌∷◌}
use mathlib.Core.Option.{Option, none, some}
use native.Mathlib.Omega.{arith}
use lib.Dec.{eqb, leb, ltb}
use lib.ListN.{length, get_or, drop}
use Rattle.octets.specs.Octets.{value, low_value}
use Rattle.messages.specs.Layout.{Values, size, holds, read}
use Rattle.messages.specs.Table.{Kind, slac_parm_req, slac_parm_cnf, start_atten_char_ind, atten_char_ind, atten_char_rsp, mnbc_sound_ind, validate_req, validate_cnf, slac_match_req, slac_match_cnf, atten_profile_ind, is_count, count_at, head, filled_size, written_size, padded_size, payload, addressed}
use Rattle.messages.specs.Reading.{Checked, no, yes, check, of_type, kinds, Form, count_rules, sized, typed, type_in, kind_rules, payload_rules, frame_rules, read_rules}
use Rattle.amplitude.specs.Halves.{halves}
use Rattle.amplitude.specs.Maps.{MapMessage, req_type, cnf_type, is_carriers, count_size, req_size, cnf_size, filled, result_limit, is_addressed}
use Rattle.amplitude.specs.Reading as maps
use Rattle.amplitude.specs.Reading.{dst_in, src_in, map_octets, request_of, confirm_rules, Summary, requested, confirmed, summary_of}
use Rattle.ends.specs.Clock.{elapsed, tick_time}
use Rattle.ends.specs.Constants.{retry_count, longest_gap}
use Rattle.ends.proofs.AnswerLaws.{no_same}
use Rattle.ends.proofs.Logic.{on_cond}
use Rattle.ends.specs.Outcomes.{and_then, or_else, outcome_of}
use Rattle.rules.specs.declared.Configuration.{Configuration}
use Rattle.rules.specs.declared.Phase.{Phase}
use Rattle.rules.specs.declared.Phase.TheVariants.{Asked, Sounding, Reported, Awaiting, Ready, Counting, Success}
use Rattle.rules.specs.declared.Record.{Record}
use Rattle.rules.specs.declared.State.{State}
use Rattle.rules.specs.declared.State.TheVariants.{Unmatched, Matching, Joining, Matched}
use Rattle.rules.specs.declared.Station.{Station}
use Rattle.messages.specs.declared.CarAddress.{CarAddress}
use Rattle.messages.specs.declared.Edition.{Edition}
use Rattle.messages.specs.declared.Edition.TheVariants.{Iso, Sae}
use Rattle.messages.specs.declared.RunId.{RunId}
use Rattle.rules.specs.Calls.{Call, frame, tick, pilot, terminate, link_up}
use Rattle.rules.specs.Events.{link_rule}
use Rattle.rules.specs.Frames.{Kept, keeps, own_place, put_back, at_run, may_match, start_rule, sound_rule, profile_rule, rsp_rule, first_rule, second_rule, at_own, parm_rule, change_rule, match_rule, map_rule, state_rule, admitted}
use Rattle.rules.specs.Records.{same_car, same_run, is_empty, mine, free_places, reported, fits_groups, groups_kept, counted}
use Rattle.rules.specs.Sounds.{is_in}
use Rattle.rules.specs.Validation.{first_result}
use Rattle.rules.specs.Constants.{sounds_per_try, pair_of, least_output}
use Rattle.rules.specs.Replies.{report_of}
use Rattle.rules.specs.Ticks.{tick_elapsed}
use Rattle.rules.specs.Received.{RecordMessage, parm_req, start, sound, profile, rsp, validate_first, validate_second, Request, for_record, match_req, map_req, Received, received_as, message_as, map_as, map_in, received, is_for_us}
use Rattle.rules.specs.Rules.{rule, outcome}
use Rattle.rules.specs.Stations.{Shared, Inner, Done, shared, inner}

-- a refusal, if it is one, fits
record Fits {A : Type 0} (w : Checked A) : Type 0 where
  pub fits : (n : ℕ) → w ≡ no n → n < 256 ^ 4

module _ {A : Type 0} where
  of_no : (n : ℕ) → n < 256 ^ 4 → Fits {A = A} (no n)
  of_no n h = record { fits = λ k e. let q = no_same n k e in omega arith }

  of_yes : (x : A) → Fits (yes x)
  of_yes x = record { fits = λ n e. absurd (let z : ◌≡◌ {A = ℕ} 0 1 = cc in omega arith) }

  of_check : (b : Bool) (n : ℕ) (w : Checked A) → n < 256 ^ 4 → Fits w → Fits (check b n w)
  of_check true n w h f = f
  of_check false n w h f = of_no n h

  of_own : (rs : List Record) (f : Record → Checked A) → ((r : Record) → Fits (f r)) → Fits (at_own rs f)
  of_own [] f h = of_no 11 (omega arith)
  of_own (r ∷ rs) f h = h r

of_then : {A B : Type 0} (w : Checked A) (f : A → Checked B) → Fits w → ((x : A) → Fits (f x)) → Fits (and_then w f)
of_then (no n) f h g = of_no n (h.fits n refl)
of_then (yes x) f h g = g x

of_else : {A B : Type 0} (w : Checked A) (f : A → Checked B) (y : Checked B) → Fits w → ((x : A) → Fits (f x)) → Fits y → Fits (or_else w f y)
of_else (yes x) f y h g k = g x
of_else (no n) f y h g k = on_cond Fits (eqb n 3) y (no n) (λ _. k) (λ _. of_no n (h.fits n refl))

-- ---- reading

of_count : (e : Edition) (at : Option ℕ) (s : List ℕ) → Fits (count_rules e at s)
of_count e none s = of_yes _
of_count Iso (some at) s = of_yes _
of_count Sae (some at) s = of_check (ltb (size head + at) (length s)) 1 _ (omega arith) (of_check (is_count Sae (value s (size head + at) 1)) 6 _ (omega arith) (of_yes _))

of_sized : (k : Kind) (n : ℕ) (w : Checked ℕ) → Fits w → Fits (sized k n w)
of_sized k n (no x) h = of_no x (h.fits x refl)
of_sized k n (yes g) h = of_check (leb (filled_size k g) n) 1 _ (omega arith) (of_check (leb n (written_size k g)) 4 _ (omega arith) (of_yes _))

of_typed : (e : Edition) (k : Option Kind) (s : List ℕ) → Fits (typed e k s)
of_typed e none s = of_no 3 (omega arith)
of_typed e (some k) s = of_sized k (length s) (count_rules e (count_at k) s) (of_count e (count_at k) s)

of_kinds : (e : Edition) (s : List ℕ) → Fits (kind_rules e s)
unfolding kind_rules
of_kinds e s = of_check (leb (size head) (length s)) 1 _ (omega arith) (of_check (holds 0 head s) 2 _ (omega arith) (of_typed e (of_type (read 0 head s).1.1.0 kinds) s))

of_payload : (e : Edition) (k : Kind) (g d f : ℕ) (p : List ℕ) → Fits (payload_rules e k g d f p)
of_payload e k g d f p = of_check (addressed e k g d f (read 0 (payload e k g d f) p)) 5 _ (omega arith) (of_check (holds 0 (payload e k g d f) p) 6 _ (omega arith) (of_yes _))

of_frame : (e : Edition) (w : Checked Form) (s : List ℕ) → Fits w → Fits (frame_rules e w s)
of_frame e (no n) s h = of_no n (h.fits n refl)
of_frame e (yes t) s h = of_payload e t.kind t.count (read 0 head s).0 (read 0 head s).1.0 (drop (size head) s)

of_reading : (e : Edition) (s : List ℕ) → Fits (read_rules e s)
unfolding read_rules
of_reading e s = of_frame e (kind_rules e s) s (of_kinds e s)

of_kind_lem : (e : Edition) (k : Kind) (g d f : ℕ) (vs : Values (payload e k g d f)) → Fits (received_as e k g d f vs)
of_kind_lem e slac_parm_req g d f vs = of_yes _
of_kind_lem e slac_parm_cnf g d f vs = of_no 17 (omega arith)
of_kind_lem e start_atten_char_ind g d f vs = of_yes _
of_kind_lem e atten_char_ind g d f vs = of_no 17 (omega arith)
of_kind_lem e atten_char_rsp g d f vs = of_yes _
of_kind_lem e mnbc_sound_ind g d f vs = of_yes _
of_kind_lem e validate_req g d f vs = of_yes _
of_kind_lem e validate_cnf g d f vs = of_no 17 (omega arith)
of_kind_lem e slac_match_req g d f vs = of_yes _
of_kind_lem e slac_match_cnf g d f vs = of_no 17 (omega arith)
of_kind_lem e atten_profile_ind g d f vs = of_yes _

-- ---- reading amplitude maps

of_map_sized : {A : Type 0} (n : ℕ) (s : List ℕ) (w : Checked A) → Fits w → Fits (maps.sized n s w)
of_map_sized n s w h =
    of_check (leb n (length s)) 1 _ (omega arith)
    (of_check (leb (length s) (padded_size n)) 4 _ (omega arith)
    (of_check (is_addressed (dst_in s) (src_in s)) 5 w (omega arith) h))

of_map_request : (n : ℕ) (s : List ℕ) → Fits (request_of n s)
of_map_request n s =
    of_check (is_carriers n) 6 _ (omega arith)
    (of_map_sized (filled (req_size n)) s _
    (of_check (eqb (get_or (halves (map_octets n s)) n 0) 0) 6 _ (omega arith) (of_yes _)))

of_map_confirm : (s : List ℕ) → Fits (confirm_rules s)
of_map_confirm s = of_map_sized (filled cnf_size) s _ (of_check (ltb (value s (size head) cnf_size) result_limit) 6 _ (omega arith) (of_yes _))

of_map_type : (t : ℕ) (s : List ℕ) → Fits (maps.type_rules t s)
of_map_type t s =
    on_cond Fits (eqb t req_type) _ _
    (λ _. of_check (leb (filled count_size) (length s)) 1 _ (omega arith) (of_map_request (low_value s (size head) count_size) s))
    (λ _. on_cond Fits (eqb t cnf_type) _ _ (λ _. of_map_confirm s) (λ _. of_no 3 (omega arith)))

of_map_reading : (s : List ℕ) → Fits (maps.read_rules s)
unfolding maps.read_rules
of_map_reading s = of_check (leb (size head) (length s)) 1 _ (omega arith) (of_check (holds 0 head s) 2 _ (omega arith) (of_map_type (type_in s) s))

of_summary : (w : Checked MapMessage) → Fits w → Fits (summary_of w)
of_summary (no n) h = of_no n (h.fits n refl)
of_summary (yes m) h = of_yes _

of_map : (x : Summary) → Fits (map_as x)
of_map (requested d f n) = of_yes _
of_map (confirmed d f x) = of_no 17 (omega arith)

of_received : (e : Edition) (s : List ℕ) → Fits (received e s)
unfolding received
of_received e s =
    of_else (read_rules e s) message_as (map_in (summary_of (maps.read_rules s))) (of_reading e s) (λ m. of_kind_lem m.edition m.kind m.count m.dst m.src m.values)
    (of_then (summary_of (maps.read_rules s)) map_as (of_summary (maps.read_rules s) (of_map_reading s)) of_map)

-- ---- at a record

of_start : (e : Edition) (a : ℕ) (r : Record) (p : Phase) → Fits (start_rule e a r p)
unfolding start_rule
of_start e a r (Asked t) = of_check (eqb a (pair_of e r.later)) 22 _ (omega arith) (of_yes _)
of_start e a r (Sounding t) = of_check (eqb a (pair_of e r.later)) 22 _ (omega arith) (of_yes _)
of_start e a r (Reported t n) = of_no 12 (omega arith)
of_start e a r (Awaiting t) = of_no 12 (omega arith)
of_start e a r (Ready t) = of_no 12 (omega arith)
of_start e a r (Counting t n b) = of_no 12 (omega arith)
of_start e a r (Success t) = of_no 12 (omega arith)

of_sound : (e : Edition) (k : ℕ) (r : Record) (p : Phase) → Fits (sound_rule e k r p)
unfolding sound_rule
of_sound e k r (Asked t) = of_no 12 (omega arith)
of_sound e k r (Sounding t) = of_check (ltb k (sounds_per_try e r.later)) 13 _ (omega arith) (of_check (not (is_in k r.heard)) 13 _ (omega arith) (of_yes _))
of_sound e k r (Reported t n) = of_no 12 (omega arith)
of_sound e k r (Awaiting t) = of_no 12 (omega arith)
of_sound e k r (Ready t) = of_no 12 (omega arith)
of_sound e k r (Counting t n b) = of_no 12 (omega arith)
of_sound e k r (Success t) = of_no 12 (omega arith)

of_profile : (e : Edition) (g : ℕ) (vs : List ℕ) (r : Record) (p : Phase) → Fits (profile_rule e g vs r p)
unfolding profile_rule
of_profile e g vs r (Asked t) = of_no 12 (omega arith)
of_profile e g vs r (Sounding t) =
    of_check (fits_groups g r.groups) 23 _ (omega arith)
    (on_cond Fits (eqb (r.profiles + 1) (sounds_per_try e r.later)) (keeps (reported retry_count (counted (groups_kept e g) vs r)) (report_of (counted (groups_kept e g) vs r) ∷ [])) (keeps (counted (groups_kept e g) vs r) []) (λ _. of_yes _) (λ _. of_yes _))
of_profile e g vs r (Reported t n) = of_no 12 (omega arith)
of_profile e g vs r (Awaiting t) = of_no 12 (omega arith)
of_profile e g vs r (Ready t) = of_no 12 (omega arith)
of_profile e g vs r (Counting t n b) = of_no 12 (omega arith)
of_profile e g vs r (Success t) = of_no 12 (omega arith)

of_rsp : (r : Record) (p : Phase) → Fits (rsp_rule r p)
unfolding rsp_rule
of_rsp r (Asked t) = of_no 12 (omega arith)
of_rsp r (Sounding t) = of_no 12 (omega arith)
of_rsp r (Reported t n) = of_yes _
of_rsp r (Awaiting t) = of_no 12 (omega arith)
of_rsp r (Ready t) = of_no 12 (omega arith)
of_rsp r (Counting t n b) = of_no 12 (omega arith)
of_rsp r (Success t) = of_no 12 (omega arith)

of_first : (result : ℕ) (r : Record) (p : Phase) → Fits (first_rule result r p)
unfolding first_rule
of_first result r (Asked t) = of_no 12 (omega arith)
of_first result r (Sounding t) = of_no 12 (omega arith)
of_first result r (Reported t n) = of_no 12 (omega arith)
of_first result r (Awaiting t) = of_yes _
of_first result r (Ready t) = of_no 12 (omega arith)
of_first result r (Counting t n b) = of_no 12 (omega arith)
of_first result r (Success t) = of_no 12 (omega arith)

of_second : (timer : ℕ) (r : Record) (p : Phase) → Fits (second_rule timer r p)
unfolding second_rule
of_second timer r (Asked t) = of_no 12 (omega arith)
of_second timer r (Sounding t) = of_no 12 (omega arith)
of_second timer r (Reported t n) = of_no 12 (omega arith)
of_second timer r (Awaiting t) = of_no 12 (omega arith)
of_second timer r (Ready t) = of_yes _
of_second timer r (Counting t n b) = of_no 12 (omega arith)
of_second timer r (Success t) = of_no 12 (omega arith)

of_put_back : (w : Checked Kept) → Fits w → Fits (put_back w)
of_put_back w h = of_then w (λ (k : Kept). yes (record { place = own_place; kept = k.kept; replies = k.replies })) h (λ k. of_yes _)

of_run : (run : RunId) (rs : List Record) (f : Record → Checked Kept) → ((r : Record) → Fits (f r)) → Fits (at_run run rs f)
of_run run rs f h = of_own rs (λ (r : Record). check (same_run run r.run) 11 (f r)) (λ r. of_check (same_run run r.run) 11 (f r) (omega arith) (h r))

of_parm : (e : Edition) (c : CarAddress) (run : RunId) (admission free : ℕ) (own : List Record) → Fits (parm_rule e c run admission free own)
unfolding parm_rule
of_parm e c run admission free [] = of_check (ltb 0 admission) 9 _ (omega arith) (of_check (ltb 0 free) 10 _ (omega arith) (of_yes _))
of_parm e c run admission free (r ∷ rs) = of_yes _

of_change : (e : Edition) (c : CarAddress) (m : RecordMessage) (admission free result : ℕ) (own : List Record) → Fits (change_rule e c m admission free result own)
unfolding change_rule
of_change e c (parm_req run) admission free result own = of_check (not (is_empty run)) 21 _ (omega arith) (of_parm e c run admission free own)
of_change e c (start run a) admission free result own = of_put_back _ (of_run run own (λ (r : Record). start_rule e a r r.phase) (λ r. of_start e a r r.phase))
of_change e c (sound run k) admission free result own = of_put_back _ (of_run run own (λ (r : Record). sound_rule e k r r.phase) (λ r. of_sound e k r r.phase))
of_change e c (profile g vs) admission free result own = of_put_back _ (of_own own (λ (r : Record). profile_rule e g vs r r.phase) (λ r. of_profile e g vs r r.phase))
of_change e c (rsp run) admission free result own = of_put_back _ (of_run run own (λ (r : Record). rsp_rule r r.phase) (λ r. of_rsp r r.phase))
of_change e c validate_first admission free result own = of_put_back _ (of_own own (λ (r : Record). first_rule result r r.phase) (λ r. of_first result r r.phase))
of_change e c (validate_second timer) admission free result own = of_put_back _ (of_own own (λ (r : Record). second_rule timer r r.phase) (λ r. of_second timer r r.phase))

of_match : (run : RunId) (own : List Record) → Fits (match_rule run own)
unfolding match_rule
of_match run own =
    of_own own (λ (r : Record). check (same_run run r.run) 11 (check (may_match r.phase) 12 (yes tt)))
    (λ r. of_check (same_run run r.run) 11 _ (omega arith) (of_check (may_match r.phase) 12 _ (omega arith) (of_yes _)))

-- ---- in a state

of_state : (o : Configuration) (st : State) (rs : List Record) (c : CarAddress) (m : Request) → Fits (state_rule o st rs c m)
unfolding state_rule map_rule
of_state o Unmatched rs c m = of_no 8 (omega arith)
of_state o (Matching t) rs c (for_record m) = of_then (change_rule o.edition c m t (free_places rs) (first_result o.exempt rs) (mine c rs)) _ (of_change o.edition c m t (free_places rs) (first_result o.exempt rs) (mine c rs)) (λ x. of_yes _)
of_state o (Matching t) rs c (match_req run a b) = of_then (match_rule run (mine c rs)) _ (of_match run (mine c rs)) (λ x. of_yes _)
of_state o (Matching t) rs c (map_req n) = of_no 8 (omega arith)
of_state o (Joining l d k) rs c (for_record m) = of_no 8 (omega arith)
of_state o (Joining l d k) rs c (match_req run a b) = of_check (same_car c d && same_run run k) 11 _ (omega arith) (of_yes _)
of_state o (Joining l d k) rs c (map_req n) = of_no 8 (omega arith)
of_state o (Matched d) rs c (for_record m) = of_no 8 (omega arith)
of_state o (Matched d) rs c (match_req run a b) = of_no 8 (omega arith)
of_state o (Matched d) rs c (map_req n) = of_check (same_car c d) 11 _ (omega arith) (of_check (eqb n o.carriers) 24 _ (omega arith) (of_yes _))

of_admitted : (o : Configuration) (room : ℕ) (w : Checked Received) → Fits w → Fits (admitted o room w)
unfolding admitted
of_admitted o room w h =
    of_check o.good 16 _ (omega arith)
    (of_check (leb least_output room) 15 _ (omega arith)
    (of_then w (λ (y : Received). check (is_for_us o y) 7 (yes y)) h (λ y. of_check (is_for_us o y) 7 _ (omega arith) (of_yes _))))

of_tick : (good : Bool) (least room reading last : ℕ) → Fits (tick_time good least room reading last)
unfolding tick_time
of_tick good least room reading last = of_check good 16 _ (omega arith) (of_check (leb least room) 15 _ (omega arith) (of_check (leb (elapsed reading last) longest_gap) 14 _ (omega arith) (of_yes _)))

of_link : (st : State) (rs : List Record) → Fits (link_rule st rs)
unfolding link_rule
of_link Unmatched rs = of_no 8 (omega arith)
of_link (Matching a) rs = of_no 8 (omega arith)
of_link (Joining l c run) rs = of_yes _
of_link (Matched c) rs = of_no 8 (omega arith)

of_rule : (o : Shared) (i : Inner) (x : Call) → Fits (rule o i x)
unfolding rule
of_rule o i (frame s room) = of_then (admitted o.config room (received o.config.edition s)) _ (of_admitted o.config room (received o.config.edition s) (of_received o.config.edition s)) (λ y. of_state o.config i.state i.records y.car y.request)
of_rule o i (tick t room) = of_then (tick_elapsed o t room) _ (of_tick o.config.good least_output room t o.clock) (λ e. of_yes _)
of_rule o i (pilot p t) = of_check o.config.good 16 _ (omega arith) (of_yes _)
of_rule o i terminate = of_check o.config.good 16 _ (omega arith) (of_yes _)
of_rule o i link_up = of_check o.config.good 16 _ (omega arith) (of_link i.state i.records)

of_outcome : (w : Checked Done) (n : ℕ) → Fits w → outcome_of w ≡ no n → n < 256 ^ 4
of_outcome (no k) n h e = let q = no_same k n e in let l = h.fits k refl in omega arith
of_outcome (yes d) n h e = absurd (let z : ◌≡◌ {A = ℕ} 0 1 = cc in omega arith)

pub refusal_narrow : (s : Station) (x : Call) (n : ℕ) → outcome s x ≡ no n → n < 256 ^ 4
unfolding outcome
refusal_narrow s x n e = of_outcome (rule (shared s) (inner s) x) n (of_rule (shared s) (inner s) x) e
