-- Frames: what each message does at its car's record, and the order of a frame's refusals.
use Rattle.std.specs.Prelude.{ℕ, ◌+◌, ◌*◌, Bool, true, false, not, cond, ◌&&◌, List, [], ◌∷◌, map, eqb, leb, ltb}
use Rattle.messages.specs.declared.CarAddress.{CarAddress}
use Rattle.messages.specs.declared.Edition.{Edition}
use Rattle.messages.specs.declared.Edition.TheVariants.{Iso, Sae}
use Rattle.messages.specs.declared.RunId.{RunId}
use Rattle.messages.specs.Reading.{Checked, no, yes, check}
use Rattle.rules.specs.declared.Configuration.{Configuration}
use Rattle.ends.specs.declared.Indication.TheVariants.{Nothing}
use Rattle.rules.specs.declared.Phase.{Phase}
use Rattle.rules.specs.declared.Phase.TheVariants.{Asked, Sounding, Reported, Awaiting, Ready, Counting, Success}
use Rattle.rules.specs.declared.Record.{Record}
use Rattle.rules.specs.declared.State.{State}
use Rattle.rules.specs.declared.State.TheVariants.{Unmatched, Matching, Joining, Matched}
use Rattle.ends.specs.Constants.{joining_time, retry_count}
use Rattle.rules.specs.Constants.{sounding_time, sounds_per_try, pair_of, awaiting_time, ready_time, window_step, ready_result, least_output}
use Rattle.ends.specs.Outcomes.{and_then}
use Rattle.rules.specs.Records.{same_car, same_run, is_empty, mine, free_places, owned, freed, update, insert, fresh, in_phase, reported, with_heard, fits_groups, groups_kept, counted}
use Rattle.rules.specs.Sounds.{is_in, marked}
use Rattle.rules.specs.Replies.{Reply, parm_cnf, match_cnf, confirmation, report_of, frames_to, map_cnf_to}
use Rattle.rules.specs.Received.{RecordMessage, parm_req, start, sound, profile, rsp, validate_first, validate_second, Request, for_record, match_req, map_req, Received, is_for_us}
use Rattle.rules.specs.Validation.{first_result}
use Rattle.rules.specs.Stations.{Inner, Done, done}

-- what a message does at its car's record: the record afterwards, and the replies to the car
pub record Kept : Type 0 where
  pub kept : Record
  pub replies : List Reply

-- accepted, with this record and these replies
abbrev pub keeps : Record → List Reply → Checked Kept
keeps r ts = yes (record { kept = r; replies = ts })

-- ---- at one record, in an edition: 12, then 13, 22 or 23

-- START: "Asked becomes Sounding, 600. In Sounding: accepted, no change." "With the other try's pair: 22."
unfoldable pub start_rule : Edition → ℕ → Record → Phase → Checked Kept
start_rule e a r (Asked t) = check (eqb a (pair_of e r.later)) 22 (keeps (in_phase (Sounding (sounding_time e r.later)) r) [])
start_rule e a r (Sounding t) = check (eqb a (pair_of e r.later)) 22 (keeps r [])
start_rule e a r (Reported t n) = no 12
start_rule e a r (Awaiting t) = no 12
start_rule e a r (Ready t) = no 12
start_rule e a r (Counting t n b) = no 12
start_rule e a r (Success t) = no 12

-- SOUND in Sounding: "count marked heard"
unfoldable pub sound_rule : Edition → ℕ → Record → Phase → Checked Kept
sound_rule e k r (Asked t) = no 12
sound_rule e k r (Sounding t) =
    check (ltb k (sounds_per_try e r.later)) 13
    (check (not (is_in k r.heard)) 13
    (keeps (with_heard (marked k r.heard) r) []))
sound_rule e k r (Reported t n) = no 12
sound_rule e k r (Awaiting t) = no 12
sound_rule e k r (Ready t) = no 12
sound_rule e k r (Counting t n b) = no 12
sound_rule e k r (Success t) = no 12

-- PROFILE in Sounding: 23, then "values added, one more counted. At ten: report sent, Reported, 200, two retries."
unfoldable pub profile_rule : Edition → ℕ → List ℕ → Record → Phase → Checked Kept
profile_rule e g vs r (Asked t) = no 12
profile_rule e g vs r (Sounding t) =
    check (fits_groups g r.groups) 23
    (cond (eqb (r.profiles + 1) (sounds_per_try e r.later))
    (keeps (reported retry_count (counted (groups_kept e g) vs r)) (report_of (counted (groups_kept e g) vs r) ∷ []))
    (keeps (counted (groups_kept e g) vs r) []))
profile_rule e g vs r (Reported t n) = no 12
profile_rule e g vs r (Awaiting t) = no 12
profile_rule e g vs r (Ready t) = no 12
profile_rule e g vs r (Counting t n b) = no 12
profile_rule e g vs r (Success t) = no 12

-- RSP in Reported: "Awaiting, 10,000"
unfoldable pub rsp_rule : Record → Phase → Checked Kept
rsp_rule r (Asked t) = no 12
rsp_rule r (Sounding t) = no 12
rsp_rule r (Reported t n) = keeps (in_phase (Awaiting awaiting_time) r) []
rsp_rule r (Awaiting t) = no 12
rsp_rule r (Ready t) = no 12
rsp_rule r (Counting t n b) = no 12
rsp_rule r (Success t) = no 12

-- the first VALIDATE.REQ's record in Awaiting: "ready, 400" with the result 01, else "the record stays as it is"
unfoldable pub answered : ℕ → Record → Record
answered result r = cond (eqb result ready_result) (in_phase (Ready ready_time) r) r

-- the first VALIDATE.REQ, "in Awaiting, else 12": CNF with this result and no toggles
unfoldable pub first_rule : ℕ → Record → Phase → Checked Kept
first_rule result r (Asked t) = no 12
first_rule result r (Sounding t) = no 12
first_rule result r (Reported t n) = no 12
first_rule result r (Awaiting t) = keeps (answered result r) (confirmation 0 result ∷ [])
first_rule result r (Ready t) = no 12
first_rule result r (Counting t n b) = no 12
first_rule result r (Success t) = no 12

-- the second VALIDATE.REQ, "in ready, else 12": "counting, 100 * (timer + 1), no toggles, none begun"
unfoldable pub second_rule : ℕ → Record → Phase → Checked Kept
second_rule timer r (Asked t) = no 12
second_rule timer r (Sounding t) = no 12
second_rule timer r (Reported t n) = no 12
second_rule timer r (Awaiting t) = no 12
second_rule timer r (Ready t) = keeps (in_phase (Counting (window_step * (timer + 1)) 0 false) r) []
second_rule timer r (Counting t n b) = no 12
second_rule timer r (Success t) = no 12

-- "MATCH.REQ in success as in Awaiting"
unfoldable pub may_match : Phase → Bool
may_match (Asked t) = false
may_match (Sounding t) = false
may_match (Reported t n) = false
may_match (Awaiting t) = true
may_match (Ready t) = false
may_match (Counting t n b) = false
may_match (Success t) = true

-- ---- at the car's records: 21, then 9 and 10, or 11

module _ {A : Type 0} where
  -- 11 where the car holds no record
  abbrev pub at_own : List Record → (Record → Checked A) → Checked A
  at_own [] f = no 11
  at_own (r ∷ rs) f = f r

  -- 11 where the car holds no record, or one of another run
  abbrev pub at_run : RunId → List Record → (Record → Checked A) → Checked A
  at_run run rs f = at_own rs (λ (r : Record). check (same_run run r.run) 11 (f r))

-- where a car's record goes: to its own place, or to the first free one
pub data Place : Type 0 where
  own_place free_place : Place

-- what an accepted frame does: a record of the car, its place, and the replies to the car
pub record Change : Type 0 where
  pub place : Place
  pub kept : Record
  pub replies : List Reply

-- the car's record back at its own place
abbrev pub put_back : Checked Kept → Checked Change
put_back x = and_then x (λ (k : Kept). yes (record { place = own_place; kept = k.kept; replies = k.replies }))

-- "a PARM.REQ that takes a free record makes a first try, one that restarts a held record a later one"; with ISO always a first
abbrev pub is_later : Edition → Place → Bool
is_later Iso p = false
is_later Sae own_place = true
is_later Sae free_place = false

-- PARM.REQ: the record anew, "PARM.CNF sent", in a first or a later try
unfoldable pub requested : Bool → CarAddress → RunId → Place → Change
requested later c run p = record { place = p; kept = fresh later c run; replies = parm_cnf later run ∷ [] }

-- PARM.REQ: "a car with a record restarts it, even after admission closed. Else 9, 10, or the first free record."
unfoldable pub parm_rule : Edition → CarAddress → RunId → ℕ → ℕ → List Record → Checked Change
parm_rule e c run admission free (r ∷ rs) = yes (requested (is_later e own_place) c run own_place)
parm_rule e c run admission free [] =
    check (ltb 0 admission) 9
    (check (ltb 0 free) 10
    (yes (requested (is_later e free_place) c run free_place)))

-- in an edition, each message at car c's own records, a PARM.REQ with an empty run at none, with admission's time left, the number of free places, and what a first VALIDATE.REQ is answered
unfoldable pub change_rule : Edition → CarAddress → RecordMessage → ℕ → ℕ → ℕ → List Record → Checked Change
change_rule e c (parm_req run) admission free result own = check (not (is_empty run)) 21 (parm_rule e c run admission free own)
change_rule e c (start run a) admission free result own = put_back (at_run run own (λ (r : Record). start_rule e a r r.phase))
change_rule e c (sound run k) admission free result own = put_back (at_run run own (λ (r : Record). sound_rule e k r r.phase))
change_rule e c (profile g vs) admission free result own = put_back (at_own own (λ (r : Record). profile_rule e g vs r r.phase))
change_rule e c (rsp run) admission free result own = put_back (at_run run own (λ (r : Record). rsp_rule r r.phase))
change_rule e c validate_first admission free result own = put_back (at_own own (λ (r : Record). first_rule result r r.phase))
change_rule e c (validate_second timer) admission free result own = put_back (at_own own (λ (r : Record). second_rule timer r r.phase))

-- MATCH.REQ "in Awaiting" and in success: 11, then 12
unfoldable pub match_rule : RunId → List Record → Checked (Unit {0})
match_rule run own = at_run run own (λ (r : Record). check (may_match r.phase) 12 (yes tt))

-- ---- in a state: 8, then these

-- the record of car c at its place
unfoldable pub put : CarAddress → Place → Record → List Record → List Record
put c own_place r rs = update c (owned c r) rs
put c free_place r rs = insert (owned c r) rs

-- a change, and its replies as octets
abbrev pub changed : Configuration → State → List Record → CarAddress → Change → Done
changed o st rs c x = done st (put c x.place x.kept rs) (frames_to o c x.replies) Nothing

-- "MATCH.CNF sent", with "the two IDs of the request that it answers"
abbrev pub confirmed : Configuration → State → List Record → CarAddress → RunId → List ℕ → List ℕ → Done
confirmed o st rs c run a b = done st rs (frames_to o c (match_cnf run a b ∷ [])) Nothing

-- AMP_MAP.REQ of car c with n carriers, where the car d is matched: "11 (another car than the matched one), 24 (n is not our carriers). Accepted: CNF 00 sent, nothing changes."
unfoldable pub map_rule : Configuration → CarAddress → List Record → CarAddress → ℕ → Checked Done
map_rule o d rs c n =
    check (same_car c d) 11
    (check (eqb n o.carriers) 24
    (yes (done (Matched d) rs (map_cnf_to o c ∷ []) Nothing)))

-- "Matching takes all; Joining takes MATCH.REQ only", and neither AMP_MAP.REQ; "Matched takes AMP_MAP.REQ alone"; else 8
unfoldable pub state_rule : Configuration → State → List Record → CarAddress → Request → Checked Done
state_rule o Unmatched rs c m = no 8
state_rule o (Matching t) rs c (for_record m) =
    and_then (change_rule o.edition c m t (free_places rs) (first_result o.exempt rs) (mine c rs))
    (λ (x : Change). yes (changed o (Matching t) rs c x))
state_rule o (Matching t) rs c (match_req run a b) =
    and_then (match_rule run (mine c rs))
    (λ (x : Unit {0}). yes (confirmed o (Joining joining_time c run) (map freed rs) c run a b))
state_rule o (Matching t) rs c (map_req n) = no 8
state_rule o (Joining l d k) rs c (for_record m) = no 8
state_rule o (Joining l d k) rs c (match_req run a b) = check (same_car c d && same_run run k) 11 (yes (confirmed o (Joining l d k) rs c run a b))
state_rule o (Joining l d k) rs c (map_req n) = no 8
state_rule o (Matched d) rs c (for_record m) = no 8
state_rule o (Matched d) rs c (match_req run a b) = no 8
state_rule o (Matched d) rs c (map_req n) = map_rule o d rs c n

-- 16, 15, reading, 17, 7: what no state and no record decides
unfoldable pub admitted : Configuration → ℕ → Checked Received → Checked Received
admitted o room x =
    check o.good 16
    (check (leb least_output room) 15
    (and_then x (λ (y : Received). check (is_for_us o y) 7 (yes y))))

-- then, by the state: 8, 21, then 9 and 10, or 11, 12, then 13, 22 or 23; or 8, 11, 24
abbrev pub frame_rule : Configuration → Inner → Checked Received → Checked Done
frame_rule o i x = and_then x (λ (y : Received). state_rule o i.state i.records y.car y.request)
