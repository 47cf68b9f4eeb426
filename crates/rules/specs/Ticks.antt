-- Ticks: the elapsed time, each record's time, then admission's or Joining's.
use Rattle.std.specs.Prelude.{ℕ, zero, suc, ◌-◌, Bool, true, false, cond, List, [], ◌∷◌, ◌++◌, map, eqb, leb}
use Rattle.messages.specs.declared.CarAddress.{CarAddress}
use Rattle.messages.specs.declared.RunId.{RunId}
use Rattle.messages.specs.Reading.{Checked}
use Rattle.rules.specs.declared.Configuration.{Configuration}
use Rattle.ends.specs.declared.Indication.TheVariants.{Nothing, NoLink}
use Rattle.rules.specs.declared.Phase.{Phase}
use Rattle.rules.specs.declared.Phase.TheVariants.{Asked, Sounding, Reported, Awaiting, Ready, Counting, Success}
use Rattle.rules.specs.declared.Record.{Record}
use Rattle.rules.specs.declared.State.{State}
use Rattle.rules.specs.declared.State.TheVariants.{Unmatched, Matching, Joining, Matched}
use Rattle.ends.specs.Clock.{tick_time}
use Rattle.ends.specs.Constants.{retry_count}
use Rattle.rules.specs.Constants.{success_time, success_result, failure_result, least_output}
use Rattle.ends.specs.Lists.{only, joins}
use Rattle.rules.specs.Records.{is_held, none_held, owned, freed, in_phase, reported}
use Rattle.rules.specs.Replies.{Reply, confirmation, report_of, is_report, is_confirmation, frames_to}
use Rattle.rules.specs.Stations.{Shared, Done, done}

-- 16, 15, 14, or the elapsed time
abbrev pub tick_elapsed : Shared → ℕ → ℕ → Checked ℕ
tick_elapsed o reading room = tick_time o.config.good least_output room reading o.clock

-- ---- one record

-- what a tick does to a held record: it is freed, or kept, either with some replies
pub data Ticked : Type 0 where
  now_free : List Reply → Ticked
  still_held : Record → List Reply → Ticked

-- freed, with nothing sent
abbrev pub runs_out : Ticked
runs_out = now_free []

-- the record in a phase, with nothing sent
abbrev pub waits : Phase → Record → Ticked
waits p r = still_held (in_phase p r) []

-- "report, Reported, 200", with so many retries left
abbrev pub reports : ℕ → Record → Ticked
reports n r = still_held (reported n r) (report_of r ∷ [])

-- "counting fires: where the pilot is at B, CNF 02 with the toggles, success, 10,000; else CNF 03, record freed"
unfoldable pub window_ends : Bool → ℕ → Record → Ticked
window_ends true k r = still_held (in_phase (Success success_time) r) (confirmation k success_result ∷ [])
window_ends false k r = now_free (confirmation 0 failure_result ∷ [])

-- "a time fires when remaining is at most elapsed": what fires, and else what is left
abbrev pub fires : ℕ → ℕ → Ticked → Ticked → Ticked
fires e t fired left = cond (leb t e) fired left

-- one firing per record per tick, "the excess is dropped": "Asked or Awaiting: record freed. Sounding: freed if no profile, else report. Reported: retries left, report again; none left, freed." "Ready fires, record freed. Success fires, record freed."
unfoldable pub tick_phase : Bool → ℕ → Record → Phase → Ticked
tick_phase b e r (Asked t) = fires e t runs_out (waits (Asked (t - e)) r)
tick_phase b e r (Sounding t) =
    fires e t
    (cond (eqb r.profiles 0) runs_out (reports retry_count r))
    (waits (Sounding (t - e)) r)
tick_phase b e r (Reported t n) =
    fires e t
    (cond (eqb n 0) runs_out (reports (n - 1) r))
    (waits (Reported (t - e) n) r)
tick_phase b e r (Awaiting t) = fires e t runs_out (waits (Awaiting (t - e)) r)
tick_phase b e r (Ready t) = fires e t runs_out (waits (Ready (t - e)) r)
tick_phase b e r (Counting t k g) = fires e t (window_ends b k r) (waits (Counting (t - e) k g) r)
tick_phase b e r (Success t) = fires e t runs_out (waits (Success (t - e)) r)

-- the record that it leaves: its car stays the same
unfoldable pub record_of : Record → Ticked → Record
record_of r (now_free ts) = freed r
record_of r (still_held n ts) = owned r.car n

-- and what it sends to that car
unfoldable pub replies_of : Ticked → List Reply
replies_of (now_free ts) = ts
replies_of (still_held n ts) = ts

-- the record after e milliseconds, by whether the pilot is at B
unfoldable pub tick_record : Bool → ℕ → Record → Record
tick_record b e r = cond (is_held r) (record_of r (tick_phase b e r r.phase)) r

-- and what it sends of one sort
unfoldable pub tick_frames : (Reply → Bool) → Configuration → Bool → ℕ → Record → List (List ℕ)
tick_frames p o b e r = cond (is_held r) (frames_to o r.car (only p (replies_of (tick_phase b e r r.phase)))) []

-- ---- the station

-- all frames of one sort, "in record order"
abbrev pub frames_of_all : (Reply → Bool) → Configuration → Bool → ℕ → List Record → List (List ℕ)
frames_of_all p o b e rs = joins (tick_frames p o b e) rs

-- "a tick's CNFs stand behind its reports"
unfoldable pub all_frames : Configuration → Bool → ℕ → List Record → List (List ℕ)
all_frames o b e rs = frames_of_all is_report o b e rs ++ frames_of_all is_confirmation o b e rs

-- admission's time left: "at zero it is closed, and if no record is held then: Unmatched, no link"
unfoldable pub admission_done : ℕ → Bool → List Record → List (List ℕ) → Done
admission_done zero true rs fs = done Unmatched rs fs NoLink
admission_done zero false rs fs = done (Matching zero) rs fs Nothing
admission_done (suc a) b rs fs = done (Matching (suc a)) rs fs Nothing

-- "Joining fires: the same"
unfoldable pub joining_done : Bool → ℕ → CarAddress → RunId → List Record → Done
joining_done true left c run rs = done Unmatched rs [] NoLink
joining_done false left c run rs = done (Joining left c run) rs [] Nothing

-- e milliseconds in a state, by whether the pilot is at B: "in Unmatched and Matched a tick only takes the reading"
unfoldable pub tick_done : Configuration → Bool → ℕ → State → List Record → Done
tick_done o b e Unmatched rs = done Unmatched rs [] Nothing
tick_done o b e (Matching a) rs = admission_done (a - e) (none_held (map (tick_record b e) rs)) (map (tick_record b e) rs) (all_frames o b e rs)
tick_done o b e (Joining l c run) rs = joining_done (leb l e) (l - e) c run rs
tick_done o b e (Matched c) rs = done (Matched c) rs [] Nothing
