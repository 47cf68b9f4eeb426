-- Frames: what each station's message does, and the order of a frame's refusals.
use Rattle.std.specs.Prelude.{ℕ, Bool, true, false, not, cond, ◌&&◌, ◌||◌, List, [], ◌∷◌, eqb, leb, ltb}
use Rattle.messages.specs.declared.Nid.{Nid}
use Rattle.messages.specs.declared.Nmk.{Nmk}
use Rattle.messages.specs.declared.RunId.{RunId}
use Rattle.messages.specs.declared.StationAddress.{StationAddress}
use Rattle.messages.specs.Reading.{Checked, no, yes, check}
use Rattle.ends.specs.declared.Indication.TheVariants.{Nothing, KeyGiven}
use Rattle.ends.specs.Constants.{joining_time}
use Rattle.ends.specs.Outcomes.{Done, and_then}
use Rattle.car_rules.specs.declared.Car.{Car}
use Rattle.car_rules.specs.declared.Report.{Report}
use Rattle.car_rules.specs.declared.State.{State}
use Rattle.car_rules.specs.declared.State.TheVariants.{Idle, Asking, Confirmed, Sounding, Requesting, Joining, Matched}
use Rattle.car_rules.specs.Cars.{reports_of, in_state, kept}
use Rattle.car_rules.specs.Choice.{total}
use Rattle.car_rules.specs.Constants.{confirmed_time, station_count, least_output}
use Rattle.car_rules.specs.Received.{StationMessage, parm_cnf, report, match_cnf, untaken, Received, is_for_us}
use Rattle.car_rules.specs.Sending.{rsp, done}

-- two stations with one address
unfoldable pub same_station : StationAddress → StationAddress → Bool
same_station s t = eqb s.0 t.0

-- ---- 8 and 11

-- what a station's message does in a state that takes it
pub data Effect : Type 0 where
  -- PARM.CNF "in Asking: Confirmed, 100", and "in Confirmed and Sounding: accepted, no change"
  confirms stays : Effect
  -- a report, with its sounds used, in Sounding with its group values, and in Requesting
  gathers : ℕ → List ℕ → Effect
  repeats : ℕ → Effect
  -- MATCH.CNF, with its NID and NMK
  joins : Nid → Nmk → Effect

-- "PARM.CNF is taken in Asking, Confirmed and Sounding, ATTEN_CHAR.IND in Sounding and Requesting, MATCH.CNF in Requesting", VALIDATE.CNF and amplitude maps in no state; else 8
unfoldable pub effect_in : State → StationMessage → Checked Effect
effect_in Idle m = no 8
effect_in (Asking t n) parm_cnf = yes confirms
effect_in (Asking t n) (report k vs) = no 8
effect_in (Asking t n) (match_cnf nid nmk) = no 8
effect_in (Asking t n) untaken = no 8
effect_in (Confirmed t) parm_cnf = yes stays
effect_in (Confirmed t) (report k vs) = no 8
effect_in (Confirmed t) (match_cnf nid nmk) = no 8
effect_in (Confirmed t) untaken = no 8
effect_in (Sounding k t g) parm_cnf = yes stays
effect_in (Sounding k t g) (report n vs) = yes (gathers n vs)
effect_in (Sounding k t g) (match_cnf nid nmk) = no 8
effect_in (Sounding k t g) untaken = no 8
effect_in (Requesting t n s) parm_cnf = no 8
effect_in (Requesting t n s) (report k vs) = yes (repeats k)
effect_in (Requesting t n s) (match_cnf nid nmk) = yes (joins nid nmk)
effect_in (Requesting t n s) untaken = no 8
effect_in (Joining t key) m = no 8
effect_in (Matched key) m = no 8

-- "another run than ours" is 11
abbrev pub of_our_run : Car → RunId → Bool
of_our_run c run = eqb run.0 c.run.0

-- "in Requesting another station than the chosen one" is 11
unfoldable pub from_chosen : State → StationAddress → Bool
from_chosen Idle s = true
from_chosen (Asking t n) s = true
from_chosen (Confirmed t) s = true
from_chosen (Sounding k t g) s = true
from_chosen (Requesting t n d) s = same_station s d
from_chosen (Joining t key) s = true
from_chosen (Matched key) s = true

-- what refusal 11 does not concern
abbrev pub is_expected : Car → Received → Bool
is_expected c y = of_our_run c y.run && from_chosen c.state y.station

-- ---- what is taken: 20, 18

-- a station that has reported
unfoldable pub has_reported : StationAddress → List Report → Bool
has_reported s [] = false
has_reported s (r ∷ rs) = same_station s r.station || has_reported s rs

-- "RSP sent"
abbrev pub answers : Car → StationAddress → Done Car
answers c s = done c (rsp s ∷ []) Nothing

-- a report in Sounding: "18 where ten other stations' reports are kept; else RSP sent, and a station's first report is kept, later ones change nothing"
abbrev pub gathered : Car → StationAddress → List ℕ → Checked (Done Car)
gathered c s vs =
    cond (has_reported s (reports_of c)) (yes (answers c s))
    (check (ltb c.count station_count) 18
    (yes (answers (kept (record { station = s; total = total vs }) c) s)))

-- "20 where its sounds used are 0"
unfoldable pub effect_rule : Car → StationAddress → Effect → Checked (Done Car)
effect_rule c s confirms = yes (done (in_state (Confirmed confirmed_time) c) [] Nothing)
effect_rule c s stays = yes (done c [] Nothing)
effect_rule c s (gathers k vs) = check (not (eqb k 0)) 20 (gathered c s vs)
effect_rule c s (repeats k) = check (not (eqb k 0)) 20 (yes (answers c s))
effect_rule c s (joins nid nmk) = yes (done (in_state (Joining joining_time (record { station = s; nid = nid; nmk = nmk })) c) [] KeyGiven)

-- ---- the order

-- 8, 11, 20, 18 of what was received
unfoldable pub state_rule : Car → Received → Checked (Done Car)
state_rule c y =
    and_then (effect_in c.state y.message) (λ (x : Effect).
    check (is_expected c y) 11
    (effect_rule c y.station x))

-- 16, 15, reading, 19, 7, and then these
unfoldable pub frame_rule : Car → ℕ → Checked Received → Checked (Done Car)
frame_rule c room x =
    check c.config.good 16
    (check (leb least_output room) 15
    (and_then x (λ (y : Received). check (is_for_us c.config y) 7 (state_rule c y))))
