-- Demand 3 of the car is not empty: computed examples of frames that are foreign, and of frames that are not.
use Rattle.std.specs.Prelude.{ℕ, ◌+◌, ◌≡◌, true, false, List, [], ◌∷◌, ◌++◌, length, replicate}
use Rattle.messages.specs.declared.Edition.TheVariants.{Iso}
use Rattle.messages.specs.Table as table
use Rattle.messages.specs.Table.{Message, slac_parm_cnf, atten_char_ind, slac_match_req, iso_attempt, group_count}
use Rattle.messages.specs.Reading.{no, yes, no_id}
use Rattle.messages.specs.Writing as writing
use Rattle.ends.specs.declared.Indication.TheVariants.{Found}
use Rattle.ends.specs.Outcomes.{frames_of}
use Rattle.car_rules.specs.declared.Car.{Car}
use Rattle.car_rules.specs.Calls.{Call, start, frame, tick, terminate}
use Rattle.car_rules.specs.Constants.{least_output}
use Rattle.car_rules.specs.Rules.{configured, outcome, after}
use Rattle.car_rules.specs.Demand3.{is_foreign, Marked, all, rest, OnlyForeign}

-- ---- a car, its calls and the frames of two stations

-- a well configured car
abbrev car : Car
car = configured (record { 0 = 0x020000000001 }) 0

-- start in a run
abbrev starts_in : ℕ → Call
starts_in run = start (record { 0 = run }) (record { 0 = 2; 1 = 3 }) 0 least_output

-- in run 1
abbrev starts : Call
starts = starts_in 1

-- a tick
abbrev at : ℕ → Call
at t = tick t least_output

-- the address 02:00:00:00:00:n of a station
abbrev station : ℕ → ℕ
station n = 0x020000000000 + n

-- a message as a frame call
abbrev sent : Message → Call
sent m = frame (writing.frame m) least_output

-- PARM.CNF and a report of station n, in a run
abbrev parm_cnf : ℕ → ℕ → Call
parm_cnf n run = sent (record { edition = Iso; kind = slac_parm_cnf; count = 0; dst = 0x020000000001; src = station n; values = (iso_attempt, (run, tt)) })

abbrev report : ℕ → ℕ → Call
report n run = sent (record { edition = Iso; kind = atten_char_ind; count = group_count; dst = 0x020000000001; src = station n; values = (run, (no_id, (no_id, (10, (replicate group_count 5, tt))))) })

-- VALIDATE.CNF of station n, with no toggles and the result 01, and VALIDATE.REQ of another car to it
abbrev validate_cnf : ℕ → Call
validate_cnf n = sent (record { edition = Iso; kind = table.validate_cnf; count = 0; dst = 0x020000000001; src = station n; values = (0, (1, tt)) })

abbrev validate_req : ℕ → Call
validate_req n = sent (record { edition = Iso; kind = table.validate_req; count = 0; dst = station n; src = 0x020000000002; values = (0, tt) })

-- MATCH.REQ to station n, in run 1
abbrev match_req : ℕ → List ℕ
match_req n = writing.frame (record { edition = Iso; kind = slac_match_req; count = 0; dst = station n; src = 0x020000000001; values = (no_id, (no_id, (1, tt))) })

-- ---- the examples

-- started, and so far that reports are gathered
abbrev sounding : List Call
sounding = starts ∷ parm_cnf 0xAA 1 ∷ at 100 ∷ []

-- station AA has reported, and is chosen
abbrev chosen : List Call
chosen = sounding ++ (report 0xAA 1 ∷ at 1300 ∷ [])

-- a call that stays
abbrev stays : Call → Marked
stays x = record { call = x; left_out = false }

-- a call that is left out
abbrev omitted : Call → Marked
omitted x = record { call = x; left_out = true }

-- among the calls, frames of run 2 that are left out
abbrev mixed : List Marked
mixed = stays starts ∷ omitted (parm_cnf 0xAB 2) ∷ stays (parm_cnf 0xAA 1) ∷ stays (at 100) ∷ omitted (report 0xAB 2) ∷ stays (report 0xAA 1) ∷ stays (at 1300) ∷ []

-- what comes out
pub record Examples : Type 0 where
  -- frames of another run are foreign, and are left out
  pub foreign : OnlyForeign car mixed
  pub whole : length (all mixed) ≡ 7
  pub shorter : length (rest mixed) ≡ 5
  -- the car's own are not
  pub own_cnf : is_foreign (after car (starts ∷ [])) (parm_cnf 0xAA 1) ≡ false
  pub own_report : is_foreign (after car sounding) (report 0xAA 1) ≡ false
  -- a report is answered by one frame, and the choice is then made
  pub answered : length (frames_of (outcome (after car sounding) (report 0xAA 1))) ≡ 1
  pub found : outcome (after car (sounding ++ (report 0xAA 1 ∷ []))) (at 1300) ≡ yes (record { frames = match_req 0xAA ∷ []; indication = Found })
  -- in Requesting another station's report is foreign, the chosen one's is not
  pub another : is_foreign (after car chosen) (report 0xAB 1) ≡ true
  pub same : is_foreign (after car chosen) (report 0xAA 1) ≡ false
  -- in Idle a PARM.CNF that would be the car's own is foreign
  pub idle : is_foreign (after car (starts ∷ terminate ∷ [])) (parm_cnf 0xAA 1) ≡ true
  -- VALIDATE.CNF is foreign in any run, since no state takes it; VALIDATE.REQ is for stations
  pub validation : is_foreign (after car (starts_in 0 ∷ [])) (validate_cnf 0xAA) ≡ true
  pub no_state : outcome (after car chosen) (validate_cnf 0xAA) ≡ no 8
  pub only_stations : outcome (after car chosen) (validate_req 0xAA) ≡ no 19
