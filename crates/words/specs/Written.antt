-- The words that are written for the parts of a station.
use Rattle.std.specs.Prelude.{ℕ, ◌^◌, ◌<◌, Bool, true, false, List, [], ◌∷◌, ◌++◌}
use Rattle.messages.specs.declared.Edition.{Edition}
use Rattle.messages.specs.declared.Edition.TheVariants.{Iso, Sae}
use Rattle.rules.specs.declared.Configuration.{Configuration}
use Rattle.rules.specs.declared.Phase.{Phase}
use Rattle.rules.specs.declared.Phase.TheVariants.{Asked, Sounding, Reported, Awaiting, Ready, Counting, Success}
use Rattle.rules.specs.declared.Pilot.{Pilot}
use Rattle.rules.specs.declared.Pilot.TheVariants.{A, B, C, D, E, F}
use Rattle.rules.specs.declared.Record.{Record}
use Rattle.rules.specs.declared.Spread.{Spread}
use Rattle.rules.specs.declared.State.{State}
use Rattle.rules.specs.declared.State.TheVariants.{Unmatched, Matching, Joining, Matched}
use Rattle.ends.specs.Words.{flag_of}
use Rattle.rules.specs.Numbers.{state_number}
use Rattle.rules.specs.Rules.{car_in}
use Rattle.records.specs.Timers.{time_of}

-- the number of counting, by whether a toggle has begun
abbrev pub counting_number : Bool → ℕ
counting_number false = 5
counting_number true = 6

-- the number of a phase
abbrev pub phase_number : Phase → ℕ
phase_number (Asked t) = 0
phase_number (Sounding t) = 1
phase_number (Reported t n) = 2
phase_number (Awaiting t) = 3
phase_number (Ready t) = 4
phase_number (Counting t k b) = counting_number b
phase_number (Success t) = 7

-- a phase's retries left, or its toggles
abbrev pub phase_count : Phase → ℕ
phase_count (Asked t) = 0
phase_count (Sounding t) = 0
phase_count (Reported t n) = n
phase_count (Awaiting t) = 0
phase_count (Ready t) = 0
phase_count (Counting t k b) = k
phase_count (Success t) = 0

-- a record's words
unfoldable pub words_of : Record → List ℕ
words_of r = flag_of r.held ∷ r.car.0 ∷ r.run.0 ∷ phase_number r.phase ∷ time_of r.phase ∷ phase_count r.phase ∷ r.heard ∷ r.profiles ∷ flag_of r.later ∷ r.groups ∷ []

-- a spread's octets: the least values, then the greatest
abbrev pub spread_octets : Spread → List ℕ
spread_octets x = x.least ++ x.greatest

-- a state's time left
abbrev pub state_time : State → ℕ
state_time Unmatched = 0
state_time (Matching t) = t
state_time (Joining t c run) = t
state_time (Matched c) = 0

-- the run of the car that joins
abbrev pub state_run : State → ℕ
state_run Unmatched = 0
state_run (Matching t) = 0
state_run (Joining t c run) = run.0
state_run (Matched c) = 0

-- the number of a pilot state
abbrev pub pilot_number : Pilot → ℕ
pilot_number A = 0
pilot_number B = 1
pilot_number C = 2
pilot_number D = 3
pilot_number E = 4
pilot_number F = 5

-- the number of an edition
abbrev pub edition_number : Edition → ℕ
edition_number Iso = 0
edition_number Sae = 1

-- where the state stands in the head, with the pilot state and the clock
abbrev pub state_place : ℕ
state_place = 6

-- their words
abbrev pub state_words : State → Pilot → ℕ → List ℕ
state_words st p t = state_number st ∷ state_time st ∷ (car_in st).0 ∷ state_run st ∷ pilot_number p ∷ t ∷ []

-- the words of the head
unfoldable pub head_of : Configuration → State → Pilot → ℕ → List ℕ
head_of o st p t =
    flag_of o.good ∷ o.address.0 ∷ o.modem.0 ∷ o.nid.0 ∷ o.nmk.0 ∷ o.nmk.1
    ∷ state_words st p t ++ (flag_of o.exempt ∷ edition_number o.edition ∷ o.carriers ∷ [])

-- a state's time and the clock are numbers of 32 binary digits
abbrev pub TimesFit : State → ℕ → Type 0
TimesFit st t = (state_time st < 2 ^ 32) × (t < 2 ^ 32)

-- and so are the carriers
abbrev pub Fits : Configuration → State → ℕ → Type 0
Fits o st t = TimesFit st t × (o.carriers < 2 ^ 32)
