-- The words that are written for the parts of a car.
use Rattle.std.specs.Prelude.{ℕ, ◌<◌, ◌≡◌, List, [], ◌∷◌, get_or}
use Rattle.messages.specs.declared.StationAddress.{StationAddress}
use Rattle.ends.specs.Words.{flag_of}
use Rattle.car_rules.specs.declared.Car.{Car}
use Rattle.car_rules.specs.declared.Key.{Key}
use Rattle.car_rules.specs.declared.Report.{Report}
use Rattle.car_rules.specs.declared.State.{State}
use Rattle.car_rules.specs.declared.State.TheVariants.{Idle, Asking, Confirmed, Sounding, Requesting, Joining, Matched}
use Rattle.car_words.specs.Words.{head_count, reports_in}

-- a report's words
abbrev pub words_of : Report → List ℕ
words_of r = r.station.0 ∷ r.total ∷ []

-- two lists of words with the same head
abbrev pub SameHead : List ℕ → List ℕ → Type 0
SameHead v w = (j : ℕ) → j < head_count → get_or v j 0 ≡ get_or w j 0

-- the words v hold these reports, and the head of w
pub record ReportsStored (rs : List Report) (w v : List ℕ) : Type 0 where
  pub head : SameHead v w
  pub reports : reports_in v ≡ rs

-- the number of a state
abbrev pub state_number : State → ℕ
state_number Idle = 0
state_number (Asking t n) = 1
state_number (Confirmed t) = 2
state_number (Sounding k t g) = 3
state_number (Requesting t n s) = 4
state_number (Joining t key) = 5
state_number (Matched key) = 6

-- a state's time left
abbrev pub state_time : State → ℕ
state_time Idle = 0
state_time (Asking t n) = t
state_time (Confirmed t) = t
state_time (Sounding k t g) = g
state_time (Requesting t n s) = t
state_time (Joining t key) = t
state_time (Matched key) = 0

-- its retries left, or the frames sent
abbrev pub state_count : State → ℕ
state_count Idle = 0
state_count (Asking t n) = n
state_count (Confirmed t) = 0
state_count (Sounding k t g) = k
state_count (Requesting t n s) = n
state_count (Joining t key) = 0
state_count (Matched key) = 0

-- the time to the next frame
abbrev pub state_next : State → ℕ
state_next Idle = 0
state_next (Asking t n) = 0
state_next (Confirmed t) = 0
state_next (Sounding k t g) = t
state_next (Requesting t n s) = 0
state_next (Joining t key) = 0
state_next (Matched key) = 0

-- a key with a station alone
abbrev pub no_key : StationAddress → Key
no_key s = record { station = s; nid = record { 0 = 0 }; nmk = record { 0 = 0; 1 = 0 } }

-- its key, or its station
abbrev pub state_key : State → Key
state_key Idle = no_key (record { 0 = 0 })
state_key (Asking t n) = no_key (record { 0 = 0 })
state_key (Confirmed t) = no_key (record { 0 = 0 })
state_key (Sounding k t g) = no_key (record { 0 = 0 })
state_key (Requesting t n s) = no_key s
state_key (Joining t key) = key
state_key (Matched key) = key

-- the words of the head
unfoldable pub head_of : Car → List ℕ
head_of c =
    let key = state_key c.state in
    flag_of c.config.good ∷ c.config.address.0 ∷ c.config.reference
    ∷ state_number c.state ∷ state_time c.state ∷ state_count c.state ∷ state_next c.state
    ∷ key.station.0 ∷ key.nid.0 ∷ key.nmk.0 ∷ key.nmk.1
    ∷ c.clock ∷ c.run.0 ∷ c.random.0 ∷ c.random.1 ∷ c.count ∷ []
