-- What the parts of the frame call on a lent station give.
use Rattle.std.specs.Prelude.{ℕ, ◌≡◌, List, set}
use Rattle.messages.specs.declared.CarAddress.{CarAddress}
use Rattle.messages.specs.Reading.{Checked, yes}
use Rattle.octets.specs.Octets.{splice}
use Rattle.ends.specs.declared.Indication.TheVariants.{Nothing}
use Rattle.rules.specs.declared.Record.{Record}
use Rattle.rules.specs.Frames.{Kept, state_rule}
use Rattle.ends.specs.Outcomes.{joined, next, outcome_of}
use Rattle.rules.specs.Received.{Request}
use Rattle.rules.specs.Stations.{Done, shared, inner, build, done}
use Rattle.station.specs.Frames.{settled}
use Rattle.words.specs.Words.{station_of}
use Rattle.lahzavar.specs.declared.Answered.{Answered}
use Rattle.lahzavar.specs.Answers.{answered}
use Rattle.lahzavar.specs.Lent.{Leaves}

-- words, sums and spread from w, s and z to v, t and y, the output from entry to exit, and the answer r, where a frame's rule gives x
abbrev pub Comes : Checked Done → (w s z entry exit v t y : List ℕ) → Answered → Type 0
Comes x w s z = Leaves (build (shared (station_of w s z)) (next (inner (station_of w s z)) x)) (outcome_of x) w s z

-- the same of the request m of car c
abbrev pub Takes : CarAddress → Request → (w s z entry exit v t y : List ℕ) → Answered → Type 0
Takes c m w s z = Comes (state_rule (station_of w s z).config (station_of w s z).state (station_of w s z).records c m) w s z

-- the same of what a rule leaves at car c's place i
abbrev pub Puts : ℕ → CarAddress → Checked Kept → (w s z entry exit v t y : List ℕ) → Answered → Type 0
Puts i c x w s z = Comes (settled (station_of w s z) i c x) w s z

-- the same of the record k at place i and some frames
abbrev pub Stores : ℕ → Record → List (List ℕ) → (w s z entry exit v t y : List ℕ) → Answered → Type 0
Stores i k fs w s z = Comes (yes (done (station_of w s z).state (set (station_of w s z).records i k) fs Nothing)) w s z

-- the output from entry to exit holds some frames, and the answer r says so
abbrev pub Replies : List (List ℕ) → (entry exit : List ℕ) → Answered → Type 0
Replies fs entry exit r = (r ≡ answered (yes (record { frames = fs; indication = Nothing }))) × (exit ≡ splice 0 (joined fs) entry)
