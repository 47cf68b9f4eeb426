-- What the calls on a lent station promise.
use Rattle.std.specs.Prelude.{ℕ, ◌≡◌, Bool, cond, List, leb}
use Rattle.messages.specs.declared.Edition.{Edition}
use Rattle.messages.specs.declared.ModemAddress.{ModemAddress}
use Rattle.messages.specs.declared.Nid.{Nid}
use Rattle.messages.specs.declared.Nmk.{Nmk}
use Rattle.messages.specs.declared.StationAddress.{StationAddress}
use Rattle.octets.specs.Octets.{splice}
use Rattle.messages.specs.Reading.{Checked, no, yes, check}
use Rattle.rules.specs.declared.Pilot.{Pilot}
use Rattle.rules.specs.declared.Station.{Station}
use Rattle.rules.specs.Calls.{Call, pilot}
use Rattle.ends.specs.Outcomes.{Outcome, frames_of, joined}
use Rattle.rules.specs.Rules.{configured, configuring, step, outcome}
use Rattle.rules.specs.Numbers.{pilot_of}
use Rattle.words.specs.Words.{station_of}
use Rattle.lahzavar.specs.declared.Answered.{Answered}
use Rattle.lahzavar.specs.Answers.{answered}

-- words, sums and spread from w, s and z to v, t and y, the output from entry to exit, and the answer r, where the rules give the station `next` and the outcome o
pub record Leaves (next : Station) (o : Outcome) (w s z entry exit v t y : List ℕ) (r : Answered) : Type 0 where
  -- they mean the station that the rules give
  pub station : station_of v t y ≡ next
  -- the answer says what the rules give
  pub answer : r ≡ answered o
  -- the output holds the outcome's frames from its first octet, and is else as it was
  pub octets : exit ≡ splice 0 (joined (frames_of o)) entry
  -- "each refusal changes neither station nor output": not a word is written
  pub kept : (r.refusal ≡ 0 → ⊥) → (v ≡ w) × ((t ≡ s) × (y ≡ z))

-- the promise of a call x
abbrev pub Lent : Call → (w s z entry exit v t y : List ℕ) → Answered → Type 0
Lent x w s z = Leaves (step (station_of w s z) x) (outcome (station_of w s z) x) w s z

-- ---- the pilot state by its number

-- 0 to 5 for A to F; another number is no event that a state takes
abbrev pub pilot_by : ℕ → Checked Pilot
pilot_by k = check (leb k 5) 8 (yes (pilot_of k))

-- the station after a pilot event
abbrev pub pilot_step : Station → ℕ → Checked Pilot → Station
pilot_step s t (no n) = s
pilot_step s t (yes p) = step s (pilot p t)

-- what it gives: "other events: 16, 8"
abbrev pub pilot_outcome : Station → ℕ → Checked Pilot → Outcome
pilot_outcome s t (no n) = check s.config.good 16 (no n)
pilot_outcome s t (yes p) = outcome s (pilot p t)

-- the promise of the pilot call with the number k and the reading
abbrev pub PilotLent : ℕ → ℕ → (w s z entry exit v t y : List ℕ) → Answered → Type 0
PilotLent k reading w s z = Leaves (pilot_step (station_of w s z) reading (pilot_by k)) (pilot_outcome (station_of w s z) reading (pilot_by k)) w s z

-- ---- configuring

-- our address, or none where the number names no edition: "another is 16 at the border to C"
abbrev pub own_address : ℕ → ℕ → ℕ
own_address k address = cond (leb k 1) address 0

-- the words, sums and spread afterwards mean the station that configuring gives, a refused one too
pub record Configures (address : StationAddress) (modem : ModemAddress) (nid : Nid) (nmk : Nmk) (exempt : Bool) (edition : Edition) (carriers : ℕ) (v t y : List ℕ) (r : Answered) : Type 0 where
  pub station : station_of v t y ≡ configured address modem nid nmk exempt edition carriers
  pub answer : r ≡ answered (configuring address modem nid carriers)
