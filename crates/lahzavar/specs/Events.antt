-- What the parts of pilot, terminate, link up and tick on a lent station give.
use Rattle.std.specs.Prelude.{ℕ, List, [], map}
use Rattle.messages.specs.Reading.{yes}
use Rattle.ends.specs.declared.Indication.{Indication}
use Rattle.rules.specs.declared.Pilot.{Pilot}
use Rattle.rules.specs.declared.State.{State}
use Rattle.rules.specs.Calls.{Call}
use Rattle.rules.specs.Records.{freed}
use Rattle.station.specs.declared.ticks.Passed.{Passed}
use Rattle.station.specs.Steps.{anew}
use Rattle.words.specs.Words.{pilot_in, station_of, in_state}
use Rattle.lahzavar.specs.declared.Answered.{Answered}
use Rattle.lahzavar.specs.Lent.{Leaves, Lent}

-- the promise of a call x that sends nothing and leaves sums and spread as they are
abbrev pub InWords : Call → (w v : List ℕ) → Answered → Type 0
InWords x w v r = (s z : List ℕ) → Lent x w s z [] [] v s z r

-- words from w to v and the answer r, where every record is freed, the state, the pilot state and the clock are these, and this is indicated
abbrev pub Frees : State → Pilot → ℕ → Indication → (w v : List ℕ) → Answered → Type 0
Frees st p t x w v r = (s z : List ℕ) → Leaves (anew (station_of w s z) p t st (map freed (station_of w s z).records)) (yes (record { frames = []; indication = x })) w s z [] [] v s z r

-- words from w to v and the answer r, where the clock is t, the state and what is indicated are these, and nothing is sent
abbrev pub Passes : Passed → ℕ → (w v : List ℕ) → Answered → Type 0
Passes p t w v r = (s z out : List ℕ) → Leaves (in_state p.state (pilot_in w) t (station_of w s z)) (yes (record { frames = []; indication = p.indication })) w s z out out v s z r
