-- What a call comes to, as the code gives it: the station and the answer, and the output.
use Rattle.std.specs.Prelude.{ℕ, ◌≡◌, List, Ok, Err}
use Rattle.messages.specs.declared.Refusal.{Refusal}
use Rattle.octets.specs.Octets.{splice}
use Rattle.messages.specs.Reading.{yes}
use Rattle.ends.specs.declared.Indication.{Indication}
use Rattle.rules.specs.declared.Pilot.{Pilot}
use Rattle.rules.specs.declared.Record.{Record}
use Rattle.rules.specs.declared.State.{State}
use Rattle.rules.specs.declared.Station.{Station}
use Rattle.rules.specs.declared.Stepped.{Stepped}
use Rattle.ends.specs.Outcomes.{joined}
use Rattle.rules.specs.Stations.{Shared, Done, build}
use Rattle.ends.specs.Answers.{answer_of, summary}

-- a refusal's answer, with the station as it was
abbrev pub refused_as : Station → Refusal → Stepped
refused_as s x = record { station = s; answer = Err x }

-- an accepted call's answer, with the station after it
abbrev pub done_as : Station → ℕ → ℕ → Indication → Stepped
done_as s n k i = record { station = s; answer = Ok (record { frames = n; octets = k; indication = i }) }

-- the shared part with another pilot state and reading
abbrev pub shared_as : Station → Pilot → ℕ → Shared
shared_as s p t = record { config = s.config; pilot = p; clock = t }

-- the station with all but its configuration anew
abbrev pub anew : Station → Pilot → ℕ → State → List Record → Station
anew s p t st rs = build (shared_as s p t) (record { state = st; records = rs })

-- r and the output from entry to exit are what an accepted call comes to: o is its shared part afterwards
pub record Gives (o : Shared) (d : Done) (entry exit : List ℕ) (r : Stepped) : Type 0 where
  pub station : r.station ≡ build o d.after
  pub answer : answer_of r.answer ≡ summary (yes d.sent)
  pub octets : exit ≡ splice 0 (joined d.sent.frames) entry
