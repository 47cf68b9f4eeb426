-- Document 01's reading of the answers that the code gives, and what each public function promises.
use Rattle.std.specs.Prelude.{ℕ, ◌≡◌, Bool, List, Result, Ok, Err}
use Rattle.messages.specs.declared.Edition.{Edition}
use Rattle.messages.specs.declared.ModemAddress.{ModemAddress}
use Rattle.messages.specs.declared.Nid.{Nid}
use Rattle.messages.specs.declared.Nmk.{Nmk}
use Rattle.messages.specs.declared.Refusal.{Refusal}
use Rattle.messages.specs.declared.StationAddress.{StationAddress}
use Rattle.octets.specs.Octets.{splice}
use Rattle.messages.specs.Reading.{Checked, no, yes}
use Rattle.messages.specs.Answers.{number_of}
use Rattle.rules.specs.declared.Heard.{Heard}
use Rattle.rules.specs.declared.Inspected as code
use Rattle.rules.specs.declared.Station.{Station}
use Rattle.rules.specs.declared.Stepped.{Stepped}
use Rattle.rules.specs.Calls.{Call}
use Rattle.ends.specs.Answers.{answer_of, summary}
use Rattle.ends.specs.Outcomes.{frames_of, joined}
use Rattle.rules.specs.Rules.{configured, configuring, step, outcome, Told, Inspected}
use Rattle.rules.specs.Invariant.{Invariant}

-- what the service query answered
abbrev pub heard_of : Result Heard Refusal → Checked Told
heard_of (Err x) = no (number_of x)
heard_of (Ok h) = yes (record { sounds = h.sounds; spread = h.spread })

-- what the inspection answered
abbrev pub inspected_of : Result code.Inspected Refusal → Checked Inspected
inspected_of (Err x) = no (number_of x)
inspected_of (Ok i) = yes (record { state = i.state; car = i.car })

-- the whole promise of a call: r, and the output from entry to exit
pub record Answers (s : Station) (x : Call) (entry exit : List ℕ) (r : Stepped) : Type 0 where
  pub station : r.station ≡ step s x
  pub answer : answer_of r.answer ≡ summary (outcome s x)
  pub octets : exit ≡ splice 0 (joined (frames_of (outcome s x))) entry
  pub kept : Invariant r.station

-- the whole promise of configuring
pub record Configures (address : StationAddress) (modem : ModemAddress) (nid : Nid) (nmk : Nmk) (exempt : Bool) (edition : Edition) (carriers : ℕ) (r : Stepped) : Type 0 where
  pub station : r.station ≡ configured address modem nid nmk exempt edition carriers
  pub answer : answer_of r.answer ≡ summary (configuring address modem nid carriers)
  pub kept : Invariant r.station
