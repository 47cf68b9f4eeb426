-- Document 01's reading of the answers that the code gives, and the numbers of indications.
use Rattle.std.specs.Prelude.{ℕ, length, Result, Ok, Err}
use Rattle.messages.specs.Reading.{Checked, no, yes}
use Rattle.messages.specs.Answers.{number_of}
use Rattle.messages.specs.declared.Refusal.{Refusal}
use Rattle.ends.specs.declared.Done.{Done}
use Rattle.ends.specs.declared.Indication.{Indication}
use Rattle.ends.specs.declared.Indication.TheVariants.{Nothing, NoLink, LinkEstablished, Found, PotentiallyFound, NotFound, KeyGiven}
use Rattle.ends.specs.Outcomes.{Outcome, joined}

-- how many frames, of how many octets in all, and the indication
pub record Summary : Type 0 where
  pub frames : ℕ
  pub octets : ℕ
  pub indication : Indication

-- what an answer says
abbrev pub answer_of : Result Done Refusal → Checked Summary
answer_of (Err x) = no (number_of x)
answer_of (Ok d) = yes (record { frames = d.frames; octets = d.octets; indication = d.indication })

-- an accepted call with no frame
abbrev pub silently : Indication → Result Done Refusal
silently i = Ok (record { frames = 0; octets = 0; indication = i })

-- what an answer to this outcome must say
abbrev pub summary : Outcome → Checked Summary
summary (no n) = no n
summary (yes x) = yes (record { frames = length x.frames; octets = length (joined x.frames); indication = x.indication })

-- "indications as numbers"
abbrev pub indication_number : Indication → ℕ
indication_number Nothing = 0
indication_number NoLink = 1
indication_number LinkEstablished = 2
indication_number Found = 3
indication_number PotentiallyFound = 4
indication_number NotFound = 5
indication_number KeyGiven = 6
