-- What is decided of a frame before the state is looked at.
use Rattle.std.specs.Prelude.{ℕ, not, cond, ◌&&◌, List, eqb, leb, Result, Ok, Err}
use Rattle.messages.specs.declared.CarAddress.{CarAddress}
use Rattle.messages.specs.declared.Edition.TheVariants.{Iso}
use Rattle.messages.specs.declared.Refusal.{Refusal}
use Rattle.messages.specs.declared.Refusal.TheVariants.{NotForUs}
use Rattle.messages.specs.declared.RunId.{RunId}
use Rattle.messages.specs.declared.StationAddress.{StationAddress}
use Rattle.messages.specs.Answers.{number_of}
use Rattle.messages.specs.Reading.{Checked, no, yes, check, beside_of, read_rules}
use Rattle.messages.specs.Table.{Message}
use Rattle.ends.specs.Outcomes.{and_then}
use Rattle.car_rules.specs.declared.Configuration.{Configuration}
use Rattle.car_rules.specs.Constants.{least_output}
use Rattle.car_rules.specs.Received as rule
use Rattle.car_rules.specs.Received.{parm_cnf, report, match_cnf, untaken, message_as, received, is_for_us}
use Rattle.car.specs.declared.judge.Received.{Received}
use Rattle.car.specs.declared.judge.StationMessage.{StationMessage}
use Rattle.car.specs.declared.judge.StationMessage.TheVariants.{ParmCnf, Report, MatchCnf, Untaken}

-- the group values of the message that a frame's octets read as
abbrev pub groups_in : List ℕ → List ℕ
groups_in s = (beside_of (read_rules Iso s)).groups

-- a message, with the group values g beside it
abbrev pub message_of : StationMessage → List ℕ → rule.StationMessage
message_of ParmCnf g = parm_cnf
message_of (Report k) g = report k g
message_of (MatchCnf nid nmk) g = match_cnf nid nmk
message_of Untaken g = untaken

-- a station's message in a frame to d
abbrev pub received_of : ℕ → Received → List ℕ → rule.Received
received_of d x g = record { station = x.station; dst = d; run = x.run; message = message_of x.message g }

-- what is left of it once it is for us: its station, its run and its message
pub record Heard : Type 0 where
  pub station : StationAddress
  pub run : RunId
  pub message : rule.StationMessage

-- without the frame's destination
abbrev pub heard_in : rule.Received → Heard
heard_in y = record { station = y.station; run = y.run; message = y.message }

-- 7
abbrev pub for_us_rule : Configuration → Checked rule.Received → Checked Heard
for_us_rule o x = and_then x (λ (y : rule.Received). check (is_for_us o y) 7 (yes (heard_in y)))

-- of a message: 19, then 7
abbrev pub addressed_rule : Configuration → Message → Checked Heard
addressed_rule o m = for_us_rule o (message_as m)

-- 16, 15, reading, 19, 7, or the message
unfoldable pub judge_rule : Configuration → ℕ → List ℕ → Checked Heard
judge_rule o room s = check o.good 16 (check (leb least_output room) 15 (for_us_rule o (received s)))

-- what judging answered, with the group values g beside it
abbrev pub judged_of : Result Received Refusal → List ℕ → Checked Heard
judged_of (Err x) g = no (number_of x)
judged_of (Ok x) g = yes (record { station = x.station; run = x.run; message = message_of x.message g })

-- a message to the car c where that is us and its station is not, else 7
abbrev pub for_us : Configuration → CarAddress → Received → Result Received Refusal
for_us o c x = cond (eqb c.0 o.address.0 && not (eqb x.station.0 o.address.0)) (Ok x) (Err NotForUs)
