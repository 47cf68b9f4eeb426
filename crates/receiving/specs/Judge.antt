-- What is decided of a frame before the state and the records are looked at.
use Rattle.std.specs.Prelude.{ℕ, Bool, true, false, List, leb, Result, Ok, Err}
use Rattle.messages.specs.declared.CarAddress.{CarAddress}
use Rattle.messages.specs.declared.Refusal.{Refusal}
use Rattle.messages.specs.declared.Refusal.TheVariants.{NotForUs}
use Rattle.messages.specs.Answers.{number_of}
use Rattle.messages.specs.Reading.{Checked, no, yes, check, Beside, read_rules}
use Rattle.messages.specs.Table.{Message}
use Rattle.amplitude.specs.Reading as amplitude
use Rattle.amplitude.specs.Reading.{summary_of}
use Rattle.rules.specs.declared.Configuration.{Configuration}
use Rattle.rules.specs.Constants.{least_output}
use Rattle.ends.specs.Outcomes.{and_then}
use Rattle.rules.specs.Received.{RecordMessage, parm_req, start, sound, profile, rsp, validate_first, validate_second, Request, for_record, match_req, map_req, Received, message_as, map_in, is_for_us}
use Rattle.records.specs.declared.requests.RunMessage.TheVariants.{Start, Sound, Rsp}
use Rattle.receiving.specs.declared.judge.Asking as judge
use Rattle.receiving.specs.declared.judge.MapAsking as map_judge
use Rattle.receiving.specs.declared.judge.OwnMessage.{OwnMessage}
use Rattle.receiving.specs.declared.judge.OwnMessage.TheVariants.{Run, Profile, ValidateSecond}
use Rattle.receiving.specs.declared.judge.Request as code
use Rattle.receiving.specs.declared.judge.Request.TheVariants as request

-- a request, and the car that asks
pub record Asking : Type 0 where
  pub car : CarAddress
  pub request : Request

-- what was received, without the frame's addresses
abbrev pub asking : Received → Asking
asking y = record { car = y.car; request = y.request }

-- ---- the rule

-- 7
abbrev pub for_us_rule : Configuration → Checked Received → Checked Asking
for_us_rule o x = and_then x (λ (y : Received). check (is_for_us o y) 7 (yes (asking y)))

-- of a message: 17, then 7
abbrev pub addressed_rule : Configuration → Message → Checked Asking
addressed_rule o m = for_us_rule o (message_as m)

-- of the eleven messages: "16, 15, reading, 17, 7", or the request; another type is 3
unfoldable pub judge_rule : Configuration → ℕ → List ℕ → Checked Asking
judge_rule o room s =
    check o.good 16
    (check (leb least_output room) 15
    (and_then (read_rules o.edition s) (addressed_rule o)))

-- of the messages of amplitude maps, where the type is none of theirs: reading, 17, 7
unfoldable pub map_judge_rule : Configuration → List ℕ → Checked Asking
map_judge_rule o s = for_us_rule o (map_in (summary_of (amplitude.read_rules s)))

-- ---- what the code's answers say

-- a message at the car's own record, with b beside it
abbrev pub own_message_of : OwnMessage → Beside → RecordMessage
own_message_of (Run run (Start a)) b = start run a.0
own_message_of (Run run (Sound k)) b = sound run k
own_message_of (Run run Rsp) b = rsp run
own_message_of (Profile n) b = profile n b.groups
own_message_of (ValidateSecond timer) b = validate_second timer

-- a request, with b beside it
abbrev pub request_of : code.Request → Beside → Request
request_of (request.Parm run) b = for_record (parm_req run)
request_of (request.Own m) b = for_record (own_message_of m b)
request_of request.ValidateFirst b = for_record validate_first
request_of (request.Match run) b = match_req run b.first b.second

-- what judging answered, with b beside it
abbrev pub judged_of : Result judge.Asking Refusal → Beside → Checked Asking
judged_of (Err x) b = no (number_of x)
judged_of (Ok a) b = yes (record { car = a.car; request = request_of a.request b })

-- the same of amplitude maps
abbrev pub map_judged_of : Result map_judge.MapAsking Refusal → Checked Asking
map_judged_of (Err x) = no (number_of x)
map_judged_of (Ok a) = yes (record { car = a.car; request = map_req a.carriers })

-- a car's request where it is for us, else 7
unfoldable pub for_us : Bool → CarAddress → code.Request → Result judge.Asking Refusal
for_us true c m = Ok (record { car = c; request = m })
for_us false c m = Err NotForUs
