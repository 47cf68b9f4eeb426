-- The answers as plain numbers.
use Rattle.std.specs.Prelude.{ℕ, ◌+◌, ◌*◌, ◌^◌, ◌%◌, ◌≡◌, List}
use Rattle.messages.specs.Reading.{Checked, no, yes}
use Rattle.ends.specs.Outcomes.{Outcome}
use Rattle.rules.specs.Rules as rules
use Rattle.ends.specs.Answers.{indication_number, Summary, summary}
use Rattle.lahzavar.specs.declared.Answered.{Answered}
use Rattle.lahzavar.specs.declared.Heard.{Heard}
use Rattle.lahzavar.specs.declared.Inspected.{Inspected}

-- 0.8.0: 65536 times the major number, 256 times the minor, and the patch
abbrev pub version : ℕ
version = 65536 * 0 + 256 * 8 + 0

-- a refusal's number and nothing else, or 0 with the numbers of what was sent; the octets' number has 32 binary digits, which hold all of it (`octets_exact`)
abbrev pub said_of : Checked Summary → Answered
said_of (no n) = record { refusal = n; indication = 0; frames = 0; octets = 0 }
said_of (yes x) = record { refusal = 0; indication = indication_number x.indication; frames = x.frames; octets = x.octets % 2 ^ 32 }

-- the answer to an outcome
abbrev pub answered : Outcome → Answered
answered o = said_of (summary o)

-- the answer of the service query
abbrev pub heard_as : Checked rules.Told → Heard
heard_as (no n) = record { refusal = n; sounds = 0 }
heard_as (yes t) = record { refusal = 0; sounds = t.sounds }

-- the answer of the inspection
abbrev pub inspected_as : Checked rules.Inspected → Inspected
inspected_as (no n) = record { refusal = n; state = 0; car = 0 }
inspected_as (yes x) = record { refusal = 0; state = x.state; car = x.car.0 }

-- a lent array: filled with what the query tells, or left where it is refused
abbrev pub filled_by : (rules.Told → List ℕ) → Checked rules.Told → List ℕ → List ℕ
filled_by f (no n) entry = entry
filled_by f (yes t) entry = f t

-- the whole promise of the query, with the two lent arrays from entry to exit
pub record Tells (x : Checked rules.Told) (l g l' g' : List ℕ) (r : Heard) : Type 0 where
  pub answer : r ≡ heard_as x
  pub least : l' ≡ filled_by (λ (t : rules.Told). t.spread.least) x l
  pub greatest : g' ≡ filled_by (λ (t : rules.Told). t.spread.greatest) x g
