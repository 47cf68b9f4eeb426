-- What the calls on a lent car promise.
use Rattle.std.specs.Prelude.{ℕ, ◌≡◌, List}
use Rattle.messages.specs.declared.CarAddress.{CarAddress}
use Rattle.octets.specs.Octets.{splice}
use Rattle.messages.specs.Reading.{Checked, no, yes}
use Rattle.ends.specs.Answers.{answer_of}
use Rattle.ends.specs.Outcomes.{frames_of, joined}
use Rattle.car_rules.specs.declared.Key.{Key}
use Rattle.car_rules.specs.declared.Stepped.{Stepped}
use Rattle.car_rules.specs.Calls.{Call}
use Rattle.car_rules.specs.Rules.{configured, configuring, step, outcome}
use Rattle.car_words.specs.Words.{car_of}
use Rattle.lahzavar.specs.declared.Answered.{Answered}
use Rattle.lahzavar.specs.declared.car_calls.KeyAnswered.{KeyAnswered}
use Rattle.lahzavar.specs.Answers.{said_of, answered}

-- words from w to v, the output from entry to exit, and the answer r of a call x
pub record Lent (x : Call) (w entry exit v : List ℕ) (r : Answered) : Type 0 where
  -- they mean the car that the rules give
  pub car : car_of v ≡ step (car_of w) x
  -- the answer says what the rules give
  pub answer : r ≡ answered (outcome (car_of w) x)
  -- the output holds the outcome's frame from its first octet, and is else as it was
  pub octets : exit ≡ splice 0 (joined (frames_of (outcome (car_of w) x))) entry
  -- a refusal changes nothing: not a word is written
  pub kept : (r.refusal ≡ 0 → ⊥) → v ≡ w

-- the words afterwards mean the car that configuring gives, a refused one too
pub record Configures (address : CarAddress) (reference : ℕ) (v : List ℕ) (r : Answered) : Type 0 where
  pub car : car_of v ≡ configured address reference
  pub answer : r ≡ answered (configuring address reference)

-- the words from w to v: the car of an accepted call, or unchanged
pub record Settles (x : Stepped) (w v : List ℕ) (r : Answered) : Type 0 where
  pub answer : r ≡ said_of (answer_of x.answer)
  pub stored : r.refusal ≡ 0 → car_of v ≡ x.car
  pub kept : (r.refusal ≡ 0 → ⊥) → v ≡ w

-- the answer of the key query
abbrev pub key_as : Checked Key → KeyAnswered
key_as (no n) = record { refusal = n; station = 0; nid = 0; first = 0; last = 0 }
key_as (yes k) = record { refusal = 0; station = k.station.0; nid = k.nid.0; first = k.nmk.0; last = k.nmk.1 }
