-- What a call comes to, as the code gives it: the car and the answer, and the output.
use Rattle.std.specs.Prelude.{ℕ, ◌≤◌, ◌≡◌, true, List, [], ◌∷◌, length, Err}
use Rattle.messages.specs.declared.Refusal.{Refusal}
use Rattle.octets.specs.Octets.{splice}
use Rattle.messages.specs.Reading.{Checked, yes}
use Rattle.messages.specs.Table.{Message, is_unicast}
use Rattle.messages.specs.Writing as writing
use Rattle.ends.specs.declared.Indication.{Indication}
use Rattle.ends.specs.Answers.{answer_of, summary, silently}
use Rattle.ends.specs.Outcomes.{Done, frames_of, joined, next, outcome_of}
use Rattle.car_rules.specs.declared.Car.{Car}
use Rattle.car_rules.specs.declared.Stepped.{Stepped}
use Rattle.car_rules.specs.Constants.{least_output}

-- a refusal's answer, with the car as it was
abbrev pub refused_as : Car → Refusal → Stepped
refused_as c x = record { car = c; answer = Err x }

-- the answer of an accepted call with no frame, with the car after it
abbrev pub silent_as : Car → Indication → Stepped
silent_as c x = record { car = c; answer = silently x }

-- r and the output from entry to exit are what a rule comes to, refused or accepted
pub record Comes (c : Car) (x : Checked (Done Car)) (entry exit : List ℕ) (r : Stepped) : Type 0 where
  pub car : r.car ≡ next c x
  pub answer : answer_of r.answer ≡ summary (outcome_of x)
  pub octets : exit ≡ splice 0 (joined (frames_of (outcome_of x))) entry

-- the same of an accepted one
pub record Gives (d : Done Car) (entry exit : List ℕ) (r : Stepped) : Type 0 where
  pub car : r.car ≡ d.after
  pub answer : answer_of r.answer ≡ summary (yes d.sent)
  pub octets : exit ≡ splice 0 (joined d.sent.frames) entry

-- the car, and one frame of the message m
abbrev pub sent_by : Car → Message → Indication → Done Car
sent_by c m x = record { after = c; sent = record { frames = writing.frame m ∷ []; indication = x } }

-- a car whose frames can be written
pub record Ready (c : Car) (out : List ℕ) : Type 0 where
  pub address : is_unicast c.config.address.0 ≡ true
  pub room : least_output ≤ length out
