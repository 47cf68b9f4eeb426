-- What is proved of the definitions: the two round trips, that answers and messages are told apart, and that cars are unicast.
use Rattle.std.specs.Prelude.{ℕ, ◌≡◌, true, List, ◌++◌, leb, take, Result}
use Rattle.std.proofs.Math.Option.{some}
use Rattle.octets.specs.Octets.{Octets}
use Rattle.messages.specs.declared.CarAddress.{CarAddress}
use Rattle.messages.specs.declared.Edition.{Edition}
use Rattle.messages.specs.Table.{is_unicast}
use Rattle.messages.specs.Reading as messages
use Rattle.messages.specs.Reading.{no, yes, check}
use Rattle.amplitude.specs.Maps.{MapMessage, payload_size, filled}
use Rattle.amplitude.specs.Reading.{read_rules, car_of}
use Rattle.amplitude.specs.Writing.{padding, length_in, write_rules}
use Rattle.messages.specs.Answers.{checked_of}
use Rattle.amplitude.specs.Answers.{answer_of}
use Rattle.messages.specs.declared.Refusal.{Refusal}
use Rattle.amplitude.specs.declared.MapMessage as code

-- reading what was written gives the message, for every message that writing accepts
abbrev pub ReadsWritten : Type 0
ReadsWritten = (m : MapMessage) (n : ℕ) (ws : List ℕ) → write_rules m n ≡ yes ws → read_rules ws ≡ yes m

-- writing what was read gives the same frame, "padding zeroed, full length", for every octet list that reading accepts
abbrev pub WritesRead : Type 0
WritesRead =
    (s : List ℕ) (m : MapMessage) → Octets s → read_rules s ≡ yes m
    → (n : ℕ) → write_rules m n ≡ check (leb (length_in m) n) 15 (yes (take (filled (payload_size m)) s ++ padding (payload_size m)))

-- a frame that reads as one of these two is of a type that the eleven messages do not have, in either edition
abbrev pub NoOther : Type 0
NoOther = (e : Edition) (s : List ℕ) (m : MapMessage) → read_rules s ≡ yes m → messages.read_rules e s ≡ no 3

-- each answer has a meaning of its own
abbrev pub AnswersDiffer : Type 0
AnswersDiffer = (a b : Result code.MapMessage Refusal) → answer_of a ≡ answer_of b → a ≡ b

abbrev pub FilledDiffer : Type 0
FilledDiffer = (a b : Result ℕ Refusal) → checked_of a ≡ checked_of b → a ≡ b

-- a car that a frame names has a unicast address
abbrev pub CarsUnicast : Type 0
CarsUnicast = (s : List ℕ) (c : CarAddress) → car_of (read_rules s) ≡ some c → is_unicast c.0 ≡ true
