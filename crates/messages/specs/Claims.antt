-- What is proved of the definitions: the two round trips of demand 2, that answers are told apart, and that cars are unicast.
use Rattle.std.specs.Prelude.{ℕ, ◌≡◌, true, List, ◌++◌, leb, drop, Result}
use Rattle.std.proofs.Math.Option.{some}
use Rattle.octets.specs.Octets.{Octets}
use Rattle.messages.specs.Layout.{size, zeroed}
use Rattle.messages.specs.Table.{is_unicast, head, payload, Message}
use Rattle.messages.specs.Reading.{yes, check, read_rules, Beside, car_of}
use Rattle.messages.specs.Writing.{padding, length_in, write_rules}
use Rattle.messages.specs.Answers.{number_of, answer_of, checked_of}
use Rattle.messages.specs.declared.Edition.{Edition}
use Rattle.messages.specs.declared.CarAddress.{CarAddress}
use Rattle.messages.specs.declared.Refusal.{Refusal}
use Rattle.messages.specs.declared.Message as code

-- reading what was written gives the message, for every message that writing accepts
abbrev pub ReadsWritten : Type 0
ReadsWritten = (m : Message) (n : ℕ) (ws : List ℕ) → write_rules m n ≡ yes ws → read_rules m.edition ws ≡ yes m

-- the frame s of the message m, "padding and reserved octets zeroed", at full length
abbrev pub zeroed_frame : Message → List ℕ → List ℕ
zeroed_frame m s = zeroed 0 head s ++ (zeroed 0 (payload m.edition m.kind m.count m.dst m.src) (drop (size head) s) ++ padding m.kind m.count)

-- writing what was read gives the same frame, so zeroed, for every octet list that reading accepts
abbrev pub WritesRead : Type 0
WritesRead =
    (e : Edition) (s : List ℕ) (m : Message) → Octets s → read_rules e s ≡ yes m
    → (n : ℕ) → write_rules m n ≡ check (leb (length_in m) n) 15 (yes (zeroed_frame m s))

-- each refusal has a number of its own
abbrev pub NumbersDiffer : Type 0
NumbersDiffer = (x y : Refusal) → number_of x ≡ number_of y → x ≡ y

-- each answer of reading has a meaning of its own, with whatever stands beside
abbrev pub AnswersDiffer : Type 0
AnswersDiffer = (e : Edition) (a b : Result code.Message Refusal) (g : Beside) → answer_of e a g ≡ answer_of e b g → a ≡ b

-- each answer of writing has a meaning of its own
abbrev pub WrittenDiffer : Type 0
WrittenDiffer = (a b : Result ℕ Refusal) → checked_of a ≡ checked_of b → a ≡ b

-- a car that a frame names has a unicast address
abbrev pub CarsUnicast : Type 0
CarsUnicast = (e : Edition) (s : List ℕ) (c : CarAddress) → car_of (read_rules e s) ≡ some c → is_unicast c.0 ≡ true
