-- What is proved of the definitions: the two round trips, that one meaning has one layout, which causes there are, and that answers are told apart.
use Rattle.std.specs.Prelude.{ℕ, ◌<◌, ◌^◌, ◌≡◌, Bool, true, false, ◌||◌, List, [], ◌∷◌, eqb, leb, length, Result}
use Rattle.octets.specs.Octets.{Octets}
use Rattle.messages.specs.Reading.{no, yes, check}
use Rattle.ends.specs.Lists.{All}
use Rattle.session_log.specs.declared.Cause.{Cause}
use Rattle.session_log.specs.declared.Places.{Places}
use Rattle.session_log.specs.Meaning.{Log, first_in, second_in}
use Rattle.session_log.specs.Reading.{read_rules}
use Rattle.session_log.specs.Writing.{Given, log_of, given_by, write_rules}
use Rattle.session_log.specs.Answers.{number_of, answer_of}

-- a head as its type has it: three numbers of 32 bits, of which the causes limit the length
pub record IsHead (h : List ℕ) : Type 0 where
  pub three : length h ≡ 3
  pub first : first_in h < 2 ^ 32
  pub second : second_in h < 2 ^ 32

-- what is given, as its types have it: heads, an NMK of two numbers of 64 bits, and carriers of 32
pub record Typed (g : Given) : Type 0 where
  pub events : All IsHead g.events
  pub replies : All IsHead g.replies
  pub high : g.configuration.nmk.0 < 2 ^ 64
  pub low : g.configuration.nmk.1 < 2 ^ 64
  pub carriers : g.configuration.carriers < 2 ^ 32

-- reading what was written gives the log that was meant
abbrev pub ReadsWritten : Type 0
ReadsWritten = (g : Given) (n : ℕ) (ws : List ℕ) → Typed g → write_rules g n ≡ yes ws → read_rules ws ≡ yes (log_of g)

-- writing what was read gives the same octets
abbrev pub WritesRead : Type 0
WritesRead = (s : List ℕ) (l : Log) → Octets s → read_rules s ≡ yes l → (n : ℕ) → write_rules (given_by l) n ≡ check (leb (length s) n) 15 (yes s)

-- one meaning has one layout
abbrev pub OneLayout : Type 0
OneLayout = (s t : List ℕ) (l : Log) → Octets s → Octets t → read_rules s ≡ yes l → read_rules t ≡ yes l → s ≡ t

-- whether n is one of some numbers
abbrev pub is_one_of : ℕ → List ℕ → Bool
is_one_of n [] = false
is_one_of n (k ∷ ks) = eqb n k || is_one_of n ks

-- "reading never gives 7 or 15"
abbrev pub ReadingCauses : Type 0
ReadingCauses = (s : List ℕ) (n : ℕ) → read_rules s ≡ no n → is_one_of n (1 ∷ 2 ∷ 3 ∷ 4 ∷ 5 ∷ 6 ∷ 8 ∷ 9 ∷ 10 ∷ 11 ∷ 12 ∷ 13 ∷ 14 ∷ []) ≡ true

-- "writing never 2, 4, 5 or 6"
abbrev pub WritingCauses : Type 0
WritingCauses = (g : Given) (k n : ℕ) → write_rules g k ≡ no n → is_one_of n (1 ∷ 3 ∷ 7 ∷ 8 ∷ 9 ∷ 10 ∷ 11 ∷ 12 ∷ 13 ∷ 14 ∷ 15 ∷ []) ≡ true

-- each cause has a number of its own
abbrev pub NumbersDiffer : Type 0
NumbersDiffer = (x y : Cause) → number_of x ≡ number_of y → x ≡ y

-- each answer of reading has a meaning of its own
abbrev pub AnswersDiffer : Type 0
AnswersDiffer = (a b : Result Places Cause) → answer_of a ≡ answer_of b → a ≡ b

-- each answer of writing has a meaning of its own
abbrev pub WrittenDiffer : Type 0
WrittenDiffer = (a b : Result ℕ Cause) → answer_of a ≡ answer_of b → a ≡ b
