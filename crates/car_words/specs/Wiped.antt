-- A car whose words are wiped: nothing of it is left, and it answers 16 to everything.
use Rattle.std.specs.Prelude.{ℕ, ◌≡◌, List, replicate}
use Rattle.messages.specs.Reading.{no}
use Rattle.car_rules.specs.Calls.{Call}
use Rattle.car_rules.specs.Rules.{outcome, key_query}
use Rattle.car_words.specs.Words.{word_count, car_of}

-- the words v after a wipe
pub record Wiped (v : List ℕ) : Type 0 where
  -- every word is 0
  pub words : v ≡ replicate word_count 0
  -- "answers 16 to everything"
  pub calls : (x : Call) → outcome (car_of v) x ≡ no 16
  pub query : key_query (car_of v) ≡ no 16
