-- A station whose words are wiped: nothing of it is left, and it answers 16 to everything.
use Rattle.std.specs.Prelude.{◌≡◌, List, ℕ, replicate}
use Rattle.messages.specs.declared.CarAddress.{CarAddress}
use Rattle.messages.specs.Reading.{no}
use Rattle.rules.specs.Calls.{Call}
use Rattle.rules.specs.Rules as rules
use Rattle.rules.specs.Rules.{outcome}
use Rattle.words.specs.Words.{word_count, sum_count, spread_count, station_of}

-- the words v, sums t and spread y after a wipe
pub record Wiped (v t y : List ℕ) : Type 0 where
  -- every word, every sum and every octet of the spread is 0
  pub words : v ≡ replicate word_count 0
  pub sums : t ≡ replicate sum_count 0
  pub spread : y ≡ replicate spread_count 0
  -- "answers 16 to everything"
  pub calls : (x : Call) → outcome (station_of v t y) x ≡ no 16
  pub query : (c : CarAddress) → rules.query (station_of v t y) c ≡ no 16
