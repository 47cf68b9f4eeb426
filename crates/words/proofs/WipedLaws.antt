-- A station of zeros is badly configured, so that it answers 16 to everything.
use Prim.Native.Nat.{ℕ}
use mathlib.Core.Path.{◌≡◌, refl, ap, ◌∙◌}
use mathlib.Core.Bool.{false}
use mathlib.Core.List.{List}
use lib.ListN.{replicate}
use Rattle.messages.specs.declared.CarAddress.{CarAddress}
use Rattle.messages.specs.Reading.{no}
use Rattle.rules.specs.declared.Station.{Station}
use Rattle.rules.specs.Calls.{Call}
use Rattle.rules.specs.Rules as rules
use Rattle.rules.specs.Rules.{outcome}
use Rattle.rules.specs.Stations.{shared, inner}
use Rattle.rules.proofs.Refusals.{bad_refuses}
use Rattle.ends.specs.Outcomes.{outcome_of}
use Rattle.words.specs.Words.{word_count, sum_count, spread_count, config_of, station_of}
use Rattle.words.specs.Wiped.{Wiped}

-- a badly configured station refuses every call with 16
bad_outcome : (s : Station) (x : Call) → s.config.good ≡ false → outcome s x ≡ no 16
unfolding outcome
bad_outcome s x h = ap outcome_of (bad_refuses (shared s) (inner s) x h)

-- and the query
bad_query : (s : Station) (c : CarAddress) → s.config.good ≡ false → rules.query s c ≡ no 16
unfolding rules.query
bad_query s c h = rw h

zeros_bad : (t y : List ℕ) → (station_of (replicate word_count 0) t y).config.good ≡ false
unfolding station_of config_of
zeros_bad t y = refl

pub wiped : (v t y : List ℕ) → v ≡ replicate word_count 0 → t ≡ replicate sum_count 0 → y ≡ replicate spread_count 0 → Wiped v t y
wiped v t y e f g =
    let bad : (station_of v t y).config.good ≡ false = ap (λ (w : List ℕ). (station_of w t y).config.good) e ∙ zeros_bad t y in
    record {
      words = e;
      sums = f;
      spread = g;
      calls = λ x. bad_outcome (station_of v t y) x bad;
      query = λ c. bad_query (station_of v t y) c bad;
    }
