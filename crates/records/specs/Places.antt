-- Where a car's record stands among the records, by its index.
use Rattle.std.specs.Prelude.{ℕ, not, List, Option, Some, None, position}
use Rattle.messages.specs.declared.CarAddress.{CarAddress}
use Rattle.rules.specs.declared.Record.{Record}
use Rattle.rules.specs.Records.{is_held, holds}
use Rattle.records.specs.declared.find.Found.{Found}
use Rattle.records.specs.declared.find.Found.TheVariants.{Own, Free, Nothing}

-- the place of the first record that car c holds
abbrev pub own_place : CarAddress → List Record → Option ℕ
own_place c rs = position (holds c) rs

-- the first free place
abbrev pub free_place : List Record → Option ℕ
free_place rs = position (λ (r : Record). not (is_held r)) rs

-- the own place, or else the free one, or neither
abbrev pub or_free : Option ℕ → Option ℕ → Found
or_free (Some i) q = Own i
or_free None (Some i) = Free i
or_free None None = Nothing

-- the place of the car's own record, or else the first free one, or neither
unfoldable pub place_of : CarAddress → List Record → Found
place_of c rs = or_free (own_place c rs) (free_place rs)
