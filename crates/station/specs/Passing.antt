-- What a tick makes of a state by itself.
use Rattle.std.specs.Prelude.{ℕ, ◌-◌, cond, leb}
use Rattle.ends.specs.declared.Indication.TheVariants.{Nothing, NoLink}
use Rattle.rules.specs.declared.State.{State}
use Rattle.rules.specs.declared.State.TheVariants.{Unmatched, Matching, Joining, Matched}
use Rattle.station.specs.declared.ticks.Passed.{Passed}

-- a state after e milliseconds, and what is indicated: where "Joining fires" it is Unmatched and "no link"; what becomes of Matching is decided with its records
abbrev pub passing : ℕ → State → Passed
passing e Unmatched = record { state = Unmatched; indication = Nothing }
passing e (Matching t) = record { state = Matching t; indication = Nothing }
passing e (Joining l c run) = cond (leb l e) (record { state = Unmatched; indication = NoLink }) (record { state = Joining (l - e) c run; indication = Nothing })
passing e (Matched c) = record { state = Matched c; indication = Nothing }
