-- Proof of the table of cases, by computing.
use mathlib.Core.Path.{refl}
use Rattle.octets.specs.Octets.{value, bytes, low_value, low_bytes}
use Rattle.amplitude.specs.Runs.{every}
use Rattle.amplitude.specs.Halves.{halves, packed}
use Rattle.amplitude.specs.Reading.{read_rules}
use Rattle.amplitude.specs.Writing.{frame, write_rules}
use Rattle.amplitude.specs.Reductions.{reduction, reductions, reduce_rules}
use Rattle.amplitude.specs.Cases.{result_of, table, AllHold}

pub cases_hold : AllHold
unfolding value bytes low_value low_bytes every halves packed read_rules frame write_rules reduction reductions reduce_rules result_of table
cases_hold = refl
