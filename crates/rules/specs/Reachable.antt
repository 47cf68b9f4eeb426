-- What is true of every station that calls can reach from a configured one, and that no call requires.
use Rattle.std.specs.Prelude.{ℕ, ◌<◌, ◌≤◌, ◌≡◌, true, false, List, length, get_or}
use Rattle.messages.specs.declared.CarAddress.{CarAddress}
use Rattle.rules.specs.declared.Record.{Record}
use Rattle.rules.specs.declared.State.{State}
use Rattle.rules.specs.declared.State.TheVariants.{Unmatched, Matching, Joining, Matched}
use Rattle.rules.specs.declared.Station.{Station}
use Rattle.rules.specs.Records.{mine, none_held}
use Rattle.ends.specs.Lists.{only, All}
use Rattle.rules.specs.Validation.{is_validating}
use Rattle.rules.specs.Events.{plugged}

-- records are held in Matching only
abbrev pub HeldIn : State → List Record → Type 0
HeldIn Unmatched rs = none_held rs ≡ true
HeldIn (Matching a) rs = Unit {0}
HeldIn (Joining l c run) rs = none_held rs ≡ true
HeldIn (Matched c) rs = none_held rs ≡ true

-- where a profile is counted, the least value of each group is at most its greatest
abbrev pub Ordered : Record → Type 0
Ordered r = 0 < r.profiles → (i : ℕ) → get_or r.spread.least i 0 ≤ get_or r.spread.greatest i 0

pub record Reachable (s : Station) : Type 0 where
  -- no car holds two records
  pub one : (c : CarAddress) → length (mine c s.records) ≤ 1
  pub held : HeldIn s.state s.records
  -- at most one record is ready or counting
  pub validating : length (only is_validating s.records) ≤ 1
  -- with the pilot at A, E or F, and with a bad configuration, the station is Unmatched
  pub unplugged : plugged s.pilot ≡ false → s.state ≡ Unmatched
  pub bad : s.config.good ≡ false → s.state ≡ Unmatched
  pub ordered : All Ordered s.records
