-- What holds of every station: configuring gives it, every call keeps it, and it is all that a call requires.
use Rattle.std.specs.Prelude.{ℕ, zero, suc, ◌*◌, ◌^◌, ◌<◌, ◌≤◌, ◌≡◌, Bool, true, false, get_or}
use Rattle.octets.specs.Octets.{Octets}
use Rattle.messages.specs.declared.Edition.{Edition}
use Rattle.messages.specs.declared.Edition.TheVariants.{Iso, Sae}
use Rattle.messages.specs.Table.{is_count, is_unicast}
use Rattle.rules.specs.declared.Configuration.{Configuration}
use Rattle.rules.specs.declared.Phase.{Phase}
use Rattle.rules.specs.declared.Phase.TheVariants.{Asked, Sounding, Reported, Awaiting, Ready, Counting, Success}
use Rattle.rules.specs.declared.Record.{Record}
use Rattle.rules.specs.declared.Station.{Station}
use Rattle.ends.specs.Constants.{retry_count}
use Rattle.rules.specs.Constants.{asked_time, sounding_time, sounds_per_try, reported_time, awaiting_time, ready_time, window_step, window_count, success_time, most_toggles}
use Rattle.ends.specs.Lists.{All}
use Rattle.rules.specs.Calls.{Call, frame, tick, pilot, terminate, link_up}
use Rattle.rules.specs.Records.{is_held, groups_in}

-- a time left: above 0 and at most the phase's start value
abbrev pub Within : ℕ → ℕ → Type 0
Within t most = (0 < t) × (t ≤ most)

-- profiles of which a report can be made, in a try of so many sounds
abbrev pub Reportable : ℕ → ℕ → Type 0
Reportable most n = (1 ≤ n) × (n ≤ most)

-- what a phase says, in an edition and by whether the try is a later one, of its time, its retries or toggles, and the profiles counted
abbrev pub InPhase : Edition → Bool → Phase → ℕ → Type 0
InPhase e l (Asked t) n = Within t asked_time × (n ≡ 0)
InPhase e l (Sounding t) n = Within t (sounding_time e l) × (n < sounds_per_try e l)
InPhase e l (Reported t k) n = Within t reported_time × ((k ≤ retry_count) × Reportable (sounds_per_try e l) n)
InPhase e l (Awaiting t) n = Within t awaiting_time × Reportable (sounds_per_try e l) n
InPhase e l (Ready t) n = Within t ready_time × Reportable (sounds_per_try e l) n
InPhase e l (Counting t k b) n = Within t (window_step * window_count) × ((k ≤ most_toggles) × Reportable (sounds_per_try e l) n)
InPhase e l (Success t) n = Within t success_time × Reportable (sounds_per_try e l) n

-- a record's try: with ISO first, always
abbrev pub TryFits : Edition → Bool → Type 0
TryFits Iso later = later ≡ false
TryFits Sae later = Unit {0}

-- its group count, by the profiles counted: "none before a profile is counted", and with ISO always
abbrev pub GroupsFit : Edition → ℕ → ℕ → Type 0
GroupsFit Iso n g = g ≡ 0
GroupsFit Sae zero g = g ≡ 0
GroupsFit Sae (suc n) g = is_count Sae g ≡ true

-- one record, held or free, of a station in an edition
pub record GoodRecord (e : Edition) (r : Record) : Type 0 where
  pub sums : (i : ℕ) → get_or r.sums i 0 ≤ 255 * r.profiles
  -- no group past the record's count has a sum
  pub past : (i : ℕ) → groups_in e r.groups ≤ i → get_or r.sums i 0 ≡ 0
  pub try : TryFits e r.later
  pub groups : GroupsFit e r.profiles r.groups
  pub phase : InPhase e r.later r.phase r.profiles
  pub heard : r.heard < 2 ^ sounds_per_try e r.later
  pub car : is_held r ≡ true → is_unicast r.car.0 ≡ true

-- a configuration that is marked good
pub record GoodConfiguration (o : Configuration) : Type 0 where
  pub address : o.good ≡ true → is_unicast o.address.0 ≡ true
  pub modem : o.good ≡ true → is_unicast o.modem.0 ≡ true
  pub different : o.good ≡ true → o.address.0 ≡ o.modem.0 → ⊥
  pub nid : o.good ≡ true → o.nid.0 < 2 ^ 54

-- the configuration and every record
pub record Invariant (s : Station) : Type 0 where
  pub config : GoodConfiguration s.config
  pub records : All (GoodRecord s.config.edition) s.records

-- what a call's arguments are: a frame's octets are octets
abbrev pub OctetCall : Call → Type 0
OctetCall (frame s room) = Octets s
OctetCall (tick t room) = Unit {0}
OctetCall (pilot p t) = Unit {0}
OctetCall terminate = Unit {0}
OctetCall link_up = Unit {0}
