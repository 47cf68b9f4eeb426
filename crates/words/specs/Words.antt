-- A station as words, sums and spread: what any three lists of numbers mean.
use Rattle.std.specs.Prelude.{ℕ, zero, suc, ◌+◌, ◌*◌, ◌-◌, ◌^◌, ◌%◌, min, max, Bool, true, false, cond, ◌&&◌, eqb, length, get_or, drop}
use mathlib.Core.List.{List, [], ◌∷◌, map, zip_with}
use Rattle.octets.specs.Octets.{part}
use Rattle.messages.specs.declared.Edition.{Edition}
use Rattle.messages.specs.declared.Edition.TheVariants.{Iso, Sae}
use Rattle.messages.specs.Table.{group_count, is_unicast}
use Rattle.rules.specs.declared.Configuration.{Configuration}
use Rattle.rules.specs.declared.Phase.{Phase}
use Rattle.rules.specs.declared.Pilot.{Pilot}
use Rattle.rules.specs.declared.Phase.TheVariants.{Asked, Sounding, Reported, Awaiting, Ready, Counting, Success}
use Rattle.rules.specs.declared.Record.{Record}
use Rattle.rules.specs.declared.Spread.{Spread}
use Rattle.rules.specs.declared.State.{State}
use Rattle.rules.specs.declared.State.TheVariants.{Unmatched, Matching, Joining, Matched}
use Rattle.rules.specs.declared.Station.{Station}
use Rattle.ends.specs.Constants.{retry_count}
use Rattle.rules.specs.Constants.{asked_time, sounding_time, sounds_per_try, reported_time, awaiting_time, ready_time, window_step, window_count, success_time, most_toggles, record_count}
use Rattle.ends.specs.Lists.{only}
use Rattle.ends.specs.Words.{time_within, runs}
use Rattle.rules.specs.Numbers.{pilot_of, edition_of}
use Rattle.rules.specs.Records.{is_held, groups_in}
use Rattle.rules.specs.Rules.{may_reply}
use Rattle.rules.specs.Stations.{shared, build}

-- ---- the layout

-- how many words the head has: good, our address, the modem's, NID, NMK's two numbers, state, its time, its car, its run, pilot, clock, exempt, edition, carriers
abbrev pub head_count : ℕ
head_count = 15

-- how many words a record has: held, car, run, phase, its time, its retries or toggles, heard, profiles, whether a later try, group count
abbrev pub width : ℕ
width = 10

-- how many words a station has
abbrev pub word_count : ℕ
word_count = head_count + width * record_count

-- the place of the last record
abbrev pub last_place : ℕ
last_place = record_count - 1

-- how many sums a station has
abbrev pub sum_count : ℕ
sum_count = group_count * record_count

-- how many octets of the spread a record has: its least values, then its greatest
abbrev pub spread_width : ℕ
spread_width = 2 * group_count

-- how many octets the spread of a station has
abbrev pub spread_count : ℕ
spread_count = spread_width * record_count

-- ---- the head

-- the configuration: good only where replies can be sent
unfoldable pub config_of : List ℕ → Configuration
config_of w = record {
  good = eqb (get_or w 0 0) 1 && may_reply (record { 0 = get_or w 1 0 }) (record { 0 = get_or w 2 0 }) (record { 0 = get_or w 3 0 });
  address = record { 0 = get_or w 1 0 };
  modem = record { 0 = get_or w 2 0 };
  nid = record { 0 = get_or w 3 0 };
  nmk = record { 0 = get_or w 4 0; 1 = get_or w 5 0 };
  exempt = eqb (get_or w 12 0) 1;
  edition = edition_of (get_or w 13 0);
  carriers = get_or w 14 0 % 2 ^ 32;
}

-- its identity, what a frame is judged by: zeros and no exemption stand for the rest
abbrev pub identity : Configuration → Configuration
identity o = record {
  good = o.good;
  address = o.address;
  modem = o.modem;
  nid = record { 0 = 0 };
  nmk = record { 0 = 0; 1 = 0 };
  exempt = false;
  edition = o.edition;
  carriers = 0;
}

-- its edition
abbrev pub edition_in : List ℕ → Edition
edition_in w = (config_of w).edition

-- a state by its number, with its time, its car and its run: any other number is Unmatched
unfoldable pub state_by : ℕ → ℕ → ℕ → ℕ → State
state_by k t car run =
    cond (eqb k 1) (Matching (t % 2 ^ 32))
    (cond (eqb k 2) (Joining (t % 2 ^ 32) (record { 0 = car }) (record { 0 = run }))
    (cond (eqb k 3) (Matched (record { 0 = car }))
    Unmatched))

-- the state
abbrev pub state_of : List ℕ → State
state_of w = state_by (get_or w 6 0) (get_or w 7 0) (get_or w 8 0) (get_or w 9 0)

-- the pilot state
abbrev pub pilot_in : List ℕ → Pilot
pilot_in w = pilot_of (get_or w 10 0)

-- the clock
abbrev pub clock_in : List ℕ → ℕ
clock_in w = get_or w 11 0 % 2 ^ 32

-- ---- a record

-- a count of one at least, and of so many at most
abbrev pub some_of : ℕ → ℕ → ℕ
some_of most n = min most (max 1 n)

-- whether the try is a later one: with ISO never
abbrev pub later_of : Edition → ℕ → Bool
later_of Iso n = false
later_of Sae n = eqb n 1

-- counting, with its time and its toggles, by whether a toggle has begun
abbrev pub counting_of : ℕ → ℕ → Bool → Phase
counting_of t n b = Counting (time_within (window_step * window_count) t) (min most_toggles n) b

-- the phases by number, in an edition and by whether the try is a later one, with their time and their retries or toggles
abbrev pub phases_of : Edition → Bool → ℕ → ℕ → List Phase
phases_of e l t n =
    Asked (time_within asked_time t)
    ∷ Sounding (time_within (sounding_time e l) t)
    ∷ Reported (time_within reported_time t) (min retry_count n)
    ∷ Awaiting (time_within awaiting_time t)
    ∷ Ready (time_within ready_time t)
    ∷ counting_of t n false
    ∷ counting_of t n true
    ∷ Success (time_within success_time t)
    ∷ []

-- a phase by its number: any other number is Asked, the first of them
unfoldable pub phase_of : Edition → Bool → ℕ → ℕ → ℕ → Phase
phase_of e l k t n = get_or (phases_of e l t n) k (Asked (time_within asked_time t))

-- the profiles counted: as many as the try and the phase allow, and one at least where a report was made of them
unfoldable pub profiles_of : Edition → Bool → Phase → ℕ → ℕ
profiles_of e l (Asked t) n = 0
profiles_of e l (Sounding t) n = min (sounds_per_try e l - 1) n
profiles_of e l (Reported t k) n = some_of (sounds_per_try e l) n
profiles_of e l (Awaiting t) n = some_of (sounds_per_try e l) n
profiles_of e l (Ready t) n = some_of (sounds_per_try e l) n
profiles_of e l (Counting t k b) n = some_of (sounds_per_try e l) n
profiles_of e l (Success t) n = some_of (sounds_per_try e l) n

-- the group count, by the profiles counted: none before a profile is counted, and with ISO always
abbrev pub groups_of : Edition → ℕ → ℕ → ℕ
groups_of Iso n g = 0
groups_of Sae zero g = 0
groups_of Sae (suc n) g = some_of group_count g

-- the greatest sum of so many profiles
abbrev pub most_sum : ℕ → ℕ
most_sum profiles = 255 * profiles

-- the first g, and 0 for each of the others
unfoldable pub only_first : ℕ → List ℕ → List ℕ
only_first g [] = []
only_first zero (x ∷ s) = 0 ∷ only_first zero s
only_first (suc g) (x ∷ s) = x ∷ only_first g s

-- the sums: those of the first g groups, each as much as the profiles allow
unfoldable pub sums_of : ℕ → ℕ → List ℕ → List ℕ
sums_of profiles g s = only_first g (map (min (most_sum profiles)) s)

-- the spread of its octets: any are values
unfoldable pub spread_of : List ℕ → Spread
spread_of x = record { least = part x 0 group_count; greatest = part x group_count group_count }

-- the record of its words, its sums and its spread, in an edition: only a unicast car holds one
unfoldable pub record_of : Edition → List ℕ → List ℕ → List ℕ → Record
record_of e w s x =
    let later = later_of e (get_or w 8 0) in
    let phase = phase_of e later (get_or w 3 0) (get_or w 4 0) (get_or w 5 0) in
    let profiles = profiles_of e later phase (get_or w 7 0) in
    let groups = groups_of e profiles (get_or w 9 0) in
    record {
      car = record { 0 = get_or w 1 0 };
      run = record { 0 = get_or w 2 0 };
      held = eqb (get_or w 0 0) 1 && is_unicast (get_or w 1 0);
      phase = phase;
      heard = get_or w 6 0 % 2 ^ sounds_per_try e later;
      profiles = profiles;
      sums = sums_of profiles (groups_in e groups) s;
      spread = spread_of x;
      later = later;
      groups = groups;
    }

-- the words of each record, behind the head
abbrev pub word_runs : List ℕ → List (List ℕ)
word_runs w = runs record_count width (drop head_count w)

-- the sums of each
abbrev pub sum_runs : List ℕ → List (List ℕ)
sum_runs s = runs record_count group_count s

-- the spread of each
abbrev pub spread_runs : List ℕ → List (List ℕ)
spread_runs x = runs record_count spread_width x

-- a record by its spread
abbrev pub BySpread : Type 0
BySpread = List ℕ → Record

-- the records of their words and sums in the head's edition, each by its spread
abbrev pub by_spread : List ℕ → List ℕ → List BySpread
by_spread w s = zip_with (record_of (edition_in w)) (word_runs w) (sum_runs s)

-- one of them, given its spread
abbrev pub given : BySpread → List ℕ → Record
given f x = f x

-- the records
unfoldable pub records_of : List ℕ → List ℕ → List ℕ → List Record
records_of w s x = zip_with given (by_spread w s) (spread_runs x)

-- how many records are held
abbrev pub held_count : List Record → ℕ
held_count rs = length (only is_held rs)

-- ---- the station

-- the station of its words, its sums and its spread
unfoldable pub station_of : List ℕ → List ℕ → List ℕ → Station
station_of w s x = record {
  config = config_of w;
  state = state_of w;
  pilot = pilot_in w;
  clock = clock_in w;
  records = records_of w s x;
}

-- the station with other records
abbrev pub with_records : Station → List Record → Station
with_records s rs = build (shared s) (record { state = s.state; records = rs })

-- the station in another state, with the pilot state and the clock
abbrev pub in_state : State → Pilot → ℕ → Station → Station
in_state state pilot clock s = build (record { config = s.config; pilot = pilot; clock = clock }) (record { state = state; records = s.records })
