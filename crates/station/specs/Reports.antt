-- The records after a tick, their reports and their confirmations, as the code gives them.
use Rattle.std.specs.Prelude.{ℕ, ◌*◌, ◌≤◌, ◌≡◌, Bool, true, List, map, length}
use Rattle.octets.specs.Octets.{splice}
use Rattle.messages.specs.Table.{atten_char_ind, validate_cnf, group_count, written_size, is_unicast}
use Rattle.rules.specs.declared.Configuration.{Configuration}
use Rattle.rules.specs.declared.Record.{Record}
use Rattle.ends.specs.Lists.{All}
use Rattle.ends.specs.Outcomes.{joined}
use Rattle.rules.specs.Replies.{is_report, is_confirmation}
use Rattle.rules.specs.Ticks.{tick_record, frames_of_all}
use Rattle.rules.specs.Invariant.{GoodRecord}
use Rattle.station.specs.declared.all_records.TickedRecords.{TickedRecords}

-- how many octets a report takes at most, and a confirmation
abbrev pub report_size : ℕ
report_size = written_size atten_char_ind group_count

abbrev pub confirmation_size : ℕ
confirmation_size = written_size validate_cnf 0

-- a record to whose car the station can send
pub record Sendable (o : Configuration) (r : Record) : Type 0 where
  pub address : is_unicast o.address.0 ≡ true
  pub car : is_unicast r.car.0 ≡ true
  pub good : GoodRecord o.edition r

-- w stands in the output from its first octet, and is n octets long
pub record Writes (n : ℕ) (w entry exit : List ℕ) : Type 0 where
  pub octets : exit ≡ splice 0 w entry
  pub size : length w ≡ n

-- records to whose cars can be sent, and an output with room for a report of each
pub record Ready (o : Configuration) (rs : List Record) (out : List ℕ) : Type 0 where
  pub address : is_unicast o.address.0 ≡ true
  pub good : All (GoodRecord o.edition) rs
  pub room : report_size * length rs ≤ length out

-- the frames fs stand in the output from its first octet, k of them, of m octets in all
pub record Sent (fs : List (List ℕ)) (entry exit : List ℕ) (k m : ℕ) : Type 0 where
  pub count : k ≡ length fs
  pub size : m ≡ length (joined fs)
  pub octets : exit ≡ splice 0 (joined fs) entry

-- t and the output from entry to exit are what the records come to after e milliseconds, with their reports
pub record Ticks (o : Configuration) (b : Bool) (e : ℕ) (rs : List Record) (entry exit : List ℕ) (t : TickedRecords) : Type 0 where
  pub records : t.records ≡ map (tick_record b e) rs
  pub sent : Sent (frames_of_all is_report o b e rs) entry exit t.reports t.octets
  pub few : t.octets ≤ report_size * t.reports

-- records to whose cars can be sent, and an output with room for their confirmations
pub record Confirmable (o : Configuration) (b : Bool) (e : ℕ) (rs : List Record) (out : List ℕ) : Type 0 where
  pub address : is_unicast o.address.0 ≡ true
  pub good : All (GoodRecord o.edition) rs
  pub room : confirmation_size * length (frames_of_all is_confirmation o b e rs) ≤ length out

-- n confirmations stand in the output
abbrev pub Confirms : Configuration → Bool → ℕ → List Record → List ℕ → List ℕ → ℕ → Type 0
Confirms o b e rs entry exit n = Sent (frames_of_all is_confirmation o b e rs) entry exit n (confirmation_size * n)
