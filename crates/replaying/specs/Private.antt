-- What the contracts of private functions cite, and no public one.
use Rattle.std.specs.Prelude.{ℕ, ◌≤◌, ◌≡◌, true, List, length, Option, IfSome}
use Rattle.std.specs.Bool.{then_some}
use Rattle.messages.specs.Reading.{yes}
use Rattle.rules.specs.declared.Station.{Station}
use Rattle.rules.specs.Invariant.{Invariant}
use Rattle.script.specs.Replies.{longest_reply}
use Rattle.session_log.specs.Meaning.{Item, first_in}
use Rattle.session_log.specs.Layout.{most_octets, head_at, behind, items_at}
use Rattle.session_log.specs.Reading.{ends_at, event_rules, item_rules}
use Rattle.replaying.specs.Replaying.{call_of, after, is_reply}

-- a station, and an output that the longest reply just fits
pub record Ready (station : Station) (out : List ℕ) : Type 0 where
  pub kept : Invariant station
  pub output : length out ≡ longest_reply

-- an event and a reply that stand in a log s; the event's kind is one that a log has
pub record Stand (s : List ℕ) (event reply : ℕ) : Type 0 where
  pub short : length s ≤ most_octets
  pub event_ends : behind s event ≤ length s
  pub reply_ends : behind s reply ≤ length s
  pub kind : first_in (head_at s event) ≤ 4

-- n events and as many replies that stand in a log s from two places; every event is right
pub record Listed (s : List ℕ) (n event reply : ℕ) : Type 0 where
  pub short : length s ≤ most_octets
  pub events_end : ℕ
  pub events : ends_at s n event events_end ≡ true
  pub replies_end : ℕ
  pub replies : ends_at s n reply replies_end ≡ true
  pub right : item_rules event_rules (items_at s n event) ≡ yes tt

-- the station after the event e, where the reply r is the one to it
pub record Turned (station : Station) (e r : Item) (t : Option Station) : Type 0 where
  pub left : t ≡ then_some (is_reply station (call_of e) r) (after station (call_of e))
  pub kept : IfSome t Invariant
