-- The replay of a log: a station carries its events out, and each reply is held to the recorded one.
use Rattle.std.specs.Prelude.{ℕ, ◌+◌, Bool, true, false, cond, ◌&&◌, List, [], ◌∷◌, eqb, get_or}
use Rattle.std.proofs.Math.Option.{Option, none, some}
use Rattle.messages.specs.Reading.{Checked, no, yes}
use Rattle.ends.specs.Answers.{indication_number}
use Rattle.ends.specs.Outcomes.{Outcome, joined, and_then}
use Rattle.rules.specs.declared.Station.{Station}
use Rattle.rules.specs.Calls.{Call}
use Rattle.rules.specs.Constants.{least_output}
use Rattle.rules.specs.Numbers.{edition_of}
use Rattle.rules.specs.Rules.{configured, step, outcome}
use Rattle.script.specs.Events.{call, query}
use Rattle.script.specs.Layout.{Event, kinds}
use Rattle.session_log.specs.declared.Configuration.{Configuration}
use Rattle.session_log.specs.Meaning.{Item, Log}
use Rattle.session_log.specs.Reading.{read_rules}

-- ---- the station and its calls

-- the station that a log's configuration gives: of a bad one too
abbrev pub station_of : Configuration → Station
station_of c = configured c.address c.modem c.nid c.nmk (eqb c.exemption 1) (edition_of c.edition) c.carriers

-- the call that an event of a script is
abbrev pub call_in : Option Event → Option Call
call_in none = none
call_in (some (call x)) = some x
call_in (some (query c)) = none

-- the call that an event of a log is: that of a script's event of the same kind, reading and octets, with the least output as its room
unfoldable pub call_of : Item → Option Call
call_of e = call_in (get_or (kinds e.second least_output e.octets) e.first none)

-- ---- replies

-- the reply that a log records to an outcome: refusal or 0, indication or 0, and the frames back to back
abbrev pub recorded : Outcome → Item
recorded (no n) = record { first = n; second = 0; octets = [] }
recorded (yes x) = record { first = 0; second = indication_number x.indication; octets = joined x.frames }

-- whether octets are the same
unfoldable pub same_octets : List ℕ → List ℕ → Bool
same_octets [] [] = true
same_octets [] (y ∷ ys) = false
same_octets (x ∷ xs) [] = false
same_octets (x ∷ xs) (y ∷ ys) = eqb x y && same_octets xs ys

-- whether refusal, indication and frames of two replies are the same
abbrev pub same_reply : Item → Item → Bool
same_reply x y = eqb x.first y.first && (eqb x.second y.second && same_octets x.octets y.octets)

-- ---- the replay

-- the station after an event's call
abbrev pub after : Station → Option Call → Station
after s none = s
after s (some x) = step s x

-- whether the reply r is the one to an event's call: what is no call has none
abbrev pub is_reply : Station → Option Call → Item → Bool
is_reply s none r = false
is_reply s (some x) r = same_reply (recorded (outcome s x)) r

-- the number of the first event whose recorded reply differs, where the first event of the list has the number k; 0 if none does
unfoldable pub difference_from : ℕ → Station → List Item → List Item → ℕ
difference_from k s [] rs = 0
difference_from k s (e ∷ es) [] = 0
difference_from k s (e ∷ es) (r ∷ rs) = cond (is_reply s (call_of e) r) (difference_from (k + 1) (after s (call_of e)) es rs) k

-- the same, with the numbers from 1
abbrev pub first_difference : Station → List Item → List Item → ℕ
first_difference s es rs = difference_from 1 s es rs

-- the first difference in a log
abbrev pub difference_in : Log → ℕ
difference_in l = first_difference (station_of l.configuration) l.events l.replies

-- what the replay of octets answers: the cause by which they are no log, or the first difference
unfoldable pub replay_rules : List ℕ → Checked ℕ
replay_rules s = and_then (read_rules s) (λ (l : Log). yes (difference_in l))
