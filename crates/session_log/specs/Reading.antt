-- Reading a log: document 01's causes in their order.
use Rattle.std.specs.Prelude.{ℕ, zero, suc, Bool, true, cond, not, ◌&&◌, ◌||◌, List, [], ◌∷◌, eqb, leb, length, get_or}
use Rattle.octets.specs.Octets.{low_value}
use Rattle.messages.specs.Reading.{Checked, yes, check}
use Rattle.ends.specs.Outcomes.{and_then}
use Rattle.session_log.specs.declared.Configuration.{Configuration}
use Rattle.session_log.specs.Meaning.{Item, Log, head_of, first_in, second_in, length_in}
use Rattle.session_log.specs.Layout.{most_octets, head_octets, events_start, configuration_in, behind, items_at}

-- ---- the head

-- the number of events
abbrev pub count_in : List ℕ → ℕ
count_in s = low_value s 0 4

-- the number of replies
abbrev pub reply_count_in : List ℕ → ℕ
reply_count_in s = low_value s 4 4

-- where the events start
abbrev pub events_in : List ℕ → ℕ
events_in s = low_value s 8 4

-- where the replies start
abbrev pub replies_in : List ℕ → ℕ
replies_in s = low_value s 12 4

-- the total length
abbrev pub total_in : List ℕ → ℕ
total_in s = low_value s 16 4

-- ---- causes 1 to 6: the parts stand back to back

-- whether the n items from `at` end at e: a list some of whose octets would stand behind the log's end ends nowhere
unfoldable pub ends_at : List ℕ → ℕ → ℕ → ℕ → Bool
ends_at s zero at e = eqb at e
ends_at s (suc n) at e = leb (behind s at) (length s) && ends_at s n (behind s at) e

-- the head's five numbers, by where the lists end
unfoldable pub part_rules : List ℕ → Checked (Unit {0})
part_rules s =
    check (leb (length s) most_octets) 1
    (check (leb head_octets (length s)) 2
    (check (eqb (reply_count_in s) (count_in s)) 3
    (check (eqb (events_in s) events_start) 4
    (check (ends_at s (count_in s) events_start (replies_in s)) 5
    (check (eqb (total_in s) (length s) && ends_at s (count_in s) (replies_in s) (length s)) 6 (yes tt))))))

-- ---- causes 8 to 14: the fields in order

-- a setting is 1 or 0
abbrev pub is_setting : ℕ → Bool
is_setting n = leb n 1

-- each setting of a configuration is 1 or 0
abbrev pub is_set : Configuration → Bool
is_set c = is_setting c.exemption && is_setting c.edition

-- the kind of a frame, which has any octets
abbrev pub frame_kind : ℕ
frame_kind = 0

-- the kind of a tick, which has a reading
abbrev pub tick_kind : ℕ
tick_kind = 1

-- the kind of a pilot change, which has a reading and one octet
abbrev pub pilot_kind : ℕ
pilot_kind = 2

-- the rules of an item: its head, whether its octets are all there, and the first of them
abbrev pub Rules : Type 0
Rules = List ℕ → Bool → ℕ → Checked (Unit {0})

-- how many octets an event has that is no frame: a pilot change 1, and every other none
abbrev pub own_length : ℕ → ℕ
own_length k = cond (eqb k pilot_kind) 1 0

-- a reading is 0 but for a tick and a pilot change
abbrev pub is_timed : List ℕ → Bool
is_timed h = eqb (first_in h) tick_kind || eqb (first_in h) pilot_kind || eqb (second_in h) 0

-- a length is that of the kind
abbrev pub is_sized : List ℕ → Bool
is_sized h = eqb (first_in h) frame_kind || eqb (length_in h) (own_length (first_in h))

-- a pilot change's octet is a pilot state's number
abbrev pub is_pilot : List ℕ → ℕ → Bool
is_pilot h octet = not (eqb (first_in h) pilot_kind) || leb octet 5

-- those of an event
unfoldable pub event_rules : Rules
event_rules h whole octet =
    check (leb (first_in h) 4) 9
    (check (is_timed h) 10
    (check (is_sized h && whole) 11
    (check (is_pilot h octet) 12 (yes tt))))

-- an indication is 0 to 2, and 0 beside a refusal
abbrev pub is_indicated : List ℕ → Bool
is_indicated h = leb (second_in h) 2 && (eqb (first_in h) 0 || eqb (second_in h) 0)

-- a reply has no frames beside a refusal
abbrev pub is_framed : List ℕ → Bool
is_framed h = eqb (first_in h) 0 || eqb (length_in h) 0

-- those of a reply; none of its octets is looked at
unfoldable pub reply_rules : Rules
reply_rules h whole octet = check (is_indicated h) 13 (check (is_framed h && whole) 14 (yes tt))

-- items one after the other
unfoldable pub item_rules : Rules → List Item → Checked (Unit {0})
item_rules f [] = yes tt
item_rules f (x ∷ xs) = and_then (f (head_of x) true (get_or x.octets 0 0)) (λ (_ : Unit {0}). item_rules f xs)

-- the settings, then the events, then the replies
unfoldable pub field_rules : Log → Checked Log
field_rules l =
    check (is_set l.configuration) 8
    (and_then (item_rules event_rules l.events) (λ (_ : Unit {0}).
    and_then (item_rules reply_rules l.replies) (λ (_ : Unit {0}). yes l)))

-- ---- the whole

-- what stands in the octets s
abbrev pub log_in : List ℕ → Log
log_in s = record { configuration = configuration_in s; events = items_at s (count_in s) events_start; replies = items_at s (count_in s) (replies_in s) }

-- the one rule of reading: octets give a log or a cause
unfoldable pub read_rules : List ℕ → Checked Log
read_rules s = and_then (part_rules s) (λ (_ : Unit {0}). field_rules (log_in s))
