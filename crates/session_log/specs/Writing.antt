-- Writing a log: what the writer is given, and document 01's causes in their order.
use Rattle.std.specs.Prelude.{ℕ, ◌+◌, ◌^◌, Bool, ◌&&◌, List, [], ◌∷◌, map, eqb, leb, ltb, length, get_or, take, drop}
use Rattle.messages.specs.Reading.{Checked, yes, check}
use Rattle.ends.specs.Lists.{joins}
use Rattle.ends.specs.Outcomes.{and_then}
use Rattle.session_log.specs.declared.Configuration.{Configuration}
use Rattle.session_log.specs.declared.Session.{Session}
use Rattle.session_log.specs.Meaning.{Item, Log, head_of, length_in, item_of}
use Rattle.session_log.specs.Layout.{most_octets, item_octets, events_start, log_octets}
use Rattle.session_log.specs.Reading.{is_set, Rules, event_rules, reply_rules}

-- heads of events and of replies, each three numbers, and the octets of all events and of all replies back to back
pub record Given : Type 0 where
  pub configuration : Configuration
  pub events : List (List ℕ)
  pub event_octets : List ℕ
  pub replies : List (List ℕ)
  pub reply_octets : List ℕ

-- these five
abbrev pub given : Configuration → List (List ℕ) → List ℕ → List (List ℕ) → List ℕ → Given
given c es s rs t = record { configuration = c; events = es; event_octets = s; replies = rs; reply_octets = t }

-- what a session gives
abbrev pub given_in : Session → Given
given_in x = given x.configuration x.events.now x.octets.now x.replies.now x.frames.now

-- the items that heads and octets mean
unfoldable pub items_of : List (List ℕ) → List ℕ → List Item
items_of [] s = []
items_of (h ∷ hs) s = item_of h (take (length_in h) s) ∷ items_of hs (drop (length_in h) s)

-- the log that is meant
abbrev pub log_of : Given → Log
log_of g = record { configuration = g.configuration; events = items_of g.events g.event_octets; replies = items_of g.replies g.reply_octets }

-- the octets of all items, back to back and without their heads
abbrev pub item_octets_of : List Item → List ℕ
item_octets_of xs = joins (λ (x : Item). x.octets) xs

-- what is given to write a log
abbrev pub given_by : Log → Given
given_by l = given l.configuration (map head_of l.events) (item_octets_of l.events) (map head_of l.replies) (item_octets_of l.replies)

-- how many octets the items take, by the lengths
unfoldable pub size_of : List (List ℕ) → ℕ
size_of [] = 0
size_of (h ∷ hs) = item_octets + length_in h + size_of hs

-- how many the log takes
abbrev pub total_of : Given → ℕ
total_of g = events_start + size_of g.events + size_of g.replies

-- no value is wider than its field
abbrev pub is_narrow : Configuration → Bool
is_narrow c = ltb c.address.0 (2 ^ 48) && ltb c.modem.0 (2 ^ 48) && ltb c.nid.0 (2 ^ 56)

-- whether the octets of the item h are all there, with the heads hs behind it and the octets s left: at the last item no more than these are left
abbrev pub is_whole : List ℕ → List (List ℕ) → List ℕ → Bool
is_whole h [] s = eqb (length s) (length_in h)
is_whole h (k ∷ hs) s = leb (length_in h) (length s)

-- items one after the other, with the octets s left; octets that no item has are refused with n
unfoldable pub given_rules : Rules → ℕ → List (List ℕ) → List ℕ → Checked (Unit {0})
given_rules f n [] s = check (eqb (length s) 0) n (yes tt)
given_rules f n (h ∷ hs) s = and_then (f h (is_whole h hs s) (get_or (take (length_in h) s) 0 0)) (λ (_ : Unit {0}). given_rules f n hs (drop (length_in h) s))

-- causes 1 to 14
unfoldable pub meaning_rules : Given → Checked Log
meaning_rules g =
    check (leb (total_of g) most_octets) 1
    (check (eqb (length g.replies) (length g.events)) 3
    (check (is_narrow g.configuration) 7
    (check (is_set g.configuration) 8
    (and_then (given_rules event_rules 11 g.events g.event_octets) (λ (_ : Unit {0}).
    and_then (given_rules reply_rules 14 g.replies g.reply_octets) (λ (_ : Unit {0}). yes (log_of g)))))))

-- writing to an output of n octets: the octets of the log or a cause
unfoldable pub write_rules : Given → ℕ → Checked (List ℕ)
write_rules g n = and_then (meaning_rules g) (λ (l : Log). check (leb (total_of g) n) 15 (yes (log_octets l)))
