-- What the contracts of private functions cite, and no public one.
use Rattle.std.specs.Prelude.{ℕ, ◌+◌, ◌*◌, ◌≤◌, ◌≡◌, true, List, [], ◌∷◌, length, get_or, drop}
use Rattle.octets.specs.Octets.{part}
use Rattle.messages.specs.Reading.{Checked, no, yes}
use Rattle.session_log.specs.declared.Configuration.{Configuration}
use Rattle.session_log.specs.declared.judging.Which.{Which}
use Rattle.session_log.specs.declared.judging.Which.TheVariants.{Events, Replies}
use Rattle.session_log.specs.Meaning.{Item, head_of, length_in, item_of}
use Rattle.session_log.specs.Layout.{most_octets, head_octets, item_octets, item_at}
use Rattle.session_log.specs.Reading.{Rules, ends_at, event_rules, reply_rules}
use Rattle.session_log.specs.Writing.{size_of, is_whole}

-- whether there is an answer, or the cause
abbrev pub told : {A : Type 0} → Checked A → Checked (Unit {0})
told (no n) = no n
told (yes x) = yes tt

-- the rules of the items of a list
abbrev pub rules_of : Which → Rules
rules_of Events = event_rules
rules_of Replies = reply_rules

-- the rules of the item that stands in s at a place
abbrev pub read_item : Which → List ℕ → ℕ → Checked (Unit {0})
read_item w s at = rules_of w (head_of (item_at s at)) true (get_or (item_at s at).octets 0 0)

-- the head i of hs
abbrev pub head_in : List (List ℕ) → ℕ → List ℕ
head_in hs i = get_or hs i []

-- the item i of hs, whose octets start in s at a place
abbrev pub item_in : List (List ℕ) → ℕ → List ℕ → ℕ → Item
item_in hs i s at = item_of (head_in hs i) (part s at (length_in (head_in hs i)))

-- the rules of that item
abbrev pub given_item : Which → List (List ℕ) → ℕ → List ℕ → ℕ → Checked (Unit {0})
given_item w hs i s at = rules_of w (head_in hs i) (is_whole (head_in hs i) (drop (i + 1) hs) (drop at s)) (get_or (item_in hs i s at).octets 0 0)

-- the cause by which octets are refused that no item of the list has
abbrev pub cause_of : Which → ℕ
cause_of Events = 11
cause_of Replies = 14

-- where a configuration's settings start: behind the NMK
abbrev pub settings_start : ℕ
settings_start = head_octets + 35

-- the settings: the exemption, the edition and our carriers
abbrev pub settings_of : Configuration → List ℕ
settings_of c = c.exemption ∷ c.edition ∷ c.carriers ∷ []

-- the first length that no log has
abbrev pub too_long : ℕ
too_long = most_octets + 1

-- heads of items that take octets from a place on, in a log that is not too long, and the octets s are those that they tell
pub record Fitting (hs : List (List ℕ)) (s : List ℕ) (from : ℕ) : Type 0 where
  pub short : from + size_of hs ≤ most_octets
  pub octets : size_of hs ≡ item_octets * length hs + length s

-- n items that stand in a log s of no more than the most octets, from `at` to some end
pub record Listed (s : List ℕ) (n at : ℕ) : Type 0 where
  pub short : length s ≤ most_octets
  pub end : ℕ
  pub ends : ends_at s n at end ≡ true
