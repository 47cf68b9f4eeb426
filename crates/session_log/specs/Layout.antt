-- The layout of a log: head, configuration, events and replies, back to back.
use Rattle.std.specs.Prelude.{ℕ, zero, suc, ◌+◌, ◌^◌, List, [], ◌∷◌, ◌++◌, length}
use Rattle.octets.specs.Octets.{low_value, low_bytes, part}
use Rattle.messages.specs.Layout.{Field, number, low, Values, read, encode}
use Rattle.ends.specs.Lists.{joins}
use Rattle.session_log.specs.declared.Configuration.{Configuration}
use Rattle.session_log.specs.Meaning.{Item, Log, head_of, length_in, item_of}

-- ---- how many octets a part takes

-- the most octets of a log
abbrev pub most_octets : ℕ
most_octets = 65536

-- the head: five numbers
abbrev pub head_octets : ℕ
head_octets = 20

-- the configuration: two addresses, NID, NMK, the exemption, the edition and our carriers
abbrev pub configuration_octets : ℕ
configuration_octets = 47

-- what stands in front of an item's own octets: three numbers
abbrev pub item_octets : ℕ
item_octets = 12

-- where the events start: where the configuration ends
abbrev pub events_start : ℕ
events_start = head_octets + configuration_octets

-- ---- numbers

-- numbers: four octets each, low one first
unfoldable pub numbers : List ℕ → List ℕ
numbers [] = []
numbers (v ∷ vs) = low_bytes 4 v ++ numbers vs

-- the n numbers that stand in s from `at`
unfoldable pub numbers_at : List ℕ → ℕ → ℕ → List ℕ
numbers_at s at zero = []
numbers_at s at (suc n) = low_value s at 4 ∷ numbers_at s (at + 4) n

-- ---- the configuration

-- our address and the modem's, as in frames; NID, low octet first; NMK; 1 where validation is not required, else 0; 1 in the SAE edition, 0 in the ISO edition; our carriers, any number
abbrev pub fields : List Field
fields = number 6 ∷ number 6 ∷ low 7 (256 ^ 7) ∷ number 8 ∷ number 8 ∷ low 4 (256 ^ 4) ∷ low 4 (256 ^ 4) ∷ low 4 (256 ^ 4) ∷ []

-- a configuration as values of these fields
abbrev pub values_of : Configuration → Values fields
values_of c = (c.address.0, (c.modem.0, (c.nid.0, (c.nmk.0, (c.nmk.1, (c.exemption, (c.edition, (c.carriers, tt))))))))

-- and back
abbrev pub configuration_of : Values fields → Configuration
configuration_of v = record {
  address = record { 0 = v.0 };
  modem = record { 0 = v.1.0 };
  nid = record { 0 = v.1.1.0 };
  nmk = record { 0 = v.1.1.1.0; 1 = v.1.1.1.1.0 };
  exemption = v.1.1.1.1.1.0;
  edition = v.1.1.1.1.1.1.0;
  carriers = v.1.1.1.1.1.1.1.0;
}

-- the configuration that stands in the log s
abbrev pub configuration_in : List ℕ → Configuration
configuration_in s = configuration_of (read head_octets fields s)

-- ---- items

-- the octets of an item: its head, and then its own
abbrev pub octets_of : Item → List ℕ
octets_of x = numbers (head_of x) ++ x.octets

-- the octets of items, back to back
abbrev pub list_octets : List Item → List ℕ
list_octets xs = joins octets_of xs

-- the head of the item that stands in s at a place
abbrev pub head_at : List ℕ → ℕ → List ℕ
head_at s at = numbers_at s at 3

-- where that item ends: its length behind its three numbers
abbrev pub behind : List ℕ → ℕ → ℕ
behind s at = at + item_octets + length_in (head_at s at)

-- the item
abbrev pub item_at : List ℕ → ℕ → Item
item_at s at = item_of (head_at s at) (part s (at + item_octets) (length_in (head_at s at)))

-- the n items that stand in s from `at`
unfoldable pub items_at : List ℕ → ℕ → ℕ → List Item
items_at s zero at = []
items_at s (suc n) at = item_at s at ∷ items_at s n (behind s at)

-- ---- the log

-- where the replies of a log start: where its events end
abbrev pub replies_start : Log → ℕ
replies_start l = events_start + length (list_octets l.events)

-- its head: the numbers of events and replies, where either starts, and the total length
abbrev pub head_numbers : Log → List ℕ
head_numbers l = length l.events ∷ length l.replies ∷ events_start ∷ replies_start l ∷ (replies_start l + length (list_octets l.replies)) ∷ []

-- its octets
unfoldable pub log_octets : Log → List ℕ
log_octets l = numbers (head_numbers l) ++ (encode fields (values_of l.configuration) ++ (list_octets l.events ++ list_octets l.replies))
