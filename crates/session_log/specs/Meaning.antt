-- The meaning of a log: a configuration, events and replies.
use Rattle.std.specs.Prelude.{ℕ, List, [], ◌∷◌, length, get_or}
use Rattle.session_log.specs.declared.Configuration.{Configuration}

-- an event: kind, reading and octets; or a reply: refusal or 0, indication and the octets of its frames
pub record Item : Type 0 where
  pub first : ℕ
  pub second : ℕ
  pub octets : List ℕ

pub record Log : Type 0 where
  pub configuration : Configuration
  pub events : List Item
  pub replies : List Item

-- an item's head: its two numbers, and the length of its octets
abbrev pub head_of : Item → List ℕ
head_of x = x.first ∷ x.second ∷ length x.octets ∷ []

-- the numbers of a head: an event's kind or a reply's refusal
abbrev pub first_in : List ℕ → ℕ
first_in h = get_or h 0 0

-- an event's reading or a reply's indication
abbrev pub second_in : List ℕ → ℕ
second_in h = get_or h 1 0

-- the length
abbrev pub length_in : List ℕ → ℕ
length_in h = get_or h 2 0

-- the item with the head h and the octets s
abbrev pub item_of : List ℕ → List ℕ → Item
item_of h s = record { first = first_in h; second = second_in h; octets = s }
