-- Writing a message of amplitude maps: its frame, and the refusals 5, 6 and 15 in their order.
use Rattle.std.specs.Prelude.{ℕ, ◌-◌, List, ◌++◌, leb, replicate}
use Rattle.messages.specs.Layout.{encode}
use Rattle.messages.specs.Table.{head, padded_size}
use Rattle.messages.specs.Reading.{Checked, yes, check}
use Rattle.amplitude.specs.Maps.{MapMessage, type_of, destination, source, payload_size, filled, is_limited, is_addressed, payload}

-- the octets before the payload
abbrev pub head_octets : MapMessage → List ℕ
head_octets m = encode head (destination m, (source m, (type_of m, tt)))

-- the zeros behind a payload of p octets
abbrev pub padding : ℕ → List ℕ
padding p = replicate (padded_size (filled p) - filled p) 0

-- the length of a written frame
abbrev pub length_in : MapMessage → ℕ
length_in m = padded_size (filled (payload_size m))

-- a message's frame: head, payload, padding
unfoldable pub frame : MapMessage → List ℕ
frame m = head_octets m ++ (payload m ++ padding (payload_size m))

-- writing a message to an output of n octets: "5, then n outside 1 to 1,155 or a value over 15 (6), then 15"
unfoldable pub write_rules : MapMessage → ℕ → Checked (List ℕ)
write_rules m n =
    check (is_addressed (destination m) (source m)) 5
    (check (is_limited m) 6
    (check (leb (length_in m) n) 15
    (yes (frame m))))
