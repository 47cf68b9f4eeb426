-- Writing a message: its frame, and document 01's refusals 5, 6 and 15 in their order.
use Rattle.std.specs.Prelude.{ℕ, ◌-◌, Bool, ◌&&◌, List, [], ◌++◌, leb, length, replicate}
use Rattle.messages.specs.Layout.{encode, fits}
use Rattle.messages.specs.Table.{Kind, type_of, count_at, head, filled_size, written_size, payload, Message, is_counted, addressed}
use Rattle.messages.specs.Reading.{Checked, no, yes, check}

-- the octets of a message's frame head
abbrev pub head_octets : Message → List ℕ
head_octets m = encode head (m.dst, (m.src, (type_of m.kind, tt)))

-- the octets of its payload
abbrev pub payload_octets : Message → List ℕ
payload_octets m = encode (payload m.edition m.kind m.count m.dst m.src) m.values

-- the zeros behind the payload, up to the length of a written frame
abbrev pub padding : Kind → ℕ → List ℕ
padding k g = replicate (written_size k g - filled_size k g) 0

-- a message's frame
unfoldable pub frame : Message → List ℕ
frame m = head_octets m ++ (payload_octets m ++ padding m.kind m.count)

-- source, destination and PROFILE's car are of the right kind
abbrev pub is_addressed : Message → Bool
is_addressed m = addressed m.edition m.kind m.count m.dst m.src m.values

-- its group count is right, and every value fits its field: NID, a timer and a result are below their limits, group values past the count are zero
abbrev pub is_limited : Message → Bool
is_limited m = is_counted m.edition (count_at m.kind) m.count && fits (payload m.edition m.kind m.count m.dst m.src) m.values

-- the octets of a message's written frame
abbrev pub length_in : Message → ℕ
length_in m = written_size m.kind m.count

-- writing a message to an output of n octets: its frame or a refusal's number
unfoldable pub write_rules : Message → ℕ → Checked (List ℕ)
write_rules m n = check (is_addressed m) 5 (check (is_limited m) 6 (check (leb (length_in m) n) 15 (yes (frame m))))

-- how many octets were written
abbrev pub length_of : Checked (List ℕ) → Checked ℕ
length_of (no n) = no n
length_of (yes ws) = yes (length ws)

-- the octets that were written: none where writing refuses
abbrev pub octets_of : Checked (List ℕ) → List ℕ
octets_of (no n) = []
octets_of (yes ws) = ws
