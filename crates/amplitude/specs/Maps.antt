-- The two messages of amplitude maps (ISO 15118-3, table A.9): types, counts, sizes, payload octets, addresses.
use Rattle.std.specs.Prelude.{ℕ, ◌+◌, Bool, ◌&&◌, List, [], ◌∷◌, ◌++◌, leb, ltb, length}
use Rattle.octets.specs.Octets.{low_bytes}
use Rattle.messages.specs.Layout.{size}
use Rattle.messages.specs.Table.{head, is_unicast}
use Rattle.amplitude.specs.Halves.{packed, octets_for, are_halves}

-- CM_AMP_MAP.REQ with a value for each carrier, CM_AMP_MAP.CNF with its result's octet, each behind the frame's destination and source
pub data MapMessage : Type 0 where
  amp_map_req : ℕ → ℕ → List ℕ → MapMessage
  amp_map_cnf : ℕ → ℕ → ℕ → MapMessage

-- the column Type
abbrev pub req_type : ℕ
req_type = 0x601C

abbrev pub cnf_type : ℕ
cnf_type = 0x601D

abbrev pub type_of : MapMessage → ℕ
type_of (amp_map_req d f vs) = req_type
type_of (amp_map_cnf d f x) = cnf_type

-- the frame's destination
abbrev pub destination : MapMessage → ℕ
destination (amp_map_req d f vs) = d
destination (amp_map_cnf d f x) = d

-- and its source
abbrev pub source : MapMessage → ℕ
source (amp_map_req d f vs) = f
source (amp_map_cnf d f x) = f

-- the most carriers
abbrev pub carrier_limit : ℕ
carrier_limit = 1155

-- "n the number of carriers", AMLEN: "from 1 to 1,155"
abbrev pub is_carriers : ℕ → Bool
is_carriers n = leb 1 n && leb n carrier_limit

-- the octets of AMLEN
abbrev pub count_size : ℕ
count_size = 2

-- the column Payload: AMLEN, and a half-octet for each of n carriers
abbrev pub req_size : ℕ → ℕ
req_size n = count_size + octets_for n

abbrev pub cnf_size : ℕ
cnf_size = 1

abbrev pub payload_size : MapMessage → ℕ
payload_size (amp_map_req d f vs) = req_size (length vs)
payload_size (amp_map_cnf d f x) = cnf_size

-- head and payload together, for a payload of p octets
abbrev pub filled : ℕ → ℕ
filled p = size head + p

-- the first number that is no result: "00 success or 01 failure"
abbrev pub result_limit : ℕ
result_limit = 2

-- the values of a map: as many as there can be carriers, each in a half-octet
abbrev pub is_map : List ℕ → Bool
is_map vs = is_carriers (length vs) && are_halves vs

-- what refusal 6 does not concern
abbrev pub is_limited : MapMessage → Bool
is_limited (amp_map_req d f vs) = is_map vs
is_limited (amp_map_cnf d f x) = ltb x result_limit

-- source and destination, both "unicast" (else refusal 5)
abbrev pub is_addressed : ℕ → ℕ → Bool
is_addressed d f = is_unicast f && is_unicast d

-- the payload's octets: "n, low octet first", then the values two by two; the result
abbrev pub payload : MapMessage → List ℕ
payload (amp_map_req d f vs) = low_bytes count_size (length vs) ++ packed vs
payload (amp_map_cnf d f x) = x ∷ []
