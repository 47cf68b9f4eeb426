-- Reading a frame of amplitude maps: the refusals in their order, the values of a request, and the car that a frame names.
use Rattle.std.specs.Prelude.{ℕ, cond, List, eqb, leb, ltb, length, get_or, take}
use Rattle.std.proofs.Math.Option.{Option, none, some}
use Rattle.octets.specs.Octets.{value, low_value, part}
use Rattle.messages.specs.declared.CarAddress.{CarAddress}
use Rattle.messages.specs.Layout.{size, read}
use Rattle.messages.specs.Table.{head, padded_size}
use Rattle.messages.specs.Reading.{Checked, no, yes, check, type_in, headed}
use Rattle.amplitude.specs.Halves.{halves, octets_for}
use Rattle.amplitude.specs.Maps.{MapMessage, amp_map_req, amp_map_cnf, req_type, cnf_type, is_carriers, count_size, req_size, cnf_size, filled, result_limit, is_addressed}

-- the frame's destination and source
abbrev pub dst_in : List ℕ → ℕ
dst_in s = (read 0 head s).0

abbrev pub src_in : List ℕ → ℕ
src_in s = (read 0 head s).1.0

module _ {A : Type 0} where
  -- where head and payload take n octets: 1 for a frame that is shorter, then 4, then 5, then what follows
  abbrev pub sized : ℕ → List ℕ → Checked A → Checked A
  sized n s x =
      check (leb n (length s)) 1
      (check (leb (length s) (padded_size n)) 4
      (check (is_addressed (dst_in s) (src_in s)) 5 x))

-- the octets of a frame that hold n values
abbrev pub map_octets : ℕ → List ℕ → List ℕ
map_octets n s = part s (filled count_size) (octets_for n)

-- a request of n carriers: n "outside 1 to 1,155 (6)", payload short (1), 4, 5, then 6 where "an odd n's last high half" is not zero
abbrev pub request_of : ℕ → List ℕ → Checked MapMessage
request_of n s =
    check (is_carriers n) 6
    (sized (filled (req_size n)) s
    (check (eqb (get_or (halves (map_octets n s)) n 0) 0) 6
    (yes (amp_map_req (dst_in s) (src_in s) (take n (halves (map_octets n s)))))))

-- "under 21 (1)", then by AMLEN
abbrev pub request_rules : List ℕ → Checked MapMessage
request_rules s = check (leb (filled count_size) (length s)) 1 (request_of (low_value s (size head) count_size) s)

-- a confirmation: 1, 4, 5, then 6 where the result is neither success nor failure
abbrev pub confirm_rules : List ℕ → Checked MapMessage
confirm_rules s =
    sized (filled cnf_size) s
    (check (ltb (value s (size head) cnf_size) result_limit) 6
    (yes (amp_map_cnf (dst_in s) (src_in s) (value s (size head) cnf_size))))

-- by the type: another one is 3
abbrev pub type_rules : ℕ → List ℕ → Checked MapMessage
type_rules t s = cond (eqb t req_type) (request_rules s) (cond (eqb t cnf_type) (confirm_rules s) (no 3))

-- the one rule of reading: "under 19 (1), 2, 3", then by the message
unfoldable pub read_rules : List ℕ → Checked MapMessage
read_rules s = headed s (type_rules (type_in s) s)

-- ---- what a reader is told of a message: the number of carriers, not their values

pub data Summary : Type 0 where
  requested : ℕ → ℕ → ℕ → Summary
  confirmed : ℕ → ℕ → ℕ → Summary

abbrev pub summary_in : MapMessage → Summary
summary_in (amp_map_req d f vs) = requested d f (length vs)
summary_in (amp_map_cnf d f x) = confirmed d f x

abbrev pub summary_of : Checked MapMessage → Checked Summary
summary_of (no n) = no n
summary_of (yes m) = yes (summary_in m)

-- ---- the values call

-- the values of what was read, for a slice of n octets: "reading's refusals, then 15 where the slice is shorter"; 3 for a CNF, which has none
abbrev pub values_in : Checked MapMessage → ℕ → Checked (List ℕ)
values_in (no x) n = no x
values_in (yes (amp_map_req d f vs)) n = check (leb (length vs) n) 15 (yes vs)
values_in (yes (amp_map_cnf d f x)) n = no 3

-- the same of a frame
unfoldable pub values_rules : List ℕ → ℕ → Checked (List ℕ)
values_rules s n = values_in (read_rules s) n

-- ---- the car that a frame names

-- "a REQ names its source as car"
abbrev pub car_in : MapMessage → Option CarAddress
car_in (amp_map_req d f vs) = some (record { 0 = f })
car_in (amp_map_cnf d f x) = none

-- a frame that can't be read names none
abbrev pub car_of : Checked MapMessage → Option CarAddress
car_of (no n) = none
car_of (yes m) = car_in m
