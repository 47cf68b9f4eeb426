-- The eleven messages, as document 01 lists them, the nine and the two of validation, in the ISO and in the SAE edition: types, sizes, the frame head, address kinds, payload octets, destinations.
use Rattle.std.specs.Prelude.{ℕ, ◌+◌, ◌-◌, ◌^◌, ◌/◌, ◌%◌, max, Bool, true, false, not, cond, ◌&&◌, ◌||◌, List, [], ◌∷◌, eqb, leb, ltb}
use Rattle.std.proofs.Math.Option.{Option, none, some}
use Rattle.messages.specs.Layout.{Field, is, number, such, low, free, octets, reserved, Values, size}
use Rattle.messages.specs.declared.Edition.{Edition}
use Rattle.messages.specs.declared.Edition.TheVariants.{Iso, Sae}

-- the eleven messages by name: CM_SLAC_PARM.REQ is slac_parm_req
pub data Kind : Type 0 where
  slac_parm_req slac_parm_cnf start_atten_char_ind atten_char_ind atten_char_rsp mnbc_sound_ind validate_req validate_cnf slac_match_req slac_match_cnf atten_profile_ind : Kind

-- how many group values ATTEN_PROFILE has at most: 3A
abbrev pub group_count : ℕ
group_count = 58

-- how many octets an identifier has
abbrev pub id_octets : ℕ
id_octets = 17

-- ---- where the editions differ

-- NUM_SOUNDS and Time_Out, as their two octets stand
abbrev pub iso_attempt : ℕ
iso_attempt = 0x0A06

-- the same of the SAE edition's first try and of a later one
abbrev pub first_attempt : ℕ
first_attempt = 0x0802

abbrev pub later_attempt : ℕ
later_attempt = 0x100A

-- the tries of an edition
abbrev pub is_attempt : Edition → ℕ → Bool
is_attempt Iso v = eqb v iso_attempt
is_attempt Sae v = eqb v first_attempt || eqb v later_attempt

-- RESP_TYPE: 01, another station is told; in the SAE edition 00
abbrev pub resp_type : Edition → ℕ
resp_type Iso = 1
resp_type Sae = 0

-- FORWARDING_STA: the car; in the SAE edition, where RESP_TYPE is 00, none
abbrev pub forwarding : Edition → ℕ → ℕ
forwarding Iso a = a
forwarding Sae a = 0

-- identifiers are zero; in the SAE edition any octets
abbrev pub any_id : Edition → Bool
any_id Iso = false
any_id Sae = true

-- the group count is 3A; in the SAE edition 1 to 3A
abbrev pub is_count : Edition → ℕ → Bool
is_count Iso g = eqb g group_count
is_count Sae g = leb 1 g && leb g group_count

-- ---- the table

-- the column Type
abbrev pub type_of : Kind → ℕ
type_of slac_parm_req = 0x6064
type_of slac_parm_cnf = 0x6065
type_of start_atten_char_ind = 0x606A
type_of atten_char_ind = 0x606E
type_of atten_char_rsp = 0x606F
type_of mnbc_sound_ind = 0x6076
type_of validate_req = 0x6078
type_of validate_cnf = 0x6079
type_of slac_match_req = 0x607C
type_of slac_match_cnf = 0x607D
type_of atten_profile_ind = 0x6086

-- the octet of the payload that holds the group count, where a message has group values
abbrev pub count_at : Kind → Option ℕ
count_at slac_parm_req = none
count_at slac_parm_cnf = none
count_at start_atten_char_ind = none
count_at atten_char_ind = some 51
count_at atten_char_rsp = none
count_at mnbc_sound_ind = none
count_at validate_req = none
count_at validate_cnf = none
count_at slac_match_req = none
count_at slac_match_cnf = none
count_at atten_profile_ind = some 6

-- the column Payload, for g group values
abbrev pub payload_size : Kind → ℕ → ℕ
payload_size slac_parm_req g = 10
payload_size slac_parm_cnf g = 25
payload_size start_atten_char_ind g = 19
payload_size atten_char_ind g = 52 + g
payload_size atten_char_rsp g = 51
payload_size mnbc_sound_ind g = 52
payload_size validate_req g = 3
payload_size validate_cnf g = 3
payload_size slac_match_req g = 66
payload_size slac_match_cnf g = 90
payload_size atten_profile_ind g = 8 + g

-- the frame head: destination, source, 88 E1 01, type low octet first (any two octets), 00 00
abbrev pub head : List Field
head = number 6 ∷ number 6 ∷ is 3 0x88E101 ∷ low 2 (2 ^ 16) ∷ is 2 0 ∷ []

-- head and payload together
abbrev pub filled_size : Kind → ℕ → ℕ
filled_size k g = size head + payload_size k g

-- the length of a written frame with so many octets of head and payload: "the larger of 60" and these
abbrev pub padded_size : ℕ → ℕ
padded_size n = max 60 n

-- the same of a message
abbrev pub written_size : Kind → ℕ → ℕ
written_size k g = padded_size (filled_size k g)

-- the broadcast address: six FF
abbrev pub broadcast : ℕ
broadcast = 0xFFFFFFFFFFFF

-- a unicast address: 48 bits, not all zero, an even first octet
abbrev pub is_unicast : ℕ → Bool
is_unicast a = not (eqb a 0) && ltb a (2 ^ 48) && eqb (a / 2 ^ 40 % 2) 0

-- whom a validate request goes to: one, or all
abbrev pub is_receiver : ℕ → Bool
is_receiver d = eqb d broadcast || is_unicast d

-- the first number that is no timer of a request to d: to one the timer is 00
abbrev pub timer_limit : ℕ → ℕ
timer_limit d = cond (eqb d broadcast) 256 1

-- the first number that is no result of validation: at most 04
abbrev pub result_limit : ℕ
result_limit = 5

-- an identifier
abbrev pub identifier : Edition → Field
identifier e = free id_octets (any_id e)

-- g group values
abbrev pub group_values : ℕ → Field
group_values g = octets g (group_count - g)

-- octets 0-65 of both match messages, with MVFLength as its two octets stand, the car, the station, and the fields behind
abbrev pub match_fields : Edition → ℕ → ℕ → ℕ → List Field → List Field
match_fields e length car station fs = is 2 0 ∷ is 2 length ∷ identifier e ∷ is 6 car ∷ identifier e ∷ is 6 station ∷ number 8 ∷ reserved 8 ∷ fs

-- octets 66-89 of MATCH.CNF: NID below 2^54 (octet 72 at most 3F), a reserved octet, NMK
abbrev pub key_fields : List Field
key_fields = low 7 (2 ^ 54) ∷ reserved 1 ∷ number 8 ∷ number 8 ∷ []

-- a message's payload octets in an edition, with g group values, for the frame's destination d and source f
abbrev pub payload : Edition → Kind → ℕ → ℕ → ℕ → List Field
payload e slac_parm_req g d f = is 2 0 ∷ number 8 ∷ []
payload e slac_parm_cnf g d f = is 6 broadcast ∷ such 2 (is_attempt e) ∷ is 1 (resp_type e) ∷ is 6 (forwarding e d) ∷ is 2 0 ∷ number 8 ∷ []
payload e start_atten_char_ind g d f = is 2 0 ∷ such 2 (is_attempt e) ∷ is 1 (resp_type e) ∷ is 6 (forwarding e f) ∷ number 8 ∷ []
payload e mnbc_sound_ind g d f = is 2 0 ∷ identifier e ∷ number 1 ∷ number 8 ∷ reserved 8 ∷ number 8 ∷ number 8 ∷ []
payload e atten_char_ind g d f = is 2 0 ∷ is 6 d ∷ number 8 ∷ identifier e ∷ identifier e ∷ number 1 ∷ is 1 g ∷ group_values g ∷ []
payload e atten_char_rsp g d f = is 2 0 ∷ is 6 f ∷ number 8 ∷ identifier e ∷ identifier e ∷ is 1 0x00 ∷ []
payload e atten_profile_ind g d f = number 6 ∷ is 1 g ∷ reserved 1 ∷ group_values g ∷ []
payload e validate_req g d f = is 1 0x00 ∷ low 1 (timer_limit d) ∷ is 1 0x01 ∷ []
payload e validate_cnf g d f = is 1 0x00 ∷ number 1 ∷ low 1 result_limit ∷ []
payload e slac_match_req g d f = match_fields e 0x3E00 f d []
payload e slac_match_cnf g d f = match_fields e 0x5600 d f key_fields

-- a message: its edition, its kind, how many group values it has (0 where its kind has none), the frame's destination and source, and what its payload leaves open
pub record Message : Type 0 where
  pub edition : Edition
  pub kind : Kind
  pub count : ℕ
  pub dst : ℕ
  pub src : ℕ
  pub values : Values (payload edition kind count dst src)

-- a group count is right for the octet that holds it
abbrev pub is_counted : Edition → Option ℕ → ℕ → Bool
is_counted e none g = eqb g 0
is_counted e (some at) g = is_count e g

-- the column Destination, with a unicast source and PROFILE's unicast car (else refusal 5)
abbrev pub addressed : (e : Edition) (k : Kind) (g d f : ℕ) → Values (payload e k g d f) → Bool
addressed e slac_parm_req g d f vs = is_unicast f && eqb d broadcast
addressed e slac_parm_cnf g d f vs = is_unicast f && is_unicast d
addressed e start_atten_char_ind g d f vs = is_unicast f && eqb d broadcast
addressed e atten_char_ind g d f vs = is_unicast f && is_unicast d
addressed e atten_char_rsp g d f vs = is_unicast f && is_unicast d
addressed e mnbc_sound_ind g d f vs = is_unicast f && eqb d broadcast
addressed e validate_req g d f vs = is_unicast f && is_receiver d
addressed e validate_cnf g d f vs = is_unicast f && is_unicast d
addressed e slac_match_req g d f vs = is_unicast f && is_unicast d
addressed e slac_match_cnf g d f vs = is_unicast f && is_unicast d
addressed e atten_profile_ind g d f vs = is_unicast f && is_unicast d && is_unicast vs.0
