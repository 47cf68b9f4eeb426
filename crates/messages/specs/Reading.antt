-- Reading a frame: document 01's refusals 1 to 6 in their order, the group values, the identifiers, and the car that a frame names.
use Rattle.std.specs.Prelude.{ℕ, ◌+◌, Bool, true, false, cond, List, [], ◌∷◌, eqb, leb, ltb, length, drop, replicate}
use Rattle.std.proofs.Math.Option.{Option, none, some}
use Rattle.octets.specs.Octets.{value}
use Rattle.messages.specs.Layout.{Values, size, holds, read}
use Rattle.messages.specs.Table.{Kind, slac_parm_req, slac_parm_cnf, start_atten_char_ind, atten_char_ind, atten_char_rsp, mnbc_sound_ind, validate_req, validate_cnf, slac_match_req, slac_match_cnf, atten_profile_ind, group_count, id_octets, is_count, type_of, count_at, head, filled_size, written_size, payload, Message, addressed}
use Rattle.messages.specs.declared.Edition.{Edition}
use Rattle.messages.specs.declared.Edition.TheVariants.{Iso, Sae}
use Rattle.messages.specs.declared.CarAddress.{CarAddress}

-- "numbers given back instead of an answer": a refusal's number, or the answer
pub data Checked (A : Type 0) : Type 0 where
  no : ℕ → Checked A
  yes : A → Checked A

module _ {A : Type 0} where
  -- the number n unless the test passes; an order of refusals is a nesting of these
  abbrev pub check : Bool → ℕ → Checked A → Checked A
  check true n x = x
  check false n x = no n

-- the first of some kinds that has the type t
abbrev pub of_type : ℕ → List Kind → Option Kind
of_type t [] = none
of_type t (k ∷ ks) = cond (eqb t (type_of k)) (some k) (of_type t ks)

-- the rows of the table
abbrev pub kinds : List Kind
kinds = slac_parm_req ∷ slac_parm_cnf ∷ start_atten_char_ind ∷ atten_char_ind ∷ atten_char_rsp ∷ mnbc_sound_ind ∷ validate_req ∷ validate_cnf ∷ slac_match_req ∷ slac_match_cnf ∷ atten_profile_ind ∷ []

-- a frame's kind, and how many group values it has
pub record Form : Type 0 where
  pub kind : Kind
  pub count : ℕ

-- the group count where its octet stands in the payload: the ISO edition's is fixed, and tested with the other fixed octets;
-- the SAE edition's is read, 1 where the frame ends before it, 6 where it is none
abbrev pub count_rules : Edition → Option ℕ → List ℕ → Checked ℕ
count_rules e none s = yes 0
count_rules Iso (some at) s = yes group_count
count_rules Sae (some at) s =
    check (ltb (size head + at) (length s)) 1
    (check (is_count Sae (value s (size head + at) 1)) 6
    (yes (value s (size head + at) 1)))

-- by kind and group count, a frame of n octets: 1 where the payload is short, then 4
abbrev pub sized : Kind → ℕ → Checked ℕ → Checked Form
sized k n (no x) = no x
sized k n (yes g) = check (leb (filled_size k g) n) 1 (check (leb n (written_size k g)) 4 (yes (record { kind = k; count = g })))

-- by the type: 3, then by the group count and the sizes
abbrev pub typed : Edition → Option Kind → List ℕ → Checked Form
typed e none s = no 3
typed e (some k) s = sized k (length s) (count_rules e (count_at k) s)

-- the type that the head names
abbrev pub type_in : List ℕ → ℕ
type_in s = (read 0 head s).1.1.0

module _ {A : Type 0} where
  -- under 19 octets 1, the head's fixed octets 2, then what follows
  abbrev pub headed : List ℕ → Checked A → Checked A
  headed s x = check (leb (size head) (length s)) 1 (check (holds 0 head s) 2 x)

-- a frame's type
unfoldable pub type_rules : List ℕ → Checked ℕ
type_rules s = headed s (yes (type_in s))

-- a frame's form, by the type
unfoldable pub kind_rules : Edition → List ℕ → Checked Form
kind_rules e s = headed s (typed e (of_type (type_in s) kinds) s)

-- by the payload octets p, for the frame's destination d and source f: 5, then 6
abbrev pub payload_rules : Edition → Kind → ℕ → ℕ → ℕ → List ℕ → Checked Message
payload_rules e k g d f p =
    check (addressed e k g d f (read 0 (payload e k g d f) p)) 5
    (check (holds 0 (payload e k g d f) p) 6
    (yes (record { edition = e; kind = k; count = g; dst = d; src = f; values = read 0 (payload e k g d f) p })))

-- the form that was found, and then the payload behind the head
abbrev pub frame_rules : Edition → Checked Form → List ℕ → Checked Message
frame_rules e (no n) s = no n
frame_rules e (yes t) s = payload_rules e t.kind t.count (read 0 head s).0 (read 0 head s).1.0 (drop (size head) s)

-- the one rule of reading: a frame's octets give a message or a refusal's number
unfoldable pub read_rules : Edition → List ℕ → Checked Message
read_rules e s = frame_rules e (kind_rules e s) s

-- no group values: zeros
unfoldable pub no_groups : List ℕ
no_groups = replicate group_count 0

-- no identifier: zeros
unfoldable pub no_id : List ℕ
no_id = replicate id_octets 0

-- what a message holds beside its numbers: group values and two identifiers
pub record Beside : Type 0 where
  pub groups : List ℕ
  pub first : List ℕ
  pub second : List ℕ

-- nothing beside: zeros
abbrev pub no_beside : Beside
no_beside = record { groups = no_groups; first = no_id; second = no_id }

-- a message's, zeros where its kind has none
abbrev pub beside_in : (e : Edition) (k : Kind) (g d f : ℕ) → Values (payload e k g d f) → Beside
beside_in e slac_parm_req g d f vs = no_beside
beside_in e slac_parm_cnf g d f vs = no_beside
beside_in e start_atten_char_ind g d f vs = no_beside
beside_in e atten_char_ind g d f vs = record { groups = vs.1.1.1.1.0; first = vs.1.0; second = vs.1.1.0 }
beside_in e atten_char_rsp g d f vs = record { groups = no_groups; first = vs.1.0; second = vs.1.1.0 }
beside_in e mnbc_sound_ind g d f vs = record { groups = no_groups; first = vs.0; second = no_id }
beside_in e validate_req g d f vs = no_beside
beside_in e validate_cnf g d f vs = no_beside
beside_in e slac_match_req g d f vs = record { groups = no_groups; first = vs.0; second = vs.1.0 }
beside_in e slac_match_cnf g d f vs = record { groups = no_groups; first = vs.0; second = vs.1.0 }
beside_in e atten_profile_ind g d f vs = record { groups = vs.1.0; first = no_id; second = no_id }

-- what stands beside the numbers of what was read
abbrev pub beside_of : Checked Message → Beside
beside_of (no n) = no_beside
beside_of (yes m) = beside_in m.edition m.kind m.count m.dst m.src m.values

-- "car" of a message: PROFILE's octets 0-5, else the source of a message that cars send
abbrev pub car_in : (e : Edition) (k : Kind) (g d f : ℕ) → Values (payload e k g d f) → Option CarAddress
car_in e slac_parm_req g d f vs = some (record { 0 = f })
car_in e slac_parm_cnf g d f vs = none
car_in e start_atten_char_ind g d f vs = some (record { 0 = f })
car_in e atten_char_ind g d f vs = none
car_in e atten_char_rsp g d f vs = some (record { 0 = f })
car_in e mnbc_sound_ind g d f vs = some (record { 0 = f })
car_in e validate_req g d f vs = some (record { 0 = f })
car_in e validate_cnf g d f vs = none
car_in e slac_match_req g d f vs = some (record { 0 = f })
car_in e slac_match_cnf g d f vs = none
car_in e atten_profile_ind g d f vs = some (record { 0 = vs.0 })

-- the car that a frame's octets name: a frame that can't be read names none
abbrev pub car_of : Checked Message → Option CarAddress
car_of (no n) = none
car_of (yes m) = car_in m.edition m.kind m.count m.dst m.src m.values
