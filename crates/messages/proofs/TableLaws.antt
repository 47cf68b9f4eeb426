-- What holds of every row of the table of messages.
use Prim.Native.Nat.{ℕ, ◌+◌, ◌^◌, ◌≤◌, ◌<◌}
use mathlib.Core.Path.{◌≡◌, refl, sym, ap, ◌∙◌}
use mathlib.Core.Bool.{Bool, true, false, ◌&&◌, ◌||◌, not}
use mathlib.Core.List.{List}
use mathlib.Core.Option.{Option, none, some}
use native.Mathlib.Omega.{arith}
use borrow.Author.Tests.{eqb-true, eq-eqb, ltb-true, lt-ltb, leb-true}
use lib.Dec.{eqb, leb, ltb}
use lib.ListN.{length, drop}
use Rattle.octets.specs.Octets.{value}
use Rattle.messages.specs.Layout.{Values, size, zeros, holds}
use Rattle.messages.specs.Table.{Kind, slac_parm_req, slac_parm_cnf, start_atten_char_ind, atten_char_ind, atten_char_rsp, mnbc_sound_ind, validate_req, validate_cnf, slac_match_req, slac_match_cnf, atten_profile_ind, group_count, id_octets, any_id, is_count, type_of, count_at, payload_size, head, broadcast, is_unicast, is_receiver, payload, is_counted, addressed}
use Rattle.messages.specs.Reading.{yes, of_type, kinds, typed, count_rules}
use Rattle.messages.specs.declared.Edition.{Edition}
use Rattle.messages.specs.declared.Edition.TheVariants.{Iso, Sae}
use Rattle.octets.proofs.OctetLaws.{value_drop}
use Rattle.messages.proofs.LayoutLaws.{and_left, and_right}
use Rattle.messages.proofs.CheckLaws.{pass, passed}

-- the fields of a payload take the octets that the table says
pub size_payload : (e : Edition) (k : Kind) (g d f : ℕ) → size (payload e k g d f) ≡ payload_size k g
size_payload e slac_parm_req g d f = refl
size_payload e slac_parm_cnf g d f = refl
size_payload e start_atten_char_ind g d f = refl
size_payload e atten_char_ind g d f = omega arith
size_payload e atten_char_rsp g d f = refl
size_payload e mnbc_sound_ind g d f = refl
size_payload e validate_req g d f = refl
size_payload e validate_cnf g d f = refl
size_payload e slac_match_req g d f = refl
size_payload e slac_match_cnf g d f = refl
size_payload e atten_profile_ind g d f = omega arith

-- a payload is short: sizes can be added without wrapping
pub payload_short : (k : Kind) (g : ℕ) → g ≤ group_count → payload_size k g < 2 ^ 16
payload_short slac_parm_req g h = omega arith
payload_short slac_parm_cnf g h = omega arith
payload_short start_atten_char_ind g h = omega arith
payload_short atten_char_ind g h = omega arith
payload_short atten_char_rsp g h = omega arith
payload_short mnbc_sound_ind g h = omega arith
payload_short validate_req g h = omega arith
payload_short validate_cnf g h = omega arith
payload_short slac_match_req g h = omega arith
payload_short slac_match_cnf g h = omega arith
payload_short atten_profile_ind g h = omega arith

-- a row is found by its type, which fits two octets
pub type_found : (k : Kind) → (of_type (type_of k) kinds ≡ some k) × (type_of k < 2 ^ 16)
type_found slac_parm_req = (refl, omega arith)
type_found slac_parm_cnf = (refl, omega arith)
type_found start_atten_char_ind = (refl, omega arith)
type_found atten_char_ind = (refl, omega arith)
type_found atten_char_rsp = (refl, omega arith)
type_found mnbc_sound_ind = (refl, omega arith)
type_found validate_req = (refl, omega arith)
type_found validate_cnf = (refl, omega arith)
type_found slac_match_req = (refl, omega arith)
type_found slac_match_cnf = (refl, omega arith)
type_found atten_profile_ind = (refl, omega arith)

-- a frame whose type is a row's, by that row
pub by_type_lem : (e : Edition) (k : Kind) (t : ℕ) (s : List ℕ) → t ≡ type_of k → typed e (some k) s ≡ typed e (of_type t kinds) s
by_type_lem e k t s q = ap (λ (o : Option Kind). typed e o s) (sym (ap (λ (u : ℕ). of_type u kinds) q ∙ (type_found k).0))

-- ---- the group count

-- a right group count is at most 58
pub count_le : (e : Edition) (p : Option ℕ) (g : ℕ) → is_counted e p g ≡ true → g ≤ group_count
count_le e none g h = omega (arith, eqb-true g 0 h)
count_le Iso (some at) g h = omega (arith, eqb-true g group_count h)
count_le Sae (some at) g h = leb-true g group_count (and_right (leb 1 g) (leb g group_count) h)

-- a payload p holds the group count g in its octet, if it has one
abbrev pub CountHeld : Option ℕ → ℕ → List ℕ → Type 0
CountHeld none g p = Unit {0}
CountHeld (some at) g p = value p at 1 ≡ g

-- a payload of n octets reaches past that octet
abbrev pub CountRoom : Option ℕ → ℕ → Type 0
CountRoom none n = Unit {0}
CountRoom (some at) n = at < n

pub count_held : (e : Edition) (k : Kind) (g d f : ℕ) (p : List ℕ) → holds 0 (payload e k g d f) p ≡ true → CountHeld (count_at k) g p
count_held e slac_parm_req g d f p h = tt
count_held e slac_parm_cnf g d f p h = tt
count_held e start_atten_char_ind g d f p h = tt
count_held e atten_char_ind g d f p h =
    let a = and_right (eqb (value p 0 2) 0) _ h in
    let b = and_right (eqb (value p 2 6) d) _ a in
    let c = and_right (zeros (any_id e) p 16 id_octets) _ b in
    let q = and_right (zeros (any_id e) p 33 id_octets) _ c in
    eqb-true (value p 51 1) g (and_left (eqb (value p 51 1) g) _ q)
count_held e atten_char_rsp g d f p h = tt
count_held e mnbc_sound_ind g d f p h = tt
count_held e validate_req g d f p h = tt
count_held e validate_cnf g d f p h = tt
count_held e slac_match_req g d f p h = tt
count_held e slac_match_cnf g d f p h = tt
count_held e atten_profile_ind g d f p h = eqb-true (value p 6 1) g (and_left (eqb (value p 6 1) g) _ h)

pub count_room : (k : Kind) (g : ℕ) → CountRoom (count_at k) (payload_size k g)
count_room slac_parm_req g = tt
count_room slac_parm_cnf g = tt
count_room start_atten_char_ind g = tt
count_room atten_char_ind g = omega arith
count_room atten_char_rsp g = tt
count_room mnbc_sound_ind g = tt
count_room validate_req g = tt
count_room validate_cnf g = tt
count_room slac_match_req g = tt
count_room slac_match_cnf g = tt
count_room atten_profile_ind g = omega arith

-- a count that is right and stands in its octet is read
pub count_read : (e : Edition) (p : Option ℕ) (g n : ℕ) (s : List ℕ) → is_counted e p g ≡ true → CountHeld p g (drop (size head) s) → CountRoom p n → size head + n ≤ length s
    → count_rules e p s ≡ yes g
count_read e none g n s c h r l = ap yes (sym (eqb-true g 0 c))
count_read Iso (some at) g n s c h r l = ap yes (sym (eqb-true g group_count c))
count_read Sae (some at) g n s c h r l =
    let v : value s (size head + at) 1 ≡ g = sym (value_drop (size head) s at 1) ∙ h in
    pass (ltb (size head + at) (length s)) 1 _ (lt-ltb (size head + at) (length s) (omega arith))
    ∙ pass (is_count Sae (value s (size head + at) 1)) 6 _ (ap (is_count Sae) v ∙ c)
    ∙ ap yes v

-- and a count that was read is right
pub counted : (e : Edition) (p : Option ℕ) (s : List ℕ) (g : ℕ) → count_rules e p s ≡ yes g → is_counted e p g ≡ true
counted e none s g q = let z : 0 ≡ g = cc in eq-eqb g 0 (sym z)
counted Iso (some at) s g q = let z : group_count ≡ g = cc in eq-eqb g group_count (sym z)
counted Sae (some at) s g q =
    let one = passed (ltb (size head + at) (length s)) 1 _ g q in
    let two = passed (is_count Sae (value s (size head + at) 1)) 6 _ g one.1 in
    let z : value s (size head + at) 1 ≡ g = let w : yes (value s (size head + at) 1) ≡ yes g = two.1 in cc in
    ap (is_count Sae) (sym z) ∙ two.0

-- ---- addresses

pub unicast_lt : (a : ℕ) → is_unicast a ≡ true → a < 256 ^ 6
unicast_lt a e = ltb-true a (2 ^ 48) (and_right (not (eqb a 0)) _ (and_left (not (eqb a 0) && ltb a (2 ^ 48)) _ e))

broadcast_lt : (a : ℕ) → eqb a broadcast ≡ true → a < 256 ^ 6
broadcast_lt a e = omega (arith, eqb-true a broadcast e)

-- a source and a destination of the right kind have 48 bits
abbrev pub Addresses : ℕ → ℕ → Type 0
Addresses d f = (d < 256 ^ 6) × (f < 256 ^ 6)

to_one : (d f : ℕ) → (is_unicast f && is_unicast d) ≡ true → Addresses d f
to_one d f e = (unicast_lt d (and_right (is_unicast f) _ e), unicast_lt f (and_left (is_unicast f) _ e))

to_all_lem : (d f : ℕ) → (is_unicast f && eqb d broadcast) ≡ true → Addresses d f
to_all_lem d f e = (broadcast_lt d (and_right (is_unicast f) _ e), unicast_lt f (and_left (is_unicast f) _ e))

receiver_lt : (a : ℕ) → is_receiver a ≡ true → a < 256 ^ 6
receiver_lt a e = go (eqb a broadcast) refl e
  where
    go : (b : Bool) → eqb a broadcast ≡ b → (b || is_unicast a) ≡ true → a < 256 ^ 6
    go true q w = broadcast_lt a q
    go false q w = unicast_lt a w

to_either_lem : (d f : ℕ) → (is_unicast f && is_receiver d) ≡ true → Addresses d f
to_either_lem d f e = (receiver_lt d (and_right (is_unicast f) _ e), unicast_lt f (and_left (is_unicast f) _ e))

pub addressed_lt : (e : Edition) (k : Kind) (g d f : ℕ) (vs : Values (payload e k g d f)) → addressed e k g d f vs ≡ true → Addresses d f
addressed_lt e slac_parm_req g d f vs h = to_all_lem d f h
addressed_lt e slac_parm_cnf g d f vs h = to_one d f h
addressed_lt e start_atten_char_ind g d f vs h = to_all_lem d f h
addressed_lt e atten_char_ind g d f vs h = to_one d f h
addressed_lt e atten_char_rsp g d f vs h = to_one d f h
addressed_lt e mnbc_sound_ind g d f vs h = to_all_lem d f h
addressed_lt e validate_req g d f vs h = to_either_lem d f h
addressed_lt e validate_cnf g d f vs h = to_one d f h
addressed_lt e slac_match_req g d f vs h = to_one d f h
addressed_lt e slac_match_cnf g d f vs h = to_one d f h
addressed_lt e atten_profile_ind g d f vs h = to_one d f (and_left (is_unicast f && is_unicast d) _ h)
