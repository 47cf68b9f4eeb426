-- The laws of layouts, each proved once over the layout: a law about each field, then the list of them.
use Prim.Native.Nat.{ℕ, ◌+◌, ◌^◌, ◌<◌, ◌≤◌}
use mathlib.Core.Path.{◌≡◌, refl, sym, ap, ap₂, ◌∙◌}
use mathlib.Core.Bool.{Bool, true, false, ◌&&◌, ◌||◌, false≢true}
use mathlib.Core.List.{List, [], ◌∷◌, ◌++◌, append_assoc}
use native.Mathlib.Omega.{arith}
use native.Mathlib.Nat.{one-le-pow}
use borrow.Author.Tests.{eq-eqb, eqb-true, ltb-true, lt-ltb}
use lib.Dec.{eqb, ltb}
use lib.ListN.{length, take, replicate, length-append, length-replicate}
use lib.Seq.{take_at, length-take-le}
use Rattle.octets.specs.Octets.{value, bytes, low_value, low_bytes, part, Octets}
use Rattle.messages.specs.Layout.{Field, is, number, such, low, free, octets, reserved, Values, width, size, zeros, holds, read, encode, zeroed_field, zeroed, fits}
use Rattle.octets.proofs.OctetLaws.{length_bytes, value_lt, value_bytes, bytes_value, length_low, low_lt, low_value_bytes, low_bytes_value, value_here, value_part, value_zeros, part_here, length_part, zeros_behind, value_take, low_take, part_take}

pub and_left : (a b : Bool) → (a && b) ≡ true → a ≡ true
and_left true b e = refl
and_left false b e = e

pub and_right : (a b : Bool) → (a && b) ≡ true → b ≡ true
and_right true b e = e
and_right false b e = absurd (false≢true e)

-- ---- one field

-- its test at a place
abbrev test : Field → ℕ → List ℕ → Bool
test (is n v) at s = eqb (value s at n) v
test (number n) at s = true
test (such n p) at s = p (value s at n)
test (low n b) at s = ltb (low_value s at n) b
test (free n b) at s = zeros b s at n
test (octets n z) at s = true
test (reserved n) at s = true

-- its octets, and the values of the fields behind it
abbrev pub first : (f : Field) (fs : List Field) → Values (f ∷ fs) → List ℕ
first (is n v) fs vs = bytes n v
first (number n) fs vs = bytes n vs.0
first (such n p) fs vs = bytes n vs.0
first (low n b) fs vs = low_bytes n vs.0
first (free n b) fs vs = vs.0
first (octets n z) fs vs = take n vs.0
first (reserved n) fs vs = bytes n 0

abbrev pub rest : (f : Field) (fs : List Field) → Values (f ∷ fs) → Values fs
rest (is n v) fs vs = vs
rest (number n) fs vs = vs.1
rest (such n p) fs vs = vs.1
rest (low n b) fs vs = vs.1
rest (free n b) fs vs = vs.1
rest (octets n z) fs vs = vs.1
rest (reserved n) fs vs = vs

-- its value fits it
abbrev pub FitsField : (f : Field) (fs : List Field) → Values (f ∷ fs) → Type 0
FitsField (is n v) fs vs = v < 256 ^ n
FitsField (number n) fs vs = vs.0 < 256 ^ n
FitsField (such n p) fs vs = (p vs.0 ≡ true) × (vs.0 < 256 ^ n)
FitsField (low n b) fs vs = (vs.0 < b) × (vs.0 < 256 ^ n)
FitsField (free n b) fs vs = (length vs.0 ≡ n) × (zeros b vs.0 0 n ≡ true)
FitsField (octets n z) fs vs = (length vs.0 ≡ n + z) × (value vs.0 n z ≡ 0)
FitsField (reserved n) fs vs = 0 < 256 ^ n

-- the values of a layout fit it, as facts
abbrev pub Fits : (fs : List Field) → Values fs → Type 0
Fits [] vs = Unit {0}
Fits (f ∷ fs) vs = FitsField f fs vs × Fits fs (rest f fs vs)

-- each run of any octets has its field's length, or more where the rest has no octets
abbrev pub Full : (fs : List Field) → Values fs → Type 0
Full [] vs = Unit {0}
Full (is n v ∷ fs) vs = Full fs vs
Full (number n ∷ fs) vs = Full fs vs.1
Full (such n p ∷ fs) vs = Full fs vs.1
Full (low n b ∷ fs) vs = Full fs vs.1
Full (free n b ∷ fs) vs = (length vs.0 ≡ n) × Full fs vs.1
Full (octets n z ∷ fs) vs = (n ≤ length vs.0) × Full fs vs.1
Full (reserved n ∷ fs) vs = Full fs vs

module _ (fs : List Field) where
  holds_cons : (f : Field) (at : ℕ) (s : List ℕ) → holds at (f ∷ fs) s ≡ (test f at s && holds (at + width f) fs s)
  holds_cons (is n v) at s = refl
  holds_cons (number n) at s = refl
  holds_cons (such n p) at s = refl
  holds_cons (low n b) at s = refl
  holds_cons (free n b) at s = refl
  holds_cons (octets n z) at s = refl
  holds_cons (reserved n) at s = refl

  pub encode_cons : (f : Field) (vs : Values (f ∷ fs)) → encode (f ∷ fs) vs ≡ first f fs vs ++ encode fs (rest f fs vs)
  encode_cons (is n v) vs = refl
  encode_cons (number n) vs = refl
  encode_cons (such n p) vs = refl
  encode_cons (low n b) vs = refl
  encode_cons (free n b) vs = refl
  encode_cons (octets n z) vs = refl
  encode_cons (reserved n) vs = refl

  rest_read : (f : Field) (at : ℕ) (s : List ℕ) → rest f fs (read at (f ∷ fs) s) ≡ read (at + width f) fs s
  rest_read (is n v) at s = refl
  rest_read (number n) at s = refl
  rest_read (such n p) at s = refl
  rest_read (low n b) at s = refl
  rest_read (free n b) at s = refl
  rest_read (octets n z) at s = refl
  rest_read (reserved n) at s = refl

  -- a value that fits has its field's length
  fits_full : (f : Field) (vs : Values (f ∷ fs)) → FitsField f fs vs → Full fs (rest f fs vs) → Full (f ∷ fs) vs
  fits_full (is n v) vs h u = u
  fits_full (number n) vs h u = u
  fits_full (such n p) vs h u = u
  fits_full (low n b) vs h u = u
  fits_full (free n b) vs h u = (h.0, u)
  fits_full (octets n z) vs h u = (omega (arith, h.0), u)
  fits_full (reserved n) vs h u = u

  pub full_cons : (f : Field) (vs : Values (f ∷ fs)) → Full (f ∷ fs) vs → (length (first f fs vs) ≡ width f) × Full fs (rest f fs vs)
  full_cons (is n v) vs h = (length_bytes n v, h)
  full_cons (number n) vs h = (length_bytes n vs.0, h)
  full_cons (such n p) vs h = (length_bytes n vs.0, h)
  full_cons (low n b) vs h = (length_low n vs.0, h)
  full_cons (free n b) vs h = h
  full_cons (octets n z) vs h = (length-take-le n vs.0 h.0, h.1)
  full_cons (reserved n) vs h = (length_bytes n 0, h)

  -- the octets that were written pass the test, wherever they stand
  test_first : (f : Field) (vs : Values (f ∷ fs)) (pre behind : List ℕ) → FitsField f fs vs → test f (length pre) (pre ++ (first f fs vs ++ behind)) ≡ true
  test_first (is n v) vs pre behind h = eq-eqb _ v (value_bytes n v pre behind h)
  test_first (number n) vs pre behind h = refl
  test_first (such n p) vs pre behind h = ap p (value_bytes n vs.0 pre behind h.1) ∙ h.0
  test_first (low n b) vs pre behind h = rw (low_value_bytes n vs.0 pre behind h.1) (lt-ltb vs.0 b h.0)
  test_first (free n b) vs pre behind h = ap (λ (x : ℕ). b || eqb x 0) (value_here vs.0 pre behind n h.0) ∙ h.1
  test_first (octets n z) vs pre behind h = refl
  test_first (reserved n) vs pre behind h = refl

  -- and reading them gives the field's value
  read_first : (f : Field) (vs : Values (f ∷ fs)) (pre behind : List ℕ) → FitsField f fs vs
      → read (length pre + width f) fs (pre ++ (first f fs vs ++ behind)) ≡ rest f fs vs
      → read (length pre) (f ∷ fs) (pre ++ (first f fs vs ++ behind)) ≡ vs
  read_first (is n v) vs pre behind h e = e
  read_first (number n) vs pre behind h e = ap₂ (λ (a : ℕ) (b : Values fs). (a, b)) (value_bytes n vs.0 pre behind h) e
  read_first (such n p) vs pre behind h e = ap₂ (λ (a : ℕ) (b : Values fs). (a, b)) (value_bytes n vs.0 pre behind h.1) e
  read_first (low n b) vs pre behind h e = ap₂ (λ (a : ℕ) (c : Values fs). (a, c)) (low_value_bytes n vs.0 pre behind h.1) e
  read_first (free n b) vs pre behind h e = ap₂ (λ (a : List ℕ) (c : Values fs). (a, c)) (part_here vs.0 pre behind n h.0) e
  read_first (octets n z) vs pre behind h e =
      ap₂ (λ (a : List ℕ) (b : Values fs). (a, b))
      (ap (λ (l : List ℕ). l ++ replicate z 0) (part_here (take n vs.0) pre behind n (length-take-le n vs.0 (omega (arith, h.0)))) ∙ zeros_behind vs.0 n z h.0 h.1)
      e
  read_first (reserved n) vs pre behind h e = e

  -- the octets that are written of what was read are those that stand there, zeroed where they are reserved
  first_read : (f : Field) (at : ℕ) (s : List ℕ) → Octets s → at + width f ≤ length s → test f at s ≡ true
      → first f fs (read at (f ∷ fs) s) ≡ zeroed_field f at s
  first_read (is n v) at s o h t = ap (bytes n) (sym (eqb-true (value s at n) v t)) ∙ bytes_value n at s o h
  first_read (number n) at s o h t = bytes_value n at s o h
  first_read (such n p) at s o h t = bytes_value n at s o h
  first_read (low n b) at s o h t = low_bytes_value n at s o h
  first_read (free n b) at s o h t = refl
  first_read (octets n z) at s o h t = take_at (part s at n) (replicate z 0) n (length_part s at n h)
  first_read (reserved n) at s o h t = refl

  -- and fit the field
  fits_read : (f : Field) (at : ℕ) (s : List ℕ) → Octets s → at + width f ≤ length s → test f at s ≡ true → FitsField f fs (read at (f ∷ fs) s)
  fits_read (is n v) at s o h t = rw (eqb-true (value s at n) v t) at (value_lt s at n o)
  fits_read (number n) at s o h t = value_lt s at n o
  fits_read (such n p) at s o h t = (t, value_lt s at n o)
  fits_read (low n b) at s o h t = (ltb-true (low_value s at n) b t, low_lt s at n o)
  fits_read (free n b) at s o h t = (length_part s at n h, ap (λ (x : ℕ). b || eqb x 0) (value_part s at n) ∙ t)
  fits_read (octets n z) at s o h t = (
    length-append (part s at n) (replicate z 0) ∙ ap₂ ◌+◌ (length_part s at n h) (length-replicate z 0),
    ap (λ (k : ℕ). value (part s at n ++ replicate z 0) k z) (sym (length_part s at n h)) ∙ value_zeros (part s at n) z,
  )
  fits_read (reserved n) at s o h t = one-le-pow n 256 (omega arith)

  fits_fits : (f : Field) (vs : Values (f ∷ fs)) → fits (f ∷ fs) vs ≡ true → FitsField f fs vs × (fits fs (rest f fs vs) ≡ true)
  fits_fits (is n v) vs e = (ltb-true v (256 ^ n) (and_left (ltb v (256 ^ n)) (fits fs vs) e), and_right (ltb v (256 ^ n)) (fits fs vs) e)
  fits_fits (number n) vs e = (ltb-true vs.0 (256 ^ n) (and_left (ltb vs.0 (256 ^ n)) (fits fs vs.1) e), and_right (ltb vs.0 (256 ^ n)) (fits fs vs.1) e)
  fits_fits (such n p) vs e =
      let r = and_right (p vs.0) (ltb vs.0 (256 ^ n) && fits fs vs.1) e in
      ((and_left (p vs.0) (ltb vs.0 (256 ^ n) && fits fs vs.1) e, ltb-true vs.0 (256 ^ n) (and_left (ltb vs.0 (256 ^ n)) (fits fs vs.1) r)), and_right (ltb vs.0 (256 ^ n)) (fits fs vs.1) r)
  fits_fits (low n b) vs e =
      let r = and_right (ltb vs.0 b) (ltb vs.0 (256 ^ n) && fits fs vs.1) e in
      ((ltb-true vs.0 b (and_left (ltb vs.0 b) (ltb vs.0 (256 ^ n) && fits fs vs.1) e), ltb-true vs.0 (256 ^ n) (and_left (ltb vs.0 (256 ^ n)) (fits fs vs.1) r)), and_right (ltb vs.0 (256 ^ n)) (fits fs vs.1) r)
  fits_fits (free n b) vs e =
      let r = and_right (eqb (length vs.0) n) (zeros b vs.0 0 n && fits fs vs.1) e in
      ((eqb-true (length vs.0) n (and_left (eqb (length vs.0) n) (zeros b vs.0 0 n && fits fs vs.1) e), and_left (zeros b vs.0 0 n) (fits fs vs.1) r), and_right (zeros b vs.0 0 n) (fits fs vs.1) r)
  fits_fits (octets n z) vs e =
      let r = and_right (eqb (length vs.0) (n + z)) (eqb (value vs.0 n z) 0 && fits fs vs.1) e in
      ((eqb-true (length vs.0) (n + z) (and_left (eqb (length vs.0) (n + z)) (eqb (value vs.0 n z) 0 && fits fs vs.1) e), eqb-true (value vs.0 n z) 0 (and_left (eqb (value vs.0 n z) 0) (fits fs vs.1) r)), and_right (eqb (value vs.0 n z) 0) (fits fs vs.1) r)
  fits_fits (reserved n) vs e = (one-le-pow n 256 (omega arith), e)

  fits_cons : (f : Field) (vs : Values (f ∷ fs)) → FitsField f fs vs → fits fs (rest f fs vs) ≡ true → fits (f ∷ fs) vs ≡ true
  fits_cons (is n v) vs h e = ap₂ ◌&&◌ (lt-ltb v (256 ^ n) h) e
  fits_cons (number n) vs h e = ap₂ ◌&&◌ (lt-ltb vs.0 (256 ^ n) h) e
  fits_cons (such n p) vs h e = ap₂ ◌&&◌ h.0 (ap₂ ◌&&◌ (lt-ltb vs.0 (256 ^ n) h.1) e)
  fits_cons (low n b) vs h e = ap₂ ◌&&◌ (lt-ltb vs.0 b h.0) (ap₂ ◌&&◌ (lt-ltb vs.0 (256 ^ n) h.1) e)
  fits_cons (free n b) vs h e = ap₂ ◌&&◌ (eq-eqb (length vs.0) n h.0) (ap₂ ◌&&◌ h.1 e)
  fits_cons (octets n z) vs h e = ap₂ ◌&&◌ (eq-eqb (length vs.0) (n + z) h.0) (ap₂ ◌&&◌ (eq-eqb (value vs.0 n z) 0 h.1) e)
  fits_cons (reserved n) vs h e = e

-- ---- a layout

-- the test of values, as facts and back
pub to_fits : (fs : List Field) (vs : Values fs) → fits fs vs ≡ true → Fits fs vs
to_fits [] vs e = tt
to_fits (f ∷ fs) vs e = let h = fits_fits fs f vs e in (h.0, to_fits fs (rest f fs vs) h.1)

pub from_fits : (fs : List Field) (vs : Values fs) → Fits fs vs → fits fs vs ≡ true
from_fits [] vs h = refl
from_fits (f ∷ fs) vs h = fits_cons fs f vs h.0 (from_fits fs (rest f fs vs) h.1)

pub to_full : (fs : List Field) (vs : Values fs) → Fits fs vs → Full fs vs
to_full [] vs h = tt
to_full (f ∷ fs) vs h = fits_full fs f vs h.0 (to_full fs (rest f fs vs) h.1)

pub length_encode : (fs : List Field) (vs : Values fs) → Full fs vs → length (encode fs vs) ≡ size fs
length_encode [] vs h = refl
length_encode (f ∷ fs) vs h =
    let n = full_cons fs f vs h in
    ap length (encode_cons fs f vs)
    ∙ length-append (first f fs vs) (encode fs (rest f fs vs))
    ∙ ap₂ ◌+◌ n.0 (length_encode fs (rest f fs vs) n.1)

-- the field behind the first: the place moves on
module _ (f : Field) (fs : List Field) (vs : Values (f ∷ fs)) (pre behind : List ℕ) (h : Full (f ∷ fs) vs) where
  split : pre ++ (encode (f ∷ fs) vs ++ behind) ≡ pre ++ (first f fs vs ++ (encode fs (rest f fs vs) ++ behind))
  split = ap (λ (l : List ℕ). pre ++ (l ++ behind)) (encode_cons fs f vs) ∙ ap (λ (l : List ℕ). pre ++ l) (append_assoc (first f fs vs) (encode fs (rest f fs vs)) behind)

  moved : pre ++ (first f fs vs ++ (encode fs (rest f fs vs) ++ behind)) ≡ (pre ++ first f fs vs) ++ (encode fs (rest f fs vs) ++ behind)
  moved = sym (append_assoc pre (first f fs vs) (encode fs (rest f fs vs) ++ behind))

  place : length (pre ++ first f fs vs) ≡ length pre + width f
  place = length-append pre (first f fs vs) ∙ ap (λ (k : ℕ). length pre + k) (full_cons fs f vs h).0

-- reading what was written, at any place of a longer list
pub holds_encode : (fs : List Field) (vs : Values fs) (pre behind : List ℕ) → Fits fs vs → holds (length pre) fs (pre ++ (encode fs vs ++ behind)) ≡ true
holds_encode [] vs pre behind h = refl
holds_encode (f ∷ fs) vs pre behind h =
    let u = to_full (f ∷ fs) vs h in
    ap (holds (length pre) (f ∷ fs)) (split f fs vs pre behind u)
    ∙ holds_cons fs f (length pre) (pre ++ (first f fs vs ++ (encode fs (rest f fs vs) ++ behind)))
    ∙ ap₂ ◌&&◌ (test_first fs f vs pre (encode fs (rest f fs vs) ++ behind) h.0)
    (ap₂ (λ (k : ℕ) (l : List ℕ). holds k fs l) (sym (place f fs vs pre behind u)) (moved f fs vs pre behind u)
    ∙ holds_encode fs (rest f fs vs) (pre ++ first f fs vs) behind h.1)

pub read_encode : (fs : List Field) (vs : Values fs) (pre behind : List ℕ) → Fits fs vs → read (length pre) fs (pre ++ (encode fs vs ++ behind)) ≡ vs
read_encode [] vs pre behind h = refl
read_encode (f ∷ fs) vs pre behind h =
    let u = to_full (f ∷ fs) vs h in
    ap (read (length pre) (f ∷ fs)) (split f fs vs pre behind u)
    ∙ read_first fs f vs pre (encode fs (rest f fs vs) ++ behind) h.0
    (ap₂ (λ (k : ℕ) (l : List ℕ). read k fs l) (sym (place f fs vs pre behind u)) (moved f fs vs pre behind u)
    ∙ read_encode fs (rest f fs vs) (pre ++ first f fs vs) behind h.1)

-- writing what was read gives the octets that were read, reserved ones zeroed, and the values fit
module _ (s : List ℕ) (o : Octets s) where
  tests : (f : Field) (fs : List Field) (at : ℕ) → holds at (f ∷ fs) s ≡ true → (test f at s ≡ true) × (holds (at + width f) fs s ≡ true)
  tests f fs at t =
      let u : (test f at s && holds (at + width f) fs s) ≡ true = sym (holds_cons fs f at s) ∙ t in
      (and_left (test f at s) (holds (at + width f) fs s) u, and_right (test f at s) (holds (at + width f) fs s) u)

  pub encode_read : (fs : List Field) (at : ℕ) → at + size fs ≤ length s → holds at fs s ≡ true → encode fs (read at fs s) ≡ zeroed at fs s
  encode_read [] at h t = refl
  encode_read (f ∷ fs) at h t =
      let u = tests f fs at t in
      encode_cons fs f (read at (f ∷ fs) s)
      ∙ ap₂ ◌++◌ (first_read fs f at s o (omega arith) u.0) (ap (encode fs) (rest_read fs f at s) ∙ encode_read fs (at + width f) (omega arith) u.1)

  pub read_fits : (fs : List Field) (at : ℕ) → at + size fs ≤ length s → holds at fs s ≡ true → fits fs (read at fs s) ≡ true
  read_fits [] at h t = refl
  read_fits (f ∷ fs) at h t =
      let u = tests f fs at t in
      fits_cons fs f (read at (f ∷ fs) s) (fits_read fs f at s o (omega arith) u.0)
      (ap (fits fs) (rest_read fs f at s) ∙ read_fits fs (at + width f) (omega arith) u.1)

-- what stands in the first octets of a longer run is read from these alone
module _ (k : ℕ) (s : List ℕ) where
  pub holds_take : (fs : List Field) (at : ℕ) → at + size fs ≤ k → holds at fs (take k s) ≡ holds at fs s
  holds_take [] at h = refl
  holds_take (is n v ∷ fs) at h = ap₂ (λ (a : ℕ) (b : Bool). eqb a v && b) (value_take k s at n (omega arith)) (holds_take fs (at + n) (omega arith))
  holds_take (number n ∷ fs) at h = holds_take fs (at + n) (omega arith)
  holds_take (such n p ∷ fs) at h = ap₂ (λ (a : ℕ) (b : Bool). p a && b) (value_take k s at n (omega arith)) (holds_take fs (at + n) (omega arith))
  holds_take (low n b ∷ fs) at h = ap₂ (λ (a : ℕ) (t : Bool). ltb a b && t) (low_take k s at n (omega arith)) (holds_take fs (at + n) (omega arith))
  holds_take (free n b ∷ fs) at h = ap₂ (λ (a : ℕ) (t : Bool). (b || eqb a 0) && t) (value_take k s at n (omega arith)) (holds_take fs (at + n) (omega arith))
  holds_take (octets n z ∷ fs) at h = holds_take fs (at + n) (omega arith)
  holds_take (reserved n ∷ fs) at h = holds_take fs (at + n) (omega arith)

  pub read_take : (fs : List Field) (at : ℕ) → at + size fs ≤ k → read at fs (take k s) ≡ read at fs s
  read_take [] at h = refl
  read_take (is n v ∷ fs) at h = read_take fs (at + n) (omega arith)
  read_take (number n ∷ fs) at h = ap₂ (λ (a : ℕ) (b : Values fs). (a, b)) (value_take k s at n (omega arith)) (read_take fs (at + n) (omega arith))
  read_take (such n p ∷ fs) at h = ap₂ (λ (a : ℕ) (b : Values fs). (a, b)) (value_take k s at n (omega arith)) (read_take fs (at + n) (omega arith))
  read_take (low n b ∷ fs) at h = ap₂ (λ (a : ℕ) (c : Values fs). (a, c)) (low_take k s at n (omega arith)) (read_take fs (at + n) (omega arith))
  read_take (free n b ∷ fs) at h = ap₂ (λ (a : List ℕ) (c : Values fs). (a, c)) (part_take k s at n (omega arith)) (read_take fs (at + n) (omega arith))
  read_take (octets n z ∷ fs) at h = ap₂ (λ (a : List ℕ) (b : Values fs). (a ++ replicate z 0, b)) (part_take k s at n (omega arith)) (read_take fs (at + n) (omega arith))
  read_take (reserved n ∷ fs) at h = read_take fs (at + n) (omega arith)
