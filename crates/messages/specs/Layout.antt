-- Layouts: a run of octets as a list of fields, read and written by one definition each.
use Rattle.std.specs.Prelude.{ℕ, ◌+◌, ◌^◌, Bool, true, ◌&&◌, ◌||◌, List, [], ◌∷◌, ◌++◌, eqb, ltb, length, take, replicate}
use Rattle.octets.specs.Octets.{value, bytes, low_value, low_bytes, part}

pub data Field : Type 0 where
  -- n octets that hold the number v: fixed octets, zero runs, and octets equal to an address
  is : ℕ → ℕ → Field
  -- n octets that hold any number
  number : ℕ → Field
  -- n octets that hold a number with the property p
  such : ℕ → (ℕ → Bool) → Field
  -- n octets that hold, low octet first, a number below b
  low : ℕ → ℕ → Field
  -- n octets, any where b, else zero
  free : ℕ → Bool → Field
  -- n octets, any, the first of n + z values; the z values past them have no octet and are zero
  octets : ℕ → ℕ → Field
  -- n octets that the ISO tables call RSVD: not looked at when read, zero when written
  reserved : ℕ → Field

-- what a layout leaves open: one value for each number, such, low, free and octets field
abbrev pub Values : List Field → Type 0
Values [] = Unit {0}
Values (is n v ∷ fs) = Values fs
Values (number n ∷ fs) = ℕ × Values fs
Values (such n p ∷ fs) = ℕ × Values fs
Values (low n b ∷ fs) = ℕ × Values fs
Values (free n b ∷ fs) = List ℕ × Values fs
Values (octets n z ∷ fs) = List ℕ × Values fs
Values (reserved n ∷ fs) = Values fs

-- how many octets a field takes
abbrev pub width : Field → ℕ
width (is n v) = n
width (number n) = n
width (such n p) = n
width (low n b) = n
width (free n b) = n
width (octets n z) = n
width (reserved n) = n

-- how many octets a layout takes
abbrev pub size : List Field → ℕ
size [] = 0
size (f ∷ fs) = width f + size fs

-- n zeros from `at`, asked for unless `any`
abbrev pub zeros : Bool → List ℕ → ℕ → ℕ → Bool
zeros any s at n = any || eqb (value s at n) 0

-- every fixed, equal-to or limited octet of the layout is right, in s from `at`
abbrev pub holds : ℕ → List Field → List ℕ → Bool
holds at [] s = true
holds at (is n v ∷ fs) s = eqb (value s at n) v && holds (at + n) fs s
holds at (number n ∷ fs) s = holds (at + n) fs s
holds at (such n p ∷ fs) s = p (value s at n) && holds (at + n) fs s
holds at (low n b ∷ fs) s = ltb (low_value s at n) b && holds (at + n) fs s
holds at (free n b ∷ fs) s = zeros b s at n && holds (at + n) fs s
holds at (octets n z ∷ fs) s = holds (at + n) fs s
holds at (reserved n ∷ fs) s = holds (at + n) fs s

-- the n octets of s from `at`, and z zeros behind them
abbrev pub filled : List ℕ → ℕ → ℕ → ℕ → List ℕ
filled s at n z = part s at n ++ replicate z 0

-- the values that stand in s from `at`
abbrev pub read : ℕ → (fs : List Field) → List ℕ → Values fs
read at [] s = tt
read at (is n v ∷ fs) s = read (at + n) fs s
read at (number n ∷ fs) s = (value s at n, read (at + n) fs s)
read at (such n p ∷ fs) s = (value s at n, read (at + n) fs s)
read at (low n b ∷ fs) s = (low_value s at n, read (at + n) fs s)
read at (free n b ∷ fs) s = (part s at n, read (at + n) fs s)
read at (octets n z ∷ fs) s = (filled s at n z, read (at + n) fs s)
read at (reserved n ∷ fs) s = read (at + n) fs s

-- the octets of the layout with these values
abbrev pub encode : (fs : List Field) → Values fs → List ℕ
encode [] vs = []
encode (is n v ∷ fs) vs = bytes n v ++ encode fs vs
encode (number n ∷ fs) vs = bytes n vs.0 ++ encode fs vs.1
encode (such n p ∷ fs) vs = bytes n vs.0 ++ encode fs vs.1
encode (low n b ∷ fs) vs = low_bytes n vs.0 ++ encode fs vs.1
encode (free n b ∷ fs) vs = vs.0 ++ encode fs vs.1
encode (octets n z ∷ fs) vs = take n vs.0 ++ encode fs vs.1
encode (reserved n ∷ fs) vs = bytes n 0 ++ encode fs vs

-- a field's octets in s from `at`, zeroed where they are reserved
abbrev pub zeroed_field : Field → ℕ → List ℕ → List ℕ
zeroed_field (is n v) at s = part s at n
zeroed_field (number n) at s = part s at n
zeroed_field (such n p) at s = part s at n
zeroed_field (low n b) at s = part s at n
zeroed_field (free n b) at s = part s at n
zeroed_field (octets n z) at s = part s at n
zeroed_field (reserved n) at s = bytes n 0

-- the layout's octets in s from `at`, "reserved octets zeroed"
abbrev pub zeroed : ℕ → List Field → List ℕ → List ℕ
zeroed at [] s = []
zeroed at (f ∷ fs) s = zeroed_field f at s ++ zeroed (at + width f) fs s

-- the values fit their fields
abbrev pub fits : (fs : List Field) → Values fs → Bool
fits [] vs = true
fits (is n v ∷ fs) vs = ltb v (256 ^ n) && fits fs vs
fits (number n ∷ fs) vs = ltb vs.0 (256 ^ n) && fits fs vs.1
fits (such n p ∷ fs) vs = p vs.0 && (ltb vs.0 (256 ^ n) && fits fs vs.1)
fits (low n b ∷ fs) vs = ltb vs.0 b && (ltb vs.0 (256 ^ n) && fits fs vs.1)
fits (free n b ∷ fs) vs = eqb (length vs.0) n && (zeros b vs.0 0 n && fits fs vs.1)
fits (octets n z ∷ fs) vs = eqb (length vs.0) (n + z) && (eqb (value vs.0 n z) 0 && fits fs vs.1)
fits (reserved n ∷ fs) vs = fits fs vs
