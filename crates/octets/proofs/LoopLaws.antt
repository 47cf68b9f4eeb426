-- The steps of the loops over a run of octets, each once over the length.
use Prim.Native.Nat.{ℕ, zero, suc, ◌+◌, ◌*◌, ◌-◌, ◌^◌, ◌/◌, ◌%◌, ◌<◌, ◌≤◌, min}
use mathlib.Core.Path.{◌≡◌, refl, sym, ap, ap₂, ◌∙◌}
use mathlib.Core.Bool.{Bool, true, false, ◌&&◌, and-true, and_assoc}
use mathlib.Core.List.{List, [], ◌∷◌}
use native.Mathlib.Omega.{arith}
use native.Mathlib.Numerals.{add-one}
use native.Mathlib.Nat.{add-zero, pow-zero, pow-suc, one-le-pow, pow-le-pow_right, lt_of_lt_of_le}
use borrow.Author.Tests.{eq-eqb, ne_eqb, leb-true, leb-false}
use lib.Dec.{eqb, leb}
use borrow.Rule.Slice.PartMut.{put_mid}
use Rattle.std.specs.Prelude.{◌==◌}
use Rattle.std.specs.List.{fold}
use lib.ListN.{length, get_or, take, drop, set, length-take, length-drop, length-set, get_or-eq_default}
use lib.Seq.{sets, length-take-le, take-suc, set_comm, set_out}
use Rattle.octets.specs.Octets.{value, bytes, low_value, low_bytes, part, Octets}
use Rattle.octets.proofs.OctetLaws.{length_bytes, value_lt, low_lt, value_take, value_drop, sets_append, sets_whole, sets_lent}

-- ---- reading a number

pub value_none : (s : List ℕ) (at : ℕ) → value s at 0 ≡ 0
unfolding value
value_none s at = refl

-- one octet more
pub value_more : (s : List ℕ) (at i : ℕ) → value s at (i + 1) ≡ value s at i * 256 + get_or s (at + i) 0
unfolding value
value_more s at i = rw add-one

pub value_one : (s : List ℕ) (at : ℕ) → get_or s at 0 ≡ value s at 1
value_one s at =
    let e : at ≡ at + 0 = omega arith in
    ap (λ (k : ℕ). get_or s k 0) e ∙ sym (value_more s at 0 ∙ omega (arith, value_none s at))

-- a number of fewer octets leaves room for one more
room : (v i k : ℕ) → v < 256 ^ i → i ≤ k → v < 256 ^ k
room v i k h l = lt_of_lt_of_le h (pow-le-pow_right {n = 256} (omega arith) {i = i} {j = k} l)

pub value_room : (s : List ℕ) (at i n : ℕ) → Octets s → i < n → n ≤ 8 → value s at i < 2 ^ 56
value_room s at i n o h l = room (value s at i) i 7 (value_lt s at i o) (omega arith)

pub low_none : (s : List ℕ) (at : ℕ) → low_value s at 0 ≡ 0
unfolding low_value
low_none s at = refl

pub low_value_one : (s : List ℕ) (at : ℕ) → get_or s at 0 ≡ low_value s at 1
unfolding low_value
low_value_one s at = omega arith

-- the octet before: i octets are still to be read
pub low_more : (s : List ℕ) (at i n : ℕ) → 0 < i → i ≤ n → low_value s (at + i) (n - i) * 256 + get_or s (at + (i - 1)) 0 ≡ low_value s (at + (i - 1)) (n - (i - 1))
unfolding low_value
low_more s at i n h k =
    let e : at + i ≡ suc (at + (i - 1)) = omega arith in
    let m : n - (i - 1) ≡ suc (n - i) = omega arith in
    rw (m, e)

pub low_room : (s : List ℕ) (at i n : ℕ) → Octets s → 0 < i → i ≤ n → n ≤ 8 → low_value s (at + i) (n - i) < 2 ^ 56
low_room s at i n o h k l = room (low_value s (at + i) (n - i)) (n - i) 7 (low_lt s (at + i) (n - i) o) (omega arith)

-- a run within a part
pub value_in : (s : List ℕ) (at k i n : ℕ) → i + n ≤ k → value (part s at k) i n ≡ value s (at + i) n
value_in s at k i n h = value_take k (drop at s) i n h ∙ value_drop at s i n

-- two runs side by side
pub value_joined : (s : List ℕ) (at m n : ℕ) → value s at (m + n) ≡ value s at m * 256 ^ n + value s (at + m) n
unfolding value
value_joined s at m zero = rw (add-zero, pow-zero) (omega arith)
value_joined s at m (suc n) =
    let e : m + suc n ≡ suc (m + n) = omega arith in
    let f : at + (m + n) ≡ at + m + n = omega arith in
    rw (e, f, pow-suc) (omega (arith, value_joined s at m n))

-- past the end there is 0
pub value_past : (s : List ℕ) (at n : ℕ) → length s ≤ at → value s at n ≡ 0
unfolding value
value_past s at zero h = refl
value_past s at (suc n) h = omega (arith, value_past s at n h, let e : get_or s (at + n) 0 ≡ 0 = get_or-eq_default s 0 (omega arith) in e)

-- ---- testing a run of zeros

-- a sum is zero where both its parts are
zero_sum : (a b p : ℕ) → 1 ≤ p → eqb (a * p + b) 0 ≡ (eqb a 0 && eqb b 0)
zero_sum zero zero p h = eq-eqb (0 * p + 0) 0 (omega arith)
zero_sum zero (suc b) p h = ne_eqb (0 * p + suc b) 0 (λ (z : 0 * p + suc b ≡ 0). omega arith) ∙ sym (ne_eqb (suc b) 0 (λ (z : suc b ≡ 0). omega arith))
zero_sum (suc a) b p h = ne_eqb (suc a * p + b) 0 (λ (z : suc a * p + b ≡ 0). omega arith) ∙ sym (ap (λ (t : Bool). t && eqb b 0) (ne_eqb (suc a) 0 (λ (z : suc a ≡ 0). omega arith)))

pub zero_joined : (s : List ℕ) (at m n : ℕ) → eqb (value s at (m + n)) 0 ≡ (eqb (value s at m) 0 && eqb (value s (at + m) n) 0)
zero_joined s at m n = ap (λ (v : ℕ). eqb v 0) (value_joined s at m n) ∙ zero_sum (value s at m) (value s (at + m) n) (256 ^ n) (one-le-pow n 256 (omega arith))

-- the octets past the end do not matter
pub zero_within : (s : List ℕ) (at n : ℕ) → eqb (value s at (min n (length s - at))) 0 ≡ eqb (value s at n) 0
zero_within s at n = go (leb n room) refl
  where
    room : ℕ
    room = length s - at

    go : (b : Bool) → leb n room ≡ b → eqb (value s at (min n room)) 0 ≡ eqb (value s at n) 0
    go true e = let h : n ≤ room = leb-true n room e in ap (λ (k : ℕ). eqb (value s at k) 0) (let k : min n room ≡ n = omega arith in k)
    go false e =
        let h : room < n = leb-false n room e in
        let k : min n room ≡ room = omega arith in
        let m : n ≡ room + (n - room) = omega arith in
        ap (λ (k : ℕ). eqb (value s at k) 0) k
        ∙ sym (ap (λ (k : ℕ). eqb (value s at k) 0) m ∙ zero_joined s at room (n - room) ∙ ap (λ (v : ℕ). eqb (value s at room) 0 && eqb v 0) (value_past s (at + room) (n - room) (omega arith)) ∙ and-true (eqb (value s at room) 0))

-- the test of a run, octet after octet
zero_fold : (b : Bool) (l : List ℕ) → fold (λ zero x. zero && (x == 0)) b l ≡ (b && eqb (value l 0 (length l)) 0)
unfolding value
zero_fold b [] = sym (and-true b)
zero_fold b (x ∷ l) =
    let n : ℕ = length l in
    let e : suc n ≡ 1 + n = omega arith in
    let first : get_or (x ∷ l) 0 0 ≡ value (x ∷ l) 0 1 = value_one (x ∷ l) 0 in
    let others : value l 0 n ≡ value (x ∷ l) (1 + 0) n = value_drop 1 (x ∷ l) 0 n in
    let whole : eqb (value (x ∷ l) 0 (suc n)) 0 ≡ (eqb x 0 && eqb (value l 0 n) 0) =
    ap (λ (k : ℕ). eqb (value (x ∷ l) 0 k) 0) e ∙ zero_joined (x ∷ l) 0 1 n ∙ ap₂ (λ (v w : ℕ). eqb v 0 && eqb w 0) (sym first) (sym others) in
    zero_fold (b && (x == 0)) l ∙ and_assoc b (eqb x 0) (eqb (value l 0 n) 0) ∙ ap (λ (t : Bool). b && t) (sym whole)

pub zero_tested : (p s : List ℕ) (at n : ℕ) → p ≡ part s at n → fold (λ zero x. zero && (x == 0)) true p ≡ eqb (value s at n) 0
zero_tested p s at n h =
    let m : ℕ = min n (length s - at) in
    let long : length p ≡ m = ap length h ∙ rw (length-take, length-drop) refl in
    let same : value p 0 (length p) ≡ value s at m =
    ap₂ (λ (l : List ℕ) (k : ℕ). value l 0 k) h long ∙ value_in s at n 0 m (omega arith) ∙ ap (λ (k : ℕ). value s k m) (let z : at + 0 ≡ at = omega arith in z) in
    zero_fold true p ∙ ap (λ (v : ℕ). eqb v 0) same ∙ zero_within s at n

-- ---- writing a number

pub bytes_none : (l : List ℕ) (at w : ℕ) → sets l at (bytes 0 w) ≡ l
unfolding bytes
bytes_none l at w = refl

-- a store past a run of stores may come first
sets_set : (vs l : List ℕ) (at i x : ℕ) → at + length vs ≤ i → sets (set l i x) at vs ≡ set (sets l at vs) i x
sets_set [] l at i x h = refl
sets_set (v ∷ vs) l at i x h =
    ap (λ (m : List ℕ). sets m (suc at) vs) (set_comm l i at x v (λ (e : i ≡ at). omega arith))
    ∙ sets_set vs (set l at v) (suc at) i x (omega arith)

-- the last octet stored first
pub put_more : (out : List ℕ) (at i w : ℕ) → sets (set out (at + i) (w % 256)) at (bytes i (w / 256)) ≡ sets out at (bytes (i + 1) w)
unfolding bytes
put_more out at i w =
    sets_set (bytes i (w / 256)) out at (at + i) (w % 256) (omega (arith, length_bytes i (w / 256)))
    ∙ ap (λ (k : ℕ). set (sets out at (bytes i (w / 256))) k (w % 256)) (ap (λ (k : ℕ). at + k) (sym (length_bytes i (w / 256))))
    ∙ sym (sets_append (bytes i (w / 256)) (w % 256 ∷ []) out at)
    ∙ ap (λ (k : ℕ). sets out at (bytes k w)) (sym (add-one i))

pub low_bytes_none : (l : List ℕ) (at w : ℕ) → sets l at (low_bytes 0 w) ≡ l
unfolding low_bytes
low_bytes_none l at w = refl

-- the first octet stored first: i octets are written
pub put_low_more : (out : List ℕ) (at i n w : ℕ) → i < n → sets (set out (at + i) (w % 256)) (at + (i + 1)) (low_bytes (n - (i + 1)) (w / 256)) ≡ sets out (at + i) (low_bytes (n - i) w)
unfolding low_bytes
put_low_more out at i n w h =
    let e : at + (i + 1) ≡ suc (at + i) = omega arith in
    let m : n - i ≡ suc (n - (i + 1)) = omega arith in
    rw (e, m)

-- ---- copying

-- one element more of a copy
pub copy_in_more : (src out : List ℕ) (at i : ℕ) → i < length src → set (sets out at (take i src)) (at + i) (get_or src i 0) ≡ sets out at (take (i + 1) src)
copy_in_more src out at i h =
    ap (λ (k : ℕ). set (sets out at (take i src)) (at + k) (get_or src i 0)) (sym (length-take-le i src (omega arith)))
    ∙ sym (sets_append (take i src) (get_or src i 0 ∷ []) out at)
    ∙ ap (λ (l : List ℕ). sets out at l) (sym (take-suc src i 0 h))
    ∙ ap (λ (k : ℕ). sets out at (take k src)) (sym (add-one i))

-- stores past the end change nothing
sets_past : (ws l : List ℕ) (i : ℕ) → length l ≤ i → sets l i ws ≡ l
sets_past [] l i h = refl
sets_past (w ∷ ws) l i h = ap (λ (m : List ℕ). sets m (suc i) ws) (set_out l i w h) ∙ sets_past ws l (suc i) (omega arith)

-- as many stores as have room
pub sets_within : (ws l : List ℕ) (at n : ℕ) → min (length ws) (length l - at) ≤ n → sets l at (take n ws) ≡ sets l at ws
sets_within [] l at zero h = refl
sets_within [] l at (suc n) h = refl
sets_within (w ∷ ws) l at zero h = sym (sets_past (w ∷ ws) l at (omega arith))
sets_within (w ∷ ws) l at (suc n) h = sets_within ws (set l at w) (suc at) n (omega (arith, length-set l at w))

-- octets put in the place of as many
pub sets_put : (ws l : List ℕ) (at n : ℕ) → at + n ≤ length l → length ws ≡ n → put_mid at n l ws ≡ sets l at ws
sets_put ws l at n h e =
    ap (put_mid at n l) (sym (sets_whole ws (take n (drop at l)) (e ∙ sym (length-take-le n (drop at l) (rw length-drop (omega arith))))))
    ∙ sets_lent at n l ws h (omega (arith, e))
