-- The laws of numbers in runs of octets, each proved once over the length.
use Prim.Native.Nat.{ℕ, zero, suc, ◌+◌, ◌-◌, ◌*◌, ◌^◌, ◌/◌, ◌%◌, ◌<◌, ◌≤◌}
use mathlib.Core.Path.{◌≡◌, refl, sym, ap, ap₂, ◌∙◌, subst}
use mathlib.Core.List.{List, [], ◌∷◌, ◌++◌, append_assoc, append-nil}
use native.Mathlib.Omega.{arith}
use native.Mathlib.Nat.{add-zero, pow-suc, pow-zero, one-le-pow, div-lt_iff_lt-mul, div-add-mod'}
use lib.ListN.{length, get_or, take, drop, replicate, set, length-append, length-take, length-drop, take-append-drop, drop_of_length-le, length-replicate, replicate-append-replicate, get_or-append}
use lib.Seq.{drop-cons, get_or-append_seam, get_or-append-add, sets, sets-eq, take-suc, take_all, take_at, drop_at, take-take, length-take-le, drop-append-le, get_or-drop, get_or-take}
use borrow.Rule.Slice.PartMut.{put_mid}
use Rattle.octets.specs.Octets.{value, bytes, low_value, low_bytes, part, Octets, splice}

-- ---- first octet most significant

pub length_bytes : (n v : ℕ) → length (bytes n v) ≡ n
unfolding bytes
length_bytes zero v = refl
length_bytes (suc n) v = length-append (bytes n (v / 256)) (v % 256 ∷ []) ∙ omega (arith, length_bytes n (v / 256))

pub value_lt : (s : List ℕ) (at n : ℕ) → Octets s → value s at n < 256 ^ n
unfolding value
value_lt s at zero o = rw pow-zero (omega arith)
value_lt s at (suc n) o = rw pow-suc (omega (arith, value_lt s at n o, o (at + n)))

-- the number in the octets of v, wherever they stand
pub value_bytes : (n v : ℕ) (pre rest : List ℕ) → v < 256 ^ n → value (pre ++ (bytes n v ++ rest)) (length pre) n ≡ v
unfolding value bytes
value_bytes zero v pre rest h = omega (arith, rw pow-zero at h)
value_bytes (suc n) v pre rest h =
    let x : ℕ = v % 256 in
    let h' : v / 256 < 256 ^ n = (div-lt_iff_lt-mul {k = 256} {x = v} {y = 256 ^ n} (omega arith)).1 (rw pow-suc at h) in
    let e : pre ++ (bytes n (v / 256) ++ (x ∷ []) ++ rest) ≡ pre ++ (bytes n (v / 256) ++ (x ∷ rest)) = rw append_assoc in
    let front : value (pre ++ (bytes n (v / 256) ++ (x ∷ rest))) (length pre) n ≡ v / 256 = value_bytes n (v / 256) pre (x ∷ rest) h' in
    let last : get_or (pre ++ (bytes n (v / 256) ++ (x ∷ rest))) (length pre + n) 0 ≡ x =
    get_or-append-add pre (bytes n (v / 256) ++ (x ∷ rest)) n 0
    ∙ subst (λ (k : ℕ). get_or (bytes n (v / 256) ++ (x ∷ rest)) k 0 ≡ x) (add-zero (length (bytes n (v / 256))) ∙ length_bytes n (v / 256)) (get_or-append-add (bytes n (v / 256)) (x ∷ rest) 0 0) in
    ap (λ (l : List ℕ). value l (length pre) n * 256 + get_or l (length pre + n) 0) e
    ∙ ap₂ (λ (a b : ℕ). a * 256 + b) front last
    ∙ div-add-mod' v 256

-- the octets of the number in n octets are these octets
pub bytes_value : (n at : ℕ) (s : List ℕ) → Octets s → at + n ≤ length s → bytes n (value s at n) ≡ part s at n
unfolding value bytes
bytes_value zero at s o h = refl
bytes_value (suc n) at s o h =
    let x : ℕ = get_or s (at + n) 0 in
    let v : ℕ = value s at n in
    let d : (v * 256 + x) / 256 ≡ v = omega (arith, o (at + n)) in
    let m : (v * 256 + x) % 256 ≡ x = omega (arith, o (at + n)) in
    let g : n < length (drop at s) = rw length-drop (omega arith) in
    ap₂ (λ (a b : ℕ). bytes n a ++ (b ∷ [])) d m
    ∙ ap₂ (λ (a : List ℕ) (b : ℕ). a ++ (b ∷ [])) (bytes_value n at s o (omega arith)) (sym (get_or-drop at s n 0))
    ∙ sym (take-suc (drop at s) n 0 g)

-- the octets of 0
pub bytes_zero : (n : ℕ) → bytes n 0 ≡ replicate n 0
unfolding bytes
bytes_zero zero = refl
bytes_zero (suc n) =
    ap (λ (l : List ℕ). l ++ (0 ∷ [])) (bytes_zero n)
    ∙ replicate-append-replicate n 1 0
    ∙ (let e : n + 1 ≡ suc n = omega arith in ap (λ (k : ℕ). replicate k 0) e)

-- ---- low octet first

pub length_low : (n v : ℕ) → length (low_bytes n v) ≡ n
unfolding low_bytes
length_low zero v = refl
length_low (suc n) v = ap suc (length_low n (v / 256))

pub low_lt : (s : List ℕ) (at n : ℕ) → Octets s → low_value s at n < 256 ^ n
unfolding low_value
low_lt s at zero o = rw pow-zero (omega arith)
low_lt s at (suc n) o = rw pow-suc (omega (arith, low_lt s (suc at) n o, o at))

pub low_value_bytes : (n v : ℕ) (pre rest : List ℕ) → v < 256 ^ n → low_value (pre ++ (low_bytes n v ++ rest)) (length pre) n ≡ v
unfolding low_value low_bytes
low_value_bytes zero v pre rest h = omega (arith, rw pow-zero at h)
low_value_bytes (suc n) v pre rest h =
    let x : ℕ = v % 256 in
    let tail : List ℕ = low_bytes n (v / 256) ++ rest in
    let h' : v / 256 < 256 ^ n = (div-lt_iff_lt-mul {k = 256} {x = v} {y = 256 ^ n} (omega arith)).1 (rw pow-suc at h) in
    let e : pre ++ (x ∷ tail) ≡ (pre ++ (x ∷ [])) ++ tail = simp append_assoc in
    let l : length (pre ++ (x ∷ [])) ≡ suc (length pre) = length-append pre (x ∷ []) ∙ omega arith in
    ap₂ (λ (a b : ℕ). a * 256 + b)
    (ap₂ (λ (m : List ℕ) (k : ℕ). low_value m k n) e (sym l) ∙ low_value_bytes n (v / 256) (pre ++ (x ∷ [])) rest h')
    (get_or-append_seam pre x tail 0)
    ∙ div-add-mod' v 256

pub low_bytes_value : (n at : ℕ) (s : List ℕ) → Octets s → at + n ≤ length s → low_bytes n (low_value s at n) ≡ part s at n
unfolding low_value low_bytes
low_bytes_value zero at s o h = refl
low_bytes_value (suc n) at s o h =
    let x : ℕ = get_or s at 0 in
    let v : ℕ = low_value s (suc at) n in
    let d : (v * 256 + x) / 256 ≡ v = omega (arith, o at) in
    let m : (v * 256 + x) % 256 ≡ x = omega (arith, o at) in
    ap₂ (λ (a b : ℕ). b ∷ low_bytes n a) d m
    ∙ ap (λ (l : List ℕ). x ∷ l) (low_bytes_value n (suc at) s o (omega arith))
    ∙ ap (λ (l : List ℕ). take (suc n) l) (sym (drop-cons s at 0 (omega arith)))

-- ---- the first octets of a longer run

module _ (k : ℕ) (s : List ℕ) where
  pub value_take : (at n : ℕ) → at + n ≤ k → value (take k s) at n ≡ value s at n
  unfolding value
  value_take at zero h = refl
  value_take at (suc n) h = ap₂ (λ (a b : ℕ). a * 256 + b) (value_take at n (omega arith)) (get_or-take k s (at + n) 0 (omega arith))

  pub low_take : (at n : ℕ) → at + n ≤ k → low_value (take k s) at n ≡ low_value s at n
  unfolding low_value
  low_take at zero h = refl
  low_take at (suc n) h = ap₂ (λ (a b : ℕ). a * 256 + b) (low_take (suc at) n (omega arith)) (get_or-take k s at 0 (omega arith))

pub part_take : (k : ℕ) (s : List ℕ) (at n : ℕ) → at + n ≤ k → part (take k s) at n ≡ part s at n
part_take k s zero n h = take-take n k s (omega arith)
part_take zero s (suc at) n h = absurd (omega arith)
part_take (suc k) [] (suc at) n h = refl
part_take (suc k) (x ∷ s) (suc at) n h = part_take k s at n (omega arith)

-- ---- parts and stores

-- the octets behind the first n of a list are octets
pub octets_drop : (n : ℕ) (s : List ℕ) → Octets s → Octets (drop n s)
octets_drop n s o i = rw get_or-drop (o (n + i))

-- a run of stores after another
pub sets_append : (a b l : List ℕ) (i : ℕ) → sets l i (a ++ b) ≡ sets (sets l i a) (i + length a) b
sets_append [] b l i = ap (λ (k : ℕ). sets l k b) (sym (add-zero i))
sets_append (x ∷ a) b l i = sets_append a b (set l i x) (suc i) ∙ ap (λ (k : ℕ). sets (sets (set l i x) (suc i) a) k b) (omega arith)

-- stores that fit are a splice
pub sets_splice : (ws l : List ℕ) (at : ℕ) → at + length ws ≤ length l → sets l at ws ≡ splice at ws l
unfolding splice
sets_splice ws l at h = sets-eq ws l at h ∙ append_assoc (take at l) ws (drop (at + length ws) l)

-- stores in every place leave nothing of what was there
pub sets_whole : (ws l : List ℕ) → length ws ≡ length l → sets l 0 ws ≡ ws
unfolding splice
sets_whole ws l h =
    sets_splice ws l 0 (omega arith)
    ∙ ap (λ (t : List ℕ). ws ++ t) (drop_of_length-le l {i = 0 + length ws} (omega arith))
    ∙ append-nil ws

-- stores behind the first octet, and in a part that starts anywhere
sets_behind : (ws l : List ℕ) (x i : ℕ) → sets (x ∷ l) (suc i) ws ≡ x ∷ sets l i ws
sets_behind [] l x i = refl
sets_behind (w ∷ ws) l x i = sets_behind ws (set l i w) x (suc i)

pub sets_part : (a : ℕ) (l ws : List ℕ) (i : ℕ) → a ≤ length l → take a l ++ sets (drop a l) i ws ≡ sets l (a + i) ws
sets_part zero l ws i h = ap (λ (k : ℕ). sets l k ws) (let e : i ≡ 0 + i = omega arith in e)
sets_part (suc a) [] ws i h = absurd (omega arith)
sets_part (suc a) (x ∷ l) ws i h =
    ap (λ (t : List ℕ). x ∷ t) (sets_part a l ws i (omega arith))
    ∙ sym (sets_behind ws l x (a + i))
    ∙ ap (λ (k : ℕ). sets (x ∷ l) k ws) (let e : suc (a + i) ≡ suc a + i = omega arith in e)

-- the part of a list from n on, as the code lends it
pub lent_part : (n : ℕ) (l : List ℕ) → take (length l - n) (drop n l) ≡ drop n l
lent_part n l = take_all (length l - n) (drop n l) (rw length-drop (omega arith))

-- stores in a part of n octets from a, once it is back in its place
pub sets_lent : (a n : ℕ) (l ws : List ℕ) → a + n ≤ length l → length ws ≤ n → put_mid a n l (sets (take n (drop a l)) 0 ws) ≡ sets l a ws
unfolding splice
sets_lent a n l ws h k =
    let d : List ℕ = drop a l in
    let m : length (take n d) ≡ n = length-take-le n d (rw length-drop (omega arith)) in
    let w : 0 + length ws ≤ length (take n d) = omega (arith, m) in
    ap (λ (p : List ℕ). take a l ++ p)
    (ap (λ (p : List ℕ). p ++ drop n d) (sets_splice ws (take n d) 0 w)
    ∙ append_assoc ws (drop (0 + length ws) (take n d)) (drop n d)
    ∙ ap (λ (p : List ℕ). ws ++ p) (sym (drop-append-le (0 + length ws) (take n d) (drop n d) w) ∙ ap (drop (0 + length ws)) (take-append-drop n d))
    ∙ sym (sets_splice ws d 0 (rw length-drop (omega arith))))
    ∙ sets_part a l ws 0 (omega arith)
    ∙ ap (λ (k : ℕ). sets l k ws) (let e : a + 0 ≡ a = omega arith in e)

-- ---- a run of octets that is a value itself

-- two runs with the same octets hold the same number
value_same : (s t : List ℕ) (a b n : ℕ) → ((i : ℕ) → i < n → get_or s (a + i) 0 ≡ get_or t (b + i) 0) → value s a n ≡ value t b n
unfolding value
value_same s t a b zero h = refl
value_same s t a b (suc n) h =
    let last : n < suc n = omega arith in
    ap₂ (λ (x y : ℕ). x * 256 + y) (value_same s t a b n (λ (i : ℕ) (k : i < n). let l : i < suc n = omega arith in h i l)) (h n last)

-- the number behind the first n octets
pub value_drop : (n : ℕ) (s : List ℕ) (at k : ℕ) → value (drop n s) at k ≡ value s (n + at) k
value_drop n s at k = value_same (drop n s) s at (n + at) k (λ (i : ℕ) (h : i < k). get_or-drop n s (at + i) 0 ∙ (let z : n + (at + i) ≡ n + at + i = omega arith in ap (λ (j : ℕ). get_or s j 0) z))

-- the number in a run, wherever the run stands
pub value_here : (v pre behind : List ℕ) (n : ℕ) → length v ≡ n → value (pre ++ (v ++ behind)) (length pre) n ≡ value v 0 n
value_here v pre behind n e =
    value_same (pre ++ (v ++ behind)) v (length pre) 0 n
    (λ (i : ℕ) (h : i < n).
    let l : i < length v = omega (arith, e) in
    let z : i ≡ 0 + i = omega arith in
    get_or-append-add pre (v ++ behind) i 0 ∙ get_or-append v behind 0 i l ∙ ap (λ (k : ℕ). get_or v k 0) z)

-- the number in a part
pub value_part : (s : List ℕ) (at n : ℕ) → value (part s at n) 0 n ≡ value s at n
value_part s at n =
    value_same (part s at n) s 0 at n
    (λ (i : ℕ) (h : i < n).
    let z : 0 + i ≡ i = omega arith in
    ap (λ (k : ℕ). get_or (part s at n) k 0) z ∙ get_or-take n (drop at s) i 0 h ∙ get_or-drop at s i 0)

pub part_here : (v pre behind : List ℕ) (n : ℕ) → length v ≡ n → part (pre ++ (v ++ behind)) (length pre) n ≡ v
part_here v pre behind n e = ap (take n) (drop_at pre (v ++ behind) (length pre) refl) ∙ take_at v behind n e

pub length_part : (s : List ℕ) (at n : ℕ) → at + n ≤ length s → length (part s at n) ≡ n
length_part s at n h = rw (length-take, length-drop) (omega arith)

-- zeros behind a list hold the number 0
pub value_zeros : (l : List ℕ) (z : ℕ) → value (l ++ replicate z 0) (length l) z ≡ 0
value_zeros l z =
    ap (λ (w : List ℕ). value (l ++ w) (length l) z) (sym (append-nil (bytes z 0) ∙ bytes_zero z))
    ∙ value_bytes z 0 l [] (one-le-pow z 256 (omega arith))

-- a run that holds the number 0 is zeros
zero_part : (s : List ℕ) (at n : ℕ) → at + n ≤ length s → value s at n ≡ 0 → part s at n ≡ replicate n 0
unfolding value
zero_part s at zero h e = refl
zero_part s at (suc n) h e =
    let v : value s at n ≡ 0 = omega arith in
    let x : get_or s (at + n) 0 ≡ 0 = omega arith in
    let g : n < length (drop at s) = rw length-drop (omega arith) in
    take-suc (drop at s) n 0 g
    ∙ ap₂ (λ (a : List ℕ) (b : ℕ). a ++ (b ∷ [])) (zero_part s at n (omega arith) v) (get_or-drop at s n 0 ∙ x)
    ∙ replicate-append-replicate n 1 0
    ∙ (let q : n + 1 ≡ suc n = omega arith in ap (λ (k : ℕ). replicate k 0) q)

-- a list whose last z values are zero
pub zeros_behind : (v : List ℕ) (n z : ℕ) → length v ≡ n + z → value v n z ≡ 0 → take n v ++ replicate z 0 ≡ v
zeros_behind v n z l e =
    ap (λ (w : List ℕ). take n v ++ w) (sym (zero_part v n z (omega (arith, l)) e) ∙ take_all z (drop n v) (rw length-drop (omega (arith, l))))
    ∙ take-append-drop n v

-- stores from the first octet of zeros
pub sets_zeros : (ws : List ℕ) (k z : ℕ) → length ws + z ≡ k → sets (replicate k 0) 0 ws ≡ ws ++ replicate z 0
sets_zeros ws k z e =
    let r : replicate {A = ℕ} k 0 ≡ replicate (length ws) 0 ++ replicate z 0 = ap (λ (n : ℕ). replicate n 0) (sym e) ∙ sym (replicate-append-replicate (length ws) z 0) in
    let n : 0 + length ws ≡ length ws = omega arith in
    sets-eq ws (replicate k 0) 0 (omega (arith, length-replicate {A = ℕ} k 0))
    ∙ ap₂ (λ (i : ℕ) (l : List ℕ). ws ++ drop i l) n r
    ∙ ap (λ (l : List ℕ). ws ++ l) (drop_at (replicate (length ws) 0) (replicate z 0) (length ws) (length-replicate (length ws) 0))
