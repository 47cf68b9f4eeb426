-- Numbers back to back, and parts of octets.
use Prim.Native.Nat.{ℕ, zero, suc, ◌+◌, ◌*◌, ◌^◌, ◌<◌, ◌≤◌}
use mathlib.Core.Path.{◌≡◌, refl, sym, ap, ap₂, ◌∙◌}
use mathlib.Core.List.{List, [], ◌∷◌, ◌++◌, append_assoc}
use native.Mathlib.Omega.{arith}
use lib.ListN.{length, take, drop, length-append, length-drop}
use lib.Seq.{take-add, drop-drop, length-take-le}
use Rattle.octets.specs.Octets.{low_value, low_bytes, part, Octets}
use Rattle.octets.proofs.OctetLaws.{length_low, low_value_bytes, low_bytes_value}
use Rattle.ends.specs.Lists.{All}
use Rattle.session_log.specs.Layout.{numbers, numbers_at}

-- a number fits its four octets
abbrev pub Narrow : ℕ → Type 0
Narrow v = v < 256 ^ 4

pub length_numbers : (vs : List ℕ) → length (numbers vs) ≡ 4 * length vs
unfolding numbers
length_numbers [] = refl
length_numbers (v ∷ vs) = length-append (low_bytes 4 v) (numbers vs) ∙ omega (arith, length_low 4 v, length_numbers vs)

-- numbers that were written are read, wherever they stand
pub numbers_read : (vs pre rest : List ℕ) → All Narrow vs → numbers_at (pre ++ (numbers vs ++ rest)) (length pre) (length vs) ≡ vs
unfolding numbers numbers_at
numbers_read [] pre rest h = refl
numbers_read (v ∷ vs) pre rest h =
    let first : pre ++ ((low_bytes 4 v ++ numbers vs) ++ rest) ≡ pre ++ (low_bytes 4 v ++ (numbers vs ++ rest)) = ap (λ (l : List ℕ). pre ++ l) (append_assoc (low_bytes 4 v) (numbers vs) rest) in
    let moved = first ∙ sym (append_assoc pre (low_bytes 4 v) (numbers vs ++ rest)) in
    let place : length pre + 4 ≡ length (pre ++ low_bytes 4 v) = sym (length-append pre (low_bytes 4 v) ∙ ap (λ (k : ℕ). length pre + k) (length_low 4 v)) in
    ap₂ (λ (a : ℕ) (l : List ℕ). a ∷ l)
    (ap (λ (l : List ℕ). low_value l (length pre) 4) first ∙ low_value_bytes 4 v pre (numbers vs ++ rest) h.0)
    (ap₂ (λ (l : List ℕ) (k : ℕ). numbers_at l k (length vs)) moved place ∙ numbers_read vs (pre ++ low_bytes 4 v) rest h.1)

-- two parts side by side
pub part_joined : (s : List ℕ) (at m n : ℕ) → part s at m ++ part s (at + m) n ≡ part s at (m + n)
part_joined s at m n = ap (λ (l : List ℕ). part s at m ++ take n l) (sym (drop-drop m at s)) ∙ sym (take-add m n (drop at s))

pub part_length : (s : List ℕ) (at n : ℕ) → at + n ≤ length s → length (part s at n) ≡ n
part_length s at n h = length-take-le n (drop at s) (rw length-drop (omega arith))

-- numbers that were read are written as they stood
pub numbers_written : (n at : ℕ) (s : List ℕ) → Octets s → at + 4 * n ≤ length s → numbers (numbers_at s at n) ≡ part s at (4 * n)
unfolding numbers numbers_at
numbers_written zero at s o h = refl
numbers_written (suc n) at s o h =
    ap₂ (λ (a b : List ℕ). a ++ b) (low_bytes_value 4 at s o (omega arith)) (numbers_written n (at + 4) s o (omega arith))
    ∙ part_joined s at 4 (4 * n)
    ∙ ap (part s at) (let e : 4 + 4 * n ≡ 4 * suc n = omega arith in e)
