-- Octets written over an output: in a part of it that is lent, and in front of others.
use Prim.Native.Nat.{ℕ, ◌+◌, ◌-◌, ◌≤◌}
use mathlib.Core.Path.{◌≡◌, refl, sym, ap, ap₂, ◌∙◌}
use mathlib.Core.List.{List, [], ◌∷◌, ◌++◌, append_assoc}
use native.Mathlib.Omega.{arith}
use native.Mathlib.Nat.{zero-add}
use lib.ListN.{length, take, drop, length-append, length-drop, take-append-drop}
use lib.Seq.{sets, drop_at, drop-drop, length-take-le, drop-append-le}
use borrow.Rule.Slice.PartMut.{put_mid}
use Rattle.octets.specs.Octets.{low_bytes, splice}
use Rattle.octets.proofs.OctetLaws.{sets_append, sets_splice}
use Rattle.script.specs.Replies.{number, reply_octets, reply_head}

-- a reply's first octets are three numbers
pub length_head : (a b k : ℕ) → length (reply_head a b k) ≡ reply_octets
unfolding reply_head low_bytes
length_head a b k = refl

-- three numbers written one behind the other
pub head_put : (d : List ℕ) (a b k : ℕ) → reply_octets ≤ length d → sets (sets (sets d 0 (number a)) 4 (number b)) 8 (number k) ≡ splice 0 (reply_head a b k) d
unfolding reply_head low_bytes
head_put d a b k h = sets_splice (number a ++ (number b ++ number k)) d 0 h

-- stores behind octets that stand at the front
pub put_behind : (d ws vs : List ℕ) (k : ℕ) → length ws ≡ k → k + length vs ≤ length d → sets (splice 0 ws d) k vs ≡ splice 0 (ws ++ vs) d
put_behind d ws vs k e h =
    let w : 0 + length ws ≤ length d = omega arith in
    let at : k ≡ 0 + length ws = omega arith in
    let whole : 0 + length (ws ++ vs) ≤ length d = rw length-append (omega arith) in
    ap₂ (λ (l : List ℕ) (i : ℕ). sets l i vs) (sym (sets_splice ws d 0 w)) at
    ∙ sym (sets_append ws vs d 0)
    ∙ sets_splice (ws ++ vs) d 0 whole

-- octets written in front of others
pub splice_front : (d mid ws vs : List ℕ) (k : ℕ) → length vs ≡ k → k ≤ length d → mid ≡ splice k ws d → splice 0 vs mid ≡ splice 0 (vs ++ ws) d
unfolding splice
splice_front d mid ws vs k e h m =
    let behind : drop (0 + length vs) mid ≡ ws ++ drop (k + length ws) d =
    ap₂ (λ (i : ℕ) (l : List ℕ). drop i l) (zero-add (length vs) ∙ e) m ∙ drop_at (take k d) (ws ++ drop (k + length ws) d) k (length-take-le k d h) in
    let sum : k + length ws ≡ 0 + length (vs ++ ws) = omega (arith, length-append vs ws) in
    ap (λ (l : List ℕ). vs ++ l) (behind ∙ ap (λ (i : ℕ). ws ++ drop i d) sum)
    ∙ sym (append_assoc vs ws (drop (0 + length (vs ++ ws)) d))

-- what lies behind the first w elements, in two parts
drop_parts : (m : List ℕ) (w k : ℕ) → w ≤ k → k ≤ length m → drop w (take k m) ++ drop k m ≡ drop w m
drop_parts m w k h l = sym (drop-append-le w (take k m) (drop k m) (rw length-take-le (omega arith))) ∙ ap (drop w) (take-append-drop k m)

-- a part of an output is as long as it says
pub part_length : (d : List ℕ) (a k : ℕ) → a + k ≤ length d → length (take k (drop a d)) ≡ k
part_length d a k h = length-take-le k (drop a d) (rw length-drop (omega arith))

-- octets written to the front of a part that is lent
module _ (d ws ys : List ℕ) (a k : ℕ) (fits : a + k ≤ length d) (e : ys ≡ splice 0 ws (take k (drop a d))) (same : length ys ≡ length (take k (drop a d))) where
  -- they fit in it
  part_fits : length ws ≤ k
  unfolding splice
  part_fits =
      let sum : length ys ≡ length ws + (length (take k (drop a d)) - (0 + length ws)) =
      ap length e ∙ length-append ws _ ∙ ap (λ (n : ℕ). length ws + n) (length-drop (0 + length ws) (take k (drop a d))) in
      omega (arith, part_length d a k fits)

  -- they stand in the output once the part is back in its place
  pub splice_part : put_mid a k d ys ≡ splice a ws d
  unfolding splice
  splice_part =
      let m : List ℕ = drop a d in
      let back : ys ++ drop k m ≡ ws ++ drop (a + length ws) d =
      ap (λ (l : List ℕ). l ++ drop k m) e
      ∙ append_assoc ws (drop (0 + length ws) (take k m)) (drop k m)
      ∙ ap (λ (l : List ℕ). ws ++ l) (ap (λ (i : ℕ). drop i (take k m) ++ drop k m) (zero-add (length ws)) ∙ drop_parts m (length ws) k part_fits (rw length-drop (omega arith)) ∙ drop-drop (length ws) a d) in
      ap (λ (l : List ℕ). take a d ++ l) back

-- no octets written
pub splice_none : (d ws : List ℕ) (a : ℕ) → length ws ≡ 0 → d ≡ splice a ws d
unfolding splice
splice_none d [] a e = sym (take-append-drop a d) ∙ ap (λ (i : ℕ). take a d ++ drop i d) (let z : a ≡ a + 0 = omega arith in z)
splice_none d (w ∷ ws) a e = absurd (omega arith)
