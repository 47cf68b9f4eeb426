-- Octets written over an output: in a part of it that is lent, and one run behind another.
use Prim.Native.Nat.{ℕ, ◌+◌, ◌-◌, ◌≤◌}
use mathlib.Core.Path.{◌≡◌, sym, ap, ap₂, ◌∙◌}
use mathlib.Core.List.{List, [], ◌++◌, append_assoc, append-nil}
use native.Mathlib.Omega.{arith}
use native.Mathlib.Nat.{zero-add}
use lib.ListN.{length, take, drop, length-append, length-drop, drop_of_length-le}
use lib.Seq.{take_at, drop_at, drop-drop, length-take-le}
use borrow.Rule.Slice.PartMut.{put_mid}
use Rattle.octets.specs.Octets.{splice}
use Rattle.octets.proofs.OctetLaws.{lent_part}

-- octets written to the front of a part that is lent from a on, once it is back in its place
pub splice_lent : (d ws ys : List ℕ) (a : ℕ) → a ≤ length d → ys ≡ splice 0 ws (take (length d - a) (drop a d)) → put_mid a (length d - a) d ys ≡ splice a ws d
unfolding splice
splice_lent d ws ys a h e =
    let none : drop (length d - a) (drop a d) ≡ [] = drop_of_length-le (drop a d) {i = length d - a} (rw length-drop (omega arith)) in
    let part : ys ≡ ws ++ drop (a + length ws) d =
    e
    ∙ ap (λ (p : List ℕ). ws ++ drop (0 + length ws) p) (lent_part a d)
    ∙ ap (λ (k : ℕ). ws ++ drop k (drop a d)) (zero-add (length ws))
    ∙ ap (λ (p : List ℕ). ws ++ p) (drop-drop (length ws) a d) in
    ap₂ (λ (p q : List ℕ). take a d ++ (p ++ q)) part none
    ∙ ap (λ (p : List ℕ). take a d ++ p) (append-nil (ws ++ drop (a + length ws) d))

-- octets written behind others, as one run
pub splice_then : (d x y ws vs : List ℕ) (a b : ℕ) → a + length ws ≡ b → a ≤ length d → x ≡ splice a ws d → y ≡ splice b vs x → y ≡ splice a (ws ++ vs) d
unfolding splice
splice_then d x y ws vs a b eb h ex ey =
    let front : List ℕ = take a d ++ ws in
    let len : length front ≡ b = length-append (take a d) ws ∙ ap (λ (k : ℕ). k + length ws) (length-take-le a d h) ∙ eb in
    let whole : x ≡ front ++ drop b d = ex ∙ rw (eb, append_assoc) in
    let sum : b + length vs ≡ a + length (ws ++ vs) = omega (arith, length-append ws vs) in
    let back : drop (b + length vs) x ≡ drop (a + length (ws ++ vs)) d =
    ap (drop (b + length vs)) whole
    ∙ sym (drop-drop (length vs) b (front ++ drop b d))
    ∙ ap (drop (length vs)) (drop_at front (drop b d) b len)
    ∙ drop-drop (length vs) b d
    ∙ ap (λ (k : ℕ). drop k d) sum in
    ey
    ∙ ap (λ (l : List ℕ). l ++ (vs ++ drop (b + length vs) x)) (ap (take b) whole ∙ take_at front (drop b d) b len)
    ∙ ap (λ (l : List ℕ). front ++ (vs ++ l)) back
    ∙ simp append_assoc
