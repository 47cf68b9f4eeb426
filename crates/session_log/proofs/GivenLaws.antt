-- What the writer is given and the items that it means.
use Prim.Native.Nat.{ℕ, suc, ◌+◌, ◌*◌, ◌≤◌}
use mathlib.Core.Path.{◌≡◌, refl, sym, ap, ap₂, ◌∙◌}
use mathlib.Core.Bool.{Bool, true}
use mathlib.Core.List.{List, [], ◌∷◌, ◌++◌, append-nil, map}
use native.Mathlib.Omega.{arith}
use borrow.Author.Tests.{le-leb, leb-true, eq-eqb, eqb-true}
use lib.Dec.{eqb}
use lib.ListN.{length, get_or, take, drop, length-append, length-drop}
use lib.Seq.{take-append_seam, drop-append_seam, length-take-le}
use Rattle.messages.specs.Reading.{Checked, no, yes}
use Rattle.messages.proofs.CheckLaws.{passed}
use Rattle.ends.specs.Lists.{joins, All}
use Rattle.ends.specs.Outcomes.{and_then}
use Rattle.session_log.specs.Meaning.{Item, head_of, first_in, second_in, length_in, item_of}
use Rattle.session_log.specs.Layout.{most_octets, item_octets, octets_of, list_octets}
use Rattle.session_log.specs.Reading.{Rules, item_rules}
use Rattle.session_log.specs.Writing.{items_of, item_octets_of, size_of, is_whole, given_rules}
use Rattle.session_log.specs.Claims.{IsHead}
use Rattle.session_log.proofs.NumberLaws.{Narrow}
use Rattle.session_log.proofs.ItemLaws.{length_octets}

-- an answer that follows another: both were given
pub record Followed {A B : Type 0} (w : Checked A) (f : A → Checked B) (y : B) : Type 0 where
  pub value : A
  pub first : w ≡ yes value
  pub second : f value ≡ yes y

pub followed : {A B : Type 0} (w : Checked A) (f : A → Checked B) (y : B) → and_then w f ≡ yes y → Followed w f y
followed (yes x) f y e = record { value = x; first = refl; second = e }
followed (no n) f y e = absurd (let z : ◌≡◌ {A = ℕ} 0 1 = cc in omega arith)

-- ---- items, given again

pub items_back : (xs : List Item) → items_of (map head_of xs) (item_octets_of xs) ≡ xs
unfolding items_of joins
items_back [] = refl
items_back (x ∷ xs) =
    ap₂ (λ (s : List ℕ) (ys : List Item). item_of (head_of x) s ∷ ys) (take-append_seam x.octets (item_octets_of xs))
    (ap (items_of (map head_of xs)) (drop-append_seam x.octets (item_octets_of xs)) ∙ items_back xs)

pub size_back : (xs : List Item) → size_of (map head_of xs) ≡ length (list_octets xs)
unfolding size_of joins
size_back [] = refl
size_back (x ∷ xs) = omega (arith, size_back xs, length_octets x, length-append (octets_of x) (list_octets xs))

whole_back : (x : Item) (xs : List Item) → is_whole (head_of x) (map head_of xs) (x.octets ++ item_octets_of xs) ≡ true
unfolding joins
whole_back x [] = eq-eqb (length (x.octets ++ [])) (length x.octets) (ap length (append-nil x.octets))
whole_back x (y ∷ xs) = le-leb (length x.octets) (length (x.octets ++ item_octets_of (y ∷ xs))) (omega (arith, length-append x.octets (item_octets_of (y ∷ xs))))

-- their rules are those of the items
pub given_back : (f : Rules) (n : ℕ) (xs : List Item) → given_rules f n (map head_of xs) (item_octets_of xs) ≡ item_rules f xs
unfolding given_rules item_rules joins
given_back f n [] = refl
given_back f n (x ∷ xs) =
    let s : List ℕ = x.octets ++ item_octets_of xs in
    let rest : given_rules f n (map head_of xs) (drop (length x.octets) s) ≡ item_rules f xs = ap (given_rules f n (map head_of xs)) (drop-append_seam x.octets (item_octets_of xs)) ∙ given_back f n xs in
    ap₂ (λ (b : Bool) (k : ℕ). and_then (f (head_of x) b k) (λ (_ : Unit {0}). given_rules f n (map head_of xs) (drop (length x.octets) s)))
    (whole_back x xs) (ap (λ (l : List ℕ). get_or l 0 0) (take-append_seam x.octets (item_octets_of xs)))
    ∙ ap (λ (w : Checked (Unit {0})). and_then (f (head_of x) true (get_or x.octets 0 0)) (λ (_ : Unit {0}). w)) rest

-- ---- items as given

three_numbers : (h : List ℕ) → length h ≡ 3 → first_in h ∷ second_in h ∷ length_in h ∷ [] ≡ h
three_numbers [] e = absurd (omega arith)
three_numbers (a ∷ []) e = absurd (omega arith)
three_numbers (a ∷ b ∷ []) e = absurd (omega arith)
three_numbers (a ∷ b ∷ c ∷ []) e = refl
three_numbers (a ∷ b ∷ c ∷ d ∷ h) e = absurd (omega arith)

pub whole_fits : (h : List ℕ) (hs : List (List ℕ)) (s : List ℕ) → is_whole h hs s ≡ true → length_in h ≤ length s
whole_fits h [] s e = let q = eqb-true (length s) (length_in h) e in omega arith
whole_fits h (k ∷ hs) s e = leb-true (length_in h) (length s) e

-- ---- as many octets as the lengths say

pub items_count : (hs : List (List ℕ)) (s : List ℕ) → length (items_of hs s) ≡ length hs
unfolding items_of
items_count [] s = refl
items_count (h ∷ hs) s = ap suc (items_count hs (drop (length_in h) s))

pub size_least : (hs : List (List ℕ)) → item_octets * length hs ≤ size_of hs
unfolding size_of
size_least [] = omega arith
size_least (h ∷ hs) = let r = size_least hs in omega arith

module _ (h : List ℕ) (hs : List (List ℕ)) (s : List ℕ) (e : size_of (h ∷ hs) ≡ item_octets * length (h ∷ hs) + length s) where
  pub told_first : length_in h ≤ length s
  unfolding size_of
  told_first = let r = size_least hs in omega arith

  pub told_rest : size_of hs ≡ item_octets * length hs + length (drop (length_in h) s)
  unfolding size_of
  told_rest = let r = told_first in let d = length-drop (length_in h) s in omega arith

pub items_size : (hs : List (List ℕ)) (s : List ℕ) → size_of hs ≡ item_octets * length hs + length s → length (list_octets (items_of hs s)) ≡ size_of hs
unfolding items_of size_of joins
items_size [] s e = refl
items_size (h ∷ hs) s e =
    let x : Item = item_of h (take (length_in h) s) in
    let long : length (take (length_in h) s) ≡ length_in h = length-take-le (length_in h) s (told_first h hs s e) in
    omega (arith, items_size hs (drop (length_in h) s) (told_rest h hs s e), length_octets x, long, length-append (octets_of x) (list_octets (items_of hs (drop (length_in h) s))))

-- ---- items that were accepted

-- what they are by the rules of items, and that their numbers fit
pub record Accepted (f : Rules) (hs : List (List ℕ)) (s : List ℕ) : Type 0 where
  pub rules : item_rules f (items_of hs s) ≡ yes tt
  pub narrow : All (λ (x : Item). All Narrow (head_of x)) (items_of hs s)

module _ (f : Rules) (guard : (h : List ℕ) (b : Bool) (k : ℕ) → f h b k ≡ yes tt → b ≡ true) (n : ℕ) where
  -- the octets are as many as the lengths say
  pub told_octets_lem : (hs : List (List ℕ)) (s : List ℕ) → given_rules f n hs s ≡ yes tt → size_of hs ≡ item_octets * length hs + length s
  unfolding given_rules size_of
  told_octets_lem [] s e = let z = eqb-true (length s) 0 (passed (eqb (length s) 0) n (yes tt) tt e).0 in omega arith
  told_octets_lem (h ∷ hs) s e =
      let two = followed (f h (is_whole h hs s) (get_or (take (length_in h) s) 0 0)) (λ (_ : Unit {0}). given_rules f n hs (drop (length_in h) s)) tt e in
      let fits = whole_fits h hs s (guard h (is_whole h hs s) (get_or (take (length_in h) s) 0 0) two.first) in
      let rest = told_octets_lem hs (drop (length_in h) s) two.second in
      let d = length-drop (length_in h) s in
      omega arith

  pub accepted : (hs : List (List ℕ)) (s : List ℕ) → All IsHead hs → size_of hs ≤ most_octets → given_rules f n hs s ≡ yes tt → Accepted f hs s
  unfolding given_rules item_rules items_of size_of
  accepted [] s t m e = record { rules = refl; narrow = tt }
  accepted (h ∷ hs) s t m e =
      let whole : Bool = is_whole h hs s in
      let octet : ℕ = get_or (take (length_in h) s) 0 0 in
      let x : Item = item_of h (take (length_in h) s) in
      let two = followed (f h whole octet) (λ (_ : Unit {0}). given_rules f n hs (drop (length_in h) s)) tt e in
      let there : whole ≡ true = guard h whole octet two.first in
      let long : length (take (length_in h) s) ≡ length_in h = length-take-le (length_in h) s (whole_fits h hs s there) in
      let head : head_of x ≡ h = ap (λ (k : ℕ). first_in h ∷ second_in h ∷ k ∷ []) long ∙ three_numbers h t.0.three in
      let rest = accepted hs (drop (length_in h) s) t.1 (omega arith) two.second in
      record {
        rules =
            ap₂ (λ (l : List ℕ) (b : Bool). and_then (f l b octet) (λ (_ : Unit {0}). item_rules f (items_of hs (drop (length_in h) s)))) head (sym there)
            ∙ ap (λ (w : Checked (Unit {0})). and_then w (λ (_ : Unit {0}). item_rules f (items_of hs (drop (length_in h) s)))) two.first
            ∙ rest.rules;
        narrow = ((t.0.first, (t.0.second, (omega (arith, long), tt))), rest.narrow);
      }
