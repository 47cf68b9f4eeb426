-- What is read into the part of a slice behind what was read before.
use Rattle.std.proofs.Common.{◌≡◌, ℕ, ◌+◌, ◌≤◌, List, ◌++◌, arith, length, take, sym, ap, ◌∙◌, subst, length-append, length-take-le}
use Rattle.std.specs.Prelude.{Option}
use Rattle.std.proofs.lemmas.List.{take-append-le}
use Rattle.std.proofs.Math.Seq.{take-append-add}
use Rattle.std.specs.Io.KnownBytes.{Consumes}
use Rattle.std.proofs.KnownBytes.{Consumes-trans}
use Rattle.octets.specs.Octets.{low_value}
use Rattle.octets.proofs.OctetLaws.{low_take}
use Rattle.script.specs.Events.{event_octets, length_in}
use borrow.Rule.Slice.PartMut.{put_mid, post_of}

-- the first octets of xs, and n octets of the part behind them, which was ys
take_put_mid_part : (a k n : ℕ) (xs ys : List ℕ) → a ≤ length xs → n ≤ length ys → take (a + n) (put_mid a k xs ys) ≡ take a xs ++ take n ys
take_put_mid_part a k n xs ys within fits =
    let front = take a xs in
    let behind = ys ++ post_of a k xs in
    ap (λ m. take (m + n) (front ++ behind)) (sym (length-take-le a xs within)) ∙ take-append-add front behind n ∙ ap (λ l. front ++ l) (take-append-le n ys _ fits)

-- the first a octets of xs were read, and then n octets into the part behind them
pub consumes_part : (x y z : Option (List ℕ)) (a k n : ℕ) (xs ys : List ℕ) → a ≤ length xs → n ≤ length ys
    → Consumes x y (take a xs) → Consumes y z (take n ys) → Consumes x z (take (a + n) (put_mid a k xs ys))
consumes_part x y z a k n xs ys within fits before read =
    subst (Consumes x z) (sym (take_put_mid_part a k n xs ys within fits)) (Consumes-trans _ _ _ _ _ before read)

-- the same of a part xs in front and a part ys behind it that were both read whole: m is a, and n is b
pub consumes_both : (x y z : Option (List ℕ)) (a b k m n : ℕ) (xs rest ys : List ℕ) → length xs ≡ a → a ≤ m → m ≤ length xs → length ys ≡ b → b ≤ n → n ≤ length ys
    → Consumes x y (take m xs) → Consumes y z (take n ys) → Consumes x z (take (a + b) (put_mid a k (xs ++ rest) ys))
consumes_both x y z a b k m n xs rest ys long most within long' most' within' before read =
    let same : m ≡ a = omega arith in
    let same' : n ≡ b = omega arith in
    let first = subst (Consumes x y) (ap (λ j. take j xs) same ∙ sym (take-append-le a xs rest (omega arith))) before in
    let second = subst (λ j. Consumes y z (take j ys)) same' read in
    consumes_part x y z a k b (xs ++ rest) ys (omega (arith, length-append xs rest)) (omega arith) first second

-- an event's first octets tell its length
pub same_length_in : (s t : List ℕ) → take event_octets s ≡ take event_octets t → length_in s ≡ length_in t
same_length_in s t same =
    sym (low_take event_octets s 12 4 (omega arith)) ∙ ap (λ l. low_value l 12 4) same ∙ low_take event_octets t 12 4 (omega arith)
