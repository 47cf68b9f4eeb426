-- Where no event stands in front of what an input has left: its first octets xs tell a length that is too great, or more octets than follow.
use Rattle.std.proofs.Common.{◌≡◌, ℕ, ◌+◌, ◌<◌, ◌≤◌, List, [], ◌++◌, arith, length, take, sym, ap, ◌∙◌, length-append, length-take-le}
use Rattle.std.specs.Prelude.{Option, None, Some, IfSome}
use Rattle.std.proofs.lemmas.List.{take_all, take_at}
use Rattle.std.specs.Io.KnownBytes.{Consumes, IsAtEnd}
use Rattle.script.specs.Events.{most_octets, event_octets, length_in}
use Rattle.script_io.specs.Events.{StartsWithEvent}
use Rattle.script_io.proofs.Reading.{same_length_in}

-- what was left, where xs was read whole: m is at least its length
left_before : (m : ℕ) (s xs t : List ℕ) → length xs ≤ m → s ≡ take m xs ++ t → s ≡ xs ++ t
left_before m s xs t most read = read ∙ ap (λ l. l ++ t) (take_all m xs most)

-- the length is over the most octets
pub none_too_long : (x y : Option (List ℕ)) (m v : ℕ) (xs rest : List ℕ) → length xs ≡ event_octets → event_octets ≤ m → Consumes x y (take m xs) → v ≡ length_in (xs ++ rest) → most_octets < v
    → IfSome x (λ s. ¬ StartsWithEvent s)
none_too_long None y m v xs rest long most read told over = tt
none_too_long (Some s) None m v xs rest long most read told over = absurd read
none_too_long (Some s) (Some t) m v xs rest long most read told over = λ h.
    let same : length_in s ≡ v = ap length_in (left_before m s xs t (omega arith) read) ∙ same_length_in (xs ++ t) (xs ++ rest) (take_at xs t event_octets long ∙ sym (take_at xs rest event_octets long)) ∙ sym told in
    omega (arith, h.bounded)

-- the input ended within the event's own octets
pub none_short : (x y z : Option (List ℕ)) (m n v : ℕ) (xs rest ys : List ℕ) → length xs ≡ event_octets → event_octets ≤ m → Consumes x y (take m xs) → v ≡ length_in (xs ++ rest) → length ys ≡ v → n < v
    → Consumes y z (take n ys) → IsAtEnd z → IfSome x (λ s. ¬ StartsWithEvent s)
none_short None y z m n v xs rest ys long most read told long' short read' end = tt
none_short (Some s) None z m n v xs rest ys long most read told long' short read' end = absurd read
none_short (Some s) (Some t) None m n v xs rest ys long most read told long' short read' end = absurd read'
none_short (Some s) (Some t) (Some u) m n v xs rest ys long most read told long' short read' end = λ h.
    let before = left_before m s xs t (omega arith) read in
    let same : length_in s ≡ v = ap length_in before ∙ same_length_in (xs ++ t) (xs ++ rest) (take_at xs t event_octets long ∙ sym (take_at xs rest event_octets long)) ∙ sym told in
    let left : length t ≡ n = ap length (read' ∙ ap (λ l. take n ys ++ l) end) ∙ length-append (take n ys) [] ∙ ap (λ k. k + 0) (length-take-le n ys (omega arith)) ∙ omega arith in
    let all : length s ≡ event_octets + n = ap length before ∙ length-append xs t ∙ omega arith in
    omega (arith, h.whole)
