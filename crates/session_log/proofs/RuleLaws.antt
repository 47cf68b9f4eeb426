-- What the rules of an event and of a reply say of their octets.
use Prim.Native.Nat.{ℕ}
use mathlib.Core.Path.{◌≡◌}
use mathlib.Core.Bool.{Bool, true, ◌&&◌}
use mathlib.Core.List.{List}
use lib.Dec.{leb}
use Rattle.messages.specs.Reading.{yes}
use Rattle.messages.proofs.CheckLaws.{passed}
use Rattle.messages.proofs.LayoutLaws.{and_right}
use Rattle.session_log.specs.Meaning.{first_in}
use Rattle.session_log.specs.Reading.{is_timed, is_sized, event_rules, is_indicated, is_framed, reply_rules}

-- an item whose octets are not all there is refused
pub event_whole : (h : List ℕ) (whole : Bool) (octet : ℕ) → event_rules h whole octet ≡ yes tt → whole ≡ true
unfolding event_rules
event_whole h whole octet e =
    let one = passed (leb (first_in h) 4) 9 _ tt e in
    let two = passed (is_timed h) 10 _ tt one.1 in
    and_right (is_sized h) whole (passed (is_sized h && whole) 11 _ tt two.1).0

pub reply_whole : (h : List ℕ) (whole : Bool) (octet : ℕ) → reply_rules h whole octet ≡ yes tt → whole ≡ true
unfolding reply_rules
reply_whole h whole octet e =
    let one = passed (is_indicated h) 13 _ tt e in
    and_right (is_framed h) whole (passed (is_framed h && whole) 14 _ tt one.1).0
