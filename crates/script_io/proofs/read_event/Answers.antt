-- Both reads were full, and the second leaves the octets of the first.
use Rattle.std.proofs.Common.{rules, arith, ◌≡◌, ◌+◌, ℕ, List, ◌≤◌, ◌++◌, length, sym, ap, ◌∙◌, le_refl, length-append}
use Rattle.std.proofs.lemmas.Slice.{take-put_mid_below}
use Rattle.script.specs.Events.{event_octets, length_in}
use Rattle.script_io.proofs.Reading.{consumes_both, same_length_in}
use Rattle.script_io.proofs.NoEvent.{none_too_long, none_short}
use Rattle.script_io.proofs.read_event.Goals as goal
use borrow.Rule.Slice.PartMut.{put_mid}

-- the length stands in front of what is read behind the first octets
length_in_behind : (k : ℕ) (xs rest ys : List ℕ) → length xs ≡ event_octets → length_in (put_mid event_octets k (xs ++ rest) ys) ≡ length_in (xs ++ rest)
length_in_behind k xs rest ys long =
    let within : event_octets ≤ length (xs ++ rest) = omega (arith, length-append xs rest) in
    same_length_in (put_mid event_octets k (xs ++ rest) ys) (xs ++ rest) (take-put_mid_below event_octets k (xs ++ rest) ys event_octets (le_refl event_octets) within)

pub returns-clause-read : goal.returns-clause-read
returns-clause-read g c =
    let long : length c.read_full.new.octets ≡ event_octets = search rules in
    let long' : length c.read_full-2.new.octets ≡ c.event_length-size.result = search rules in
    let first = c.in_ok-read_full.ensures in
    let second = c.in_ok-read_full-2.ensures in
    consumes_both _ _ _ _ _ _ _ _ _ _ _ long c.if-branch-lt-EVENT_OCTETS.false first.within long' c.if-branch-size.false second.within first.read second.read

pub returns-clause-whole : goal.returns-clause-whole
returns-clause-whole g c =
    let long : length c.read_full.new.octets ≡ event_octets = search rules in
    ap (λ n. event_octets + n) (c.event_length-size.ensures ∙ sym (length_in_behind _ _ _ _ long))

pub returns-then-size-gt-MOST_OCTETS-clause-none : goal.returns-then-size-gt-MOST_OCTETS-clause-none
returns-then-size-gt-MOST_OCTETS-clause-none g c = λ _.
    let long : length c.read_full.new.octets ≡ event_octets = search rules in
    none_too_long _ _ _ _ _ _ long c.if-branch-lt-EVENT_OCTETS.false c.in_ok-read_full.ensures.read c.event_length-size.ensures c.if-size-gt-MOST_OCTETS.true

pub returns-then-branch-size-clause-none : goal.returns-then-branch-size-clause-none
returns-then-branch-size-clause-none g c = λ _.
    let long : length c.read_full.new.octets ≡ event_octets = search rules in
    let long' : length c.read_full-2.new.octets ≡ c.event_length-size.result = search rules in
    let first = c.in_ok-read_full.ensures in
    let second = c.in_ok-read_full-2.ensures in
    let short = c.if-branch-size.true in
    none_short _ _ _ _ _ _ _ _ _ long c.if-branch-lt-EVENT_OCTETS.false first.read c.event_length-size.ensures long' short second.read (second.ended (omega (arith, long', short)))
