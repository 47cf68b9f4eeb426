-- Which event the octets are, at either end.
use Prim.Native.Nat.{ℕ, ◌-◌, ◌≤◌}
use mathlib.Core.Path.{◌≡◌, refl, sym, ap, ◌∙◌}
use mathlib.Core.Bool.{Bool, true, false, cond, ◌&&◌}
use mathlib.Core.List.{List}
use mathlib.Core.Option.{Option, none}
use borrow.Author.Tests.{le-leb}
use lib.Dec.{leb}
use lib.ListN.{length, get_or, take, drop}
use Rattle.octets.proofs.OctetLaws.{lent_part}
use Rattle.messages.proofs.LayoutLaws.{and_left}
use Rattle.script.specs.declared.events.EventHead.{EventHead}
use Rattle.script.specs.Events.{event_octets, most_octets, kind_in, reading_in, room_in, length_in, is_sized, event_in}
use Rattle.script.specs.Replies.{longest_reply}
use Rattle.script.specs.Ends.{carried_out_as, carried_out}
use Rattle.script.specs.Private.{event_head}

-- ---- the octets of an event

-- two tests in one
both : {A : Type 0} (b c : Bool) (x y : A) → cond b (cond c x y) y ≡ cond (b && c) x y
both true c x y = refl
both false c x y = refl

-- the event of e's kind, with its reading and room and the octets s
abbrev pub of_kind : {A : Type 0} → (ℕ → ℕ → List ℕ → List (Option A)) → List ℕ → List ℕ → Option A
of_kind kinds e s = get_or (kinds (reading_in e) (room_in e) s) (kind_in e) none

module _ {A : Type 0} (kinds : ℕ → ℕ → List ℕ → List (Option A)) (e : List ℕ) (n : ℕ) where
  -- what has not as many octets as it tells is no event
  pub not_sized : is_sized e ≡ false → carried_out kinds e n ≡ none
  unfolding event_in
  not_sized g = ap (λ (d : Bool). cond (leb longest_reply n) (cond d (of_kind kinds e (drop event_octets e)) none) none) g ∙ none_left (leb longest_reply n)
    where
      none_left : (d : Bool) → ◌≡◌ {A = Option A} (cond d none none) none
      none_left true = refl
      none_left false = refl

  module _ (g : is_sized e ≡ true) where
    few : leb (room_in e) most_octets ≡ true
    few = and_left (leb (room_in e) most_octets) _ (and_left (leb (room_in e) most_octets && leb (length_in e) most_octets) _ g)

    module _ {h : EventHead} (same : h ≡ event_head e) where
      of_head : of_kind kinds e (drop event_octets e) ≡ get_or (kinds h.reading h.room (take (length e - event_octets) (drop event_octets e))) h.kind none
      of_head = ap (of_kind kinds e) (sym (lent_part event_octets e)) ∙ ap (λ (k : EventHead). get_or (kinds k.reading k.room (take (length e - event_octets) (drop event_octets e))) k.kind none) (sym same)

      -- it is the event of its kind, reading, room and octets
      pub sized_as : carried_out kinds e n ≡ carried_out_as kinds h.kind h.reading h.room (take (length e - event_octets) (drop event_octets e)) n
      unfolding event_in
      sized_as =
          ap (λ (d : Bool). cond (leb longest_reply n) (cond d (of_kind kinds e (drop event_octets e)) none) none) (g ∙ sym (ap (λ (k : EventHead). leb k.room most_octets) same ∙ few))
          ∙ both (leb longest_reply n) (leb h.room most_octets) _ none
          ∙ ap (λ (x : Option A). cond (leb longest_reply n && leb h.room most_octets) x none) of_head

      -- it is carried out where the longest reply fits
      pub sized_event : longest_reply ≤ n → carried_out kinds e n ≡ get_or (kinds h.reading h.room (take (length e - event_octets) (drop event_octets e))) h.kind none
      unfolding event_in
      sized_event l =
          ap (λ (d : Bool). cond d (cond (is_sized e) (of_kind kinds e (drop event_octets e)) none) none) (le-leb longest_reply n l)
          ∙ ap (λ (d : Bool). cond d (of_kind kinds e (drop event_octets e)) none) g
          ∙ of_head
