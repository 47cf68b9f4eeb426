-- Walks over the heads that the writer is given: what is left to do at each place is the whole.
use Prim.Native.Nat.{ℕ, ◌+◌, ◌≤◌, ◌<◌, min}
use mathlib.Core.Path.{◌≡◌, refl, sym, ap, ◌∙◌}
use mathlib.Core.Bool.{Bool, true}
use mathlib.Core.List.{List, []}
use native.Mathlib.Omega.{arith}
use borrow.Author.Tests.{eq-eqb, ne_eqb}
use lib.Dec.{eqb}
use lib.ListN.{length, get_or, take, drop, length-drop, drop_of_length-le}
use lib.Seq.{drop-drop}
use Rattle.messages.specs.Reading.{Checked, no, yes, check}
use Rattle.messages.proofs.CheckLaws.{pass, fail}
use Rattle.ends.specs.Outcomes.{and_then}
use Rattle.ends.proofs.ListLaws.{drop_next}
use Rattle.session_log.specs.Meaning.{length_in}
use Rattle.session_log.specs.Layout.{item_octets}
use Rattle.session_log.specs.Writing.{size_of, is_whole, given_rules}
use Rattle.session_log.specs.Private.{rules_of, head_in, given_item, cause_of, too_long}
use Rattle.session_log.specs.declared.judging.Which.{Which}
use Rattle.session_log.specs.declared.judging.Which.TheVariants.{Events, Replies}
use Rattle.session_log.proofs.RuleLaws.{event_whole, reply_whole}
use Rattle.session_log.proofs.GivenLaws.{whole_fits}

-- ---- where items end

pub size_next : (hs : List (List ℕ)) (i : ℕ) → i < length hs → size_of (drop i hs) ≡ item_octets + length_in (head_in hs i) + size_of (drop (i + 1) hs)
unfolding size_of
size_next hs i h = ap size_of (drop_next hs i [] h)

pub size_end : (hs : List (List ℕ)) (i : ℕ) → length hs ≤ i → size_of (drop i hs) ≡ 0
unfolding size_of
size_end hs i h = ap size_of (drop_of_length-le hs h)

pub record Summed (hs : List (List ℕ)) (from end i : ℕ) : Type 0 where
  pub turns : i ≤ length hs
  pub capped : end ≤ too_long
  pub same : min (end + size_of (drop i hs)) too_long ≡ min (from + size_of hs) too_long

pub summed_start : (hs : List (List ℕ)) (from : ℕ) → from ≤ too_long → Summed hs from from 0
summed_start hs from h = record { turns = omega arith; capped = h; same = refl }

module _ {hs : List (List ℕ)} {from end i : ℕ} (s : Summed hs from end i) where
  pub summed_next : i < length hs → {n e : ℕ} → n ≡ length_in (head_in hs i) → e ≡ min (end + item_octets + n) too_long → Summed hs from e (i + 1)
  summed_next h en ee = record {
    turns = omega arith;
    capped = omega arith;
    same = (let d : _ ≡ _ = size_next hs i h in let z = s.same in omega arith);
  }

  pub summed_end : length hs ≤ i → end ≡ min (from + size_of hs) too_long
  summed_end h = let d = size_end hs i h in let z = s.same in let k = s.capped in omega arith

-- ---- the items one after the other

rules_whole : (w : Which) (h : List ℕ) (b : Bool) (k : ℕ) → rules_of w h b k ≡ yes tt → b ≡ true
rules_whole Events = event_whole
rules_whole Replies = reply_whole

pub record Taking (w : Which) (hs : List (List ℕ)) (s : List ℕ) (at i : ℕ) : Type 0 where
  pub turns : i ≤ length hs
  pub within : at ≤ length s
  pub same : given_rules (rules_of w) (cause_of w) (drop i hs) (drop at s) ≡ given_rules (rules_of w) (cause_of w) hs s

pub taking_start : (w : Which) (hs : List (List ℕ)) (s : List ℕ) → Taking w hs s 0 0
taking_start w hs s = record { turns = omega arith; within = omega arith; same = refl }

module _ {w : Which} {hs : List (List ℕ)} {s : List ℕ} {at i : ℕ} (t : Taking w hs s at i) where
  left_none : length hs ≤ i → check (eqb (length (drop at s)) 0) (cause_of w) (yes tt) ≡ given_rules (rules_of w) (cause_of w) hs s
  unfolding given_rules
  left_none h = ap (λ (l : List (List ℕ)). given_rules (rules_of w) (cause_of w) l (drop at s)) (sym (drop_of_length-le hs h)) ∙ t.same

  pub taking_end : length hs ≤ i → at ≡ length s → yes tt ≡ given_rules (rules_of w) (cause_of w) hs s
  taking_end h e = sym (pass (eqb (length (drop at s)) 0) (cause_of w) (yes tt) (eq-eqb (length (drop at s)) 0 (rw length-drop (omega arith)))) ∙ left_none h

  pub taking_over : length hs ≤ i → (at ≡ length s → ⊥) → no (cause_of w) ≡ given_rules (rules_of w) (cause_of w) hs s
  taking_over h e =
      sym (fail (eqb (length (drop at s)) 0) (cause_of w) (yes tt) (ne_eqb (length (drop at s)) 0 (λ z. e (let q = length-drop at s in let k = t.within in omega arith))))
      ∙ left_none h

  module _ (more : i < length hs) where
    abbrev pub head : List ℕ
    head = head_in hs i

    abbrev pub own : Checked (Unit {0})
    own = given_item w hs i s at

    own_then_lem : and_then own (λ (_ : Unit {0}). given_rules (rules_of w) (cause_of w) (drop (i + 1) hs) (drop (at + length_in head) s)) ≡ given_rules (rules_of w) (cause_of w) hs s
    unfolding given_rules
    own_then_lem =
        ap (λ (l : List ℕ). and_then own (λ (_ : Unit {0}). given_rules (rules_of w) (cause_of w) (drop (i + 1) hs) l)) (sym (drop-drop (length_in head) at s))
        ∙ ap (λ (l : List (List ℕ)). given_rules (rules_of w) (cause_of w) l (drop at s)) (sym (drop_next hs i [] more))
        ∙ t.same

    pub taking_past : (n : ℕ) → no n ≡ own → no n ≡ given_rules (rules_of w) (cause_of w) hs s
    taking_past n e = ap (λ (x : Checked (Unit {0})). and_then x (λ (_ : Unit {0}). given_rules (rules_of w) (cause_of w) (drop (i + 1) hs) (drop (at + length_in head) s))) e ∙ own_then_lem

    module _ (e : yes tt ≡ own) where
      pub taking_within : at + length_in head ≤ length s
      taking_within =
          let b = rules_whole w head (is_whole head (drop (i + 1) hs) (drop at s)) (get_or (take (length_in head) (drop at s)) 0 0) (sym e) in
          let f = whole_fits head (drop (i + 1) hs) (drop at s) b in
          let q = length-drop at s in
          let k = t.within in
          omega arith

      pub taking_next : Taking w hs s (at + length_in head) (i + 1)
      taking_next = record {
        turns = omega arith;
        within = taking_within;
        same = ap (λ (x : Checked (Unit {0})). and_then x (λ (_ : Unit {0}). given_rules (rules_of w) (cause_of w) (drop (i + 1) hs) (drop (at + length_in head) s))) e ∙ own_then_lem;
      }
