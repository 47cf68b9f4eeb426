-- The walk over events and replies: what is left at each place is the whole.
use Prim.Native.Nat.{ℕ, suc, ◌+◌, ◌-◌, ◌<◌, ◌≤◌}
use mathlib.Core.Path.{◌≡◌, refl, sym, ap, ap₂, ◌∙◌}
use mathlib.Core.Bool.{Bool, true, false, cond}
use mathlib.Core.List.{List}
use Rattle.std.specs.Prelude.{Option, Some, None}
use Rattle.std.specs.Bool.{then_some}
use Rattle.std.proofs.lemmas.Option.{MatchOption-at_some}
use native.Mathlib.Omega.{arith}
use borrow.Author.Tests.{leb-true}
use lib.Dec.{leb}
use lib.ListN.{length, get_or}
use Rattle.messages.specs.Reading.{Checked, no, yes}
use Rattle.messages.proofs.CheckLaws.{passed}
use Rattle.messages.proofs.LayoutLaws.{and_left, and_right}
use Rattle.ends.specs.Outcomes.{and_then}
use Rattle.rules.specs.declared.Station.{Station}
use Rattle.rules.specs.Invariant.{Invariant}
use Rattle.session_log.specs.Meaning.{head_of, first_in}
use Rattle.session_log.specs.Layout.{head_at, behind, item_at, items_at}
use Rattle.session_log.specs.Reading.{ends_at, event_rules, item_rules}
use Rattle.replaying.specs.Replaying.{call_of, after, is_reply, difference_from, first_difference}
use Rattle.replaying.specs.Private.{Stand, Listed, Turned}

-- where a chain gives an answer, its first part passed
pub then_yes : {B : Type 0} (w : Checked (Unit {0})) (f : Unit {0} → Checked B) (y : B) → and_then w f ≡ yes y → (w ≡ yes tt) × (f tt ≡ yes y)
then_yes (no n) f y e = absurd (let z : ◌≡◌ {A = ℕ} 0 1 = cc in omega arith)
then_yes (yes x) f y e = (refl, e)

-- a list that ends somewhere: its first item is in s, and so are the others
module _ (s : List ℕ) (n at e : ℕ) (h : ends_at s (suc n) at e ≡ true) where
  ends_first : behind s at ≤ length s
  unfolding ends_at
  ends_first = leb-true (behind s at) (length s) (and_left (leb (behind s at) (length s)) (ends_at s n (behind s at) e) h)

  ends_rest : ends_at s n (behind s at) e ≡ true
  unfolding ends_at
  ends_rest = and_right (leb (behind s at) (length s)) (ends_at s n (behind s at) e) h

-- one more event and reply
module _ (s : List ℕ) (n event reply : ℕ) (l : Listed s (suc n) event reply) where
  first_right : (event_rules (head_of (item_at s event)) true (get_or (item_at s event).octets 0 0) ≡ yes tt) × (item_rules event_rules (items_at s n (behind s event)) ≡ yes tt)
  unfolding items_at item_rules
  first_right = then_yes _ (λ (_ : Unit {0}). item_rules event_rules (items_at s n (behind s event))) tt l.right

  first_kind : first_in (head_at s event) ≤ 4
  unfolding event_rules
  first_kind = leb-true (first_in (head_at s event)) 4 (passed (leb (first_in (head_at s event)) 4) 9 _ tt first_right.0).0

  listed_first : Stand s event reply
  listed_first = record {
    short = l.short;
    event_ends = ends_first s n event l.events_end l.events;
    reply_ends = ends_first s n reply l.replies_end l.replies;
    kind = first_kind;
  }

  listed_rest : Listed s n (behind s event) (behind s reply)
  listed_rest = record {
    short = l.short;
    events_end = l.events_end;
    events = ends_rest s n event l.events_end l.events;
    replies_end = l.replies_end;
    replies = ends_rest s n reply l.replies_end l.replies;
    right = first_right.1;
  }

listed_as : (s : List ℕ) (m n event reply : ℕ) → m ≡ n → Listed s m event reply → Listed s n event reply
listed_as s m n event reply e l = rw e at l

-- ---- from event to event

-- a turn that gives no station found another reply
then_none : (b : Bool) (x : Station) → then_some b x ≡ None → b ≡ false
then_none true x e = absurd cc
then_none false x e = refl

-- and one that gives a station found the same
then_given : (b : Bool) (x y : Station) → then_some b x ≡ Some y → (b ≡ true) × (x ≡ y)
then_given true x y e = (refl, cc)
then_given false x y e = absurd cc

-- before the event i, counted from 0: the station, and where the event and its reply stand
pub record Going (station : Station) (s : List ℕ) (count events replies : ℕ) (at : Station) (event reply i : ℕ) : Type 0 where
  pub turns : i ≤ count
  pub kept : Invariant at
  pub listed : Listed s (count - i) event reply
  pub same : difference_from (i + 1) at (items_at s (count - i) event) (items_at s (count - i) reply) ≡ first_difference station (items_at s count events) (items_at s count replies)

module _ (station : Station) (s : List ℕ) (count events replies : ℕ) where
  pub going_start : Invariant station → Listed s count events replies → Going station s count events replies station events replies 0
  going_start k l =
      let z : count - 0 ≡ count = omega arith in
      record {
        turns = omega arith;
        kept = k;
        listed = listed_as s count (count - 0) events replies (sym z) l;
        same = ap (λ (n : ℕ). first_difference station (items_at s n events) (items_at s n replies)) z;
      }

  module _ (at : Station) (event reply i : ℕ) (g : Going station s count events replies at event reply i) where
    pub going_end : count ≤ i → 0 ≡ first_difference station (items_at s count events) (items_at s count replies)
    unfolding difference_from items_at
    going_end h = ap (λ (n : ℕ). difference_from (i + 1) at (items_at s n event) (items_at s n reply)) (let z : 0 ≡ count - i = omega arith in z) ∙ g.same

    module _ (more : i < count) where
      left : ℕ
      left = count - (i + 1)

      one_left : count - i ≡ suc left
      unfolding left
      one_left = omega arith

      listed : Listed s (suc left) event reply
      listed = listed_as s (count - i) (suc left) event reply one_left g.listed

      pub going_stand : Stand s event reply
      going_stand = listed_first s left event reply listed

      one_event : cond (is_reply at (call_of (item_at s event)) (item_at s reply)) (difference_from (i + 1 + 1) (after at (call_of (item_at s event))) (items_at s left (behind s event)) (items_at s left (behind s reply))) (i + 1) ≡ first_difference station (items_at s count events) (items_at s count replies)
      unfolding difference_from items_at
      one_event = ap (λ (n : ℕ). difference_from (i + 1) at (items_at s n event) (items_at s n reply)) (sym one_left) ∙ g.same

      module _ (t : Option Station) (h : Turned at (item_at s event) (item_at s reply) t) where
        abbrev same : Bool
        same = is_reply at (call_of (item_at s event)) (item_at s reply)

        pub going_differs : t ≡ None → i + 1 ≡ first_difference station (items_at s count events) (items_at s count replies)
        going_differs d = ap (λ (b : Bool). cond b (difference_from (i + 1 + 1) (after at (call_of (item_at s event))) (items_at s left (behind s event)) (items_at s left (behind s reply))) (i + 1)) (sym (then_none same _ (sym h.left ∙ d))) ∙ one_event

        pub going_next : (next : Station) → t ≡ Some next → Going station s count events replies next (behind s event) (behind s reply) (i + 1)
        unfolding left
        going_next next d =
            let e = then_given same (after at (call_of (item_at s event))) next (sym h.left ∙ d) in
            record {
              turns = omega arith;
              kept = MatchOption-at_some _ Invariant next d h.kept;
              listed = listed_rest s left event reply listed;
              same = ap₂ (λ (b : Bool) (z : Station). cond b (difference_from (i + 1 + 1) z (items_at s left (behind s event)) (items_at s left (behind s reply))) (i + 1)) (sym e.0) (sym e.1) ∙ one_event;
            }
