-- What a log that was read gives to its replay.
use Prim.Native.Nat.{ℕ}
use mathlib.Core.Path.{◌≡◌, refl, sym, ap, ◌∙◌}
use mathlib.Core.Bool.{◌&&◌}
use mathlib.Core.List.{List}
use native.Mathlib.Omega.{arith}
use borrow.Author.Tests.{leb-true}
use lib.Dec.{eqb, leb}
use lib.ListN.{length}
use Rattle.messages.specs.Reading.{Checked, no, yes}
use Rattle.messages.proofs.CheckLaws.{passed}
use Rattle.messages.proofs.LayoutLaws.{and_right}
use Rattle.ends.specs.Outcomes.{and_then}
use Rattle.ends.proofs.AnswerLaws.{no_same, yes_same}
use Rattle.session_log.specs.declared.Places.{Places}
use Rattle.session_log.specs.Meaning.{Log}
use Rattle.session_log.specs.Layout.{most_octets, head_octets, events_start}
use Rattle.session_log.specs.Reading.{count_in, reply_count_in, events_in, replies_in, total_in, ends_at, part_rules, is_set, event_rules, reply_rules, item_rules, field_rules, log_in, read_rules}
use Rattle.session_log.specs.Answers.{places_in, places_of}
use Rattle.replaying.specs.Replaying.{difference_in, replay_rules}
use Rattle.replaying.specs.Private.{Listed}
use Rattle.replaying.proofs.WalkLaws.{then_yes}

-- what was read, where places were given
read_as : (s : List ℕ) (w : Checked Log) (p : Places) → yes p ≡ places_of s w → (l : Log) × ((w ≡ yes l) × (p ≡ places_in s))
read_as s (no n) p e = absurd (let z : ◌≡◌ {A = ℕ} 0 1 = cc in omega arith)
read_as s (yes l) p e = (l, (refl, yes_same p (places_in s) e))

module _ (s : List ℕ) where
  -- the lists of a log whose parts stand back to back and whose events are right
  lists : part_rules s ≡ yes tt → item_rules event_rules (log_in s).events ≡ yes tt → Listed s (count_in s) events_start (replies_in s)
  unfolding part_rules
  lists e r =
      let one = passed (leb (length s) most_octets) 1 _ tt e in
      let two = passed (leb head_octets (length s)) 2 _ tt one.1 in
      let three = passed (eqb (reply_count_in s) (count_in s)) 3 _ tt two.1 in
      let four = passed (eqb (events_in s) events_start) 4 _ tt three.1 in
      let five = passed (ends_at s (count_in s) events_start (replies_in s)) 5 _ tt four.1 in
      let six = passed (eqb (total_in s) (length s) && ends_at s (count_in s) (replies_in s) (length s)) 6 _ tt five.1 in
      record {
        short = leb-true (length s) most_octets one.0;
        events_end = replies_in s;
        events = five.0;
        replies_end = length s;
        replies = and_right (eqb (total_in s) (length s)) (ends_at s (count_in s) (replies_in s) (length s)) six.0;
        right = r;
      }

  -- the fields of a log are right, and it is the log in the octets
  pub fields : (l m : Log) → field_rules l ≡ yes m → (item_rules event_rules l.events ≡ yes tt) × (l ≡ m)
  unfolding field_rules
  fields l m e =
      let one = passed (is_set l.configuration) 8 _ m e in
      let two = then_yes (item_rules event_rules l.events) _ m one.1 in
      let three = then_yes (item_rules reply_rules l.replies) (λ (_ : Unit {0}). yes l) m two.1 in
      (two.0, yes_same l m three.1)

  module _ (p : Places) (e : yes p ≡ places_of s (read_rules s)) where
    pub right_places : p ≡ places_in s
    right_places = (read_as s (read_rules s) p e).1.1

    both : (part_rules s ≡ yes tt) × (field_rules (log_in s) ≡ yes (read_as s (read_rules s) p e).0)
    unfolding read_rules
    both = then_yes (part_rules s) (λ (_ : Unit {0}). field_rules (log_in s)) (read_as s (read_rules s) p e).0 (read_as s (read_rules s) p e).1.0

    pub right_lists : Listed s (count_in s) events_start (replies_in s)
    right_lists = lists both.0 (fields (log_in s) (read_as s (read_rules s) p e).0 both.1).0

    pub right_answer : yes (difference_in (log_in s)) ≡ replay_rules s
    unfolding replay_rules
    right_answer = sym (ap (λ (w : Checked Log). and_then w (λ (l : Log). yes (difference_in l))) ((read_as s (read_rules s) p e).1.0 ∙ ap yes (sym (fields (log_in s) (read_as s (read_rules s) p e).0 both.1).1)))

  refused : (w : Checked Log) (n : ℕ) → no n ≡ places_of s w → no n ≡ and_then w (λ (l : Log). yes (difference_in l))
  refused (no k) n e = ap no (no_same n k e)
  refused (yes l) n e = absurd (let z : ◌≡◌ {A = ℕ} 0 1 = cc in omega arith)

  -- a log that is refused
  pub refused_answer : (n : ℕ) → no n ≡ places_of s (read_rules s) → no n ≡ replay_rules s
  unfolding replay_rules
  refused_answer n e = refused (read_rules s) n e
