-- The rules of reading and of writing as facts, and back.
use Prim.Native.Nat.{ℕ, ◌+◌, ◌*◌, ◌≤◌}
use mathlib.Core.Path.{◌≡◌, ap, ◌∙◌}
use mathlib.Core.Bool.{true, ◌&&◌}
use mathlib.Core.List.{List, ◌++◌}
use native.Mathlib.Omega.{arith}
use borrow.Author.Tests.{le-leb, leb-true, eq-eqb, eqb-true}
use lib.Dec.{eqb, leb}
use lib.ListN.{length, length-append}
use Rattle.messages.specs.Reading.{Checked, yes}
use Rattle.messages.proofs.CheckLaws.{pass, passed}
use Rattle.messages.specs.Layout.{encode}
use Rattle.messages.proofs.LayoutLaws.{and_left, and_right, length_encode}
use Rattle.ends.specs.Outcomes.{and_then}
use Rattle.ends.proofs.AnswerLaws.{yes_same}
use Rattle.session_log.specs.Meaning.{Log}
use Rattle.session_log.specs.declared.Configuration.{Configuration}
use Rattle.session_log.specs.Layout as layout
use Rattle.session_log.specs.Layout.{most_octets, head_octets, configuration_octets, item_octets, events_start, numbers, values_of, list_octets, head_numbers, log_octets}
use Rattle.session_log.specs.Reading.{count_in, reply_count_in, events_in, replies_in, total_in, ends_at, part_rules, is_set, event_rules, reply_rules, item_rules, field_rules}
use Rattle.session_log.specs.Writing.{Given, log_of, size_of, total_of, is_narrow, given_rules, meaning_rules}
use Rattle.session_log.proofs.GivenLaws.{followed, items_size, told_octets_lem}
use Rattle.session_log.proofs.NumberLaws.{length_numbers}
use Rattle.session_log.proofs.RuleLaws.{event_whole, reply_whole}

-- the parts stand back to back
pub record Parts (s : List ℕ) : Type 0 where
  pub short : length s ≤ most_octets
  pub long : head_octets ≤ length s
  pub counts : reply_count_in s ≡ count_in s
  pub events : events_in s ≡ events_start
  pub replies : ends_at s (count_in s) events_start (replies_in s) ≡ true
  pub total : total_in s ≡ length s
  pub ends : ends_at s (count_in s) (replies_in s) (length s) ≡ true

pub parts : (s : List ℕ) → part_rules s ≡ yes tt → Parts s
unfolding part_rules
parts s e =
    let one = passed (leb (length s) most_octets) 1 _ tt e in
    let two = passed (leb head_octets (length s)) 2 _ tt one.1 in
    let three = passed (eqb (reply_count_in s) (count_in s)) 3 _ tt two.1 in
    let four = passed (eqb (events_in s) events_start) 4 _ tt three.1 in
    let five = passed (ends_at s (count_in s) events_start (replies_in s)) 5 _ tt four.1 in
    let six = passed (eqb (total_in s) (length s) && ends_at s (count_in s) (replies_in s) (length s)) 6 _ tt five.1 in
    record {
      short = leb-true (length s) most_octets one.0;
      long = leb-true head_octets (length s) two.0;
      counts = eqb-true (reply_count_in s) (count_in s) three.0;
      events = eqb-true (events_in s) events_start four.0;
      replies = five.0;
      total = eqb-true (total_in s) (length s) (and_left (eqb (total_in s) (length s)) (ends_at s (count_in s) (replies_in s) (length s)) six.0);
      ends = and_right (eqb (total_in s) (length s)) (ends_at s (count_in s) (replies_in s) (length s)) six.0;
    }

pub parts_passed : (s : List ℕ) → Parts s → part_rules s ≡ yes tt
unfolding part_rules
parts_passed s p =
    let last : (eqb (total_in s) (length s) && ends_at s (count_in s) (replies_in s) (length s)) ≡ true = rw (eq-eqb (total_in s) (length s) p.total) p.ends in
    pass (leb (length s) most_octets) 1 _ (le-leb (length s) most_octets p.short)
    ∙ pass (leb head_octets (length s)) 2 _ (le-leb head_octets (length s) p.long)
    ∙ pass (eqb (reply_count_in s) (count_in s)) 3 _ (eq-eqb (reply_count_in s) (count_in s) p.counts)
    ∙ pass (eqb (events_in s) events_start) 4 _ (eq-eqb (events_in s) events_start p.events)
    ∙ pass (ends_at s (count_in s) events_start (replies_in s)) 5 _ p.replies
    ∙ pass (eqb (total_in s) (length s) && ends_at s (count_in s) (replies_in s) (length s)) 6 _ last

-- every field is right
pub record Fields (l : Log) : Type 0 where
  pub settings : is_set l.configuration ≡ true
  pub events : item_rules event_rules l.events ≡ yes tt
  pub replies : item_rules reply_rules l.replies ≡ yes tt

pub fields : (l m : Log) → field_rules l ≡ yes m → Fields l × (l ≡ m)
unfolding field_rules
fields l m e =
    let one = passed (is_set l.configuration) 8 _ m e in
    let two = followed (item_rules event_rules l.events) _ m one.1 in
    let three = followed (item_rules reply_rules l.replies) (λ (_ : Unit {0}). yes l) m two.second in
    (record { settings = one.0; events = two.first; replies = three.first }, yes_same l m three.second)

pub fields_passed : (l : Log) → Fields l → field_rules l ≡ yes l
unfolding field_rules
fields_passed l p =
    pass (is_set l.configuration) 8 _ p.settings
    ∙ ap (λ (w : Checked (Unit {0})). and_then w (λ (_ : Unit {0}). and_then (item_rules reply_rules l.replies) (λ (_ : Unit {0}). yes l))) p.events
    ∙ ap (λ (w : Checked (Unit {0})). and_then w (λ (_ : Unit {0}). yes l)) p.replies

-- what is given means a log
pub record Meant (g : Given) : Type 0 where
  pub short : total_of g ≤ most_octets
  pub counts : length g.replies ≡ length g.events
  pub narrow : is_narrow g.configuration ≡ true
  pub settings : is_set g.configuration ≡ true
  pub events : given_rules event_rules 11 g.events g.event_octets ≡ yes tt
  pub replies : given_rules reply_rules 14 g.replies g.reply_octets ≡ yes tt

pub meant : (g : Given) (l : Log) → meaning_rules g ≡ yes l → Meant g × (log_of g ≡ l)
unfolding meaning_rules
meant g l e =
    let one = passed (leb (total_of g) most_octets) 1 _ l e in
    let two = passed (eqb (length g.replies) (length g.events)) 3 _ l one.1 in
    let three = passed (is_narrow g.configuration) 7 _ l two.1 in
    let four = passed (is_set g.configuration) 8 _ l three.1 in
    let five = followed (given_rules event_rules 11 g.events g.event_octets) _ l four.1 in
    let six = followed (given_rules reply_rules 14 g.replies g.reply_octets) (λ (_ : Unit {0}). yes (log_of g)) l five.second in (
      record {
        short = leb-true (total_of g) most_octets one.0;
        counts = eqb-true (length g.replies) (length g.events) two.0;
        narrow = three.0;
        settings = four.0;
        events = five.first;
        replies = six.first;
      },
      yes_same (log_of g) l six.second,
    )

pub meant_passed : (g : Given) → Meant g → meaning_rules g ≡ yes (log_of g)
unfolding meaning_rules
meant_passed g p =
    pass (leb (total_of g) most_octets) 1 _ (le-leb (total_of g) most_octets p.short)
    ∙ pass (eqb (length g.replies) (length g.events)) 3 _ (eq-eqb (length g.replies) (length g.events) p.counts)
    ∙ pass (is_narrow g.configuration) 7 _ p.narrow
    ∙ pass (is_set g.configuration) 8 _ p.settings
    ∙ ap (λ (w : Checked (Unit {0})). and_then w (λ (_ : Unit {0}). and_then (given_rules reply_rules 14 g.replies g.reply_octets) (λ (_ : Unit {0}). yes (log_of g)))) p.events
    ∙ ap (λ (w : Checked (Unit {0})). and_then w (λ (_ : Unit {0}). yes (log_of g))) p.replies

-- as many octets are given as the lengths say, and so many the log takes
module _ (g : Given) (m : Meant g) where
  pub events_told : size_of g.events ≡ item_octets * length g.events + length g.event_octets
  events_told = told_octets_lem event_rules event_whole 11 g.events g.event_octets m.events

  pub replies_told : size_of g.replies ≡ item_octets * length g.replies + length g.reply_octets
  replies_told = told_octets_lem reply_rules reply_whole 14 g.replies g.reply_octets m.replies

  pub events_size : length (list_octets (log_of g).events) ≡ size_of g.events
  events_size = items_size g.events g.event_octets events_told

  pub replies_size : length (list_octets (log_of g).replies) ≡ size_of g.replies
  replies_size = items_size g.replies g.reply_octets replies_told

pub length_head : (l : Log) → length (numbers (head_numbers l)) ≡ head_octets
length_head l = length_numbers (head_numbers l)

pub length_configuration : (c : Configuration) → length (encode layout.fields (values_of c)) ≡ configuration_octets
length_configuration c = length_encode layout.fields (values_of c) tt

pub length_log : (g : Given) → Meant g → length (log_octets (log_of g)) ≡ total_of g
unfolding log_octets
length_log g m =
    let l : Log = log_of g in
    let configuration : List ℕ = encode layout.fields (values_of g.configuration) in
    let events : List ℕ = list_octets l.events in
    let replies : List ℕ = list_octets l.replies in
    length-append (numbers (head_numbers l)) (configuration ++ (events ++ replies))
    ∙ omega (arith, length_head l, length_configuration g.configuration, length-append configuration (events ++ replies), length-append events replies, events_size g m, replies_size g m)
