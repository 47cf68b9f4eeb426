-- Proof of the two round trips, and that one meaning has one layout.
use Prim.Native.Nat.{ℕ, ◌+◌, ◌^◌, ◌<◌}
use mathlib.Core.Path.{◌≡◌, refl, sym, ap, ap₂, ◌∙◌, subst}
use mathlib.Core.Bool.{true, ◌&&◌}
use mathlib.Core.List.{List, [], ◌∷◌, ◌++◌, append_assoc, append-nil, map}
use native.Mathlib.Omega.{arith}
use borrow.Author.Tests.{le-leb, leb-true, lt-ltb, ltb-true}
use lib.Dec.{leb, ltb}
use lib.ListN.{length, get_or, length-append}
use lib.Seq.{take_all}
use Rattle.octets.specs.Octets.{part, Octets}
use Rattle.octets.proofs.OctetLaws.{value_lt, low_lt}
use Rattle.messages.specs.Layout.{Field, Values, width, size, holds, read, encode, zeroed_field, zeroed}
use Rattle.messages.specs.Reading.{Checked, yes, check}
use Rattle.messages.proofs.CheckLaws.{pass, passed}
use Rattle.messages.proofs.LayoutLaws.{Fits, and_left, and_right, read_encode, encode_read}
use Rattle.ends.specs.Lists.{All}
use Rattle.ends.specs.Outcomes.{and_then}
use Rattle.ends.proofs.AnswerLaws.{yes_same}
use Rattle.session_log.specs.declared.Configuration.{Configuration}
use Rattle.session_log.specs.Meaning.{Item, Log, head_of}
use Rattle.session_log.specs.Layout as layout
use Rattle.session_log.specs.Layout.{head_octets, configuration_octets, events_start, numbers, numbers_at, values_of, configuration_of, list_octets, items_at, replies_start, head_numbers, log_octets}
use Rattle.session_log.specs.Reading.{count_in, reply_count_in, events_in, replies_in, total_in, ends_at, is_setting, event_rules, reply_rules, log_in, part_rules, field_rules, read_rules}
use Rattle.session_log.specs.Writing.{Given, log_of, given_by, total_of, is_narrow, meaning_rules, write_rules}
use Rattle.session_log.specs.Claims.{Typed, ReadsWritten, WritesRead, OneLayout}
use Rattle.session_log.proofs.NumberLaws.{numbers_read, numbers_written, part_joined, part_length}
use Rattle.session_log.proofs.ItemLaws.{Standing, items_stand, ends_stand, items_written, length_items}
use Rattle.session_log.proofs.GivenLaws.{followed, items_back, size_back, given_back, size_least, items_count, Accepted, accepted}
use Rattle.session_log.proofs.RuleLaws.{event_whole, reply_whole}
use Rattle.session_log.proofs.LogLaws.{Parts, parts, parts_passed, Fields, fields, fields_passed, Meant, meant, meant_passed, events_size, replies_size, length_head, length_configuration, length_log}

five : {a b c d e a' b' c' d' e' : ℕ} → a ≡ a' → b ≡ b' → c ≡ c' → d ≡ d' → e ≡ e' → a ∷ b ∷ c ∷ d ∷ e ∷ [] ≡ a' ∷ b' ∷ c' ∷ d' ∷ e' ∷ []
five p q r t u = cc

-- ---- writing what was read

module _ (s : List ℕ) where
  -- the octets of a layout none of whose fields is reserved
  zeroed_part : (fs : List Field) (at : ℕ) → All (λ (f : Field). (k : ℕ) → zeroed_field f k s ≡ part s k (width f)) fs → zeroed at fs s ≡ part s at (size fs)
  zeroed_part [] at h = refl
  zeroed_part (f ∷ fs) at h = ap₂ (λ (a b : List ℕ). a ++ b) (h.0 at) (zeroed_part fs (at + width f) h.1) ∙ part_joined s at (width f) (size fs)

module _ (s : List ℕ) (o : Octets s) (p : Parts s) where
  abbrev q : Log
  q = log_in s

  events_stand : Standing s (count_in s) events_start (replies_in s)
  events_stand = items_written s (count_in s) events_start (replies_in s) o p.replies

  replies_stand : Standing s (count_in s) (replies_in s) (length s)
  replies_stand = items_written s (count_in s) (replies_in s) (length s) o p.ends

  events_length : length (list_octets q.events) ≡ events_stand.size
  events_length = ap length events_stand.octets ∙ part_length s events_start events_stand.size (omega (arith, events_stand.ends, replies_stand.ends))

  replies_length : length (list_octets q.replies) ≡ replies_stand.size
  replies_length = ap length replies_stand.octets ∙ part_length s (replies_in s) replies_stand.size (omega (arith, replies_stand.ends))

  head_same : head_numbers q ≡ numbers_at s 0 5
  unfolding numbers_at
  head_same =
      five
      (length_items s (count_in s) events_start)
      (length_items s (count_in s) (replies_in s) ∙ sym p.counts)
      (sym p.events)
      (omega (arith, events_length, events_stand.ends))
      (omega (arith, events_length, events_stand.ends, replies_length, replies_stand.ends, p.total))

  configuration_same : encode layout.fields (values_of q.configuration) ≡ part s head_octets configuration_octets
  configuration_same =
      let right : holds head_octets layout.fields s ≡ true = ap₂ ◌&&◌ (lt-ltb _ (256 ^ 7) (low_lt s _ 7 o)) (ap₂ ◌&&◌ (lt-ltb _ (256 ^ 4) (low_lt s _ 4 o)) (ap₂ ◌&&◌ (lt-ltb _ (256 ^ 4) (low_lt s _ 4 o)) (ap₂ ◌&&◌ (lt-ltb _ (256 ^ 4) (low_lt s _ 4 o)) refl))) in
      encode_read s o layout.fields head_octets (omega (arith, events_stand.ends, replies_stand.ends)) right
      ∙ zeroed_part s layout.fields head_octets ((λ k. refl), ((λ k. refl), ((λ k. refl), ((λ k. refl), ((λ k. refl), ((λ k. refl), ((λ k. refl), ((λ k. refl), tt))))))))

  octets_same : log_octets q ≡ s
  unfolding log_octets
  octets_same =
      let k : ℕ = events_stand.size in
      let m : ℕ = replies_stand.size in
      ap₂ (λ (a b : List ℕ). a ++ b) (ap numbers head_same ∙ numbers_written 5 0 s o (omega (arith, p.long)))
      (ap₂ (λ (a b : List ℕ). a ++ b) configuration_same
      (ap₂ (λ (a b : List ℕ). a ++ b) events_stand.octets (replies_stand.octets ∙ ap (λ (i : ℕ). part s i m) events_stand.ends) ∙ part_joined s events_start k m)
      ∙ part_joined s head_octets configuration_octets (k + m))
      ∙ part_joined s 0 head_octets (configuration_octets + (k + m))
      ∙ take_all (head_octets + (configuration_octets + (k + m))) s (omega (arith, events_stand.ends, replies_stand.ends))

  total_same : total_of (given_by q) ≡ length s
  total_same = omega (arith, size_back q.events, size_back q.replies, events_length, replies_length, events_stand.ends, replies_stand.ends)

  narrow_read : is_narrow q.configuration ≡ true
  narrow_read = ap₂ ◌&&◌ (ap₂ ◌&&◌ (lt-ltb _ (2 ^ 48) (value_lt s _ 6 o)) (lt-ltb _ (2 ^ 48) (value_lt s _ 6 o))) (lt-ltb _ (2 ^ 56) (low_lt s _ 7 o))

  heads_count : (xs : List Item) → length (map head_of xs) ≡ length xs
  heads_count [] = refl
  heads_count (x ∷ xs) = let r = heads_count xs in omega arith

  log_back : log_of (given_by q) ≡ q
  log_back = ap₂ (λ (a b : List Item). record { configuration = q.configuration; events = a; replies = b }) (items_back q.events) (items_back q.replies)

  meant_again : Fields q → Meant (given_by q)
  meant_again f = record {
    short = omega (arith, total_same, p.short);
    counts = heads_count q.replies ∙ length_items s (count_in s) (replies_in s) ∙ sym (heads_count q.events ∙ length_items s (count_in s) events_start);
    narrow = narrow_read;
    settings = f.settings;
    events = given_back event_rules 11 q.events ∙ f.events;
    replies = given_back reply_rules 14 q.replies ∙ f.replies;
  }

  writes_again : Fields q → (n : ℕ) → write_rules (given_by q) n ≡ check (leb (length s) n) 15 (yes s)
  unfolding write_rules
  writes_again f n =
      ap (λ (w : Checked Log). and_then w (λ (l : Log). check (leb (total_of (given_by q)) n) 15 (yes (log_octets l)))) (meant_passed (given_by q) (meant_again f) ∙ ap yes log_back)
      ∙ ap₂ (λ (k : ℕ) (l : List ℕ). check (leb k n) 15 (yes l)) total_same octets_same

pub writes_read : WritesRead
unfolding read_rules
writes_read s l o e n =
    let two = followed (part_rules s) (λ (_ : Unit {0}). field_rules (log_in s)) l e in
    let f = fields (log_in s) l two.second in
    subst (λ (m : Log). write_rules (given_by m) n ≡ check (leb (length s) n) 15 (yes s)) f.1 (writes_again s o (parts s two.first) f.0 n)

pub one_layout : OneLayout
one_layout s t l o u e d =
    let n : ℕ = length s + length t in
    let a : write_rules (given_by l) n ≡ yes s = writes_read s l o e n ∙ pass (leb (length s) n) 15 _ (le-leb (length s) n (omega arith)) in
    let b : write_rules (given_by l) n ≡ yes t = writes_read t l u d n ∙ pass (leb (length t) n) 15 _ (le-leb (length t) n (omega arith)) in
    yes_same s t (sym a ∙ b)

-- ---- reading what was written

module _ (g : Given) (typed : Typed g) (m : Meant g) where
  abbrev l : Log
  l = log_of g

  abbrev head : List ℕ
  head = numbers (head_numbers l)

  abbrev configuration : List ℕ
  configuration = encode layout.fields (values_of g.configuration)

  abbrev events : List ℕ
  events = list_octets l.events

  abbrev replies : List ℕ
  replies = list_octets l.replies

  abbrev written : List ℕ
  written = head ++ (configuration ++ (events ++ replies))

  have_events : Accepted event_rules g.events g.event_octets
  have_events = accepted event_rules event_whole 11 g.events g.event_octets typed.events (omega (arith, m.short)) m.events

  have_replies : Accepted reply_rules g.replies g.reply_octets
  have_replies = accepted reply_rules reply_whole 14 g.replies g.reply_octets typed.replies (omega (arith, m.short)) m.replies

  configuration_fits : Fits layout.fields (values_of g.configuration)
  configuration_fits =
      let c : Configuration = g.configuration in
      let both = and_left (ltb c.address.0 (2 ^ 48) && ltb c.modem.0 (2 ^ 48)) (ltb c.nid.0 (2 ^ 56)) m.narrow in
      let nid = ltb-true c.nid.0 (2 ^ 56) (and_right (ltb c.address.0 (2 ^ 48) && ltb c.modem.0 (2 ^ 48)) (ltb c.nid.0 (2 ^ 56)) m.narrow) in
      let exemption = leb-true c.exemption 1 (and_left (is_setting c.exemption) (is_setting c.edition) m.settings) in
      let edition = leb-true c.edition 1 (and_right (is_setting c.exemption) (is_setting c.edition) m.settings) in (
        ltb-true c.address.0 (2 ^ 48) (and_left (ltb c.address.0 (2 ^ 48)) (ltb c.modem.0 (2 ^ 48)) both),
        (ltb-true c.modem.0 (2 ^ 48) (and_right (ltb c.address.0 (2 ^ 48)) (ltb c.modem.0 (2 ^ 48)) both), ((nid, nid), (typed.high, (typed.low, ((omega arith, omega arith), ((omega arith, omega arith), ((typed.carriers, typed.carriers), tt))))))),
      )

  same_count : length l.replies ≡ length l.events
  same_count = items_count g.replies g.reply_octets ∙ m.counts ∙ sym (items_count g.events g.event_octets)

  length_front : length (head ++ configuration) ≡ events_start
  length_front = length-append head configuration ∙ omega (arith, length_head l, length_configuration g.configuration)

  length_written : length written ≡ total_of g
  unfolding log_octets
  length_written = length_log g m

  head_stands : numbers_at written 0 5 ≡ head_numbers l
  head_stands =
      let few : length l.events < 256 ^ 4 = omega (arith, m.short, size_least g.events, items_count g.events g.event_octets) in
      let start : replies_start l < 256 ^ 4 = omega (arith, m.short, events_size g m) in
      let total : replies_start l + length replies < 256 ^ 4 = omega (arith, m.short, events_size g m, replies_size g m) in
      numbers_read (head_numbers l) [] (configuration ++ (events ++ replies)) (few, (omega (arith, m.short, size_least g.events, items_count g.events g.event_octets, same_count), (omega arith, (start, (total, tt)))))

  counts_stand : count_in written ≡ length l.events
  unfolding numbers_at
  counts_stand = ap (λ (v : List ℕ). get_or v 0 0) head_stands

  reply_counts_stand : reply_count_in written ≡ length l.replies
  unfolding numbers_at
  reply_counts_stand = ap (λ (v : List ℕ). get_or v 1 0) head_stands

  events_start_lem : events_in written ≡ events_start
  unfolding numbers_at
  events_start_lem = ap (λ (v : List ℕ). get_or v 2 0) head_stands

  replies_start_lem : replies_in written ≡ replies_start l
  unfolding numbers_at
  replies_start_lem = ap (λ (v : List ℕ). get_or v 3 0) head_stands

  total_stands : total_in written ≡ replies_start l + length replies
  unfolding numbers_at
  total_stands = ap (λ (v : List ℕ). get_or v 4 0) head_stands

  -- the octets, parted before the events and before the replies
  by_events : written ≡ (head ++ configuration) ++ (events ++ replies)
  by_events = sym (append_assoc head configuration (events ++ replies))

  by_replies : written ≡ ((head ++ configuration) ++ events) ++ (replies ++ [])
  by_replies = by_events ∙ sym (append_assoc (head ++ configuration) events replies) ∙ ap (λ (k : List ℕ). ((head ++ configuration) ++ events) ++ k) (sym (append-nil replies))

  replies_place : replies_in written ≡ length ((head ++ configuration) ++ events)
  replies_place = replies_start_lem ∙ sym (length-append (head ++ configuration) events ∙ ap (λ (k : ℕ). k + length events) length_front)

  parts_stand : Parts written
  parts_stand = record {
    short = omega (arith, length_written, m.short);
    long = omega (arith, length_written);
    counts = reply_counts_stand ∙ same_count ∙ sym counts_stand;
    events = events_start_lem;
    replies =
        ap (λ (n : ℕ). ends_at written n events_start (replies_in written)) counts_stand
        ∙ ends_stand l.events written (head ++ configuration) replies events_start (replies_in written) by_events (sym length_front) have_events.narrow replies_start_lem;
    total = total_stands ∙ sym (length_written ∙ omega (arith, events_size g m, replies_size g m));
    ends =
        ap (λ (n : ℕ). ends_at written n (replies_in written) (length written)) (counts_stand ∙ sym same_count)
        ∙ ends_stand l.replies written ((head ++ configuration) ++ events) [] (replies_in written) (length written) by_replies replies_place have_replies.narrow (length_written ∙ omega (arith, replies_start_lem, events_size g m, replies_size g m));
  }

  log_stands : log_in written ≡ l
  log_stands =
      let c : read head_octets layout.fields written ≡ values_of g.configuration =
      ap (λ (k : ℕ). read k layout.fields written) (sym (length_head l)) ∙ read_encode layout.fields (values_of g.configuration) head (events ++ replies) configuration_fits in
      let e : items_at written (count_in written) events_start ≡ l.events =
      ap (λ (n : ℕ). items_at written n events_start) counts_stand
      ∙ items_stand l.events written (head ++ configuration) replies events_start by_events (sym length_front) have_events.narrow in
      let r : items_at written (count_in written) (replies_in written) ≡ l.replies =
      ap (λ (n : ℕ). items_at written n (replies_in written)) (counts_stand ∙ sym same_count)
      ∙ items_stand l.replies written ((head ++ configuration) ++ events) [] (replies_in written) by_replies replies_place have_replies.narrow in
      ap₂ (λ (v : Values layout.fields) (x : List Item). record { configuration = configuration_of v; events = x; replies = items_at written (count_in written) (replies_in written) }) c e
      ∙ ap (λ (x : List Item). record { configuration = g.configuration; events = l.events; replies = x }) r

  reads_octets : read_rules (log_octets l) ≡ yes l
  unfolding read_rules log_octets
  reads_octets =
      ap (λ (w : Checked (Unit {0})). and_then w (λ (_ : Unit {0}). field_rules (log_in written))) (parts_passed written parts_stand)
      ∙ ap field_rules log_stands
      ∙ fields_passed l (record { settings = m.settings; events = have_events.rules; replies = have_replies.rules })

pub reads_written : ReadsWritten
unfolding write_rules
reads_written g n ws typed e =
    let two = followed (meaning_rules g) (λ (l : Log). check (leb (total_of g) n) 15 (yes (log_octets l))) ws e in
    let m = meant g two.value two.first in
    let last = passed (leb (total_of g) n) 15 (yes (log_octets two.value)) ws two.second in
    ap read_rules (sym (yes_same (log_octets two.value) ws last.1)) ∙ ap (λ (x : Log). read_rules (log_octets x)) (sym m.1) ∙ reads_octets g typed m.0
