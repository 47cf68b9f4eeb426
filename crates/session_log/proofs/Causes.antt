-- Proof of which causes reading and writing give: each check has its own.
use Prim.Native.Nat.{ℕ}
use mathlib.Core.Path.{◌≡◌, refl, subst}
use mathlib.Core.Bool.{Bool, true, false, ◌&&◌}
use mathlib.Core.List.{List, [], ◌∷◌}
use lib.Dec.{eqb, leb}
use lib.ListN.{length, get_or, take, drop}
use Rattle.messages.specs.Reading.{Checked, no, yes, check}
use Rattle.ends.specs.Outcomes.{and_then}
use Rattle.session_log.specs.Meaning.{Item, Log, head_of, first_in, length_in}
use Rattle.session_log.specs.Layout.{most_octets, head_octets, events_start, log_octets}
use Rattle.session_log.specs.Reading.{Rules, count_in, reply_count_in, events_in, replies_in, total_in, ends_at, part_rules, is_set, is_timed, is_sized, is_pilot, event_rules, is_indicated, is_framed, reply_rules, item_rules, field_rules, log_in, read_rules}
use Rattle.session_log.specs.Writing.{Given, log_of, total_of, is_narrow, is_whole, given_rules, meaning_rules, write_rules}
use Rattle.session_log.specs.Claims.{is_one_of, ReadingCauses, WritingCauses}

-- what holds of the cause, where there is one
abbrev OnNo : {A : Type 0} → (ℕ → Type 0) → Checked A → Type 0
OnNo P (no n) = P n
OnNo P (yes x) = Unit {0}

module _ (P : ℕ → Type 0) where
  on_check : {A : Type 0} (b : Bool) (n : ℕ) (w : Checked A) → P n → OnNo P w → OnNo P (check b n w)
  on_check true n w p h = h
  on_check false n w p h = p

  on_then : {A B : Type 0} (w : Checked A) (f : A → Checked B) → OnNo P w → ((x : A) → OnNo P (f x)) → OnNo P (and_then w f)
  on_then (no n) f p h = p
  on_then (yes x) f p h = h x

  on_no : {A : Type 0} (w : Checked A) (n : ℕ) → OnNo P w → w ≡ no n → P n
  on_no w n h e = subst (OnNo P) e h

  -- the rules of an event and of a reply
  on_event : P 9 → P 10 → P 11 → P 12 → (h : List ℕ) (b : Bool) (k : ℕ) → OnNo P (event_rules h b k)
  unfolding event_rules
  on_event p q r t h b k = on_check (leb (first_in h) 4) 9 _ p (on_check (is_timed h) 10 _ q (on_check (is_sized h && b) 11 (check (is_pilot h k) 12 (yes tt)) r (on_check (is_pilot h k) 12 (yes tt) t tt)))

  on_reply : P 13 → P 14 → (h : List ℕ) (b : Bool) (k : ℕ) → OnNo P (reply_rules h b k)
  unfolding reply_rules
  on_reply p q h b k = on_check (is_indicated h) 13 _ p (on_check (is_framed h && b) 14 (yes tt) q tt)

  -- and of lists of them
  module _ (f : Rules) (own : (h : List ℕ) (b : Bool) (k : ℕ) → OnNo P (f h b k)) where
    on_items : (xs : List Item) → OnNo P (item_rules f xs)
    unfolding item_rules
    on_items [] = tt
    on_items (x ∷ xs) = on_then (f (head_of x) true (get_or x.octets 0 0)) (λ (_ : Unit {0}). item_rules f xs) (own (head_of x) true (get_or x.octets 0 0)) (λ u. on_items xs)

    on_given : (n : ℕ) → P n → (hs : List (List ℕ)) (s : List ℕ) → OnNo P (given_rules f n hs s)
    unfolding given_rules
    on_given n p [] s = on_check (eqb (length s) 0) n (yes tt) p tt
    on_given n p (h ∷ hs) s =
        on_then (f h (is_whole h hs s) (get_or (take (length_in h) s) 0 0)) (λ (_ : Unit {0}). given_rules f n hs (drop (length_in h) s)) (own h (is_whole h hs s) (get_or (take (length_in h) s) 0 0)) (λ u. on_given n p hs (drop (length_in h) s))

-- ---- reading

abbrev Read : ℕ → Type 0
Read n = is_one_of n (1 ∷ 2 ∷ 3 ∷ 4 ∷ 5 ∷ 6 ∷ 8 ∷ 9 ∷ 10 ∷ 11 ∷ 12 ∷ 13 ∷ 14 ∷ []) ≡ true

on_parts : (s : List ℕ) → OnNo Read (part_rules s)
unfolding part_rules
on_parts s =
    on_check Read (leb (length s) most_octets) 1 _ refl
    (on_check Read (leb head_octets (length s)) 2 _ refl
    (on_check Read (eqb (reply_count_in s) (count_in s)) 3 _ refl
    (on_check Read (eqb (events_in s) events_start) 4 _ refl
    (on_check Read (ends_at s (count_in s) events_start (replies_in s)) 5 _ refl
    (on_check Read (eqb (total_in s) (length s) && ends_at s (count_in s) (replies_in s) (length s)) 6 (yes tt) refl tt)))))

on_fields : (l : Log) → OnNo Read (field_rules l)
unfolding field_rules
on_fields l =
    on_check Read (is_set l.configuration) 8 _ refl
    (on_then Read (item_rules event_rules l.events) (λ (_ : Unit {0}). and_then (item_rules reply_rules l.replies) (λ (_ : Unit {0}). yes l)) (on_items Read event_rules (on_event Read refl refl refl refl) l.events)
    (λ u. on_then Read (item_rules reply_rules l.replies) (λ (_ : Unit {0}). yes l) (on_items Read reply_rules (on_reply Read refl refl) l.replies) (λ v. tt)))

pub reading_causes : ReadingCauses
unfolding read_rules
reading_causes s n e = on_no Read (read_rules s) n (on_then Read (part_rules s) (λ (_ : Unit {0}). field_rules (log_in s)) (on_parts s) (λ u. on_fields (log_in s))) e

-- ---- writing

abbrev Write : ℕ → Type 0
Write n = is_one_of n (1 ∷ 3 ∷ 7 ∷ 8 ∷ 9 ∷ 10 ∷ 11 ∷ 12 ∷ 13 ∷ 14 ∷ 15 ∷ []) ≡ true

on_meaning : (g : Given) → OnNo Write (meaning_rules g)
unfolding meaning_rules
on_meaning g =
    on_check Write (leb (total_of g) most_octets) 1 _ refl
    (on_check Write (eqb (length g.replies) (length g.events)) 3 _ refl
    (on_check Write (is_narrow g.configuration) 7 _ refl
    (on_check Write (is_set g.configuration) 8 _ refl
    (on_then Write (given_rules event_rules 11 g.events g.event_octets) (λ (_ : Unit {0}). and_then (given_rules reply_rules 14 g.replies g.reply_octets) (λ (_ : Unit {0}). yes (log_of g))) (on_given Write event_rules (on_event Write refl refl refl refl) 11 refl g.events g.event_octets)
    (λ u. on_then Write (given_rules reply_rules 14 g.replies g.reply_octets) (λ (_ : Unit {0}). yes (log_of g)) (on_given Write reply_rules (on_reply Write refl refl) 14 refl g.replies g.reply_octets) (λ v. tt))))))

pub writing_causes : WritingCauses
unfolding write_rules
writing_causes g k n e =
    on_no Write (write_rules g k) n
    (on_then Write (meaning_rules g) (λ (l : Log). check (leb (total_of g) k) 15 (yes (log_octets l))) (on_meaning g) (λ l. on_check Write (leb (total_of g) k) 15 (yes (log_octets l)) refl tt)) e
