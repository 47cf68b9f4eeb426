-- The parts of a log written one behind the other.
use Prim.Native.Nat.{ℕ, ◌+◌, ◌*◌, ◌-◌, ◌≤◌, ◌<◌, min}
use mathlib.Core.Path.{◌≡◌, refl, sym, ap, ap₂, ◌∙◌}
use mathlib.Core.List.{List, [], ◌∷◌, ◌++◌}
use native.Mathlib.Omega.{arith}
use lib.ListN.{length, drop, length-append, length-drop, drop_of_length-le}
use lib.Seq.{sets, drop-drop, length-take-le, length-sets}
use Rattle.octets.specs.Octets.{low_bytes, part}
use Rattle.octets.proofs.OctetLaws.{length_low, sets_append}
use Rattle.messages.specs.Layout.{encode}
use Rattle.ends.specs.Lists.{joins}
use Rattle.ends.proofs.ListLaws.{drop_next}
use Rattle.session_log.specs.Meaning.{Item, Log, first_in, second_in, length_in, item_of}
use Rattle.session_log.specs.Layout as layout
use Rattle.session_log.specs.Layout.{most_octets, head_octets, item_octets, events_start, numbers, values_of, octets_of, list_octets, head_numbers, replies_start, log_octets}
use Rattle.session_log.specs.Writing.{Given, items_of, log_of, size_of, total_of}
use Rattle.session_log.specs.Private.{head_in, item_in, too_long, Fitting}
use Rattle.session_log.proofs.ItemLaws.{length_octets}
use Rattle.session_log.proofs.GivenLaws.{size_least, items_count}
use Rattle.session_log.proofs.JudgeLaws.{size_next}
use Rattle.session_log.proofs.LogLaws.{Meant, events_told, replies_told, events_size, replies_size, length_head, length_configuration}

-- ---- numbers and an item

-- numbers stored one behind the other
abbrev pub stored : List ℕ → ℕ → List ℕ → List ℕ
stored d at [] = d
stored d at (v ∷ vs) = stored (sets d at (low_bytes 4 v)) (at + 4) vs

pub numbers_stored : (vs d : List ℕ) (at : ℕ) → stored d at vs ≡ sets d at (numbers vs)
unfolding numbers
numbers_stored [] d at = refl
numbers_stored (v ∷ vs) d at =
    numbers_stored vs (sets d at (low_bytes 4 v)) (at + 4)
    ∙ ap (λ (k : ℕ). sets (sets d at (low_bytes 4 v)) (at + k) (numbers vs)) (sym (length_low 4 v))
    ∙ sym (sets_append (low_bytes 4 v) (numbers vs) d at)

-- an item's three numbers and its octets
pub item_stored : (d s : List ℕ) (to : ℕ) (h : List ℕ) → length s ≡ length_in h → sets (stored d to (first_in h ∷ second_in h ∷ length_in h ∷ [])) (to + item_octets) s ≡ sets d to (octets_of (item_of h s))
unfolding numbers
item_stored d s to h size =
    let head : List ℕ = first_in h ∷ second_in h ∷ length s ∷ [] in
    let place : to + item_octets ≡ to + length (numbers head) = omega (arith, length_low 4 (first_in h), length_low 4 (second_in h), length_low 4 (length s), length-append (low_bytes 4 (first_in h)) (numbers (second_in h ∷ length s ∷ [])), length-append (low_bytes 4 (second_in h)) (numbers (length s ∷ [])), length-append (low_bytes 4 (length s)) []) in
    ap (λ (k : ℕ). sets (stored d to (first_in h ∷ second_in h ∷ k ∷ [])) (to + item_octets) s) (sym size)
    ∙ ap₂ (λ (l : List ℕ) (k : ℕ). sets l k s) (numbers_stored head d to) place
    ∙ sym (sets_append (numbers head) s d to)

-- ---- the items one after the other

pub record Putting (hs : List (List ℕ)) (s : List ℕ) (from : ℕ) (out₀ out : List ℕ) (to at i : ℕ) : Type 0 where
  pub turns : i ≤ length hs
  pub same_length : length out ≡ length out₀
  pub short : from + size_of hs ≤ most_octets
  pub end : to + size_of (drop i hs) ≡ from + size_of hs
  pub within : at ≤ length s
  pub octets : size_of (drop i hs) ≡ item_octets * (length hs - i) + (length s - at)
  pub done : sets out to (list_octets (items_of (drop i hs) (drop at s))) ≡ sets out₀ from (list_octets (items_of hs s))

pub putting_start : {hs : List (List ℕ)} {s : List ℕ} {from : ℕ} (out : List ℕ) → Fitting hs s from → Putting hs s from out out from 0 0
putting_start out f = record { turns = omega arith; same_length = refl; short = f.short; end = refl; within = omega arith; octets = (let z = f.octets in omega arith); done = refl }

module _ {hs : List (List ℕ)} {s : List ℕ} {from : ℕ} {out₀ out : List ℕ} {to at i : ℕ} (p : Putting hs s from out₀ out to at i) where
  pub putting_end : length hs ≤ i → out ≡ sets out₀ from (list_octets (items_of hs s))
  unfolding items_of joins
  putting_end h = ap (λ (l : List (List ℕ)). sets out to (list_octets (items_of l (drop at s)))) (sym (drop_of_length-le hs h)) ∙ p.done

  module _ (more : i < length hs) where
    abbrev head : List ℕ
    head = head_in hs i

    -- the octets of the head i are all there, and it ends within the log
    pub putting_within : at + length_in head ≤ length s
    putting_within =
        let n = size_next hs i more in
        let m = size_least (drop (i + 1) hs) in
        let d = length-drop (i + 1) hs in
        let q = p.octets in
        let w = p.within in
        omega arith

    pub putting_short : to + item_octets + length_in head ≤ most_octets
    putting_short = let n = size_next hs i more in let q = p.end in let w = p.short in omega arith

    pub putting_next : {exit : List ℕ} → exit ≡ sets out to (octets_of (item_in hs i s at)) → Putting hs s from out₀ exit (to + (item_octets + length_in head)) (at + length_in head) (i + 1)
    unfolding items_of joins
    putting_next e =
        let n : size_of (drop i hs) ≡ item_octets + length_in head + size_of (drop (i + 1) hs) = size_next hs i more in
        let q = p.octets in
        let w = putting_within in
        let x : Item = item_in hs i s at in
        let rest : List ℕ = list_octets (items_of (drop (i + 1) hs) (drop (at + length_in head) s)) in
        let long : length (part s at (length_in head)) ≡ length_in head = length-take-le (length_in head) (drop at s) (rw length-drop (omega arith)) in
        let place : to + (item_octets + length_in head) ≡ to + length (octets_of x) = omega (arith, length_octets x, long) in
        record {
          turns = omega arith;
          same_length = ap length e ∙ length-sets out to (octets_of x) ∙ p.same_length;
          short = p.short;
          end = (let z = p.end in omega arith);
          within = w;
          octets = omega arith;
          done =
              ap₂ (λ (l : List ℕ) (k : ℕ). sets l k rest) e place
              ∙ sym (sets_append (octets_of x) rest out to)
              ∙ ap (λ (l : List ℕ). sets out to (octets_of x ++ list_octets (items_of (drop (i + 1) hs) l))) (sym (drop-drop (length_in head) at s))
              ∙ ap (λ (l : List (List ℕ)). sets out to (list_octets (items_of l (drop at s)))) (sym (drop_next hs i [] more))
              ∙ p.done;
        }

-- ---- the whole

five : {a b d e a' b' d' e' : ℕ} → a ≡ a' → b ≡ b' → d ≡ d' → e ≡ e' → a ∷ b ∷ events_start ∷ d ∷ e ∷ [] ≡ a' ∷ b' ∷ events_start ∷ d' ∷ e' ∷ []
five p q t u = cc

module _ (g : Given) (m : Meant g) where
  -- where the replies start and where they end, as the code finds them
  pub start_found : {n : ℕ} → n ≡ min (events_start + size_of g.events) too_long → n ≡ events_start + size_of g.events
  start_found e = let z = m.short in omega arith

  pub end_found : {n k : ℕ} → n ≡ min (events_start + size_of g.events) too_long → k ≡ min (n + size_of g.replies) too_long → k ≡ total_of g
  end_found e f = let z = m.short in omega arith

  pub events_fitting : Fitting g.events g.event_octets events_start
  events_fitting = record { short = (let z = m.short in omega arith); octets = events_told g m }

  pub replies_fitting : {n : ℕ} → n ≡ events_start + size_of g.events → Fitting g.replies g.reply_octets n
  replies_fitting e = record { short = (let z = m.short in omega arith); octets = replies_told g m }

  -- the four parts one behind the other
  pub log_stored : (d : List ℕ) {n k : ℕ} → n ≡ events_start + size_of g.events → k ≡ total_of g
      → sets (sets (sets (sets d 0 (numbers (length g.events ∷ length g.replies ∷ events_start ∷ n ∷ k ∷ []))) head_octets (encode layout.fields (values_of g.configuration))) events_start (list_octets (items_of g.events g.event_octets))) n (list_octets (items_of g.replies g.reply_octets))
      ≡ sets d 0 (log_octets (log_of g))
  unfolding log_octets
  log_stored d {n} {k} en ek =
      let l : Log = log_of g in
      let head : List ℕ = numbers (head_numbers l) in
      let configuration : List ℕ = encode layout.fields (values_of g.configuration) in
      let events : List ℕ = list_octets l.events in
      let replies : List ℕ = list_octets l.replies in
      let start : n ≡ replies_start l = en ∙ ap (λ (a : ℕ). events_start + a) (sym (events_size g m)) in
      let total : k ≡ replies_start l + length replies = ek ∙ ap₂ (λ (a b : ℕ). events_start + a + b) (sym (events_size g m)) (sym (replies_size g m)) in
      let counts : numbers (length g.events ∷ length g.replies ∷ events_start ∷ n ∷ k ∷ []) ≡ head =
      ap numbers (five (sym (items_count g.events g.event_octets)) (sym (items_count g.replies g.reply_octets)) start total) in
      let second : head_octets ≡ 0 + length head = (let z = length_head l in omega arith) in
      let third : events_start ≡ head_octets + length configuration = ap (λ (a : ℕ). head_octets + a) (sym (length_configuration g.configuration)) in
      ap₂ (λ (a : List ℕ) (b : ℕ). sets (sets (sets (sets d 0 a) head_octets configuration) events_start events) b replies) counts start
      ∙ sym (sets_append events replies (sets (sets d 0 head) head_octets configuration) events_start)
      ∙ ap (λ (b : ℕ). sets (sets (sets d 0 head) head_octets configuration) b (events ++ replies)) third
      ∙ sym (sets_append configuration (events ++ replies) (sets d 0 head) head_octets)
      ∙ ap (λ (b : ℕ). sets (sets d 0 head) b (configuration ++ (events ++ replies))) second
      ∙ sym (sets_append head (configuration ++ (events ++ replies)) d 0)
