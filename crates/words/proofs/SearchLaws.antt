-- The steps of the searches over the records, by what their words say.
use Prim.Native.Nat.{ℕ, zero, suc, ◌+◌, ◌≤◌, ◌<◌}
use mathlib.Core.Path.{◌≡◌, refl, sym, ap, ◌∙◌}
use mathlib.Core.Bool.{and_comm, Bool, true, false, ◌&&◌, ◌||◌}
use mathlib.Core.List.{List, [], ◌∷◌, map}
use native.Mathlib.Omega.{arith}
use lib.Dec.{eqb}
use lib.ListN.{length, drop, get_or, drop_of_length-le}
use Rattle.messages.specs.declared.CarAddress.{CarAddress}
use Rattle.rules.specs.declared.Record.{Record}
use Rattle.rules.specs.Constants.{record_count}
use Rattle.rules.specs.Records.{same_car, is_held, holds}
use Rattle.rules.specs.Rules.{free_record}
use Rattle.rules.specs.Validation.{is_validating, any_validates}
use Rattle.ends.proofs.ListLaws.{drop_next, only_none, only_yes, only_no}
use Rattle.ends.proofs.Logic.{split}
use Rattle.std.specs.Prelude.{Option, Some, None, position}
use Rattle.std.specs.List.{position_from}
use Rattle.std.proofs.lemmas.Iterator.Adapters.{position_from-zero}
use Rattle.std.specs.List.{range_with_len, list_any, find}
use Rattle.std.specs.Option.{option_map}
use Rattle.std.specs.Prelude.{Option, None, Some}
use Rattle.std.proofs.lemmas.List.FromFn.{fill_by_all}
use Rattle.words.specs.Words.{records_of, held_count}
use Rattle.words.proofs.RecordWords.{length_records}

-- the record at a place
abbrev pub at : List ℕ → List ℕ → List ℕ → ℕ → Record
at w s x i = get_or (records_of w s x) i free_record

-- ---- whether a car holds a record

-- whether car c holds the record r, by the record's car and whether it is held
pub holds_by : (c owner : CarAddress) (r : Record) (same held : Bool) → owner ≡ r.car → eqb c.0 owner.0 ≡ same → held ≡ is_held r → same && held ≡ holds c r
unfolding holds same_car
holds_by c owner r same held o e h = and_comm same held ∙ sym (rw (sym h, sym o, e))

-- ---- by the places of the records

-- the records, each at its place
pub by_place : (w s x : List ℕ) → records_of w s x ≡ map (at w s x) (range_with_len 0 record_count)
by_place w s x = fill_by_all (at w s x) (records_of w s x) record_count free_record (length_records w s x) (λ k h. refl)

-- whether any is ready or counting
pub any_by_place : (f : ℕ → Record) (l : List ℕ) → list_any (λ i. is_validating (f i)) l ≡ any_validates (map f l)
unfolding any_validates
any_by_place f [] = refl
any_by_place f (i ∷ l) = ap (λ (b : Bool). is_validating (f i) || b) (any_by_place f l)

-- the place that a search gives
pub place_as : (o q : Option ℕ) → option_map (λ i. i) o ≡ q → o ≡ q
place_as None q e = e
place_as (Some i) q e = e

-- the first place whose record passes
place_from : (p : Record → Bool) (f : ℕ → Record) (i n : ℕ) → find (λ k. p (f k)) (range_with_len i n) ≡ position_from p i (map f (range_with_len i n))
place_from p f i zero = refl
place_from p f i (suc n) = split (p (f i)) (λ u. rw u) (λ u. rw u (place_from p f (i + 1) n))

pub place_by_place : (p : Record → Bool) (f : ℕ → Record) (n : ℕ) → find (λ k. p (f k)) (range_with_len 0 n) ≡ position p (map f (range_with_len 0 n))
place_by_place p f n = place_from p f 0 n ∙ sym (position_from-zero p (map f (range_with_len 0 n)))

-- ---- how many are held

-- before the record at i, with n held so far
pub record Counting (w : List ℕ) (i n : ℕ) : Type 0 where
  pub turns : i ≤ record_count
  pub few : n ≤ i
  pub held : (s x : List ℕ) → n + held_count (drop i (records_of w s x)) ≡ held_count (records_of w s x)

pub counting_start : (w : List ℕ) → Counting w 0 0
counting_start w = record { turns = omega arith; few = omega arith; held = λ s x. omega arith }

pub counting_end : (w : List ℕ) (i n : ℕ) → Counting w i n → record_count ≤ i → (s x : List ℕ) → n ≡ held_count (records_of w s x)
counting_end w i n k h s x =
    let l : length (records_of w s x) ≤ i = rw (length_records w s x) h in
    let z : held_count (drop i (records_of w s x)) ≡ 0 = ap held_count (drop_of_length-le (records_of w s x) l) ∙ ap length (only_none is_held) in
    omega (arith, k.held s x)

module _ (w : List ℕ) (i n : ℕ) (k : Counting w i n) (h : i < record_count) (b : Bool) (e : (s x : List ℕ) → b ≡ is_held (at w s x i)) where
  from_here : (s x : List ℕ) → held_count (drop i (records_of w s x)) ≡ held_count (at w s x i ∷ drop (i + 1) (records_of w s x))
  from_here s x = ap held_count (drop_next (records_of w s x) i free_record (rw (length_records w s x) h))

  pub counting_held : b ≡ true → Counting w (i + 1) (n + 1)
  counting_held t = record {
    turns = omega arith;
    few = omega (arith, k.few);
    held = λ s x.
        let one : held_count (at w s x i ∷ drop (i + 1) (records_of w s x)) ≡ 1 + held_count (drop (i + 1) (records_of w s x)) =
        ap length (only_yes is_held (at w s x i) (drop (i + 1) (records_of w s x)) (sym (e s x) ∙ t)) ∙ omega arith in
        omega (arith, k.held s x, from_here s x);
  }

  pub counting_free : b ≡ false → Counting w (i + 1) n
  counting_free f = record {
    turns = omega arith;
    few = omega (arith, k.few);
    held = λ s x. omega (arith, k.held s x, from_here s x, ap length (only_no is_held (at w s x i) (drop (i + 1) (records_of w s x)) (sym (e s x) ∙ f)));
  }
