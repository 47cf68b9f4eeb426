-- Laws of where a car's record stands: how a search comes to a place, and what a place is in the rules' words.
use Prim.Native.Nat.{ℕ, suc, ◌+◌, ◌<◌}
use mathlib.Core.Path.{◌≡◌, refl, sym, ap, ◌∙◌, subst}
use mathlib.Core.Bool.{Bool, true, false, not}
use mathlib.Core.List.{List, [], ◌∷◌}
use native.Mathlib.Omega.{arith}
use denote.Enum.Declared.{tag_of}
use lib.ListN.{length, get_or, set}
use types.Run.{OneOf, miss}
use Rattle.std.specs.Prelude.{Option, Some, None, position}
use Rattle.std.specs.List.{position_from, position_or_len}
use Rattle.std.proofs.lemmas.List.Sums.{position_or_len_is}
use borrow.Author.Tests.{lt-ltb, le-ltb}
use Rattle.std.proofs.lemmas.Iterator.Adapters.{position_from-zero}
use Rattle.messages.specs.declared.CarAddress.{CarAddress}
use Rattle.rules.specs.declared.Record.{Record}
use Rattle.ends.specs.Lists.{only}
use Rattle.rules.specs.Records.{is_held, holds, mine, free_places, update, insert}
use Rattle.ends.proofs.Logic.{split}
use Rattle.records.specs.declared.find.Found.{Found}
use Rattle.records.specs.declared.find.Found.TheVariants.{Own, Free, Nothing}
use Rattle.records.specs.Places.{own_place, free_place, or_free, place_of}
use Rattle.records.specs.contracts.find.Found.{the_type}

-- ---- a search by the index

module _ (p : Record → Bool) (rs : List Record) (d : Record) where
  -- the place of a record that passes, where none before it does
  pub first_place : (i : ℕ) → i < length rs → p (get_or rs i d) ≡ true → ((k : ℕ) → k < i → p (get_or rs k d) ≡ false) → Some i ≡ position p rs
  first_place i h here before =
      let e : position_or_len p rs ≡ i = position_or_len_is p rs i d (omega arith) before (λ _. here) in
      sym (rw (e, lt-ltb i (length rs) h))

  -- no place, where none passes
  pub no_place : ((k : ℕ) → k < length rs → p (get_or rs k d) ≡ false) → None ≡ position p rs
  no_place none =
      let e : position_or_len p rs ≡ length rs = position_or_len_is p rs (length rs) d (omega arith) none (λ h. absurd (omega arith)) in
      sym (rw (e, le-ltb (length rs) (length rs) (omega arith)))

-- ---- a place in the rules' words

-- car c's own record stands at i: it is the first of the car's records, and a store there is an update
pub record OwnAt (c : CarAddress) (rs : List Record) (i : ℕ) : Type 0 where
  pub inside : i < length rs
  pub others : List Record
  pub mine : (d : Record) → mine c rs ≡ get_or rs i d ∷ others
  pub put : (n : Record) → set rs i n ≡ update c n rs

-- the car has no record, and the first free one stands at i: a store there is an insert
pub record FreeAt (c : CarAddress) (rs : List Record) (i : ℕ) : Type 0 where
  pub inside : i < length rs
  pub mine : mine c rs ≡ []
  pub free : 0 < free_places rs
  pub put : (n : Record) → set rs i n ≡ insert n rs

-- the car has no record, and none is free
pub record NoneAt (c : CarAddress) (rs : List Record) : Type 0 where
  pub mine : mine c rs ≡ []
  pub free : free_places rs ≡ 0

-- what each place says
abbrev pub FoundAt : CarAddress → List Record → Found → Type 0
FoundAt c rs (Own i) = OwnAt c rs i
FoundAt c rs (Free i) = FreeAt c rs i
FoundAt c rs Nothing = NoneAt c rs

-- the first own record, with i records before the list
own_found_from : (c : CarAddress) (i : ℕ) (rs : List Record) (k : ℕ) → position_from (holds c) i rs ≡ Some k → (j : ℕ) × ((k ≡ i + j) × OwnAt c rs j)
unfolding only update
own_found_from c i [] k e = absurd (let z : ◌≡◌ {A = ℕ} 0 1 = cc in omega arith)
own_found_from c i (r ∷ rs) k e = split (holds c r)
    (λ g.
    let p : Some i ≡ Some k = rw g at e in
    let q : i ≡ k = cc in
    (0, (omega arith, record { inside = omega arith; others = mine c rs; mine = λ d. rw g; put = λ n. rw g })))
    (λ g.
    let w = own_found_from c (i + 1) rs k (rw g at e) in
    let h : w.0 < length rs = w.1.1.inside in (
      suc w.0,
      (
        omega (arith, w.1.0),
        record { inside = omega arith; others = w.1.1.others; mine = λ d. rw g (w.1.1.mine d); put = λ n. rw g (ap (λ q. r ∷ q) (w.1.1.put n)) },
      ),
    ))

-- no own record
own_gone : (c : CarAddress) (i : ℕ) (rs : List Record) → position_from (holds c) i rs ≡ None → mine c rs ≡ []
unfolding only
own_gone c i [] e = refl
own_gone c i (r ∷ rs) e = split (holds c r)
    (λ g. absurd (let p : Some i ≡ None = rw g at e in let z : ◌≡◌ {A = ℕ} 0 1 = cc in omega arith))
    (λ g. rw g (own_gone c (i + 1) rs (rw g at e)))

-- the first free record, with i records before the list
free_found_from : (i : ℕ) (rs : List Record) (k : ℕ) → position_from (λ (r : Record). not (is_held r)) i rs ≡ Some k
    → (j : ℕ) × ((k ≡ i + j) × (j < length rs) × (0 < free_places rs) × ((n : Record) → set rs j n ≡ insert n rs))
unfolding only insert
free_found_from i [] k e = absurd (let z : ◌≡◌ {A = ℕ} 0 1 = cc in omega arith)
free_found_from i (r ∷ rs) k e = split (is_held r)
    (λ g.
    let w = free_found_from (i + 1) rs k (rw g at e) in
    let h : w.0 < length rs = w.1.1 in
    (suc w.0, (omega (arith, w.1.0), omega arith, rw g w.1.2, λ n. rw g (ap (λ q. r ∷ q) (w.1.3 n)))))
    (λ g.
    let p : Some i ≡ Some k = rw g at e in
    let q : i ≡ k = cc in
    (0, (omega arith, omega arith, rw g (omega arith), λ n. rw g)))

-- no free record
free_gone : (i : ℕ) (rs : List Record) → position_from (λ (r : Record). not (is_held r)) i rs ≡ None → free_places rs ≡ 0
unfolding only
free_gone i [] e = refl
free_gone i (r ∷ rs) e = split (is_held r)
    (λ g. rw g (free_gone (i + 1) rs (rw g at e)))
    (λ g. absurd (let p : Some i ≡ None = rw g at e in let z : ◌≡◌ {A = ℕ} 0 1 = cc in omega arith))

-- ---- by the search for the own record alone

-- its place
pub own_found : (c : CarAddress) (rs : List Record) (p : Option ℕ) (i : ℕ) → p ≡ own_place c rs → p ≡ Some i → OwnAt c rs i
own_found c rs p i e t =
    let w = own_found_from c 0 rs i (sym (position_from-zero (holds c) rs) ∙ sym e ∙ t) in
    let n : w.0 ≡ i = omega (arith, w.1.0) in
    subst (OwnAt c rs) n w.1.1

-- none: the car has no record
pub own_missing : (c : CarAddress) (rs : List Record) (p : Option ℕ) → p ≡ own_place c rs → p ≡ None → mine c rs ≡ []
own_missing c rs p e t = own_gone c 0 rs (sym (position_from-zero (holds c) rs) ∙ sym e ∙ t)

-- ---- by both searches

found_of : (c : CarAddress) (rs : List Record) (p q : Option ℕ) → own_place c rs ≡ p → free_place rs ≡ q → FoundAt c rs (or_free p q)
found_of c rs (Some k) q e f = own_found c rs (own_place c rs) k refl e
found_of c rs None (Some k) e f =
    let w = free_found_from 0 rs k (sym (position_from-zero (λ (r : Record). not (is_held r)) rs) ∙ f) in
    let n : w.0 ≡ k = omega (arith, w.1.0) in
    subst (FreeAt c rs) n (record { inside = w.1.1; mine = own_missing c rs (own_place c rs) refl e; free = w.1.2; put = w.1.3 })
found_of c rs None None e f = record {
  mine = own_missing c rs (own_place c rs) refl e;
  free = free_gone 0 rs (sym (position_from-zero (λ (r : Record). not (is_held r)) rs) ∙ f);
}

-- what the search gives
pub found : (c : CarAddress) (rs : List Record) (p q : Found) → p ≡ place_of c rs → p ≡ q → FoundAt c rs q
unfolding place_of
found c rs p q e t = subst (FoundAt c rs) (sym e ∙ t) (found_of c rs (own_place c rs) (free_place rs) refl refl)

-- no own place: the car has no record
pub not_own : (c : CarAddress) (rs : List Record) (p : Found) → p ≡ place_of c rs → OneOf (1 ∷ 2 ∷ []) (tag_of the_type p) → mine c rs ≡ []
not_own c rs (Own i) e o = absurd (miss (1 ∷ 2 ∷ []) 0 tt o)
not_own c rs (Free i) e o = (found c rs (Free i) (Free i) e refl).mine
not_own c rs Nothing e o = (found c rs Nothing Nothing e refl).mine
