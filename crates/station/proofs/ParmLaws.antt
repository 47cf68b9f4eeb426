-- PARM.REQ, in the rules' words: by the place that its record is given.
use Rattle.std.specs.Prelude.{Result, Ok}
use Rattle.messages.specs.Answers.{checked_of}
use Rattle.messages.specs.declared.Refusal.{Refusal}
use Prim.Native.Nat.{ℕ, ◌<◌}
use mathlib.Core.Path.{◌≡◌, refl, sym, ap, ap₂, ◌∙◌}
use mathlib.Core.Bool.{Bool, true, false, not}
use mathlib.Core.List.{List, [], ◌∷◌}
use native.Mathlib.Omega.{arith}
use borrow.Author.Tests.{lt-ltb, le-ltb}
use lib.Dec.{ltb}
use lib.ListN.{length, set}
use Rattle.messages.specs.declared.CarAddress.{CarAddress}
use Rattle.messages.specs.declared.RunId.{RunId}
use Rattle.messages.specs.Reading.{Checked, no, yes, check}
use Rattle.rules.specs.declared.Configuration.{Configuration}
use Rattle.ends.specs.declared.Indication.TheVariants as indication
use Rattle.rules.specs.declared.Record.{Record}
use Rattle.rules.specs.declared.State.{State}
use Rattle.rules.specs.declared.State.TheVariants.{Matching}
use Rattle.ends.specs.Outcomes.{and_then}
use Rattle.rules.specs.Records.{is_empty, mine, free_places, owned, fresh}
use Rattle.rules.specs.Received.{parm_req, for_record}
use Rattle.rules.specs.Replies.{parm_cnf, frames_to}
use Rattle.rules.specs.Stations.{Done, done}
use Rattle.rules.specs.Frames.{Change, own_place, free_place, is_later, requested, parm_rule, change_rule, put, changed, state_rule}
use Rattle.records.specs.declared.find.Found.{Found}
use Rattle.records.specs.declared.find.Found.TheVariants.{Own, Free, Nothing}
use Rattle.records.specs.Places.{place_of}
use Rattle.records.proofs.PlaceLaws.{FoundAt, found}
use Rattle.receiving.specs.AtRecord.{later_at, place_rule, admission_rule}
use Rattle.receiving.proofs.JudgeLaws.{no_yes}

module _ (o : Configuration) (st : State) (rs : List Record) (c : CarAddress) (run : RunId) (a : ℕ) (e : st ≡ Matching a) where
  -- the record anew at place i, and PARM.CNF
  abbrev pub admits : Bool → ℕ → Checked Done
  admits later i = yes (done st (set rs i (owned c (fresh later c run))) (frames_to o c (parm_cnf later run ∷ [])) indication.Nothing)

  -- by the car's records and the free places
  asked : (own : List Record) → mine c rs ≡ own → state_rule o st rs c (for_record (parm_req run)) ≡ and_then (check (not (is_empty run)) 21 (parm_rule o.edition c run a (free_places rs) own)) (λ (x : Change). yes (changed o st rs c x))
  unfolding state_rule change_rule
  asked own m =
      ap (λ (q : State). state_rule o q rs c (for_record (parm_req run))) e
      ∙ ap₂ (λ (l : List Record) (q : State). and_then (check (not (is_empty run)) 21 (parm_rule o.edition c run a (free_places rs) l)) (λ (x : Change). yes (changed o q rs c x))) m (sym e)

  -- a car with no record: 9, 10, or the first free record
  asked_none : (f : Bool) → mine c rs ≡ [] → ltb 0 (free_places rs) ≡ f
      → state_rule o st rs c (for_record (parm_req run)) ≡ and_then (check (not (is_empty run)) 21 (check (ltb 0 a) 9 (check f 10 (yes (requested (is_later o.edition free_place) c run free_place))))) (λ (x : Change). yes (changed o st rs c x))
  unfolding parm_rule
  asked_none f m q = asked [] m ∙ ap (λ (y : Bool). and_then (check (not (is_empty run)) 21 (check (ltb 0 a) 9 (check y 10 (yes (requested (is_later o.edition free_place) c run free_place))))) (λ (z : Change). yes (changed o st rs c z))) q

  -- what follows the same test
  tested : {A : Type 0} (later b : Bool) (n : ℕ) (x : Checked A) (y : Checked ℕ) (f : A → Checked Done) → and_then x f ≡ and_then y (admits later) → and_then (check b n x) f ≡ and_then (check b n y) (admits later)
  tested later true n x y f q = q
  tested later false n x y f q = refl

  -- by the place: the car's own, the first free one, or none
  by_place : (p : Found) → FoundAt c rs p → state_rule o st rs c (for_record (parm_req run)) ≡ and_then (admission_rule run p (ltb 0 a)) (admits (later_at o.edition p))
  unfolding parm_rule requested put
  by_place (Own i) w =
      asked _ (w.mine (fresh (is_later o.edition own_place) c run))
      ∙ tested _ (not (is_empty run)) 21 (yes (requested (is_later o.edition own_place) c run own_place)) (yes i) (λ (z : Change). yes (changed o st rs c z))
      (ap (λ (l : List Record). yes (done st l (frames_to o c (parm_cnf (is_later o.edition own_place) run ∷ [])) indication.Nothing)) (sym (w.put (owned c (fresh (is_later o.edition own_place) c run)))))
  by_place (Free i) w =
      asked_none true w.mine (lt-ltb 0 (free_places rs) w.free)
      ∙ tested _ (not (is_empty run)) 21 (check (ltb 0 a) 9 (yes (requested (is_later o.edition free_place) c run free_place))) (check (ltb 0 a) 9 (yes i)) (λ (z : Change). yes (changed o st rs c z))
      (tested _ (ltb 0 a) 9 (yes (requested (is_later o.edition free_place) c run free_place)) (yes i) (λ (z : Change). yes (changed o st rs c z))
      (ap (λ (l : List Record). yes (done st l (frames_to o c (parm_cnf (is_later o.edition free_place) run ∷ [])) indication.Nothing)) (sym (w.put (owned c (fresh (is_later o.edition free_place) c run))))))
  by_place Nothing w =
      asked_none false w.mine (le-ltb 0 (free_places rs) (omega (arith, w.free)))
      ∙ tested _ (not (is_empty run)) 21 (check (ltb 0 a) 9 (no 10)) (check (ltb 0 a) 9 (no 10)) (λ (z : Change). yes (changed o st rs c z))
      (tested _ (ltb 0 a) 9 (no 10) (no 10) (λ (z : Change). yes (changed o st rs c z)) refl)

  -- a place that is given is inside
  given_inside : (p : Found) (is_open : Bool) (i : ℕ) → FoundAt c rs p → place_rule p is_open ≡ yes i → i < length rs
  given_inside (Own k) is_open i w q = let z : k ≡ i = cc in omega (arith, w.inside)
  given_inside (Free k) true i w q = let z : k ≡ i = cc in omega (arith, w.inside)
  given_inside (Free k) false i w q = no_yes 9 i q
  given_inside Nothing true i w q = no_yes 10 i q
  given_inside Nothing false i w q = no_yes 9 i q

  -- and so where a test stands before it
  tested_inside : (b : Bool) (p : Found) (is_open : Bool) (i : ℕ) → FoundAt c rs p → check b 21 (place_rule p is_open) ≡ yes i → i < length rs
  tested_inside true p is_open i w q = given_inside p is_open i w q
  tested_inside false p is_open i w q = no_yes 21 i q

  module _ (p : Found) (ep : p ≡ place_of c rs) (x : Result ℕ Refusal) (ex : checked_of x ≡ admission_rule run p (ltb 0 a)) where
    -- the rule by what the code answers
    pub parm_answered : state_rule o st rs c (for_record (parm_req run)) ≡ and_then (checked_of x) (admits (later_at o.edition p))
    parm_answered = by_place p (found c rs p p ep refl) ∙ ap (λ (w : Checked ℕ). and_then w (admits (later_at o.edition p))) (sym ex)

    -- the place that it gives is inside
    pub parm_inside : (i : ℕ) → x ≡ Ok i → i < length rs
    parm_inside i t = tested_inside (not (is_empty run)) p (ltb 0 a) i (found c rs p p ep refl) (sym ex ∙ ap checked_of t)
