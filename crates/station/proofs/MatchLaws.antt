-- MATCH.REQ, in the rules' words.
use Prim.Native.Nat.{ℕ}
use mathlib.Core.Path.{◌≡◌, refl, sym, ap, ◌∙◌}
use mathlib.Core.Bool.{Bool, true, false, ◌&&◌}
use mathlib.Core.List.{List, [], ◌∷◌, map}
use denote.Enum.Declared.{tag_of}
use lib.Dec.{eqb}
use lib.ListN.{get_or}
use types.Run.{OneOf, miss}
use Rattle.messages.specs.declared.CarAddress.{CarAddress}
use Rattle.messages.specs.declared.RunId.{RunId}
use Rattle.messages.specs.Reading.{Checked, no, yes, check}
use Rattle.rules.specs.declared.Record.{Record}
use Rattle.rules.specs.declared.State.{State}
use Rattle.rules.specs.declared.State.TheVariants.{Unmatched, Matching, Joining, Matched}
use Rattle.rules.specs.declared.Station.{Station}
use Rattle.ends.specs.Constants.{joining_time}
use Rattle.ends.specs.Outcomes.{and_then}
use Rattle.rules.specs.Records.{same_car, same_run, mine, freed}
use Rattle.rules.specs.Received.{match_req}
use Rattle.rules.specs.Stations.{Done}
use Rattle.rules.specs.Frames.{match_rule, confirmed, state_rule}
use Rattle.rules.specs.contracts.State.{the_type}
use Rattle.records.proofs.PlaceLaws.{OwnAt}
use Rattle.station.specs.Frames.{join_rule}

module _ (s : Station) (c : CarAddress) (run : RunId) (x y : List ℕ) where
  -- the car joins
  abbrev pub joins : Checked (Unit {0}) → Checked Done
  joins v = and_then v (λ (u : Unit {0}). yes (confirmed s.config (Joining joining_time c run) (map freed s.records) c run x y))

  -- ---- in Matching

  -- 11
  pub join_none : mine c s.records ≡ [] → join_rule s c run x y ≡ no 11
  unfolding match_rule
  join_none e = ap (λ (l : List Record). joins (match_rule run l)) e

  -- at the car's record, by its verdict
  pub join_own : (i : ℕ) (d : Record) (v : Checked (Unit {0})) → OwnAt c s.records i → v ≡ match_rule run (get_or s.records i d ∷ []) → join_rule s c run x y ≡ joins v
  unfolding match_rule
  join_own i d v w e = ap (λ (l : List Record). joins (match_rule run l)) (w.mine d) ∙ ap joins (sym e)

  -- ---- by the state

  -- in Matching the car joins
  pub match_matching : (a : ℕ) → s.state ≡ Matching a → join_rule s c run x y ≡ state_rule s.config s.state s.records c (match_req run x y)
  unfolding state_rule
  match_matching a e = sym (ap (λ (st : State). state_rule s.config st s.records c (match_req run x y)) e)

  module _ (l : ℕ) (d : CarAddress) (k : RunId) (e : s.state ≡ Joining l d k) where
    -- the same car and run, or others
    match_joining : (b : Bool) → eqb c.0 d.0 && eqb run.0 k.0 ≡ b
        → state_rule s.config s.state s.records c (match_req run x y) ≡ check b 11 (yes (confirmed s.config (Joining l d k) s.records c run x y))
    unfolding state_rule same_car same_run
    match_joining b h =
        ap (λ (st : State). state_rule s.config st s.records c (match_req run x y)) e
        ∙ ap (λ (t : Bool). check t 11 (yes (confirmed s.config (Joining l d k) s.records c run x y))) h

    -- the same: MATCH.CNF again
    pub match_again : eqb c.0 d.0 && eqb run.0 k.0 ≡ true → yes (confirmed s.config (Joining l d k) s.records c run x y) ≡ state_rule s.config s.state s.records c (match_req run x y)
    match_again h = sym (match_joining true h)

    -- others: 11
    pub match_other : eqb c.0 d.0 && eqb run.0 k.0 ≡ false → state_rule s.config s.state s.records c (match_req run x y) ≡ no 11
    match_other h = match_joining false h

  -- 8 in any other state
  match_in : (st : State) → OneOf (0 ∷ 3 ∷ []) (tag_of the_type st) → state_rule s.config st s.records c (match_req run x y) ≡ no 8
  unfolding state_rule
  match_in Unmatched t = refl
  match_in (Matching a) t = absurd (miss (0 ∷ 3 ∷ []) 1 tt t)
  match_in (Joining l d k) t = absurd (miss (0 ∷ 3 ∷ []) 2 tt t)
  match_in (Matched d) t = refl

  -- neither Matching nor Joining
  pub match_elsewhere : OneOf (0 ∷ 3 ∷ []) (tag_of the_type s.state) → state_rule s.config s.state s.records c (match_req run x y) ≡ no 8
  match_elsewhere t = match_in s.state t
