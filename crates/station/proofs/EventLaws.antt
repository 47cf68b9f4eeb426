-- Pilot, terminate and link up, by the tests that the code makes.
use Prim.Native.Nat.{ℕ}
use mathlib.Core.Path.{◌≡◌, refl, sym, ap, ap₂, ◌∙◌}
use mathlib.Core.Bool.{Bool, true, false, cond, ◌&&◌}
use mathlib.Core.List.{List, [], ◌∷◌, map}
use types.Run.{OneOf, miss}
use denote.Enum.Declared.{tag_of}
use Rattle.messages.specs.declared.CarAddress.{CarAddress}
use Rattle.messages.specs.declared.RunId.{RunId}
use Rattle.messages.specs.Reading.{no, yes}
use Rattle.ends.specs.declared.Indication.{Indication}
use Rattle.ends.specs.declared.Indication.TheVariants.{Nothing, LinkEstablished}
use Rattle.rules.specs.declared.Pilot.{Pilot}
use Rattle.rules.specs.declared.Record.{Record}
use Rattle.rules.specs.declared.State.{State}
use Rattle.rules.specs.declared.State.TheVariants.{Unmatched, Matching, Joining, Matched}
use Rattle.rules.specs.declared.Station.{Station}
use Rattle.rules.specs.declared.Stepped.{Stepped}
use Rattle.rules.specs.Constants.{admission_time}
use Rattle.rules.specs.Calls.{pilot, terminate, link_up}
use Rattle.rules.specs.Records.{freed}
use Rattle.rules.specs.Stations.{Shared, shared, inner, done}
use Rattle.rules.specs.Events.{plugged, ended, pilot_done, link_rule}
use Rattle.rules.specs.Validation.{turn, toggled_record}
use Rattle.rules.specs.Rules.{rule, takes_pilot, shared_step}
use Rattle.rules.specs.contracts.State as state
use Rattle.ends.proofs.Logic.{split}
use Rattle.messages.proofs.CheckLaws.{pass}
use Rattle.station.specs.Steps.{done_as, shared_as, anew, Gives}
use Rattle.station.proofs.StepLaws.{no_frames, gives_as}

-- link up in another state
not_joining : (st : State) (rs : List Record) → OneOf (0 ∷ 1 ∷ 3 ∷ []) (tag_of state.the_type st) → link_rule st rs ≡ no 8
unfolding link_rule
not_joining Unmatched rs o = refl
not_joining (Matching a) rs o = refl
not_joining (Joining l c run) rs o = absurd (miss (0 ∷ 1 ∷ 3 ∷ []) 2 tt o)
not_joining (Matched c) rs o = refl

-- ---- the calls of a station that is well configured

module _ (s : Station) (g : s.config.good ≡ true) where
  -- what a pilot change does to the shared part
  pub pilot_shared : (p : Pilot) (t : ℕ) → shared_step (shared s) (pilot p t) ≡ takes_pilot p t (shared s)
  unfolding shared_step
  pilot_shared p t = ap (λ (b : Bool). cond b (takes_pilot p t (shared s)) (shared s)) g

  -- and to the rest
  pub pilot_rule : (p : Pilot) (t : ℕ) → rule (shared s) (inner s) (pilot p t) ≡ yes (pilot_done (plugged s.pilot) (plugged p) (turn s.pilot p) (inner s))
  unfolding rule
  pilot_rule p t = pass s.config.good 16 _ g

  -- terminate is accepted
  pub terminate_rule : rule (shared s) (inner s) terminate ≡ yes (ended (inner s))
  unfolding rule
  terminate_rule = pass s.config.good 16 _ g

  -- link up in Joining is accepted
  pub link_joining : (l : ℕ) (c : CarAddress) (run : RunId) → s.state ≡ Joining l c run → rule (shared s) (inner s) link_up ≡ yes (done (Matched c) s.records [] LinkEstablished)
  unfolding rule link_rule
  link_joining l c run e = pass s.config.good 16 _ g ∙ ap (λ (st : State). link_rule st s.records) e

  -- elsewhere it is refused
  pub link_elsewhere : OneOf (0 ∷ 1 ∷ 3 ∷ []) (tag_of state.the_type s.state) → rule (shared s) (inner s) link_up ≡ no 8
  unfolding rule
  link_elsewhere o = pass s.config.good 16 _ g ∙ not_joining s.state s.records o

-- terminate and link up leave the shared part
pub same_shared : (o : Shared) → (shared_step o terminate ≡ o) × (shared_step o link_up ≡ o)
unfolding shared_step
same_shared o = (refl, refl)

-- ---- all records freed, in a state and with an indication

-- the station put together from its parts
pub all_freed : (s : Station) (p : Pilot) (t : ℕ) (st : State) (free : List Record) (x y : Indication) (n : Station) (r : Stepped)
    → free ≡ map freed s.records → x ≡ y → n ≡ anew s p t st free → r ≡ done_as n 0 0 x → Gives (shared_as s p t) (done st (map freed s.records) [] y) [] [] r
all_freed s p t st free x y n r ef ex en er = no_frames s p t st (map freed s.records) y n r [] (en ∙ ap (anew s p t st) ef) (er ∙ ap (done_as n 0 0) ex)

-- ---- a pilot change, by where the pilot was and is

module _ (s : Station) (p : Pilot) (t : ℕ) (r : Stepped) where
  -- what a pilot change gives
  abbrev Changes : Type 0
  Changes = Gives (takes_pilot p t (shared s)) (pilot_done (plugged s.pilot) (plugged p) (turn s.pilot p) (inner s)) [] [] r

  -- by the two places
  changes : (was is : Bool) → plugged s.pilot ≡ was → plugged p ≡ is → Gives (shared_as s p (cond (was && is) s.clock t)) (pilot_done was is (turn s.pilot p) (inner s)) [] [] r → Changes
  unfolding takes_pilot
  changes was is a b g =
      gives_as _ _ _ _ [] [] r
      (sym (ap₂ (λ (x y : Bool). shared_as s p (cond (x && y) s.clock t)) a b))
      (sym (ap₂ (λ (x y : Bool). pilot_done x y (turn s.pilot p) (inner s)) a b))
      g

  -- from B, C or D to B, C or D
  pub stays : plugged s.pilot ≡ true → plugged p ≡ true → Gives (shared_as s p s.clock) (done s.state (map (toggled_record (turn s.pilot p)) s.records) [] Nothing) [] [] r → Changes
  unfolding pilot_done
  stays a b g = changes true true a b g

  -- from A, E or F to B, C or D
  pub plugs : plugged s.pilot ≡ false → plugged p ≡ true → Gives (shared_as s p t) (done (Matching admission_time) (map freed s.records) [] Nothing) [] [] r → Changes
  unfolding pilot_done
  plugs a b g = changes false true a b g

  -- to A, E or F
  pub unplugs : plugged p ≡ false → Gives (shared_as s p t) (ended (inner s)) [] [] r → Changes
  unfolding pilot_done
  unplugs b g = split (plugged s.pilot) (λ a. changes true false a b g) (λ a. changes false false a b g)
