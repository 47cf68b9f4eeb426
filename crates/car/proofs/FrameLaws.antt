-- A report in Sounding, by the tests that the code makes.
use Prim.Native.Nat.{ℕ, ◌<◌, ◌≤◌}
use mathlib.Core.Path.{◌≡◌, sym, ap, ◌∙◌}
use mathlib.Core.Bool.{Bool, true, false, not, cond}
use mathlib.Core.List.{List}
use borrow.Author.Tests.{ne_eqb, lt-ltb, le-ltb}
use lib.Dec.{eqb, ltb}
use Rattle.messages.specs.declared.StationAddress.{StationAddress}
use Rattle.messages.specs.Reading.{Checked, no, yes, check}
use Rattle.messages.proofs.CheckLaws.{pass, fail}
use Rattle.ends.specs.Outcomes.{Done}
use Rattle.car_rules.specs.declared.Car.{Car}
use Rattle.car_rules.specs.Cars.{reports_of, kept}
use Rattle.car_rules.specs.Choice.{total}
use Rattle.car_rules.specs.Constants.{station_count}
use Rattle.car_rules.specs.Frames.{gathers, has_reported, answers, effect_rule}

module _ (c : Car) (s : StationAddress) (k : ℕ) (g : List ℕ) where
  -- a report in Sounding, by whether the station has reported
  abbrev gathered_by : Bool → Checked (Done Car)
  gathered_by b = cond b (yes (answers c s)) (check (ltb c.count station_count) 18 (yes (answers (kept (record { station = s; total = total g }) c) s)))

  module _ (z : k ≡ 0 → ⊥) (b : Bool) (eb : b ≡ has_reported s (reports_of c)) where
    gathers_some : (a : Bool) → b ≡ a → effect_rule c s (gathers k g) ≡ gathered_by a
    unfolding effect_rule
    gathers_some a h = pass (not (eqb k 0)) 20 _ (ap not (ne_eqb k 0 z)) ∙ ap gathered_by (sym eb ∙ h)

    -- it has
    pub gathers_again : b ≡ true → effect_rule c s (gathers k g) ≡ yes (answers c s)
    gathers_again h = gathers_some true h

    module _ (h : b ≡ false) where
      -- there is no place for it
      pub gathers_full : station_count ≤ c.count → effect_rule c s (gathers k g) ≡ no 18
      gathers_full f = gathers_some false h ∙ fail (ltb c.count station_count) 18 _ (le-ltb c.count station_count f)

      -- it is kept
      pub gathers_first : c.count < station_count → (n : ℕ) (d : Car) → n ≡ total g → d ≡ kept (record { station = s; total = n }) c → effect_rule c s (gathers k g) ≡ yes (answers d s)
      gathers_first f n d en ed =
          gathers_some false h
          ∙ pass (ltb c.count station_count) 18 _ (lt-ltb c.count station_count f)
          ∙ ap (λ (m : ℕ). yes (answers (kept (record { station = s; total = m }) c) s)) (sym en)
          ∙ ap (λ (y : Car). yes (answers y s)) (sym ed)
