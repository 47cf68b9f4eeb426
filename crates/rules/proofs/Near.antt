-- Demand 3, part one: how the two stations stand to each other, and what keeps it.
use Prim.Native.Nat.{ℕ, ◌<◌, ◌≤◌}
use mathlib.Core.Path.{◌≡◌, refl, sym, ◌∙◌, ap}
use mathlib.Core.Bool.{true, false}
use mathlib.Core.List.{List, [], map}
use native.Mathlib.Omega.{arith}
use lib.ListN.{length, length-map}
use Rattle.messages.specs.declared.CarAddress.{CarAddress}
use Rattle.messages.specs.Reading.{Checked, no}
use Rattle.rules.specs.declared.Record.{Record}
use Rattle.rules.specs.declared.State.{State}
use Rattle.rules.specs.declared.State.TheVariants.{Unmatched, Matching, Matched}
use Rattle.ends.specs.Outcomes.{next, outcome_of}
use Rattle.rules.specs.Stations.{Inner, Done}
use Rattle.rules.specs.Records.{same_car, mine, free_places, none_held, freed}
use Rattle.rules.specs.Frames.{Place, own_place, free_place, put}
use Rattle.rules.specs.Numbers.{state_number}
use Rattle.rules.specs.Demand3.{replies_in}
use Rattle.ends.proofs.Logic.{split}
use Rattle.rules.proofs.RecordLaws.{same_eq, Ready, takes, same_put, mine_put_other, length_put, mine_freed, Keeping, same_map, none_map, mine_none, free_all}

-- car c has the same records in both lists, and the second holds no other car's
pub record Alone (c : CarAddress) (rs rs' : List Record) : Type 0 where
  pub own : mine c rs ≡ mine c rs'
  pub others : (d : CarAddress) → same_car d c ≡ false → mine d rs' ≡ []
  pub sized : 0 < length rs'

-- the states: the second may be Unmatched since admission's end, while another car's record keeps the first in Matching
pub data Ahead (own : List Record) : State → State → Type 0 where
  both : {a : ℕ} → Ahead own (Matching a) (Matching a)
  late : {a : ℕ} → a ≡ 0 → own ≡ [] → Ahead own (Matching a) Unmatched
  out : own ≡ [] → Ahead own Unmatched Unmatched

-- neither is Matched
pub not_matched : (own : List Record) (st st' : State) (d : CarAddress) → Ahead own st st' → st ≡ Matched d → ⊥
not_matched own st st' d (both {a}) e = let z : ◌≡◌ {A = ℕ} 1 3 = ap state_number e in omega arith
not_matched own st st' d (late {a} z k) e = let z : ◌≡◌ {A = ℕ} 1 3 = ap state_number e in omega arith
not_matched own st st' d (out k) e = let z : ◌≡◌ {A = ℕ} 0 3 = ap state_number e in omega arith

pub record Near (c : CarAddress) (i j : Inner) : Type 0 where
  pub alone : Alone c i.records j.records
  pub states : Ahead (mine c j.records) i.state j.state

-- a call that both get: they stay near, and car c is sent the same
pub record BothGet (c : CarAddress) (i j : Inner) (a b : Checked Done) : Type 0 where
  pub near : Near c (next i a) (next j b)
  pub sent : replies_in c (outcome_of a) ≡ replies_in c (outcome_of b)

pub stays : (c : CarAddress) (i j : Inner) (n k : ℕ) → Near c i j → BothGet c i j (no n) (no k)
stays c i j n k h = record { near = h; sent = refl }

module _ (c : CarAddress) (rs rs' : List Record) (h : Alone c rs rs') where
  -- where car c has no record, the second list holds none
  pub alone_none : mine c rs ≡ [] → none_held rs' ≡ true
  alone_none m = mine_none rs' (λ d. split (same_car d c) (λ e. rw (same_eq d c e) (sym h.own ∙ m)) (λ e. h.others d e))

  pub alone_takes : (p : Place) → Ready p (free_places rs) (mine c rs) → takes p ≤ free_places rs'
  alone_takes own_place w = omega arith
  alone_takes free_place w = let z : 0 < length rs' = h.sized in omega (arith, free_all rs' (alone_none w.0))

  pub alone_put : (p : Place) (r : Record) → Ready p (free_places rs) (mine c rs) → Alone c (put c p r rs) (put c p r rs')
  alone_put p r w = record {
    own = same_put c r p rs rs' h.own w (alone_takes p w);
    others = λ d s. mine_put_other c r p d rs' s ∙ h.others d s;
    sized = rw length_put h.sized;
  }

  -- another car's record changes in the first list only
  pub alone_other : (d : CarAddress) (p : Place) (r : Record) → same_car c d ≡ false → Alone c (put d p r rs) rs'
  alone_other d p r s = record { own = mine_put_other d r p c rs s ∙ h.own; others = h.others; sized = h.sized }

  -- each record changed in both lists
  pub alone_map : (g : Record → Record) → Keeping g → Alone c (map g rs) (map g rs')
  alone_map g k = record {
    own = same_map g k c rs rs' h.own;
    others = λ d s. none_map g k d rs' (h.others d s);
    sized = rw length-map h.sized;
  }

pub alone_freed : (c : CarAddress) (rs rs' : List Record) → 0 < length rs' → Alone c (map freed rs) (map freed rs')
alone_freed c rs rs' z = record { own = mine_freed c rs ∙ sym (mine_freed c rs'); others = λ d s. mine_freed d rs'; sized = rw length-map z }
