-- A car's own records by their index: what a search over the records meets at its next one; and the service query.
use Prim.Native.Nat.{ℕ, ◌+◌, ◌<◌, ◌≤◌}
use mathlib.Core.Path.{◌≡◌, refl, sym, ap, subst, ◌∙◌}
use mathlib.Core.Bool.{Bool, true, false}
use mathlib.Core.List.{List, ◌∷◌}
use lib.ListN.{length, drop, get_or, drop_of_length-le}
use lib.Count.{ones}
use native.Mathlib.Omega.{arith}
use borrow.Author.Tests.{lt-ltb}
use Rattle.messages.specs.declared.CarAddress.{CarAddress}
use Rattle.messages.specs.declared.Refusal.{Refusal}
use Rattle.messages.specs.Answers.{number_of}
use Rattle.messages.specs.Reading.{Checked, no, yes, check}
use Rattle.rules.specs.declared.Record.{Record}
use Rattle.rules.specs.declared.Station.{Station}
use Rattle.rules.specs.Records.{holds, mine}
use Rattle.rules.specs.Frames.{at_own}
use Rattle.rules.specs.Rules.{Told, told_of, told_in, query}
use Rattle.ends.proofs.ListLaws.{drop_next, only_none, only_yes, only_no}

-- the length of an array, passed
pub passed : {A : Type 0} (l : List A) (n i : ℕ) → length l ≡ n → n ≤ i → length l ≤ i
passed l n i e h = rw e h

module _ (c : CarAddress) (l : List Record) (i : ℕ) (z : Record) (h : i < length l) where
  pub mine_here : holds c (get_or l i z) ≡ true → mine c (drop i l) ≡ get_or l i z ∷ mine c (drop (i + 1) l)
  mine_here e = ap (mine c) (drop_next l i z h) ∙ only_yes (holds c) (get_or l i z) (drop (i + 1) l) e

  pub mine_next : holds c (get_or l i z) ≡ false → mine c (drop i l) ≡ mine c (drop (i + 1) l)
  mine_next e = ap (mine c) (drop_next l i z h) ∙ only_no (holds c) (get_or l i z) (drop (i + 1) l) e

  pub told_here : holds c (get_or l i z) ≡ true → told_in c (drop i l) ≡ told_of (get_or l i z)
  told_here e = ap (λ (own : List Record). at_own own told_of) (mine_here e)

  pub told_next : holds c (get_or l i z) ≡ false → told_in c (drop i l) ≡ told_in c (drop (i + 1) l)
  told_next e = ap (λ (own : List Record). at_own own told_of) (mine_next e)

-- past the last record
pub told_none : (c : CarAddress) (l : List Record) (i : ℕ) → length l ≤ i → told_in c (drop i l) ≡ no 11
told_none c l i h = ap (told_in c) (drop_of_length-le l h) ∙ ap (λ (own : List Record). at_own own told_of) (only_none (holds c))

-- ---- the service query

module _ (r : Record) where
  -- a record that counts no profile
  pub told_empty : r.profiles ≡ 0 → told_of r ≡ no 11
  told_empty h = rw h

  -- one that counts some
  pub told_full : (r.profiles ≡ 0 → ⊥) → yes (record { sounds = ones r.heard; spread = r.spread }) ≡ told_of r
  told_full h = sym (ap (λ (b : Bool). check b 11 (yes (record { sounds = ones r.heard; spread = r.spread }))) (lt-ltb 0 r.profiles (omega arith)))

module _ (s : Station) (c : CarAddress) where
  pub told_good : s.config.good ≡ true → told_in c s.records ≡ query s c
  unfolding query
  told_good g = sym (ap (λ (b : Bool). check b 16 (told_in c s.records)) g)

  pub told_bad : s.config.good ≡ false → query s c ≡ no 16
  unfolding query
  told_bad g = ap (λ (b : Bool). check b 16 (told_in c s.records)) g
