-- Laws of levels: a signed number from its two octets, and levels read one after another.
use Prim.Native.Nat.{ℕ, suc, ◌+◌, ◌*◌, ◌-◌, ◌^◌, ◌<◌}
use mathlib.Core.Path.{◌≡◌, refl, sym, ap, ap₂, ◌∙◌}
use mathlib.Core.Bool.{Bool, cond}
use mathlib.Core.List.{List, [], ◌∷◌, ◌++◌}
use native.Mathlib.Numerals.{add-one}
use borrow.Author.Tests.{lt-ltb}
use lib.Dec.{ltb}
use lib.IntN.{ℤ, pos, negsuc, ◌-ℤ◌}
use lib.ListN.{length, take, set, length-set}
use lib.Seq.{take-suc-set}
use mir.Syntax.{w16}
use mir.Val.{to_z}
use Rattle.octets.specs.Octets.{low_value}
use Rattle.script.specs.Layout.{level_of, levels_at}

-- ---- one level

-- the bits of two octets, read as signed
pub signed : (n : ℕ) → n < 2 ^ 16 → to_z w16 n ≡ level_of n
unfolding level_of
signed n few =
    let below : pos n -ℤ pos (2 ^ 16) ≡ negsuc (2 ^ 16 - suc n) = ap (λ (b : Bool). cond b (negsuc (2 ^ 16 - suc n)) (pos (n - 2 ^ 16))) (lt-ltb n (2 ^ 16) few) in
    ap (cond (ltb n (2 ^ 15)) (pos n)) (sym below)

-- ---- levels one after another

-- the first i levels that stand in s from a place stand in ls, which was ls₀ before
pub record Levelled (s : List ℕ) (from : ℕ) (ls₀ ls : List ℤ) (i : ℕ) : Type 0 where
  pub size : length ls ≡ length ls₀
  pub same : take i ls ≡ levels_at s from i

module _ (s : List ℕ) (from : ℕ) (ls₀ : List ℤ) where
  pub levels_none : Levelled s from ls₀ ls₀ 0
  unfolding levels_at
  levels_none = record { size = refl; same = refl }

  pub levels_more : (ls : List ℤ) (i : ℕ) (x : ℤ) → i < length ls → x ≡ level_of (low_value s (from + 2 * i) 2) → Levelled s from ls₀ ls i → Levelled s from ls₀ (set ls i x) (i + 1)
  unfolding levels_at
  levels_more ls i x h e l = record {
    size = length-set ls i x ∙ l.size;
    same =
        ap (λ (k : ℕ). take k (set ls i x)) (add-one i)
        ∙ take-suc-set ls i x h
        ∙ ap₂ (λ (k : List ℤ) (y : ℤ). k ++ (y ∷ [])) l.same e
        ∙ ap (levels_at s from) (sym (add-one i));
  }
