-- Walks over the items of a log: what is left to do at each place is the whole.
use Prim.Native.Nat.{ℕ, zero, suc, ◌+◌, ◌-◌, ◌^◌, ◌<◌, ◌≤◌}
use mathlib.Core.Path.{◌≡◌, refl, sym, ap, ap₂, ◌∙◌}
use mathlib.Core.Bool.{Bool, true, false, ◌&&◌}
use mathlib.Core.List.{List, [], ◌∷◌}
use native.Mathlib.Omega.{arith}
use borrow.Author.Tests.{leb-true}
use lib.Dec.{eqb, leb}
use lib.ListN.{length, get_or, get_or-eq_default}
use Rattle.octets.specs.Octets.{low_value}
use Rattle.messages.specs.Reading.{Checked, no, yes}
use Rattle.ends.specs.Outcomes.{and_then}
use Rattle.session_log.specs.Meaning.{head_of}
use Rattle.session_log.specs.Layout.{numbers_at, head_at, behind, item_at, items_at}
use Rattle.session_log.specs.Reading.{Rules, ends_at, item_rules}
use Rattle.session_log.specs.Private.{Listed}
use Rattle.session_log.proofs.ItemLaws.{ends_first, ends_rest}

-- ---- leaves

-- no number stands past the end
low_past : (s : List ℕ) (at n : ℕ) → length s ≤ at → low_value s at n ≡ 0
unfolding low_value
low_past s at zero h = refl
low_past s at (suc n) h = let r = low_past s (suc at) n (omega arith) in let g = get_or-eq_default s 0 {n = at} h in omega arith

pub head_past : (s : List ℕ) (at : ℕ) → length s ≤ at → head_at s at ≡ 0 ∷ 0 ∷ 0 ∷ []
unfolding numbers_at
head_past s at h = ap₂ (λ (a : ℕ) (l : List ℕ). a ∷ l) (low_past s at 4 h) (ap₂ (λ (a b : ℕ). a ∷ b ∷ []) (low_past s (at + 4) 4 (omega arith)) (low_past s (at + 4 + 4) 4 (omega arith)))

-- ---- the walk over the lengths

pub record Walked (s : List ℕ) (count from e at i : ℕ) : Type 0 where
  pub turns : i ≤ count
  pub small : at < 2 ^ 32
  pub same : ends_at s (count - i) at e ≡ ends_at s count from e

pub walked_start : (s : List ℕ) (count from e : ℕ) → from < 2 ^ 32 → Walked s count from e from 0
walked_start s count from e h = record { turns = omega arith; small = h; same = ap (λ (n : ℕ). ends_at s n from e) (let z : count - 0 ≡ count = omega arith in z) }

module _ {s : List ℕ} {count from e at i : ℕ} (w : Walked s count from e at i) where
  pub walked_end : count ≤ i → eqb at e ≡ ends_at s count from e
  unfolding ends_at
  walked_end h = ap (λ (n : ℕ). ends_at s n at e) (let z : 0 ≡ count - i = omega arith in z) ∙ w.same

  module _ (more : i < count) where
    one_more : leb (behind s at) (length s) && ends_at s (count - (i + 1)) (behind s at) e ≡ ends_at s count from e
    unfolding ends_at
    one_more = ap (λ (n : ℕ). ends_at s n at e) (let z : suc (count - (i + 1)) ≡ count - i = omega arith in z) ∙ w.same

    pub walked_past : leb (behind s at) (length s) ≡ false → false ≡ ends_at s count from e
    walked_past h = ap (λ (b : Bool). b && ends_at s (count - (i + 1)) (behind s at) e) (sym h) ∙ one_more

    pub walked_next : length s < 2 ^ 32 → leb (behind s at) (length s) ≡ true → Walked s count from e (behind s at) (i + 1)
    walked_next short h = record {
      turns = omega arith;
      small = (let z = leb-true (behind s at) (length s) h in omega arith);
      same = ap (λ (b : Bool). b && ends_at s (count - (i + 1)) (behind s at) e) (sym h) ∙ one_more;
    }

-- ---- the items one after the other

pub record Judging (f : Rules) (s : List ℕ) (count from at i : ℕ) : Type 0 where
  pub turns : i ≤ count
  pub listed : Listed s (count - i) at
  pub same : item_rules f (items_at s (count - i) at) ≡ item_rules f (items_at s count from)

module _ {f : Rules} {s : List ℕ} {count from : ℕ} where
  pub judging_start : Listed s count from → Judging f s count from from 0
  judging_start l =
      let z : count - 0 ≡ count = omega arith in
      record {
        turns = omega arith;
        listed = record { short = l.short; end = l.end; ends = ap (λ (n : ℕ). ends_at s n from l.end) z ∙ l.ends };
        same = ap (λ (n : ℕ). item_rules f (items_at s n from)) z;
      }

  module _ {at i : ℕ} (j : Judging f s count from at i) where
    pub judging_end : count ≤ i → yes tt ≡ item_rules f (items_at s count from)
    unfolding item_rules items_at
    judging_end h = ap (λ (n : ℕ). item_rules f (items_at s n at)) (let z : 0 ≡ count - i = omega arith in z) ∙ j.same

    module _ (more : i < count) where
      left : ℕ
      left = count - (i + 1)

      one_left : count - i ≡ suc left
      unfolding left
      one_left = omega arith

      ends_left : ends_at s (suc left) at j.listed.end ≡ true
      ends_left = ap (λ (n : ℕ). ends_at s n at j.listed.end) (sym one_left) ∙ j.listed.ends

      -- the item at the place is in the log
      pub judging_within : (length s < 2 ^ 32) × (behind s at ≤ length s)
      judging_within = (let z = j.listed.short in omega arith, ends_first s left at j.listed.end ends_left)

      pub judging_small : at < 2 ^ 32
      judging_small = let z = judging_within in omega arith

      abbrev pub own : Checked (Unit {0})
      own = f (head_of (item_at s at)) true (get_or (item_at s at).octets 0 0)

      first_then : and_then own (λ (_ : Unit {0}). item_rules f (items_at s left (behind s at))) ≡ item_rules f (items_at s count from)
      unfolding item_rules items_at
      first_then = ap (λ (n : ℕ). item_rules f (items_at s n at)) (sym one_left) ∙ j.same

      pub judging_past : (n : ℕ) → no n ≡ own → no n ≡ item_rules f (items_at s count from)
      judging_past n e = ap (λ (w : Checked (Unit {0})). and_then w (λ (_ : Unit {0}). item_rules f (items_at s left (behind s at)))) e ∙ first_then

      pub judging_next : yes tt ≡ own → Judging f s count from (behind s at) (i + 1)
      unfolding left
      judging_next e = record {
        turns = omega arith;
        listed = record { short = j.listed.short; end = j.listed.end; ends = ends_rest s left at j.listed.end ends_left };
        same = ap (λ (w : Checked (Unit {0})). and_then w (λ (_ : Unit {0}). item_rules f (items_at s left (behind s at)))) e ∙ first_then;
      }
