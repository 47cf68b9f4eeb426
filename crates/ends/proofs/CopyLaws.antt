-- The steps of the loops over runs of words.
use Rattle.std.proofs.Common.{◌≡◌, ℕ, ◌+◌, ◌<◌, ◌≤◌, List, [], ◌∷◌, ◌++◌, length, get_or, take, set, replicate, sym, refl, ap, ◌∙◌, add-one, arith, length-set, take_all, take-suc-set}
use lib.ListN.{replicate-append-replicate}
use lib.Seq.{sets}
use Rattle.octets.proofs.LoopLaws.{copy_in_more}

-- ---- a copy into a slice

-- so many elements of src are copied
pub record Copied (src out₀ : List ℕ) (at : ℕ) (out : List ℕ) (i : ℕ) : Type 0 where
  pub turns : i ≤ length src
  pub size : length out ≡ length out₀
  pub done : out ≡ sets out₀ at (take i src)

pub copied_start : (src out : List ℕ) (at : ℕ) → Copied src out at out 0
copied_start src out at = record { turns = omega arith; size = refl; done = refl }

pub copied_next : (src out₀ out : List ℕ) (at i : ℕ) → Copied src out₀ at out i → i < length src → Copied src out₀ at (set out (at + i) (get_or src i 0)) (i + 1)
copied_next src out₀ out at i c h = record {
  turns = omega arith;
  size = length-set out (at + i) (get_or src i 0) ∙ c.size;
  done = ap (λ (o : List ℕ). set o (at + i) (get_or src i 0)) c.done ∙ copy_in_more src out₀ at i h;
}

pub copied_end : (src out₀ out : List ℕ) (at i : ℕ) → Copied src out₀ at out i → length src ≤ i → out ≡ sets out₀ at src
copied_end src out₀ out at i c h = c.done ∙ ap (sets out₀ at) (take_all i src h)

-- ---- zeros into a slice

-- so many elements are 0
pub record Cleared (out₀ out : List ℕ) (i : ℕ) : Type 0 where
  pub turns : i ≤ length out₀
  pub size : length out ≡ length out₀
  pub done : take i out ≡ replicate i 0

pub cleared_start : (out : List ℕ) → Cleared out out 0
cleared_start out = record { turns = omega arith; size = refl; done = refl }

pub cleared_next : (out₀ out : List ℕ) (i : ℕ) → Cleared out₀ out i → i < length out → Cleared out₀ (set out i 0) (i + 1)
cleared_next out₀ out i c h = record {
  turns = omega (arith, c.size);
  size = length-set out i 0 ∙ c.size;
  done =
      ap (λ (m : ℕ). take m (set out i 0)) (add-one i)
      ∙ take-suc-set out i 0 h
      ∙ ap (λ (l : List ℕ). l ++ (0 ∷ [])) c.done
      ∙ replicate-append-replicate i 1 0;
}

pub cleared_end : (out₀ out : List ℕ) (i : ℕ) → Cleared out₀ out i → length out ≤ i → out ≡ replicate (length out₀) 0
cleared_end out₀ out i c h =
    let e : i ≡ length out₀ = omega (arith, c.turns, c.size) in
    sym (take_all i out h) ∙ c.done ∙ ap (λ (n : ℕ). replicate n 0) e
