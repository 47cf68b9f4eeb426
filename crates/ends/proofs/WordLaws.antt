-- Laws of words that both ends need: a flag, a word of a part, and lists that share their first elements.
use Rattle.std.proofs.Common.{◌≡◌, ℕ, ◌+◌, ◌<◌, ◌≤◌, Bool, true, false, ◌&&◌, eqb, List, length, get_or, take, drop, set, sym, refl, ◌∙◌, add-one, get_or-drop, take_all, get_or-take, take-suc, take-suc-set}
use Rattle.octets.specs.Octets.{part}
use Rattle.ends.specs.Words.{flag_of}

-- a flag with a test that it passes
pub flag_and : (b t : Bool) → (b ≡ true → t ≡ true) → eqb (flag_of b) 1 && t ≡ b
flag_and true t h = h refl
flag_and false t h = refl

-- a word of a part
pub word_at : (w : List ℕ) (at k j : ℕ) → j < k → get_or (part w at k) j 0 ≡ get_or w (at + j) 0
word_at w at k j h = get_or-take k (drop at w) j 0 h ∙ get_or-drop at w j 0

module _ {A : Type 0} where
  -- one element more that two lists share
  pub take_more : (l m : List A) (i : ℕ) (z : A) → take i l ≡ take i m → i < length l → i < length m → take (i + 1) (set l i (get_or m i z)) ≡ take (i + 1) m
  take_more l m i z e h k = rw (add-one i, take-suc-set l i (get_or m i z) h, e) (sym (take-suc m i z k))

  -- all elements
  pub take_whole : (l m : List A) (i : ℕ) → take i l ≡ take i m → length l ≤ i → length m ≤ i → l ≡ m
  take_whole l m i e h k = sym (take_all i l h) ∙ e ∙ take_all i m k
