-- The numbers in arrays of two, four and eight octets.
use Rattle.std.proofs.Common.{◌≡◌, ℕ, ◌+◌, ◌-◌, ◌*◌, ◌^◌, ◌<◌, List, get_or, arith, ap, ◌∙◌}
use Rattle.std.specs.Int.{w16, w32, w64, from_be_bytes}
use Rattle.std.proofs.lemmas.Grind.{common_steps}
use lib.ListN.{replicate, length, length-take, length-drop}
use lib.Seq.{sets}
use Rattle.octets.specs.Octets.{value, part}
use Rattle.octets.proofs.OctetLaws.{sets_zeros}

module _ (bs s : List ℕ) (at : ℕ) where
  pub pair_value : ((i : ℕ) → i < 2 → get_or bs i 0 ≡ get_or s (at + i) 0) → from_be_bytes w16 bs ≡ value s at 2
  unfolding value
  pair_value h = omega (arith, h 0 (omega arith), h 1 (omega arith))

  pub four_value : ((i : ℕ) → i < 4 → get_or bs i 0 ≡ get_or s (at + i) 0) → from_be_bytes w32 bs ≡ value s at 4
  unfolding value
  four_value h = omega (arith, h 0 (omega arith), h 1 (omega arith), h 2 (omega arith), h 3 (omega arith))

  pub eight_value : ((i : ℕ) → i < 8 → get_or bs i 0 ≡ get_or s (at + i) 0) → from_be_bytes w64 bs ≡ value s at 8
  unfolding value
  eight_value h = omega (arith, h 0 (omega arith), h 1 (omega arith), h 2 (omega arith), h 3 (omega arith), h 4 (omega arith), h 5 (omega arith), h 6 (omega arith), h 7 (omega arith))

  pub six_value : ((i : ℕ) → i < 6 → get_or bs i 0 ≡ get_or s (at + i) 0)
      → (get_or bs 0 0 * 256 ^ 3 + get_or bs 1 0 * 256 ^ 2 + get_or bs 2 0 * 256 + get_or bs 3 0) * 65536 + (get_or bs 4 0 * 256 + get_or bs 5 0) ≡ value s at 6
  unfolding value
  six_value h = omega (arith, h 0 (omega arith), h 1 (omega arith), h 2 (omega arith), h 3 (omega arith), h 4 (omega arith), h 5 (omega arith))

-- the octets that are there, and zeros behind them
pub found : (s : List ℕ) (at n i : ℕ) → i < n → get_or (sets (replicate n 0) 0 (part s at n)) i 0 ≡ get_or s (at + i) 0
found s at n i h =
    let ws : List ℕ = part s at n in
    let z : ℕ = n - length ws in
    let e : length ws + z ≡ n = simp (length-take, length-drop) (omega arith) in
    ap (λ (l : List ℕ). get_or l i 0) (sets_zeros ws n z e) ∙ grind (arith, common_steps)
