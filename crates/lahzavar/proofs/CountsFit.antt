-- Amplitude maps: 32 binary digits hold each count.
use Prim.Native.Nat.{ℕ, ◌<◌, ◌^◌}
use mathlib.Core.Path.{◌≡◌, refl, ap, ◌∙◌}
use mathlib.Core.Bool.{true}
use mathlib.Core.List.{List}
use native.Mathlib.Omega.{arith}
use lib.Dec.{leb, eqb}
use borrow.Author.Tests.{eqb-true}
use lib.IntN.{ℤ}
use lib.ListN.{length}
use Rattle.messages.specs.Reading.{Checked, no, yes}
use Rattle.messages.specs.Writing.{length_of, octets_of}
use Rattle.ends.proofs.Logic.{OnYes, on_check}
use Rattle.amplitude.specs.Maps.{MapMessage, amp_map_req, amp_map_cnf, is_map, is_limited, is_addressed, destination, source}
use Rattle.amplitude.specs.Reading.{summary_of, read_rules, values_in, values_rules}
use Rattle.amplitude.specs.Writing.{frame, length_in, write_rules}
use Rattle.amplitude.specs.Reductions.{are_levels, reductions, reduce_rules}
use Rattle.amplitude.proofs.AcceptedLaws.{carriers_few}
use Rattle.amplitude.proofs.LevelLaws.{length_reductions}
use Rattle.amplitude.proofs.WriteLaws.{length_frame, map_few}
use Rattle.lahzavar.specs.Maps.{map_read_as, counted_as}

-- a run of as many numbers as 32 binary digits tell
abbrev Few : List ℕ → Type 0
Few ws = length ws < 2 ^ 32

values_few : (s : List ℕ) (n : ℕ) (x : Checked MapMessage) → read_rules s ≡ x → OnYes Few (values_in x n)
values_few s n (no k) e = tt
values_few s n (yes (amp_map_req d f vs)) e = on_check Few (leb (length vs) n) 15 (yes vs) (λ h. omega (arith, carriers_few s d f vs e))
values_few s n (yes (amp_map_cnf d f r)) e = tt

write_few : (m : MapMessage) (n : ℕ) → OnYes Few (write_rules m n)
unfolding write_rules
write_few m n =
    on_check Few (is_addressed (destination m) (source m)) 5 _ (λ a.
    on_check Few (is_limited m) 6 _ (λ b.
    on_check Few (leb (length_in m) n) 15 (yes (frame m)) (λ c. omega (arith, length_frame m, written_few m b))))
  where
    written_few : (k : MapMessage) → is_limited k ≡ true → length_in k < 2 ^ 32
    written_few (amp_map_req d f vs) h = omega (arith, map_few vs h)
    written_few (amp_map_cnf d f r) h = omega arith

reduce_few : (vs : List ℕ) (ls : List ℤ) (n : ℕ) → OnYes Few (reduce_rules vs ls n)
unfolding reduce_rules
reduce_few vs ls n =
    on_check Few (is_map vs) 6 _ (λ a.
    on_check Few (eqb (length vs) (length ls)) 24 _ (λ b.
    on_check Few (are_levels ls) 16 _ (λ c.
    on_check Few (leb (length vs) n) 15 (yes (reductions vs ls)) (λ d. omega (arith, map_few vs a, length_reductions vs ls (eqb-true (length vs) (length ls) b))))))

counted_exact : (x : Checked (List ℕ)) → OnYes Few x → (counted_as (length_of x)).count ≡ length (octets_of x)
counted_exact (no n) h = refl
counted_exact (yes ws) h = omega arith

-- each count of a call is the whole number of places that it filled
pub values_exact : (s : List ℕ) (n : ℕ) → (counted_as (length_of (values_rules s n))).count ≡ length (octets_of (values_rules s n))
unfolding values_rules
values_exact s n = counted_exact (values_rules s n) (values_few s n (read_rules s) refl)

pub write_exact : (m : MapMessage) (n : ℕ) → (counted_as (length_of (write_rules m n))).count ≡ length (octets_of (write_rules m n))
write_exact m n = counted_exact (write_rules m n) (write_few m n)

pub reduce_exact : (vs : List ℕ) (ls : List ℤ) (n : ℕ) → (counted_as (length_of (reduce_rules vs ls n))).count ≡ length (octets_of (reduce_rules vs ls n))
reduce_exact vs ls n = counted_exact (reduce_rules vs ls n) (reduce_few vs ls n)

-- and the carriers of a request are told as they are
pub carriers_exact : (s : List ℕ) (d f : ℕ) (vs : List ℕ) → read_rules s ≡ yes (amp_map_req d f vs) → (map_read_as (summary_of (read_rules s))).carriers ≡ length vs
carriers_exact s d f vs e = ap (λ (x : Checked MapMessage). (map_read_as (summary_of x)).carriers) e ∙ small
  where
    small : (map_read_as (summary_of (yes (amp_map_req d f vs)))).carriers ≡ length vs
    small = omega (arith, carriers_few s d f vs e)
