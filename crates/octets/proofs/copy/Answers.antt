-- `octets::copy` meets its contract: the octets that have room are all that is stored.
use Prim.Native.Nat.{ℕ, ◌+◌, ◌-◌}
use borrow.Rule.Slice.PartMut.{put_mid}
use lib.ListN.{length, take}
use lib.Seq.{sets, length-take-le}
use mathlib.Core.List.{List}
use mathlib.Core.Path.{◌≡◌, ap, ◌∙◌}
use native.Mathlib.Omega.{arith}
use Rattle.octets.proofs.LoopLaws.{sets_within, sets_put}
use Rattle.octets.proofs.copy.Goals as goal

pub returns-then-count-gt0 : goal.returns-then-count-gt0
returns-then-count-gt0 c =
    let a = c.args in
    let octets : List ℕ = c.part_of-octets.result.now in
    let n : ℕ = c.run_length-count.result in
    let long : length (take n octets) ≡ a.at + n - a.at = length-take-le n octets (omega arith) ∙ omega arith in
    ap (put_mid a.at (a.at + n - a.at) a.out.now) c.copy_from_slice.ensures.after
    ∙ sets_put (take n octets) a.out.now a.at (a.at + n - a.at) (omega arith) long
    ∙ sets_within octets a.out.now a.at n (omega arith)
    ∙ ap (λ (l : List ℕ). sets a.out.now a.at l) c.part_of-octets.ensures

pub returns-else-count-gt0 : goal.returns-else-count-gt0
returns-else-count-gt0 c =
    let a = c.args in
    sets_within c.part_of-octets.result.now a.out.now a.at 0 (omega arith) ∙ ap (λ (l : List ℕ). sets a.out.now a.at l) c.part_of-octets.ensures
