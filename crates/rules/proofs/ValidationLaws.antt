-- Laws of validation: how many records are ready or counting, what a first validate request is answered, and which answers are 03 or 01 in octets.
use Prim.Native.Nat.{ℕ, suc, ◌≤◌}
use mathlib.Core.Path.{◌≡◌, refl, sym, ◌∙◌, ap}
use mathlib.Core.Bool.{Bool, true, false, ◌||◌}
use mathlib.Core.List.{List, [], ◌∷◌}
use native.Mathlib.Omega.{arith}
use lib.Dec.{ltb}
use lib.ListN.{length}
use borrow.Author.Tests.{ltb-false, lt-ltb, le-ltb, eqb-true}
use Rattle.messages.specs.declared.CarAddress.{CarAddress}
use Rattle.octets.specs.Octets.{value, bytes, low_bytes}
use Rattle.messages.specs.Writing as writing
use Rattle.rules.specs.declared.Configuration.{Configuration}
use Rattle.rules.specs.declared.Record.{Record}
use Rattle.ends.specs.Lists.{only}
use Rattle.rules.specs.Constants.{ready_result, failure_result}
use Rattle.rules.specs.Records.{same_car, is_held, holds, mine, none_held}
use Rattle.rules.specs.Replies.{confirmation, frame_to, frames_to}
use Rattle.rules.specs.Validation.{validates, is_validating, any_validates, first_result}
use Rattle.rules.specs.Demand3.{any_result, any_failure}
use Rattle.ends.proofs.Logic.{split, no_cons, or_left, or_right}
use Rattle.ends.proofs.ListLaws.{only_yes, only_no, only_within, only_parts, only_permuted, permuted_length}
use Rattle.rules.proofs.RecordLaws.{same_swap, holds_own, holds_free, holds_other, not_same, same_held}

-- ---- one record

pub held_validates : (r : Record) → is_held r ≡ true → is_validating r ≡ validates r.phase
unfolding is_validating
held_validates r h = rw h

pub free_validates : (r : Record) → is_held r ≡ false → is_validating r ≡ false
unfolding is_validating
free_validates r h = rw h

-- ---- how many records are ready or counting

abbrev pub busy : List Record → ℕ
busy rs = length (only is_validating rs)

any_busy : (rs : List Record) → any_validates rs ≡ ltb 0 (busy rs)
unfolding any_validates only
any_busy [] = refl
any_busy (r ∷ rs) = split (is_validating r) (λ g. rw g (sym (lt-ltb 0 (suc (busy rs)) (omega arith)))) (λ g. rw g (any_busy rs))

pub none_busy : (rs : List Record) → busy rs ≤ 0 → any_validates rs ≡ false
none_busy rs h = any_busy rs ∙ le-ltb 0 (busy rs) h

pub busy_none : (rs : List Record) → any_validates rs ≡ false → busy rs ≤ 0
busy_none rs e = ltb-false 0 (busy rs) (sym (any_busy rs) ∙ e)

-- they are held ones
busy_held : (rs : List Record) → busy (only is_held rs) ≡ busy rs
busy_held rs = ap length (only_within is_validating is_held free_validates rs)

pub free_busy : (rs : List Record) → none_held rs ≡ true → busy rs ≤ 0
free_busy rs h = omega (arith, busy_held rs, only_parts is_validating (only is_held rs), eqb-true (length (only is_held rs)) 0 h)

-- ---- what a first request is answered

-- the same where each car has the same records
pub same_result : (exempt : Bool) (rs qs : List Record) → ((c : CarAddress) → mine c rs ≡ mine c qs) → first_result exempt rs ≡ first_result exempt qs
unfolding first_result
same_result exempt rs qs o =
    let e : busy (only is_held rs) ≡ busy (only is_held qs) =
    permuted_length (only is_validating (only is_held rs)) (only is_validating (only is_held qs)) (only_permuted is_validating (only is_held rs) (only is_held qs) (same_held rs qs o)) in
    rw (any_busy rs ∙ ap (ltb 0) (sym (busy_held rs) ∙ e ∙ busy_held qs) ∙ sym (any_busy qs))

module _ (c : CarAddress) where
  mine_validates : (rs : List Record) → any_validates rs ≡ false → any_validates (mine c rs) ≡ false
  unfolding any_validates only
  mine_validates [] e = refl
  mine_validates (r ∷ rs) e = split (holds c r)
      (λ h. rw (h, or_left (is_validating r) (any_validates rs) e) (mine_validates rs (or_right (is_validating r) (any_validates rs) e)))
      (λ h. rw h (mine_validates rs (or_right (is_validating r) (any_validates rs) e)))

  -- where no other car holds a record
  alone_validates : (rs : List Record) → ((d : CarAddress) → same_car d c ≡ false → mine d rs ≡ []) → any_validates (mine c rs) ≡ any_validates rs
  unfolding any_validates only
  alone_validates [] o = refl
  alone_validates (r ∷ rs) o = split (holds c r)
      (λ h. rw h (ap (λ b. is_validating r || b) (alone_validates rs (λ d s. sym (only_no (holds d) r rs (holds_other c d r s h)) ∙ o d s))))
      (λ h. split (is_held r)
      (λ g. absurd (no_cons r _ (sym (only_yes (holds r.car) r rs (holds_own r g)) ∙ o r.car (same_swap c r.car (not_same c r g h)))))
      (λ g. rw (h, free_validates r g) (alone_validates rs (λ d s. sym (only_no (holds d) r rs (holds_free d r g)) ∙ o d s))))

  -- where no more than car c's records are left it is the same, unless it was 03
  pub fewer_result : (exempt : Bool) (rs qs : List Record) → mine c rs ≡ mine c qs → ((d : CarAddress) → same_car d c ≡ false → mine d qs ≡ [])
      → (first_result exempt rs ≡ failure_result → first_result exempt rs ≡ first_result exempt qs) → first_result exempt rs ≡ first_result exempt qs
  unfolding first_result
  fewer_result true rs qs e o h = refl
  fewer_result false rs qs e o h = split (any_validates rs)
      (λ g. h (rw g))
      (λ g. rw (g, sym (alone_validates qs o) ∙ ap any_validates (sym e) ∙ mine_validates rs g))

-- ---- in octets

-- CNF 03 has the result 03
pub fails : (o : Configuration) (c : CarAddress) → any_failure (frames_to o c (confirmation 0 failure_result ∷ [])) ≡ true
unfolding any_result value bytes low_bytes frame_to writing.frame
fails o c = refl

-- CNF 01 and 04 have not
pub fails_not : (o : Configuration) (c : CarAddress) (exempt : Bool) (rs : List Record) → any_validates rs ≡ false → any_failure (frames_to o c (confirmation 0 (first_result exempt rs) ∷ [])) ≡ false
unfolding any_result value bytes low_bytes frame_to writing.frame first_result
fails_not o c true rs e = refl
fails_not o c false rs e = rw e

-- CNF 01 has the result 01
pub tells_ready : (o : Configuration) (c : CarAddress) → any_result ready_result (frames_to o c (confirmation 0 ready_result ∷ [])) ≡ true
unfolding any_result value bytes low_bytes frame_to writing.frame
tells_ready o c = refl
