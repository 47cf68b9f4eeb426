-- The numbers that stand for pilot states, editions and states where no enum can: in scripts, in logs, and at the border to C.
use Rattle.std.specs.Prelude.{ℕ, cond, eqb}
use Rattle.messages.specs.declared.Edition.{Edition}
use Rattle.messages.specs.declared.Edition.TheVariants.{Iso, Sae}
use Rattle.rules.specs.declared.Pilot.{Pilot}
use Rattle.rules.specs.declared.Pilot.TheVariants.{A, B, C, D, E, F}
use Rattle.rules.specs.declared.State.{State}
use Rattle.rules.specs.declared.State.TheVariants.{Unmatched, Matching, Joining, Matched}

-- a pilot state by its number: 0 to 4 for A to E, any other for F
unfoldable pub pilot_of : ℕ → Pilot
pilot_of k =
    cond (eqb k 0) A
    (cond (eqb k 1) B
    (cond (eqb k 2) C
    (cond (eqb k 3) D
    (cond (eqb k 4) E F))))

-- an edition by its number: "0 ISO, 1 SAE", and ISO for any other
unfoldable pub edition_of : ℕ → Edition
edition_of k = cond (eqb k 1) Sae Iso

-- the number of a state, in the order in which document 01 names them
abbrev pub state_number : State → ℕ
state_number Unmatched = 0
state_number (Matching t) = 1
state_number (Joining t c run) = 2
state_number (Matched c) = 3
