-- Judging a frame, in the rules' words.
use Prim.Native.Nat.{ℕ}
use mathlib.Core.Path.{◌≡◌, refl, sym, ap, ◌∙◌, subst}
use mathlib.Core.Bool.{Bool, true, false, not, cond, ◌&&◌}
use mathlib.Core.List.{List}
use borrow.Author.Tests.{leb-true}
use lib.Dec.{eqb, leb}
use lib.ListN.{length}
use Rattle.messages.specs.declared.CarAddress.{CarAddress}
use Rattle.messages.specs.declared.Edition.TheVariants.{Iso}
use Rattle.messages.specs.declared.Message.{Message}
use Rattle.messages.specs.declared.Refusal.{Refusal}
use Rattle.messages.specs.declared.Refusal.TheVariants.{NotForUs}
use Rattle.messages.specs.Answers.{number_of, message_of}
use Rattle.messages.specs.Reading.{Checked, no, yes, check, Beside}
use Rattle.messages.specs.Table.{is_unicast}
use Rattle.messages.proofs.CheckLaws.{passed}
use Rattle.ends.specs.Outcomes.{Done, and_then}
use Rattle.ends.proofs.AnswerLaws.{yes_same}
use Rattle.ends.proofs.Logic.{clash, OnYes}
use Rattle.ends.proofs.Logic.{then_check}
use Rattle.car_rules.specs.declared.Car.{Car}
use Rattle.car_rules.specs.declared.Configuration.{Configuration}
use Rattle.car_rules.specs.Calls as calls
use Rattle.car_rules.specs.Constants.{least_output}
use Rattle.car_rules.specs.Frames.{state_rule, frame_rule}
use Rattle.car_rules.specs.Invariant.{Invariant}
use Rattle.car_rules.specs.Received as rule
use Rattle.car_rules.specs.Received.{untaken, from_station, message_as, map_in, received, is_for_us}
use Rattle.car_rules.specs.Rules as rules
use Rattle.car_rules.proofs.ReceivedLaws.{FromUnicast, received_unicast}
use Rattle.std.specs.Prelude.{Result, Ok, Err}
use Rattle.car.specs.declared.judge.Received as code
use Rattle.car.specs.Judge.{groups_in, Heard, heard_in, for_us_rule, addressed_rule, judge_rule, judged_of, for_us, received_of}
use Rattle.car.specs.Reports.{ReportsGood}
use Rattle.car.specs.Steps.{Ready}

-- ---- 7 and 19

-- whether a message to the car c is for us
abbrev ours : Configuration → CarAddress → code.Received → Bool
ours o c x = eqb c.0 o.address.0 && not (eqb x.station.0 o.address.0)

-- what is left of a message
abbrev heard_of : code.Received → List ℕ → Heard
heard_of x g = heard_in (received_of 0 x g)

-- what `for_us` gives is 7 or the message
for_us_rule_lem : (b : Bool) (x : code.Received) (g : List ℕ) → judged_of (cond b (Ok x) (Err NotForUs)) g ≡ check b 7 (yes (heard_of x g))
for_us_rule_lem true x g = refl
for_us_rule_lem false x g = refl

-- a message of a station, in the message m that was found to be m'
pub addressed_as : (o : Configuration) (c : CarAddress) (x : code.Received) (m m' : Message) (j : Result code.Received Refusal) → j ≡ for_us o c x → m ≡ m'
    → ((b : Beside) → check (ours o c x) 7 (yes (heard_of x b.groups)) ≡ addressed_rule o (message_of Iso m' b)) → (b : Beside) → judged_of j b.groups ≡ addressed_rule o (message_of Iso m b)
addressed_as o c x m m' j e t h b = ap (λ (y : Result code.Received Refusal). judged_of y b.groups) e ∙ for_us_rule_lem (ours o c x) x b.groups ∙ h b ∙ sym (ap (λ (y : Message). addressed_rule o (message_of Iso y b)) t)

-- ---- the frame's rule by what judging gives

module _ (c : Car) where
  -- what a judged message does: the state's rule does not look at the frame's destination
  abbrev taken : Heard → Checked (Done Car)
  taken y = state_rule c (record { station = y.station; dst = 0; run = y.run; message = y.message })

  -- judging leaves what follows as it is
  judged_then : (x : Checked rule.Received) → and_then x (λ (y : rule.Received). check (is_for_us c.config y) 7 (state_rule c y)) ≡ and_then (for_us_rule c.config x) taken
  unfolding state_rule
  judged_then (no n) = refl
  judged_then (yes y) = then_check (is_for_us c.config y) 7 (yes (heard_in y)) taken

  -- the rule of a frame
  frame_judged : (s : List ℕ) (room : ℕ) → rules.rule c (calls.frame s room) ≡ and_then (judge_rule c.config room s) taken
  unfolding rules.rule frame_rule judge_rule
  frame_judged s room =
      let w = for_us_rule c.config (received s) in
      ap (λ (x : Checked (Done Car)). check c.config.good 16 (check (leb least_output room) 15 x)) (judged_then (received s))
      ∙ ap (check c.config.good 16) (then_check (leb least_output room) 15 w taken)
      ∙ then_check c.config.good 16 (check (leb least_output room) 15 w) taken

-- a message that is for us comes from a unicast address
station_unicast : (o : Configuration) (x : Checked rule.Received) (y : Heard) → OnYes FromUnicast x → for_us_rule o x ≡ yes y → is_unicast y.station.0 ≡ true
station_unicast o (no n) y u e = clash false (passed false n (yes y) y e).0 refl
station_unicast o (yes z) y u e = subst (λ (h : Heard). is_unicast h.station.0 ≡ true) (yes_same (heard_in z) y (passed (is_for_us o z) 7 (yes (heard_in z)) y e).1) u

-- by what judging answers
module _ (c : Car) (s out : List ℕ) (j : Result code.Received Refusal) (ej : judged_of j (groups_in s) ≡ judge_rule c.config (length out) s) where
  judged_as : (k : Result code.Received Refusal) → j ≡ k → judge_rule c.config (length out) s ≡ judged_of k (groups_in s)
  judged_as k told = sym ej ∙ ap (λ (x : Result code.Received Refusal). judged_of x (groups_in s)) told

  -- a refusal
  pub frame_refused : (n : Refusal) → j ≡ Err n → rules.rule c (calls.frame s (length out)) ≡ no (number_of n)
  frame_refused n told = frame_judged c s (length out) ∙ ap (λ (w : Checked Heard). and_then w (taken c)) (judged_as (Err n) told)

  -- a message
  module _ (x : code.Received) (told : j ≡ Ok x) where
    -- what the rule gives
    pub frame_taken : rules.rule c (calls.frame s (length out)) ≡ state_rule c (received_of 0 x (groups_in s))
    frame_taken = frame_judged c s (length out) ∙ ap (λ (w : Checked Heard). and_then w (taken c)) (judged_as (Ok x) told)

    -- frames can be written, the reports are as the invariant says, and the station is unicast
    pub frame_ready : Invariant c → Ready c out × ReportsGood c × (is_unicast x.station.0 ≡ true)
    unfolding judge_rule
    frame_ready i =
        let y = heard_of x (groups_in s) in
        let g = passed c.config.good 16 _ y (judged_as (Ok x) told) in
        let r = passed (leb least_output (length out)) 15 _ y g.1 in (
          record { address = i.config.address g.0; room = leb-true least_output (length out) r.0 },
          record { count = i.count; stations = i.reports },
          station_unicast c.config (received s) y (received_unicast s) r.1,
        )
