-- What a call on a lent car promises, from the call by value and what was stored of it.
use Prim.Native.Nat.{ℕ}
use mathlib.Core.Path.{◌≡◌, ap, ◌∙◌, subst}
use mathlib.Core.List.{List}
use Rattle.messages.specs.declared.CarAddress.{CarAddress}
use Rattle.ends.specs.Answers.{answer_of}
use Rattle.car_rules.specs.declared.Car.{Car}
use Rattle.car_rules.specs.declared.Stepped.{Stepped}
use Rattle.car_rules.specs.Answers as rules
use Rattle.car_rules.specs.Calls.{Call}
use Rattle.car_rules.specs.Rules.{outcome}
use Rattle.car_rules.proofs.Refusals.{refused_car}
use Rattle.car_words.specs.Words.{car_of}
use Rattle.lahzavar.specs.declared.Answered.{Answered}
use Rattle.lahzavar.specs.Answers.{said_of, answered}
use Rattle.lahzavar.specs.Car.{Lent, Configures, Settles}
use Rattle.lahzavar.proofs.LentLaws.{settled_means}

module _ (x : Call) (w entry exit v : List ℕ) (r : Answered) where
  -- by the car of the words
  settled : (k : Stepped) → rules.Answers (car_of w) x entry exit k → Settles k w v r → Lent x w entry exit v r
  settled k a q =
      let said : r ≡ answered (outcome (car_of w) x) = q.answer ∙ ap said_of a.answer in
      record {
        car = settled_means (outcome (car_of w) x) r (car_of w) (car_of v) k.car _ said q.stored (λ f. ap car_of (q.kept f)) a.car (refused_car (car_of w) x);
        answer = said;
        octets = a.octets;
        kept = q.kept;
      }

  -- by the car that was unpacked
  pub car_lent : (u : Car) (k : Stepped) → u ≡ car_of w → rules.Answers u x entry exit k → Settles k w v r → Lent x w entry exit v r
  car_lent u k e a q = settled k (subst (λ (y : Car). rules.Answers y x entry exit k) e a) q

-- configuring
pub car_configured : (a : CarAddress) (n : ℕ) (k : Stepped) (v : List ℕ) (r : Answered) → rules.Configures a n k → car_of v ≡ k.car → r ≡ said_of (answer_of k.answer) → Configures a n v r
car_configured a n k v r c e q = record { car = e ∙ c.car; answer = q ∙ ap said_of c.answer }
