-- What a rule comes to, from what the code gives: a refusal, a car with nothing sent, and the same in other words.
use Prim.Native.Nat.{ℕ}
use mathlib.Core.Path.{◌≡◌, refl, sym, ap, subst}
use mathlib.Core.List.{List}
use Rattle.messages.specs.declared.Refusal.{Refusal}
use Rattle.messages.specs.Answers.{number_of}
use Rattle.octets.specs.Octets.{splice}
use Rattle.messages.specs.Reading.{Checked, no, yes}
use Rattle.ends.specs.Answers.{answer_of}
use Rattle.ends.specs.Lists.{joins}
use Rattle.ends.specs.Outcomes.{Done}
use Rattle.car_rules.specs.declared.Car.{Car}
use Rattle.car_rules.specs.declared.Stepped.{Stepped}
use Rattle.car.specs.Steps.{refused_as, Comes, Gives}

-- ---- accepted: d is what the rule gives

-- and w is that in other words
pub gives_as : (d w : Done Car) (entry exit : List ℕ) (r : Stepped) → d ≡ w → Gives w entry exit r → Gives d entry exit r
gives_as d w entry exit r e g = subst (λ (y : Done Car). Gives y entry exit r) (sym e) g

-- ---- accepted or refused: x is what the rule gives

-- and w is that in other words
pub comes_as : (c : Car) (x w : Checked (Done Car)) (entry exit : List ℕ) (r : Stepped) → x ≡ w → Comes c w entry exit r → Comes c x entry exit r
comes_as c x w entry exit r e h = subst (λ (y : Checked (Done Car)). Comes c y entry exit r) (sym e) h

-- accepted
pub comes_gives : (c : Car) (x : Checked (Done Car)) (d : Done Car) (entry exit : List ℕ) (r : Stepped) → x ≡ yes d → Gives d entry exit r → Comes c x entry exit r
comes_gives c x d entry exit r e g = comes_as c x (yes d) entry exit r e (record { car = g.car; answer = g.answer; octets = g.octets })

-- refused
pub comes_refused : (c : Car) (x : Checked (Done Car)) (n : Refusal) (out : List ℕ) (r : Stepped) → x ≡ no (number_of n) → r ≡ refused_as c n → Comes c x out out r
unfolding splice joins
comes_refused c x n out r e q = comes_as c x (no (number_of n)) out out r e (record {
  car = ap (λ (y : Stepped). y.car) q;
  answer = ap (λ (y : Stepped). answer_of y.answer) q;
  octets = refl;
})
