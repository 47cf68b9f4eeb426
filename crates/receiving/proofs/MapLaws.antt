-- AMP_MAP.REQ in Matched, in the rules' words: what it is answered.
use Prim.Native.Nat.{ℕ, ◌≤◌}
use mathlib.Core.Path.{◌≡◌, refl, sym, ap, ◌∙◌, subst}
use mathlib.Core.Bool.{Bool, true, false}
use mathlib.Core.List.{List, [], ◌∷◌}
use native.Mathlib.Omega.{arith}
use borrow.Author.Tests.{eq-eqb, ne_eqb, le-leb}
use lib.Dec.{eqb, leb}
use Rattle.octets.specs.Octets.{splice}
use Rattle.messages.specs.declared.CarAddress.{CarAddress}
use Rattle.messages.specs.declared.Refusal.{Refusal}
use Rattle.messages.specs.Answers.{number_of}
use Rattle.messages.specs.Reading.{Checked, no, yes, check}
use Rattle.messages.specs.Table.{is_unicast}
use Rattle.amplitude.specs.Writing.{length_in, write_rules}
use Rattle.std.specs.Prelude.{Result, Err}
use Rattle.ends.specs.declared.Done as code
use Rattle.ends.specs.declared.Indication.TheVariants.{Nothing}
use Rattle.ends.specs.Lists.{joins}
use Rattle.ends.specs.Outcomes.{Outcome, outcome_of}
use Rattle.ends.specs.Sending.{sent_of, Says}
use Rattle.rules.specs.declared.Configuration.{Configuration}
use Rattle.rules.specs.declared.Record.{Record}
use Rattle.rules.specs.Constants.{least_output}
use Rattle.rules.specs.Records.{same_car}
use Rattle.rules.specs.Replies.{map_cnf_to}
use Rattle.rules.specs.Frames.{map_rule}
use Rattle.rules.specs.Stations.{Done, done}
use Rattle.rules.specs.declared.State.TheVariants.{Matched}
use Rattle.receiving.specs.Maps.{confirmation, confirms, map_answer}

-- an outcome in other words
pub says_as : (x y : Outcome) (entry exit : List ℕ) (r : Result code.Done Refusal) → x ≡ y → Says x entry exit r → Says y entry exit r
says_as x y entry exit r e h = subst (λ (o : Outcome). Says o entry exit r) e h

-- a refusal leaves the output
pub says_refused : (o : Outcome) (n : Refusal) (out : List ℕ) → o ≡ no (number_of n) → Says o out out (Err n)
unfolding splice joins
says_refused o n out e = rw e (record { answer = refl; octets = refl })

module _ (o : Configuration) (d c : CarAddress) (n room : ℕ) where
  -- another car than the matched one
  pub other_car : (c.0 ≡ d.0 → ⊥) → map_answer o d c n room ≡ no 11
  unfolding same_car
  other_car e = ap (λ (b : Bool). check b 11 (check (eqb n o.carriers) 24 (confirms o c room))) (ne_eqb c.0 d.0 e)

  module _ (e : c.0 ≡ d.0) where
    own_car : map_answer o d c n room ≡ check (eqb n o.carriers) 24 (confirms o c room)
    unfolding same_car
    own_car = ap (λ (b : Bool). check b 11 (check (eqb n o.carriers) 24 (confirms o c room))) (eq-eqb c.0 d.0 e)

    -- another number of carriers than ours
    pub other_count : (n ≡ o.carriers → ⊥) → map_answer o d c n room ≡ no 24
    other_count k = own_car ∙ ap (λ (b : Bool). check b 24 (confirms o c room)) (ne_eqb n o.carriers k)

    pub own_count : n ≡ o.carriers → confirms o c room ≡ map_answer o d c n room
    own_count k = sym (own_car ∙ ap (λ (b : Bool). check b 24 (confirms o c room)) (eq-eqb n o.carriers k))

  -- ---- where AMP_MAP.CNF can be written

  module _ (us : is_unicast o.address.0 ≡ true) (car : is_unicast c.0 ≡ true) (least : least_output ≤ room) where
    fits : leb (length_in (confirmation o c)) room ≡ true
    fits = le-leb (length_in (confirmation o c)) room (omega arith)

    written : write_rules (confirmation o c) room ≡ yes (map_cnf_to o c)
    unfolding write_rules map_cnf_to
    written = rw (us, car, fits)

    -- the answer is the rule's
    pub map_ruled : (rs : List Record) → map_answer o d c n room ≡ outcome_of (map_rule o d rs c n)
    unfolding map_rule
    map_ruled rs = ap (λ (w : Checked (List ℕ)). check (same_car c d) 11 (check (eqb n o.carriers) 24 (sent_of Nothing w))) written ∙ outside (same_car c d) (eqb n o.carriers) (done (Matched d) rs (map_cnf_to o c ∷ []) Nothing)
      where
        outside : (a b : Bool) (x : Done) → check a 11 (check b 24 (yes x.sent)) ≡ outcome_of (check a 11 (check b 24 (yes x)))
        outside true true x = refl
        outside true false x = refl
        outside false b x = refl
