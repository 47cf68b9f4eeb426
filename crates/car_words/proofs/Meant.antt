-- Any words mean a car that every call can take.
use Prim.Native.Nat.{ℕ, ◌^◌, ◌%◌}
use mathlib.Core.Path.{◌≡◌, sym, ap, ◌∙◌, subst}
use mathlib.Core.List.{List}
use native.Mathlib.Omega.{arith}
use lib.Dec.{eqb}
use lib.ListN.{get_or}
use Rattle.messages.specs.declared.StationAddress.{StationAddress}
use Rattle.messages.specs.Table.{is_unicast}
use Rattle.messages.proofs.LayoutLaws.{and_right}
use Rattle.ends.proofs.Logic.{split}
use Rattle.car_rules.specs.declared.Car.{Car}
use Rattle.car_rules.specs.declared.Key.{Key}
use Rattle.car_rules.specs.Invariant.{InState, GoodConfiguration, Invariant}
use Rattle.car_rules.specs.Rules.{is_good, configured}
use Rattle.car_rules.proofs.InvariantKept.{configured_keeps}
use Rattle.car_words.specs.Words.{reports_in, count_in, config_of, requesting_of, state_by, state_of, car_of}
use Rattle.car_words.proofs.ReportWords.{length_reports}
use Rattle.car_words.proofs.CountLaws.{count_few, count_unicast}

config_meant : (w : List ℕ) → GoodConfiguration (config_of w)
unfolding config_of configured
config_meant w =
    let r = get_or w 2 0 % 2 ^ 32 in
    let t = eqb (get_or w 0 0) 1 in
    let u = is_good (record { 0 = get_or w 1 0 }) r in
    let k : GoodConfiguration (configured (record { 0 = get_or w 1 0 }) r).config = (configured_keeps (record { 0 = get_or w 1 0 }) r).config in
    record { address = λ g. k.address (and_right t u g); reference = λ g. k.reference (and_right t u g) }

requesting_meant : (t n : ℕ) (s : StationAddress) → InState (requesting_of t n s)
unfolding requesting_of
requesting_meant t n s = split (is_unicast s.0) (λ u. rw u ((omega arith, omega arith), (omega arith, u))) (λ u. rw u tt)

state_meant : (k t n x : ℕ) (key : Key) → InState (state_by k t n x key)
unfolding state_by
state_meant k t n x key = split (eqb k 1)
    (λ a. rw a ((omega arith, omega arith), omega arith))
    (λ a. rw a (split (eqb k 2)
    (λ b. rw b (omega arith, omega arith))
    (λ b. rw b (split (eqb k 3)
    (λ c. rw c (omega arith, ((omega arith, omega arith), (omega arith, omega arith))))
    (λ c. rw c (split (eqb k 4)
    (λ d. rw d (requesting_meant t n key.station))
    (λ d. rw d (split (eqb k 5)
    (λ e. rw e (omega arith, omega arith))
    (λ e. rw e (split (eqb k 6) (λ f. rw f tt) (λ f. rw f tt)))))))))))

pub meant : (w : List ℕ) → Invariant (car_of w)
unfolding car_of
meant w = record {
  config = config_meant w;
  state = state_meant (get_or w 3 0) (get_or w 4 0) (get_or w 5 0) (get_or w 6 0) _;
  count = omega (arith, count_few (get_or w 15 0) (reports_in w), length_reports w);
  reports = count_unicast (get_or w 15 0) (reports_in w);
}

-- a car read part by part
pub unpacked : (w : List ℕ) (x : Car) → x.config ≡ config_of w → x.state ≡ state_of w → x.clock ≡ get_or w 11 0 % 2 ^ 32 → x.run ≡ record { 0 = get_or w 12 0 } → x.random ≡ record { 0 = get_or w 13 0; 1 = get_or w 14 0 }
    → x.reports ≡ reports_in w → x.count ≡ count_in (get_or w 15 0) x.reports → (x ≡ car_of w) × Invariant x
unfolding car_of
unpacked w x a b c d e f g =
    let count : x.count ≡ count_in (get_or w 15 0) (reports_in w) = g ∙ ap (count_in (get_or w 15 0)) f in
    let same : x ≡ car_of w = λ i. record { config = a i; state = b i; clock = c i; run = d i; random = e i; reports = f i; count = count i } in
    (same, subst Invariant (sym same) (meant w))
