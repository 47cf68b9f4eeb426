-- What configuring promises, from the parts that its code computes.
use Prim.Native.Nat.{ℕ}
use mathlib.Core.Path.{◌≡◌, sym, ◌∙◌, subst}
use mathlib.Core.Bool.{Bool, true, false}
use mathlib.Core.List.{List}
use Rattle.messages.specs.declared.CarAddress.{CarAddress}
use Rattle.messages.specs.declared.Refusal.TheVariants.{BadConfiguration}
use Rattle.std.specs.Prelude.{Result, Ok, Err}
use Rattle.messages.specs.declared.Refusal.{Refusal}
use Rattle.ends.specs.declared.Done.{Done}
use Rattle.ends.specs.declared.Indication.TheVariants.{Nothing}
use Rattle.ends.specs.Answers.{answer_of, silently, summary}
use Rattle.ends.specs.Lists.{joins}
use Rattle.car_rules.specs.declared.Car.{Car}
use Rattle.car_rules.specs.declared.Report.{Report}
use Rattle.car_rules.specs.declared.State.TheVariants.{Idle}
use Rattle.car_rules.specs.Cars.{no_reports}
use Rattle.car_rules.specs.Rules.{is_good, configured, configuring}
use Rattle.car_rules.specs.Invariant.{Invariant}
use Rattle.car_rules.specs.Answers.{Configures}
use Rattle.car_rules.proofs.InvariantKept.{configured_keeps}

module _ (a : CarAddress) (r : ℕ) (g : Bool) (rs : List Report) (e : g ≡ is_good a r) (n : rs ≡ no_reports) where
  abbrev made : Car
  made = record {
    config = record { good = g; address = a; reference = r };
    state = Idle;
    clock = 0;
    run = record { 0 = 0 };
    random = record { 0 = 0; 1 = 0 };
    reports = rs;
    count = 0;
  }

  is_configured : made ≡ configured a r
  unfolding configured
  is_configured = rw (e, n)

  promised : (x : Result Done Refusal) → answer_of x ≡ summary (configuring a r) → Configures a r (record { car = made; answer = x })
  promised x h = record { car = is_configured; answer = h; kept = subst Invariant (sym is_configured) (configured_keeps a r) }

  pub promised_good : g ≡ true → Configures a r (record { car = made; answer = silently Nothing })
  unfolding joins
  promised_good t = promised (silently Nothing) (rw (sym e ∙ t))

  pub promised_bad : g ≡ false → Configures a r (record { car = made; answer = Err BadConfiguration })
  promised_bad t = promised (Err BadConfiguration) (rw (sym e ∙ t))
