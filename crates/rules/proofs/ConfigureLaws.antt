-- What configuring promises, from the parts that its code computes.
use Prim.Native.Nat.{ℕ}
use mathlib.Core.Path.{◌≡◌, sym, ◌∙◌, subst}
use mathlib.Core.Bool.{Bool, true, false}
use mathlib.Core.List.{List}
use lib.ListN.{replicate}
use Rattle.messages.specs.declared.Edition.{Edition}
use Rattle.messages.specs.declared.ModemAddress.{ModemAddress}
use Rattle.messages.specs.declared.Nid.{Nid}
use Rattle.messages.specs.declared.Nmk.{Nmk}
use Rattle.messages.specs.declared.Refusal.TheVariants.{BadConfiguration}
use Rattle.messages.specs.declared.StationAddress.{StationAddress}
use Rattle.std.specs.Prelude.{Result, Ok, Err}
use Rattle.messages.specs.declared.Refusal.{Refusal}
use Rattle.ends.specs.declared.Done.{Done}
use Rattle.ends.specs.declared.Indication.TheVariants.{Nothing}
use Rattle.rules.specs.declared.Pilot.TheVariants.{A}
use Rattle.rules.specs.declared.Record.{Record}
use Rattle.rules.specs.declared.State.TheVariants.{Unmatched}
use Rattle.rules.specs.declared.Station.{Station}
use Rattle.rules.specs.Constants.{record_count}
use Rattle.ends.specs.Lists.{joins}
use Rattle.rules.specs.Rules.{is_good, free_record, configured, configuring}
use Rattle.rules.specs.Invariant.{Invariant}
use Rattle.ends.specs.Answers.{answer_of, silently, summary}
use Rattle.rules.specs.Answers.{Configures}
use Rattle.rules.proofs.InvariantKept.{configured_keeps}

module _ (a : StationAddress) (m : ModemAddress) (nid : Nid) (nmk : Nmk) (exempt : Bool) (edition : Edition) (carriers : ℕ) (g : Bool) (rs : List Record) (e : g ≡ is_good a m nid carriers) (r : rs ≡ replicate record_count free_record) where
  abbrev made : Station
  made = record {
    config = record { good = g; address = a; modem = m; nid = nid; nmk = nmk; exempt = exempt; edition = edition; carriers = carriers };
    state = Unmatched;
    pilot = A;
    clock = 0;
    records = rs;
  }

  is_configured : made ≡ configured a m nid nmk exempt edition carriers
  unfolding configured
  is_configured = rw (e, r)

  promised : (x : Result Done Refusal) → answer_of x ≡ summary (configuring a m nid carriers) → Configures a m nid nmk exempt edition carriers (record { station = made; answer = x })
  promised x h = record { station = is_configured; answer = h; kept = subst Invariant (sym is_configured) (configured_keeps a m nid nmk exempt edition carriers) }

  pub promised_good : g ≡ true → Configures a m nid nmk exempt edition carriers (record { station = made; answer = silently Nothing })
  unfolding joins
  promised_good t = promised (silently Nothing) (rw (sym e ∙ t))

  pub promised_bad : g ≡ false → Configures a m nid nmk exempt edition carriers (record { station = made; answer = Err BadConfiguration })
  promised_bad t = promised (Err BadConfiguration) (rw (sym e ∙ t))
