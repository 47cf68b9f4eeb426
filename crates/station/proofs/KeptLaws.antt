-- What a message at a record leaves is a good record, as its car's own.
use Prim.Native.Nat.{ℕ}
use mathlib.Core.Path.{◌≡◌, sym, ap, ◌∙◌, subst}
use mathlib.Core.Bool.{true}
use mathlib.Core.List.{[], ◌∷◌}
use native.Mathlib.Omega.{arith}
use Rattle.messages.specs.declared.CarAddress.{CarAddress}
use Rattle.messages.specs.declared.Edition.{Edition}
use Rattle.messages.specs.declared.RunId.{RunId}
use Rattle.messages.specs.Reading.{Checked, no, yes, check, Beside}
use Rattle.messages.specs.Table.{is_unicast}
use Rattle.rules.specs.declared.Record.{Record}
use Rattle.rules.specs.Received.{validate_first, for_record}
use Rattle.rules.specs.FromOctets.{OctetRequest}
use Rattle.rules.specs.Records.{same_run, owned, in_phase, counted}
use Rattle.rules.specs.Frames.{Kept, Change, put_back, start_rule, sound_rule, rsp_rule, first_rule}
use Rattle.rules.specs.Invariant.{GoodRecord}
use Rattle.rules.proofs.InvariantKept.{change_good}
use Rattle.rules.proofs.PhaseLaws.{on_start, on_sound, on_profile, on_rsp, on_second}
use Rattle.ends.proofs.Logic.{OnYes, on_check}
use Rattle.std.specs.Prelude.{Result, Ok}
use Rattle.messages.specs.declared.Refusal.{Refusal}
use Rattle.records.specs.declared.changes.Kept as code
use Rattle.records.specs.declared.requests.RunMessage.TheVariants.{Start, Sound, Rsp}
use Rattle.records.specs.Requests.{kept_of, validated_of}
use Rattle.receiving.specs.declared.judge.OwnMessage.{OwnMessage}
use Rattle.receiving.specs.declared.judge.OwnMessage.TheVariants.{Run, Profile, ValidateSecond}
use Rattle.receiving.specs.Judge.{own_message_of}
use Rattle.receiving.specs.AtRecord.{own_rule}
use Rattle.station.specs.Frames.{Counted, KeepsGood}
use Rattle.station.proofs.OwnLaws.{change_own, change_first}

-- what is sent, and the profiles counted
abbrev CountedIn : Kept → Type 0
CountedIn k = Counted k.replies k.kept.profiles

-- of a message of a run
run_counted : (run : RunId) (r : Record) (x : Checked Kept) → OnYes CountedIn x → OnYes CountedIn (check (same_run run r.run) 11 x)
run_counted run r x h = on_check CountedIn (same_run run r.run) 11 x (λ q. h)

-- a record that a message leaves with something sent counts some profile
own_counted : (e : Edition) (m : OwnMessage) (b : Beside) (r : Record) → OnYes CountedIn (own_rule e m b r)
unfolding counted in_phase
own_counted e (Run run (Start a)) b r = run_counted run r (start_rule e a.0 r r.phase) (on_start CountedIn e r a.0 r.phase (λ t q. tt) (λ t q. tt))
own_counted e (Run run (Sound k)) b r = run_counted run r (sound_rule e k r r.phase) (on_sound CountedIn e r k r.phase (λ p q. tt))
own_counted e (Run run Rsp) b r = run_counted run r (rsp_rule r r.phase) (on_rsp CountedIn e r r.phase (λ t n q. tt))
own_counted e (Profile n) b r = on_profile CountedIn e r n b.groups r.phase (λ t q f a. omega arith) (λ t q f a. tt)
own_counted e (ValidateSecond timer) b r = on_second CountedIn e r timer r.phase (λ t q. tt)

-- what a message at a good record leaves
module _ (e : Edition) (c : CarAddress) (u : is_unicast c.0 ≡ true) where
  put_good : (x : Checked Kept) → OnYes (λ (y : Change). GoodRecord e (owned c y.kept)) (put_back x) → OnYes CountedIn x → KeepsGood e c x
  put_good (no n) h k = tt
  put_good (yes x) h k = (h, k)

  own_good : (m : OwnMessage) (b : Beside) (r : Record) → GoodRecord e r → OctetRequest e (for_record (own_message_of m b)) → KeepsGood e c (own_rule e m b r)
  own_good m b r h o =
      put_good (own_rule e m b r)
      (subst (OnYes (λ (y : Change). GoodRecord e (owned c y.kept))) (change_own e c m b 0 0 0 (r ∷ [])) (change_good e c u (r ∷ []) (h, tt) (own_message_of m b) o 0 0 0))
      (own_counted e m b r)

  -- as the code gives it
  pub kept_good : (m : OwnMessage) (b : Beside) (r : Record) (k : Result code.Kept Refusal) → kept_of k ≡ own_rule e m b r → GoodRecord e r → OctetRequest e (for_record (own_message_of m b)) → KeepsGood e c (kept_of k)
  kept_good m b r k w h o = subst (KeepsGood e c) (sym w) (own_good m b r h o)

  back_good : (x : Checked Kept) → OnYes (λ (y : Change). GoodRecord e (owned c y.kept)) (put_back x) → OnYes (λ (k : Kept). GoodRecord e (owned c k.kept)) x
  back_good (no n) h = tt
  back_good (yes k) h = h

  -- the same of the first VALIDATE.REQ, where it is accepted
  pub validated_good : (r : Record) (result : ℕ) (v : Result Record Refusal) (k : Record) → validated_of result v ≡ first_rule result r r.phase → GoodRecord e r → v ≡ Ok k → GoodRecord e (owned c k)
  validated_good r result v k w h q =
      let accepted = sym (ap (validated_of result) q) ∙ w in
      subst (OnYes (λ (x : Kept). GoodRecord e (owned c x.kept))) (sym accepted)
      (back_good (first_rule result r r.phase) (subst (OnYes (λ (y : Change). GoodRecord e (owned c y.kept))) (change_first e c result 0 0 (r ∷ [])) (change_good e c u (r ∷ []) (h, tt) validate_first tt 0 0 result)))
