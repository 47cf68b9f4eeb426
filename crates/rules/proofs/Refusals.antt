-- "Each refusal changes neither station nor output"; a bad configuration refuses everything.
use Prim.Native.Nat.{ℕ}
use mathlib.Core.Path.{◌≡◌, refl, ap, ◌∙◌}
use mathlib.Core.Bool.{Bool, true, false, cond}
use mathlib.Core.List.{List}
use native.Mathlib.Omega.{arith}
use Rattle.octets.specs.Octets.{splice}
use Rattle.messages.specs.Reading.{Checked, no, yes, check}
use Rattle.rules.specs.declared.Station.{Station}
use Rattle.ends.specs.Lists.{joins}
use Rattle.rules.specs.Calls.{Call, frame, tick, pilot, terminate, link_up}
use Rattle.ends.specs.Outcomes.{Outcome, frames_of, joined, and_then, next, outcome_of}
use Rattle.rules.specs.Stations.{Shared, Inner, shared, inner, build, Done}
use Rattle.ends.specs.Clock.{tick_time}
use Rattle.rules.specs.Events.{is_b}
use Rattle.rules.specs.Frames.{admitted}
use Rattle.rules.specs.Ticks.{tick_elapsed, tick_done}
use Rattle.rules.specs.Rules.{rule, takes_reading, shared_step, step, outcome}

yes_no : {A P : Type 0} (x : A) (n : ℕ) → ◌≡◌ {A = Checked A} (yes x) (no n) → P
yes_no x n e = absurd (let z : ◌≡◌ {A = ℕ} 0 1 = cc in omega arith)

same_inner : (i : Inner) (w : Checked Done) (n : ℕ) → outcome_of w ≡ no n → next i w ≡ i
same_inner i (no k) n e = refl
same_inner i (yes d) n e = yes_no d.sent n e

same_reading : (o : Shared) (i : Inner) (t : ℕ) (w : Checked ℕ) (n : ℕ) → outcome_of (and_then w (λ (e : ℕ). yes (tick_done o.config (is_b o.pilot) e i.state i.records))) ≡ no n → takes_reading w t o ≡ o
unfolding takes_reading
same_reading o i t (no k) n e = refl
same_reading o i t (yes x) n e = yes_no _ n e

same_pilot : (g : Bool) (d : Done) (n : ℕ) (o q : Shared) → outcome_of (check g 16 (yes d)) ≡ no n → cond g q o ≡ o
same_pilot true d n o q e = yes_no d.sent n e
same_pilot false d n o q e = refl

same_shared : (o : Shared) (i : Inner) (x : Call) (n : ℕ) → outcome_of (rule o i x) ≡ no n → shared_step o x ≡ o
unfolding shared_step rule
same_shared o i (frame s room) n e = refl
same_shared o i (tick t room) n e = same_reading o i t (tick_elapsed o t room) n e
same_shared o i (pilot p t) n e = same_pilot o.config.good _ n o _ e
same_shared o i terminate n e = refl
same_shared o i link_up n e = refl

pub refused_station : (s : Station) (x : Call) (n : ℕ) → outcome s x ≡ no n → step s x ≡ s
unfolding outcome step
refused_station s x n e =
    ap (λ (o : Shared). build o (next (inner s) (rule (shared s) (inner s) x))) (same_shared (shared s) (inner s) x n e)
    ∙ ap (build (shared s)) (same_inner (inner s) (rule (shared s) (inner s) x) n e)

pub refused_output : (s : Station) (x : Call) (n : ℕ) (out : List ℕ) → outcome s x ≡ no n → splice 0 (joined (frames_of (outcome s x))) out ≡ out
unfolding splice joins
refused_output s x n out e = ap (λ (u : Outcome). splice 0 (joined (frames_of u)) out) e

-- a bad configuration refuses everything with 16
pub bad_refuses : (o : Shared) (i : Inner) (x : Call) → o.config.good ≡ false → rule o i x ≡ no 16
unfolding rule admitted tick_time
bad_refuses o i (frame s room) g = rw g
bad_refuses o i (tick t room) g = rw g
bad_refuses o i (pilot p t) g = rw g
bad_refuses o i terminate g = rw g
bad_refuses o i link_up g = rw g
