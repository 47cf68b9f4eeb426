-- What a call on a lent station promises, from the call by value and what was stored of it.
use Prim.Native.Nat.{ℕ, ◌<◌, ◌≤◌}
use mathlib.Core.Path.{◌≡◌, refl, sym, ap, ◌∙◌, subst}
use mathlib.Core.Bool.{Bool, true, false}
use mathlib.Core.List.{List, []}
use lib.Dec.{eqb}
use borrow.Author.Tests.{eqb-true, eqb-false, le-leb, lt-leb}
use Rattle.messages.specs.declared.Edition.{Edition}
use Rattle.messages.specs.declared.ModemAddress.{ModemAddress}
use Rattle.messages.specs.declared.Nid.{Nid}
use Rattle.messages.specs.declared.Nmk.{Nmk}
use Rattle.messages.specs.declared.StationAddress.{StationAddress}
use Rattle.octets.specs.Octets.{splice}
use Rattle.messages.specs.Reading.{Checked, no, yes, check}
use Rattle.rules.specs.declared.Pilot.{Pilot}
use Rattle.rules.specs.declared.Station.{Station}
use Rattle.rules.specs.declared.Stepped.{Stepped}
use Rattle.rules.specs.Answers as rules
use Rattle.ends.specs.Answers.{answer_of}
use Rattle.rules.specs.Answers.{Answers}
use Rattle.rules.specs.Calls.{Call, pilot}
use Rattle.ends.specs.Lists.{joins}
use Rattle.ends.specs.Outcomes.{Outcome}
use Rattle.rules.specs.Rules.{outcome}
use Rattle.ends.proofs.Logic.{split}
use Rattle.rules.proofs.Refusals.{refused_station}
use Rattle.rules.specs.Numbers.{pilot_of}
use Rattle.words.specs.Words.{station_of}
use Rattle.lahzavar.specs.declared.Answered.{Answered}
use Rattle.lahzavar.specs.Answers.{said_of, answered}
use Rattle.lahzavar.specs.Lent.{Leaves, Lent, pilot_by, pilot_step, pilot_outcome, PilotLent, Configures}
use Rattle.lahzavar.specs.Storing.{Settles}

-- an answer whose refusal is not 0 is to a refusal
refused_by : (o : Outcome) → ((answered o).refusal ≡ 0 → ⊥) → (n : ℕ) × (o ≡ no n)
refused_by (no n) h = (n, refl)
refused_by (yes x) h = absurd (h refl)

-- what is stored where the answer tells no refusal, and unchanged where it tells one, is what the rules give
pub settled_means : {S : Type 0} (o : Outcome) (r : Answered) (was is left next : S) → r ≡ answered o → (r.refusal ≡ 0 → is ≡ left) → ((r.refusal ≡ 0 → ⊥) → is ≡ was) → left ≡ next → ((n : ℕ) → o ≡ no n → next ≡ was)
    → is ≡ next
settled_means o r was is left next said stored kept e same = split (eqb r.refusal 0)
    (λ z. stored (eqb-true r.refusal 0 z) ∙ e)
    (λ z.
    let f : r.refusal ≡ 0 → ⊥ = eqb-false r.refusal 0 z in
    let no_call = refused_by o (λ k. f (ap (λ (y : Answered). y.refusal) said ∙ k)) in
    kept f ∙ sym (same no_call.0 no_call.1))

-- the same arrays mean the same station
same_station_lem : {w s z v t y : List ℕ} → v ≡ w → t ≡ s → y ≡ z → station_of v t y ≡ station_of w s z
same_station_lem e f g = λ i. station_of (e i) (f i) (g i)

module _ (x : Call) (w s z entry exit v t y : List ℕ) (r : Answered) where
  -- by the station of the words
  settled : (k : Stepped) → Answers (station_of w s z) x entry exit k → Settles k w s z v t y r → Lent x w s z entry exit v t y r
  settled k a q =
      let said : r ≡ answered (outcome (station_of w s z) x) = q.answer ∙ ap said_of a.answer in
      record {
        station = settled_means (outcome (station_of w s z) x) r (station_of w s z) (station_of v t y) k.station _ said q.stored (λ f. same_station_lem (q.kept f).0 (q.kept f).1.0 (q.kept f).1.1) a.station (refused_station (station_of w s z) x);
        answer = said;
        octets = a.octets;
        kept = q.kept;
      }

  -- by the station that was unpacked
  pub lent : (u : Station) (k : Stepped) → u ≡ station_of w s z → Answers u x entry exit k → Settles k w s z v t y r → Lent x w s z entry exit v t y r
  lent u k e a q = settled k (subst (λ (y : Station). Answers y x entry exit k) e a) q

-- ---- the pilot state by its number

module _ (n reading : ℕ) (w s z : List ℕ) (r : Answered) where
  -- what the number names decides
  abbrev By : Checked Pilot → (v t y : List ℕ) → Type 0
  By p v t y = Leaves (pilot_step (station_of w s z) reading p) (pilot_outcome (station_of w s z) reading p) w s z [] [] v t y r

  -- a number up to 5
  pub pilot_lent : (v t y : List ℕ) (p : Pilot) → p ≡ pilot_of n → n ≤ 5 → Lent (pilot p reading) w s z [] [] v t y r → PilotLent n reading w s z [] [] v t y r
  pilot_lent v t y p e h q =
      let b : pilot_by n ≡ yes p = ap (λ (x : Bool). check x 8 (yes (pilot_of n))) (le-leb n 5 h) ∙ ap yes (sym e) in
      subst (λ (k : Checked Pilot). By k v t y) (sym b) q

  -- another number, by whether the configuration is good
  refused : (g : Bool) → r ≡ said_of (check g 16 (no 8)) → Leaves (station_of w s z) (check g 16 (no 8)) w s z [] [] w s z r
  unfolding splice joins
  refused true e = record { station = refl; answer = e; octets = refl; kept = λ h. (refl, (refl, refl)) }
  refused false e = record { station = refl; answer = e; octets = refl; kept = λ h. (refl, (refl, refl)) }

  pub no_pilot_lent : (g : Bool) → g ≡ (station_of w s z).config.good → 5 < n → r ≡ said_of (check g 16 (no 8)) → PilotLent n reading w s z [] [] w s z r
  no_pilot_lent g c h e =
      let b : pilot_by n ≡ no 8 = ap (λ (x : Bool). check x 8 (yes (pilot_of n))) (lt-leb n 5 h) in
      subst (λ (p : Checked Pilot). By p w s z) (sym b) (refused (station_of w s z).config.good (e ∙ ap (λ (x : Bool). said_of (check x 16 (no 8))) c))

-- ---- configuring

pub configured_lent : (a : StationAddress) (m : ModemAddress) (nid : Nid) (nmk : Nmk) (exempt : Bool) (e : Edition) (carriers : ℕ) (k : Stepped) (v t y : List ℕ) (r : Answered)
    → rules.Configures a m nid nmk exempt e carriers k → station_of v t y ≡ k.station → r ≡ said_of (answer_of k.answer) → Configures a m nid nmk exempt e carriers v t y r
configured_lent a m nid nmk exempt e carriers k v t y r c p q = record { station = p ∙ c.station; answer = q ∙ ap said_of c.answer }

-- the same with our address and the edition in other words
pub configures_as : (a b : ℕ) (m : ModemAddress) (nid : Nid) (nmk : Nmk) (exempt : Bool) (e f : Edition) (carriers : ℕ) (v t y : List ℕ) (r : Answered) → a ≡ b → e ≡ f
    → Configures (record { 0 = a }) m nid nmk exempt e carriers v t y r → Configures (record { 0 = b }) m nid nmk exempt f carriers v t y r
configures_as a b m nid nmk exempt e f carriers v t y r p q h =
    subst (λ (x : ℕ). Configures (record { 0 = x }) m nid nmk exempt f carriers v t y r) p (subst (λ (x : Edition). Configures (record { 0 = a }) m nid nmk exempt x carriers v t y r) q h)
