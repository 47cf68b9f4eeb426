-- Proof that answers are told apart, and that no frame is read as one of the eleven messages too.
use Prim.Native.Nat.{ℕ, ◌≤◌}
use mathlib.Core.Path.{◌≡◌, refl, sym, ap, ◌∙◌}
use mathlib.Core.Bool.{Bool, true, false}
use mathlib.Core.List.{List}
use mathlib.Core.Logic.{⊎_elim}
use mathlib.Core.Option.{Option, none}
use native.Mathlib.Omega.{arith}
use borrow.Author.Tests.{le-leb}
use lib.Dec.{eqb, leb}
use lib.ListN.{length}
use Rattle.messages.specs.declared.Edition.{Edition}
use Rattle.messages.specs.Layout.{size, holds}
use Rattle.messages.specs.Table.{head, Kind}
use Rattle.messages.specs.Reading as messages
use Rattle.messages.specs.Reading.{Checked, no, Form, of_type, kinds, typed, kind_rules, frame_rules}
use Rattle.messages.proofs.CheckLaws.{pass}
use Rattle.messages.proofs.Distinct.{numbers_differ, written_differ}
use Rattle.amplitude.specs.Reading.{Summary, requested, confirmed}
use Rattle.amplitude.specs.Answers.{result_of}
use Rattle.amplitude.specs.Claims.{NoOther, AnswersDiffer, FilledDiffer}
use Rattle.std.specs.Prelude.{Ok, Err}
use Rattle.amplitude.specs.declared.MapMessage.{MapMessage}
use Rattle.amplitude.specs.declared.MapMessage.TheVariants.{AmpMapReq, AmpMapCnf}
use Rattle.amplitude.proofs.AcceptedLaws.{Headed, IsReq, IsCnf, accepted}

-- ---- types

-- a type that no row of the table has
other : (e : Edition) (s : List ℕ) (t : ℕ) → size head ≤ length s → Headed s t → of_type t kinds ≡ none → messages.read_rules e s ≡ no 3
unfolding messages.read_rules kind_rules
other e s t h x q =
    ap (λ (f : Checked Form). frame_rules e f s)
    (pass (leb (size head) (length s)) 1 _ (le-leb (size head) (length s) h)
    ∙ pass (holds 0 head s) 2 _ x.fixed
    ∙ ap (λ (k : Option Kind). typed e k s) (ap (λ (u : ℕ). of_type u kinds) x.type ∙ q))

pub no_other : NoOther
no_other e s m w = ⊎_elim
    (λ (x : IsReq s m). other e s _ (omega (arith, x.sized.whole)) x.headed refl)
    (λ (x : IsCnf s m). other e s _ (omega (arith, x.sized.whole)) x.headed refl)
    (accepted s m w)

-- ---- answers

-- the value of the code that a summary means
abbrev answer_in : Summary → MapMessage
answer_in (requested d f n) = AmpMapReq (record { 0 = d }) (record { 0 = f }) n
answer_in (confirmed d f x) = AmpMapCnf (record { 0 = d }) (record { 0 = f }) (eqb x 0)

result_back : (b : Bool) → eqb (result_of b) 0 ≡ b
result_back true = refl
result_back false = refl

pub answers_differ : AnswersDiffer
answers_differ (Ok (AmpMapReq d f n)) (Ok (AmpMapReq d' f' n')) e =
    let same : requested d.0 f.0 n ≡ requested d'.0 f'.0 n' = cc in
    ap (λ (x : Summary). Ok (answer_in x)) same
answers_differ (Ok (AmpMapReq d f n)) (Ok (AmpMapCnf d' f' b)) e = absurd (let z : ◌≡◌ {A = ℕ} 0 1 = cc in omega arith)
answers_differ (Ok (AmpMapReq d f n)) (Err y) e = absurd (let z : ◌≡◌ {A = ℕ} 0 1 = cc in omega arith)
answers_differ (Ok (AmpMapCnf d f a)) (Ok (AmpMapReq d' f' n')) e = absurd (let z : ◌≡◌ {A = ℕ} 0 1 = cc in omega arith)
answers_differ (Ok (AmpMapCnf d f a)) (Ok (AmpMapCnf d' f' b)) e =
    let same : confirmed d.0 f.0 (result_of a) ≡ confirmed d'.0 f'.0 (result_of b) = cc in
    ap (Ok) (ap (AmpMapCnf d f) (sym (result_back a)) ∙ ap answer_in same ∙ ap (AmpMapCnf d' f') (result_back b))
answers_differ (Ok (AmpMapCnf d f a)) (Err y) e = absurd (let z : ◌≡◌ {A = ℕ} 0 1 = cc in omega arith)
answers_differ (Err x) (Ok (AmpMapReq d f n)) e = absurd (let z : ◌≡◌ {A = ℕ} 0 1 = cc in omega arith)
answers_differ (Err x) (Ok (AmpMapCnf d f b)) e = absurd (let z : ◌≡◌ {A = ℕ} 0 1 = cc in omega arith)
answers_differ (Err x) (Err y) e = ap (Err) (numbers_differ x y (cc))

pub filled_differ : FilledDiffer
filled_differ = written_differ
