-- Proof that the readings of answers tell them apart: each reading can be read back.
use Prim.Native.Nat.{ℕ, ◌-◌}
use mathlib.Core.Path.{◌≡◌, refl, sym, ap, ◌∙◌}
use mathlib.Core.List.{List, [], ◌∷◌}
use Rattle.std.specs.Prelude.{Result, Ok, Err}
use lib.ListN.{get_or}
use Rattle.session_log.specs.Answers.{number_of, answer_of}
use Rattle.session_log.specs.Claims.{NumbersDiffer, AnswersDiffer, WrittenDiffer}
use Rattle.session_log.specs.declared.Cause.{Cause}
use Rattle.session_log.specs.declared.Cause.TheVariants.{TooLong, TooShort, CountsDiffer, EventsElsewhere, RepliesElsewhere, EndElsewhere, TooWide, BadSetting, BadKind, BadReading, BadEventLength, BadPilot, BadIndication, BadReplyLength, OutputTooShort}

-- the causes in the order of their numbers, which begin at 1
causes : List Cause
causes =
    TooLong ∷ TooShort ∷ CountsDiffer ∷ EventsElsewhere ∷ RepliesElsewhere ∷ EndElsewhere ∷ TooWide ∷ BadSetting
    ∷ BadKind ∷ BadReading ∷ BadEventLength ∷ BadPilot ∷ BadIndication ∷ BadReplyLength ∷ OutputTooShort ∷ []

-- the cause that has a number
cause_of : ℕ → Cause
cause_of n = get_or causes (n - 1) TooLong

cause_back : (x : Cause) → cause_of (number_of x) ≡ x
unfolding causes cause_of
cause_back TooLong = refl
cause_back TooShort = refl
cause_back CountsDiffer = refl
cause_back EventsElsewhere = refl
cause_back RepliesElsewhere = refl
cause_back EndElsewhere = refl
cause_back TooWide = refl
cause_back BadSetting = refl
cause_back BadKind = refl
cause_back BadReading = refl
cause_back BadEventLength = refl
cause_back BadPilot = refl
cause_back BadIndication = refl
cause_back BadReplyLength = refl
cause_back OutputTooShort = refl

pub numbers_differ : NumbersDiffer
numbers_differ x y e = sym (cause_back x) ∙ ap cause_of e ∙ cause_back y

-- whatever the value is that was answered
same_answer : {A : Type 0} (a b : Result A Cause) → answer_of a ≡ answer_of b → a ≡ b
same_answer (Ok x) (Ok y) e = ap Ok cc
same_answer (Ok x) (Err d) e = absurd cc
same_answer (Err c) (Ok y) e = absurd cc
same_answer (Err c) (Err d) e = ap Err (numbers_differ c d (cc))

pub answers_differ : AnswersDiffer
answers_differ = same_answer

pub written_differ : WrittenDiffer
written_differ = same_answer
