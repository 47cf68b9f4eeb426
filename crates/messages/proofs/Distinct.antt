-- Proof that the readings of answers tell them apart: each reading can be read back.
use Rattle.std.specs.Prelude.{Ok, Err}
use Prim.Native.Nat.{ℕ, ◌-◌}
use mathlib.Core.Path.{◌≡◌, refl, sym, ap, ◌∙◌}
use mathlib.Core.List.{List, [], ◌∷◌}
use native.Mathlib.Omega.{arith}
use lib.ListN.{get_or}
use Rattle.messages.specs.Table as table
use Rattle.messages.specs.Reading.{yes, Beside}
use Rattle.messages.specs.declared.Edition.{Edition}
use Rattle.messages.specs.Answers.{number_of, message_of}
use Rattle.messages.specs.Claims.{NumbersDiffer, AnswersDiffer, WrittenDiffer}
use Rattle.messages.specs.declared.Refusal.{Refusal}
use Rattle.messages.specs.declared.Refusal.TheVariants.{TooShort, BadHead, UnknownType, TooLong, BadAddress, BadOctet, NotForUs, WrongState, AdmissionClosed, RecordsFull, NoRecord, WrongPhase, BadSoundCount, TickGap, OutputTooShort, BadConfiguration, OnlyForCars, ReportsFull, OnlyForStations, NoSounds, EmptyRun, OtherTry, OtherGroupCount, OtherCarrierCount}
use Rattle.messages.specs.declared.Message.{Message}
use Rattle.messages.specs.declared.Message.TheVariants.{SlacParmReq, SlacParmCnf, StartAttenCharInd, AttenCharInd, AttenCharRsp, MnbcSoundInd, ValidateReq, ValidateCnf, SlacMatchReq, SlacMatchCnf, AttenProfileInd}
use Rattle.messages.proofs.ReadLaws.{message_in}

-- the refusals in the order of their numbers, which begin at 1
refusals : List Refusal
refusals =
    TooShort ∷ BadHead ∷ UnknownType ∷ TooLong ∷ BadAddress ∷ BadOctet ∷ NotForUs ∷ WrongState ∷ AdmissionClosed ∷ RecordsFull ∷ NoRecord ∷ WrongPhase
    ∷ BadSoundCount ∷ TickGap ∷ OutputTooShort ∷ BadConfiguration ∷ OnlyForCars ∷ ReportsFull ∷ OnlyForStations
    ∷ NoSounds ∷ EmptyRun ∷ OtherTry ∷ OtherGroupCount ∷ OtherCarrierCount ∷ []

-- the refusal that has a number
refusal_of : ℕ → Refusal
refusal_of n = get_or refusals (n - 1) TooShort

refusal_back : (x : Refusal) → refusal_of (number_of x) ≡ x
unfolding refusals refusal_of
refusal_back TooShort = refl
refusal_back BadHead = refl
refusal_back UnknownType = refl
refusal_back TooLong = refl
refusal_back BadAddress = refl
refusal_back BadOctet = refl
refusal_back NotForUs = refl
refusal_back WrongState = refl
refusal_back AdmissionClosed = refl
refusal_back RecordsFull = refl
refusal_back NoRecord = refl
refusal_back WrongPhase = refl
refusal_back BadSoundCount = refl
refusal_back TickGap = refl
refusal_back OutputTooShort = refl
refusal_back BadConfiguration = refl
refusal_back OnlyForCars = refl
refusal_back ReportsFull = refl
refusal_back OnlyForStations = refl
refusal_back NoSounds = refl
refusal_back EmptyRun = refl
refusal_back OtherTry = refl
refusal_back OtherGroupCount = refl
refusal_back OtherCarrierCount = refl

pub numbers_differ : NumbersDiffer
numbers_differ x y e = sym (refusal_back x) ∙ ap refusal_of e ∙ refusal_back y

-- the value of the code that means a message
abbrev value_of : table.Message → Message
value_of m = message_in m.edition m.kind m.count m.dst m.src m.values

message_back : (e : Edition) (m : Message) (b : Beside) → value_of (message_of e m b) ≡ m
message_back e (SlacParmReq c r) b = refl
message_back e (SlacParmCnf s c t r) b = refl
message_back e (StartAttenCharInd c t r) b = refl
message_back e (AttenCharInd s c r n g) b = refl
message_back e (AttenCharRsp c s r) b = refl
message_back e (MnbcSoundInd c n r x) b = refl
message_back e (ValidateReq c t d) b = refl
message_back e (ValidateCnf s n c x) b = refl
message_back e (SlacMatchReq c s r) b = refl
message_back e (SlacMatchCnf s c r n k) b = refl
message_back e (AttenProfileInd m s c g) b = refl

pub answers_differ : AnswersDiffer
answers_differ e (Ok m) (Ok n) b q =
    let same : message_of e m b ≡ message_of e n b = let w : yes (message_of e m b) ≡ yes (message_of e n b) = q in cc in
    ap Ok (sym (message_back e m b) ∙ ap value_of same ∙ message_back e n b)
answers_differ e (Ok m) (Err y) b q = absurd (let z : ◌≡◌ {A = ℕ} 0 1 = cc in omega arith)
answers_differ e (Err x) (Ok n) b q = absurd (let z : ◌≡◌ {A = ℕ} 0 1 = cc in omega arith)
answers_differ e (Err x) (Err y) b q = ap Err (numbers_differ x y (cc))

pub written_differ : WrittenDiffer
written_differ (Ok m) (Ok n) e = ap Ok (cc)
written_differ (Ok m) (Err y) e = absurd (let z : ◌≡◌ {A = ℕ} 0 1 = cc in omega arith)
written_differ (Err x) (Ok n) e = absurd (let z : ◌≡◌ {A = ℕ} 0 1 = cc in omega arith)
written_differ (Err x) (Err y) e = ap Err (numbers_differ x y (cc))
