-- AMP_MAP.REQ, and frames that are none of the eleven messages, on lent words: what they come to.
use Prim.Native.Nat.{ℕ}
use mathlib.Core.Path.{◌≡◌, refl, sym, ap, ◌∙◌, subst}
use mathlib.Core.Bool.{true, false}
use mathlib.Core.List.{List, [], ◌∷◌}
use denote.Enum.Declared.{tag_of}
use lib.Dec.{eqb}
use lib.ListN.{length}
use types.Run.{OneOf}
use Rattle.messages.specs.declared.CarAddress.{CarAddress}
use Rattle.messages.specs.declared.Refusal.{Refusal}
use Rattle.messages.specs.declared.Refusal.TheVariants.{WrongState}
use Rattle.messages.specs.Answers.{number_of}
use Rattle.messages.specs.Reading.{no}
use Rattle.std.specs.Prelude.{Result, Ok, Err}
use Rattle.ends.specs.declared.Done as ends
use Rattle.ends.specs.Answers.{answer_of}
use Rattle.ends.specs.Sending.{Says}
use Rattle.rules.specs.declared.Configuration.{Configuration}
use Rattle.rules.specs.declared.State.{State}
use Rattle.rules.specs.declared.State.TheVariants.{Matched}
use Rattle.rules.specs.Calls as calls
use Rattle.rules.specs.Received.{map_req}
use Rattle.rules.specs.contracts.State.{the_type}
use Rattle.receiving.specs.declared.judge.MapAsking as map_judge
use Rattle.receiving.specs.Judge.{judge_rule, map_judged_of, map_judge_rule}
use Rattle.receiving.specs.Maps.{map_answer}
use Rattle.station.specs.Frames.{Ready}
use Rattle.station.proofs.MapLaws.{map_elsewhere, map_matched, unread_refused, unread_map, unread_ready}
use Rattle.words.proofs.Meant.{meant}
use Rattle.words.specs.Words.{config_of, identity, state_of, station_of}
use Rattle.lahzavar.specs.declared.Answered.{Answered}
use Rattle.lahzavar.specs.Answers.{said_of}
use Rattle.lahzavar.specs.Frames.{Takes}
use Rattle.lahzavar.specs.Lent.{Lent}
use Rattle.lahzavar.proofs.IdentityLaws.{map_judged_by}
use Rattle.lahzavar.proofs.FrameLaws.{comes_refused, ruled_lent}

module _ (w s z : List ℕ) (c : CarAddress) (n : ℕ) (st : State) (es : st ≡ state_of w) (r : Answered) where
  -- 8
  pub map_refused : (out : List ℕ) → OneOf (0 ∷ 1 ∷ 2 ∷ []) (tag_of the_type st) → r ≡ said_of (no (number_of WrongState)) → Takes c (map_req n) w s z out out w s z r
  unfolding station_of
  map_refused out t q = comes_refused _ WrongState w s z out r (map_elsewhere (station_of w s z) c n (subst (λ (x : State). OneOf (0 ∷ 1 ∷ 2 ∷ []) (tag_of the_type x)) es t)) q

  -- in Matched the answer is the rule's, and no word changes
  pub map_answered : (entry exit : List ℕ) (a : Result ends.Done Refusal) (d : CarAddress) (o : Configuration) → st ≡ Matched d → o ≡ config_of w → Says (map_answer o d c n (length entry)) entry exit a → r ≡ said_of (answer_of a) → Ready (station_of w s z) c entry
      → Takes c (map_req n) w s z entry exit w s z r
  unfolding station_of
  map_answered entry exit a d o t eo h q ready =
      let here : Says (map_answer (config_of w) d c n (length entry)) entry exit a = subst (λ (x : Configuration). Says (map_answer x d c n (length entry)) entry exit a) eo h in
      let x = map_matched (station_of w s z) c n entry exit a ready d (sym es ∙ t) here in
      record { station = x.station; answer = q ∙ ap said_of x.answer; octets = x.octets; kept = λ h. (refl, (refl, refl)) }

-- ---- a frame that was refused as one of the eleven messages

module _ (w s z octets out : List ℕ) (x : Refusal) (e : judge_rule (config_of w) (length out) octets ≡ no (number_of x)) (r : Answered) where
  judged_here : judge_rule (station_of w s z).config (length out) octets ≡ no (number_of x)
  unfolding station_of
  judged_here = e

  -- another refusal than 3 stays
  pub unread_lent : eqb (number_of x) 3 ≡ false → r ≡ said_of (no (number_of x)) → Lent (calls.frame octets (length out)) w s z out out w s z r
  unread_lent h q = ruled_lent w s z octets out out w s z r _ (unread_refused (station_of w s z) octets out (number_of x) judged_here h) (comes_refused _ x w s z out r refl q)

  -- at 3 it is judged as a message of amplitude maps
  module _ (h : eqb (number_of x) 3 ≡ true) (o : Configuration) (eo : o ≡ identity (config_of w)) (j : Result map_judge.MapAsking Refusal) (ej : map_judged_of j ≡ map_judge_rule o octets) where
    map_here : (k : Result map_judge.MapAsking Refusal) → j ≡ k → map_judged_of k ≡ map_judge_rule (station_of w s z).config octets
    unfolding station_of
    map_here k t = sym (ap map_judged_of t) ∙ ej ∙ ap (λ (p : Configuration). map_judge_rule p octets) eo ∙ map_judged_by (config_of w) octets

    -- and refused, or answered
    pub map_refused_lent : (y : Refusal) → j ≡ Err y → r ≡ said_of (no (number_of y)) → Lent (calls.frame octets (length out)) w s z out out w s z r
    map_refused_lent y t q = ruled_lent w s z octets out out w s z r _ (unread_map (station_of w s z) octets out (number_of x) judged_here h _ (map_here _ t)) (comes_refused _ y w s z out r refl q)

    pub map_asked_lent : (a : map_judge.MapAsking) (exit : List ℕ) → j ≡ Ok a → (Ready (station_of w s z) a.car out → Takes a.car (map_req a.carriers) w s z out exit w s z r) → Lent (calls.frame octets (length out)) w s z out exit w s z r
    map_asked_lent a exit t f =
        ruled_lent w s z octets out exit w s z r _ (unread_map (station_of w s z) octets out (number_of x) judged_here h _ (map_here _ t))
        (f (unread_ready (station_of w s z) octets out (number_of x) judged_here h _ (map_here _ t) (meant w s z) _ refl))
