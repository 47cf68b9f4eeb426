-- Judging a frame, in the rules' words.
use Rattle.std.specs.Prelude.{Result}
use Prim.Native.Nat.{ℕ, ◌≤◌, ◌<◌}
use mathlib.Core.Path.{◌≡◌, refl, sym, ap, ◌∙◌, subst}
use mathlib.Core.Bool.{Bool, true, false, not, cond, ◌&&◌}
use mathlib.Core.List.{List, [], ◌∷◌}
use native.Mathlib.Omega.{arith}
use borrow.Author.Tests.{le-leb, lt-leb, leb-true, eq-eqb, ne_eqb}
use denote.Enum.Declared.{tag_of}
use lib.Dec.{eqb, leb}
use types.Run.{OneOf, miss}
use Rattle.octets.specs.Octets.{Octets}
use Rattle.messages.specs.declared.CarAddress.{CarAddress}
use Rattle.messages.specs.declared.Message.{Message}
use Rattle.messages.specs.declared.Message.TheVariants.{SlacParmReq, SlacParmCnf, StartAttenCharInd, AttenCharInd, AttenCharRsp, MnbcSoundInd, ValidateReq, ValidateCnf, SlacMatchReq, SlacMatchCnf, AttenProfileInd}
use Rattle.messages.specs.declared.Receiver.{Receiver}
use Rattle.messages.specs.declared.Refusal.{Refusal}
use Rattle.messages.specs.Answers.{message_of}
use Rattle.messages.specs.Reading.{Checked, no, yes, check, Beside, beside_of, read_rules}
use Rattle.messages.specs.declared.Edition.{Edition}
use Rattle.messages.specs.Layout.{Values}
use Rattle.messages.specs.Table.{Kind, slac_parm_req, slac_parm_cnf, start_atten_char_ind, atten_char_ind, atten_char_rsp, mnbc_sound_ind, validate_req, validate_cnf, slac_match_req, slac_match_cnf, atten_profile_ind, is_unicast, payload}
use Rattle.amplitude.specs.Reading as amplitude
use Rattle.amplitude.specs.Reading.{requested, summary_of}
use Rattle.messages.specs.Table as table
use Rattle.messages.specs.contracts.Message.{the_type}
use Rattle.rules.specs.declared.Configuration.{Configuration}
use Rattle.rules.specs.declared.Station.{Station}
use Rattle.rules.specs.Calls as calls
use Rattle.rules.specs.Constants.{least_output}
use Rattle.ends.specs.Outcomes.{and_then, or_else}
use Rattle.rules.specs.Received.{validate_first, validate_second, for_record, map_req, Received, from_car, received_as, message_as, map_in, received, not_us, is_for_us}
use Rattle.rules.specs.FromOctets.{OctetRequest}
use Rattle.rules.specs.Stations.{Done, shared, inner}
use Rattle.rules.specs.Frames.{state_rule, admitted}
use Rattle.rules.specs.Rules.{rule}
use Rattle.ends.proofs.Logic.{OnYes}
use Rattle.rules.proofs.ReceivedLaws.{FrameAs, read_as, admitted_octets}
use Rattle.receiving.specs.declared.judge.Asking as judge
use Rattle.receiving.specs.declared.judge.Request as code
use Rattle.receiving.specs.declared.judge.OwnMessage.TheVariants.{ValidateSecond}
use Rattle.receiving.specs.declared.judge.Request.TheVariants as requests
use Rattle.receiving.specs.Judge.{Asking, asking, for_us_rule, addressed_rule, judge_rule, map_judge_rule, request_of, judged_of, for_us}

-- ---- the order of the refusals

module _ (o : Configuration) (room : ℕ) (s : List ℕ) where
  -- 16
  pub judged_bad : o.good ≡ false → no 16 ≡ judge_rule o room s
  unfolding judge_rule
  judged_bad g = sym (rw g)

  module _ (g : o.good ≡ true) where
    -- 15
    pub judged_short : room < least_output → no 15 ≡ judge_rule o room s
    unfolding judge_rule
    judged_short h = sym (rw (g, lt-leb least_output room h))

    module _ (h : least_output ≤ room) where
      -- reading, 17, 7
      judged_read : judge_rule o room s ≡ and_then (read_rules o.edition s) (addressed_rule o)
      unfolding judge_rule
      judged_read = rw (g, le-leb least_output room h)

      -- what cannot be read
      pub judged_unread : (n : ℕ) → no n ≡ read_rules o.edition s → no n ≡ judge_rule o room s
      judged_unread n e = ap (λ (w : Checked table.Message). and_then w (addressed_rule o)) e ∙ sym judged_read

      -- what was read
      pub judged_message : (m : Message) (j : Result judge.Asking Refusal) → yes (message_of o.edition m (beside_of (read_rules o.edition s))) ≡ read_rules o.edition s
          → ((x : Beside) → judged_of j x ≡ addressed_rule o (message_of o.edition m x)) → judged_of j (beside_of (read_rules o.edition s)) ≡ judge_rule o room s
      judged_message m j e p = p _ ∙ ap (λ (w : Checked table.Message). and_then w (addressed_rule o)) e ∙ sym judged_read

-- ---- 7 and 17

-- what `for_us` gives is 7 or the request
pub for_us_rule_lem : (b : Bool) (c : CarAddress) (m : code.Request) (x : Beside) → judged_of (for_us b c m) x ≡ check b 7 (yes (record { car = c; request = request_of m x }))
unfolding for_us
for_us_rule_lem true c m x = refl
for_us_rule_lem false c m x = refl

-- a request q that was found to be q', of the message m that was found to be m'
pub addressed_as : (o : Configuration) (b : Bool) (c : CarAddress) (q q' : code.Request) (m m' : Message) (j : Result judge.Asking Refusal) → j ≡ for_us b c q → q ≡ q' → m ≡ m'
    → ((x : Beside) → check b 7 (yes (record { car = c; request = request_of q' x })) ≡ addressed_rule o (message_of o.edition m' x)) → (x : Beside) → judged_of j x ≡ addressed_rule o (message_of o.edition m x)
addressed_as o b c q q' m m' j e f t h x =
    ap (λ (y : Result judge.Asking Refusal). judged_of y x) (e ∙ ap (for_us b c) f) ∙ for_us_rule_lem b c q' x ∙ h x ∙ sym (ap (λ (y : Message). addressed_rule o (message_of o.edition y x)) t)

-- 17
pub only_cars : (o : Configuration) (m : Message) (x : Beside) → OneOf (1 ∷ 3 ∷ 7 ∷ 9 ∷ []) (tag_of the_type m) → no 17 ≡ addressed_rule o (message_of o.edition m x)
only_cars o (SlacParmReq c r) x t = absurd (miss (1 ∷ 3 ∷ 7 ∷ 9 ∷ []) 0 tt t)
only_cars o (SlacParmCnf s c u r) x t = refl
only_cars o (StartAttenCharInd c u r) x t = absurd (miss (1 ∷ 3 ∷ 7 ∷ 9 ∷ []) 2 tt t)
only_cars o (AttenCharInd s c r n k) x t = refl
only_cars o (AttenCharRsp c s r) x t = absurd (miss (1 ∷ 3 ∷ 7 ∷ 9 ∷ []) 4 tt t)
only_cars o (MnbcSoundInd c n r y) x t = absurd (miss (1 ∷ 3 ∷ 7 ∷ 9 ∷ []) 5 tt t)
only_cars o (ValidateReq c n d) x t = absurd (miss (1 ∷ 3 ∷ 7 ∷ 9 ∷ []) 6 tt t)
only_cars o (ValidateCnf s n c y) x t = refl
only_cars o (SlacMatchReq c s r) x t = absurd (miss (1 ∷ 3 ∷ 7 ∷ 9 ∷ []) 8 tt t)
only_cars o (SlacMatchCnf s c r n k) x t = refl
only_cars o (AttenProfileInd m s c n) x t = absurd (miss (1 ∷ 3 ∷ 7 ∷ 9 ∷ []) 10 tt t)

-- VALIDATE.REQ to all, and to one station
module _ (o : Configuration) (c : CarAddress) (d : Receiver) (n : ℕ) (j : Result judge.Asking Refusal) where
  pub to_all_lem : d.0 ≡ table.broadcast → j ≡ for_us (true && not_us o c) c (requests.Own (ValidateSecond n)) → (x : Beside) → judged_of j x ≡ addressed_rule o (message_of o.edition (ValidateReq c n d) x)
  to_all_lem e q x =
      ap (λ (y : Result judge.Asking Refusal). judged_of y x) q ∙ for_us_rule_lem (true && not_us o c) c (requests.Own (ValidateSecond n)) x
      ∙ sym (ap (λ (b : Bool). for_us_rule o (from_car c.0 d.0 c.0 (for_record (cond b (validate_second n) validate_first)))) (eq-eqb d.0 table.broadcast e))

  pub to_one : (d.0 ≡ table.broadcast → ⊥) → j ≡ for_us (eqb d.0 o.address.0 && not_us o c) c requests.ValidateFirst → (x : Beside) → judged_of j x ≡ addressed_rule o (message_of o.edition (ValidateReq c n d) x)
  to_one e q x =
      ap (λ (y : Result judge.Asking Refusal). judged_of y x) q ∙ for_us_rule_lem (eqb d.0 o.address.0 && not_us o c) c requests.ValidateFirst x
      ∙ sym (ap (λ (b : Bool). for_us_rule o (from_car c.0 d.0 c.0 (for_record (cond b (validate_second n) validate_first)))) (ne_eqb d.0 table.broadcast e))

-- AMP_MAP.REQ by its addresses: 7
module _ (o : Configuration) (d f n : ℕ) where
  abbrev ours : Bool
  ours = eqb d o.address.0 && (not (eqb f o.address.0) && not (eqb f o.modem.0))

  map_tests : (b : Bool) → ours ≡ b → for_us_rule o (map_in (yes (requested d f n))) ≡ check b 7 (yes (record { car = record { 0 = f }; request = map_req n }))
  map_tests b h = ap (λ (t : Bool). check t 7 (yes (let y : Asking = record { car = record { 0 = f }; request = map_req n } in y))) h

  pub map_for_us : ours ≡ true → yes (record { car = record { 0 = f }; request = map_req n }) ≡ for_us_rule o (map_in (yes (requested d f n)))
  map_for_us h = sym (map_tests true h)

  pub map_not_for_us : ours ≡ false → no 7 ≡ for_us_rule o (map_in (yes (requested d f n)))
  map_not_for_us h = sym (map_tests false h)

-- ---- of whatever message

-- what no state and no record decides: "16, 15, reading, 17, 7", or the request
unfoldable pub decided : Configuration → ℕ → List ℕ → Checked Asking
decided o room s = and_then (admitted o room (received o.edition s)) (λ (y : Received). yes (asking y))

-- a request for us, without the frame's addresses
asking_late : (o : Configuration) (x : Checked Received) → and_then (and_then x (λ (y : Received). check (is_for_us o y) 7 (yes y))) (λ (y : Received). yes (asking y)) ≡ for_us_rule o x
asking_late o (no n) = refl
asking_late o (yes y) = go (is_for_us o y)
  where
    go : (b : Bool) → and_then (check b 7 (yes y)) (λ (z : Received). yes (asking z)) ≡ check b 7 (yes (asking y))
    go true = refl
    go false = refl

-- whether what was received is refused with 3
abbrev is_third : Checked Received → Bool
is_third (no n) = eqb n 3
is_third (yes y) = false

-- one of the eleven messages never is
never_third : (e : Edition) (k : Kind) (g d f : ℕ) (vs : Values (payload e k g d f)) → is_third (received_as e k g d f vs) ≡ false
never_third e slac_parm_req g d f vs = refl
never_third e slac_parm_cnf g d f vs = refl
never_third e start_atten_char_ind g d f vs = refl
never_third e atten_char_ind g d f vs = refl
never_third e atten_char_rsp g d f vs = refl
never_third e mnbc_sound_ind g d f vs = refl
never_third e validate_req g d f vs = refl
never_third e validate_cnf g d f vs = refl
never_third e slac_match_req g d f vs = refl
never_third e slac_match_cnf g d f vs = refl
never_third e atten_profile_ind g d f vs = refl

-- nor is it then by 7
third_kept : (o : Configuration) (x : Checked Asking) (w : Checked Received) → is_third w ≡ false → for_us_rule o w ≡ or_else (for_us_rule o w) yes x
third_kept o x (no n) e = ap (λ (b : Bool). cond b x (no n)) (sym e)
third_kept o x (yes y) e = go (is_for_us o y)
  where
    go : (b : Bool) → check b 7 (yes (asking y)) ≡ or_else (check b 7 (yes (asking y))) yes x
    go true = refl
    go false = refl

-- reading the eleven messages first, and 7 afterwards, is deciding of them first
module _ (o : Configuration) (x : Checked Received) where
  read_first : (r : Checked table.Message) → for_us_rule o (or_else r message_as x) ≡ or_else (and_then r (addressed_rule o)) yes (for_us_rule o x)
  read_first (yes m) = third_kept o (for_us_rule o x) (message_as m) (never_third m.edition m.kind m.count m.dst m.src m.values)
  read_first (no n) = go (eqb n 3)
    where
      go : (b : Bool) → for_us_rule o (cond b x (no n)) ≡ cond b (for_us_rule o x) (no n)
      go true = refl
      go false = refl

  tests_first : (a b : Bool) (r : Checked table.Message)
      → and_then (check a 16 (check b 15 (and_then (or_else r message_as x) (λ (y : Received). check (is_for_us o y) 7 (yes y))))) (λ (y : Received). yes (asking y))
      ≡ or_else (check a 16 (check b 15 (and_then r (addressed_rule o)))) yes (for_us_rule o x)
  tests_first false b r = refl
  tests_first true false r = refl
  tests_first true true r = asking_late o (or_else r message_as x) ∙ read_first r

-- the eleven messages first, those of amplitude maps where the type is none of theirs
module _ (o : Configuration) (room : ℕ) (s : List ℕ) where
  decided_first : decided o room s ≡ or_else (judge_rule o room s) yes (map_judge_rule o s)
  unfolding decided admitted received judge_rule map_judge_rule
  decided_first = tests_first o (map_in (summary_of (amplitude.read_rules s))) o.good (leb least_output room) (read_rules o.edition s)

  -- by what judging them gives
  decided_by : (w : Checked Asking) → judge_rule o room s ≡ w → decided o room s ≡ or_else w yes (map_judge_rule o s)
  decided_by w e = decided_first ∙ ap (λ (v : Checked Asking). or_else v yes (map_judge_rule o s)) e

  -- a request
  pub decided_taken : (y : Asking) → judge_rule o room s ≡ yes y → decided o room s ≡ yes y
  decided_taken y e = decided_by (yes y) e

  -- a refusal that is not 3
  pub decided_refused : (n : ℕ) → judge_rule o room s ≡ no n → eqb n 3 ≡ false → decided o room s ≡ no n
  decided_refused n e h = decided_by (no n) e ∙ ap (λ (b : Bool). cond b (map_judge_rule o s) (no n)) h

  -- 3
  pub decided_map : (n : ℕ) → judge_rule o room s ≡ no n → eqb n 3 ≡ true → decided o room s ≡ map_judge_rule o s
  decided_map n e h = decided_by (no n) e ∙ ap (λ (b : Bool). cond b (map_judge_rule o s) (no n)) h

-- ---- the frame's rule by what is decided

module _ (s : Station) where
  -- what a request does
  abbrev pub taken : Asking → Checked Done
  taken y = state_rule s.config s.state s.records y.car y.request

  -- deciding leaves what follows as it is
  decided_then : (x : Checked Received) → and_then x (λ (y : Received). taken (asking y)) ≡ and_then (and_then x (λ (y : Received). yes (asking y))) taken
  decided_then (no n) = refl
  decided_then (yes y) = refl

  -- the rule of a frame
  pub frame_decided : (octets : List ℕ) (room : ℕ) (w : Checked Asking) → decided s.config room octets ≡ w → rule (shared s) (inner s) (calls.frame octets room) ≡ and_then w taken
  unfolding rule decided
  frame_decided octets room w e = decided_then (admitted s.config room (received s.config.edition octets)) ∙ ap (λ (v : Checked Asking). and_then v taken) e

-- ---- what a request shows

-- a good configuration, room for every reply, and a unicast car
pub record Judges (o : Configuration) (n : ℕ) (c : CarAddress) : Type 0 where
  pub good : o.good ≡ true
  pub room : least_output ≤ n
  pub car : is_unicast c.0 ≡ true

-- a refusal is no answer
pub no_yes : {A : Type 0} {P : Type 0} (n : ℕ) (y : A) → ◌≡◌ {A = Checked A} (no n) (yes y) → P
no_yes n y e = absurd (let z : ◌≡◌ {A = ℕ} 0 1 = cc in omega arith)

-- by the tests
judges_in : (o : Configuration) (room : ℕ) (s : List ℕ) (y : Asking) (a : Bool) (b : Bool) (w : Checked Received) → o.good ≡ a → leb least_output room ≡ b
    → OnYes (FrameAs o.edition s) (check a 16 (check b 15 w)) → and_then (check a 16 (check b 15 w)) (λ (z : Received). yes (asking z)) ≡ yes y → Judges o room y.car
judges_in o room s y false b w p q h e = no_yes 16 y e
judges_in o room s y true false w p q h e = no_yes 15 y e
judges_in o room s y true true (no n) p q h e = no_yes n y e
judges_in o room s y true true (yes z) p q h e =
    let t : yes (asking z) ≡ yes y = e in
    let c : z.car ≡ y.car = cc in
    record { good = p; room = leb-true least_output room q; car = subst (λ (d : CarAddress). is_unicast d.0 ≡ true) c h.unicast }

-- of a request
pub judges : (o : Configuration) (room : ℕ) (s : List ℕ) (y : Asking) → decided o room s ≡ yes y → Judges o room y.car
unfolding decided admitted
judges o room s y e = judges_in o room s y o.good (leb least_output room) _ refl refl (read_as o.edition o room s) e

-- and what octets can ask for
request_in : (o : Configuration) (y : Asking) (w : Checked Received) → OnYes (λ (z : Received). OctetRequest o.edition z.request) w
    → and_then w (λ (z : Received). yes (asking z)) ≡ yes y → OctetRequest o.edition y.request
request_in o y (no n) h e = no_yes n y e
request_in o y (yes z) h e =
    let t : yes (asking z) ≡ yes y = e in
    let m : z.request ≡ y.request = cc in
    subst (OctetRequest o.edition) m h

pub judged_octets : (o : Configuration) (room : ℕ) (s : List ℕ) (y : Asking) → Octets s → decided o room s ≡ yes y → OctetRequest o.edition y.request
unfolding decided
judged_octets o room s y h e = request_in o y (admitted o room (received o.edition s)) (admitted_octets o.edition o room s h) e
