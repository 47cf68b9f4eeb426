-- Sending a reply: it can be written, and it stands in the output.
use Prim.Native.Nat.{ℕ, ◌^◌, ◌<◌, ◌≤◌}
use mathlib.Core.Path.{◌≡◌, refl, sym, ap, ap₂, ◌∙◌}
use mathlib.Core.Bool.{Bool, true, ◌&&◌}
use mathlib.Core.List.{List, [], ◌∷◌, map}
use native.Mathlib.Omega.{arith}
use borrow.Author.Tests.{lt-ltb, eq-eqb}
use lib.ListN.{length, length-map}
use Rattle.messages.specs.declared.CarAddress.{CarAddress}
use Rattle.messages.specs.declared.Ids.{Ids}
use Rattle.messages.specs.declared.Message.{Message}
use Rattle.messages.specs.declared.Message.TheVariants.{SlacParmCnf, AttenCharInd, ValidateCnf, SlacMatchCnf}
use Rattle.messages.specs.declared.RunId.{RunId}
use Rattle.messages.specs.Answers.{message_of, besides}
use Rattle.octets.specs.Octets.{splice}
use Rattle.messages.specs.Reading.{yes, no_groups, no_id, Beside, no_beside}
use Rattle.messages.specs.Table as table
use Rattle.messages.specs.Table.{group_count, is_unicast, result_limit, count_at, written_size}
use Rattle.messages.specs.Writing.{frame, is_addressed, is_limited}
use Rattle.messages.proofs.WriteLaws.{Whole, Typed, head_in, headed, whole_none, none_right}
use Rattle.messages.proofs.TableLaws.{count_le}
use Rattle.rules.specs.declared.Configuration.{Configuration}
use Rattle.ends.specs.declared.Indication.TheVariants.{Nothing}
use Rattle.rules.specs.declared.Record.{Record}
use Rattle.rules.specs.declared.State.{State}
use Rattle.rules.specs.declared.Station.{Station}
use Rattle.rules.specs.Constants.{pair_of, least_output}
use Rattle.rules.specs.FromOctets.{IsId}
use Rattle.rules.specs.Invariant.{GoodRecord}
use Rattle.rules.specs.Records.{groups_in}
use Rattle.rules.proofs.TryLaws.{pair_right, groups_right_lem}
use Rattle.records.proofs.ProfileLaws.{past_values}
use Rattle.rules.specs.Replies.{mean, parm_cnf, match_cnf, confirmation, report_of, message_to}
use Rattle.rules.specs.Stations.{done}
use Rattle.std.specs.Prelude.{Result}
use Rattle.messages.specs.declared.Refusal.{Refusal}
use Rattle.ends.specs.declared.Done.{Done}
use Rattle.ends.specs.Answers.{summary}
use Rattle.ends.specs.Outcomes.{Outcome, frames_of, joined}
use Rattle.station.specs.Steps.{anew}
use Rattle.ends.specs.Sending.{Sends, Writable}
use Rattle.ends.proofs.SendLaws.{sends_writable}
use Rattle.station.specs.Frames.{Comes}

-- one frame sent
pub one_sent : (s : Station) (st : State) (rs : List Record) (m : table.Message) (entry exit : List ℕ) (x : Station) (a : Result Done Refusal) → Writable m (length entry) → x ≡ anew s s.pilot s.clock st rs → Sends m Nothing entry exit a
    → Comes s (yes (done st rs (frame m ∷ []) Nothing)) entry exit (record { station = x; answer = a })
one_sent s st rs m entry exit x a w ex e = record {
  station = ex;
  answer = e.answer ∙ ap summary (sends_writable m entry w Nothing);
  octets = e.octets ∙ ap (λ (u : Outcome). splice 0 (joined (frames_of u)) entry) (sends_writable m entry w Nothing);
}

-- a report has its values beside it, and no identifiers
pub report_beside : (g : List ℕ) (ids : Ids) (m : List ℕ) → g ≡ m → (ids.first ≡ no_id) × (ids.second ≡ no_id) → besides g ids ≡ record { groups = m; first = no_id; second = no_id }
report_beside g ids m e h = rw (e, h.0, h.1)

-- ---- the replies can be written

module _ (o : Configuration) (c : CarAddress) (n : ℕ) (us : is_unicast o.address.0 ≡ true) (car : is_unicast c.0 ≡ true) where
  -- both addresses are unicast
  to_car : is_unicast o.address.0 && is_unicast c.0 ≡ true
  to_car = rw (us, car)

  -- what the numbers' types say is enough, beside the tests that a head has
  fitting : (m : Message) (b : Beside) → Typed m → Whole b → is_addressed (message_of o.edition m b) ≡ true → (head_in o.edition m b).limited ≡ true → is_limited (message_of o.edition m b) ≡ true
  fitting m b t w a h = sym ((headed o.edition b w (head_in o.edition m b) m m refl t refl).limited a) ∙ h

  -- PARM.CNF
  pub parm_cnf_writable : (later : Bool) (run : RunId) → run.0 < 2 ^ 64 → least_output ≤ n → Writable (message_to o c (parm_cnf later run)) n
  parm_cnf_writable later run u h = record {
    addressed = to_car;
    limited = fitting (SlacParmCnf o.address c (record { 0 = pair_of o.edition later }) run) no_beside u whole_none to_car (pair_right o.edition later);
    room = omega (arith, h);
  }

  -- the report of a record
  module _ (r : Record) (good : GoodRecord o.edition r) (some : 0 < r.profiles) (l : length r.sums ≡ group_count) where
    -- its values, and no identifiers
    abbrev pub report_values : Beside
    report_values = record { groups = map (mean r.profiles) r.sums; first = no_id; second = no_id }

    pub whole_report : Whole report_values
    whole_report = record { groups = length-map r.sums (mean r.profiles) ∙ l; first = whole_none.first; second = whole_none.second }

    pub report_most : groups_in o.edition r.groups ≤ group_count
    report_most = count_le o.edition (count_at table.atten_char_ind) (groups_in o.edition r.groups) (groups_right_lem o.edition r.profiles r.groups some good.groups)

    pub report_writable : r.run.0 < 2 ^ 64 → r.profiles < 2 ^ 8 → written_size table.atten_char_ind group_count ≤ n → Writable (message_to o c (report_of r)) n
    unfolding report_of
    report_writable u k h = record {
      addressed = to_car;
      limited = fitting (AttenCharInd o.address c r.run r.profiles (groups_in o.edition r.groups)) report_values (u, k) whole_report to_car
          (ap₂ ◌&&◌ (ap₂ ◌&&◌ (none_right o.edition) (none_right o.edition)) (ap₂ ◌&&◌ (groups_right_lem o.edition r.profiles r.groups some good.groups) (eq-eqb _ 0 (past_values o.edition r _ good some))));
      room = omega (arith, h, report_most);
    }

  -- VALIDATE.CNF
  pub validate_cnf_writable : (k x : ℕ) → k < 2 ^ 8 → x < result_limit → written_size table.validate_cnf 0 ≤ n → Writable (message_to o c (confirmation k x)) n
  validate_cnf_writable k x u l h = record {
    addressed = to_car;
    limited = fitting (ValidateCnf o.address k c x) no_beside (u, omega arith) whole_none to_car (lt-ltb x result_limit l);
    room = h;
  }

  -- MATCH.CNF
  pub match_cnf_writable : (run : RunId) (a b : List ℕ) → IsId o.edition a → IsId o.edition b → run.0 < 2 ^ 64 → o.nid.0 < 2 ^ 54 → o.nmk.0 < 2 ^ 64 → o.nmk.1 < 2 ^ 64 → least_output ≤ n → Writable (message_to o c (match_cnf run a b)) n
  match_cnf_writable run a b ia ib u d x y h = record {
    addressed = to_car;
    limited = fitting (SlacMatchCnf o.address c run o.nid o.nmk) (record { groups = no_groups; first = a; second = b }) (u, x, y)
        (record { groups = whole_none.groups; first = ia.long; second = ib.long }) to_car
        (ap₂ ◌&&◌ (ap₂ ◌&&◌ ia.right ib.right) (lt-ltb o.nid.0 (2 ^ 54) d));
    room = omega (arith, h);
  }
