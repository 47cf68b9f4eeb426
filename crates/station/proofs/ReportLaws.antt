-- A report and a confirmation, written to an output.
use Prim.Native.Nat.{ℕ, ◌^◌, ◌<◌, ◌≤◌}
use mathlib.Core.Path.{◌≡◌, sym, ap, ◌∙◌, subst}
use mathlib.Core.List.{List, map}
use native.Mathlib.Omega.{arith}
use lib.ListN.{length}
use Rattle.messages.specs.declared.Message.{Message}
use Rattle.messages.specs.declared.Message.TheVariants.{AttenCharInd, ValidateCnf}
use Rattle.messages.specs.declared.Refusal.{Refusal}
use Rattle.std.specs.Prelude.{Result, Ok}
use Rattle.messages.proofs.Distinct.{written_differ}
use Rattle.octets.specs.Octets.{splice}
use Rattle.messages.specs.Table as table
use Rattle.messages.specs.Table.{group_count, result_limit}
use Rattle.messages.specs.Reading.{yes, no_id, Beside, no_beside}
use Rattle.messages.specs.Writing.{frame, write_rules, length_of, octets_of}
use Rattle.messages.specs.Answers.{message_of, checked_of}
use Rattle.messages.proofs.WriteLaws.{full_message, length_frame, whole_none}
use Rattle.rules.specs.declared.Configuration.{Configuration}
use Rattle.rules.specs.declared.Record.{Record}
use Rattle.rules.specs.Records.{groups_in}
use Rattle.rules.specs.Replies.{mean, confirmation, report_of, message_to, frame_to}
use Rattle.station.specs.Reports.{report_size, confirmation_size, Sendable, Writes}
use Rattle.ends.specs.Sending.{Writable}
use Rattle.ends.proofs.SendLaws.{written_as, written_octets}
use Rattle.station.proofs.SendLaws.{report_values, whole_report, report_most, report_writable, validate_cnf_writable}

-- what writing the message x of a report with b beside it leaves in an output with room for it
module _ (o : Configuration) (r : Record) (x : Message) (b : Beside) (entry exit : List ℕ) (a : Result ℕ Refusal) (fine : Sendable o r) (some : 0 < r.profiles) (run : r.run.0 < 2 ^ 64) (count : r.profiles < 2 ^ 8) (l : length r.sums ≡ group_count)
    (ex : message_of o.edition x (record { groups = map (mean r.profiles) r.sums; first = no_id; second = no_id }) ≡ message_to o r.car (report_of r))
    (eb : b ≡ record { groups = map (mean r.profiles) r.sums; first = no_id; second = no_id }) (room : report_size ≤ length entry)
    (ea : checked_of a ≡ length_of (write_rules (message_of o.edition x b) (length entry))) (e : exit ≡ splice 0 (octets_of (write_rules (message_of o.edition x b) (length entry))) entry) where
  abbrev report : table.Message
  report = message_to o r.car (report_of r)

  writable : Writable report (length entry)
  writable = report_writable o r.car (length entry) fine.address fine.car r fine.good some l run count room

  same : message_of o.edition x b ≡ report
  same = ap (message_of o.edition x) eb ∙ ex

  -- it is written
  told : checked_of a ≡ yes (length (frame report))
  told = ea ∙ ap (λ (m : table.Message). length_of (write_rules m (length entry))) same ∙ ap length_of (written_as report entry writable)

  report_long : length (frame report) ≤ report_size
  unfolding report_of
  report_long =
      let most = report_most o r.car (length entry) fine.address fine.car r fine.good some l in
      let m : Message = AttenCharInd o.address r.car r.run r.profiles (groups_in o.edition r.groups) in
      omega (arith, most, length_frame report (full_message o.edition m (report_values o r.car (length entry) fine.address fine.car r fine.good some l) (whole_report o r.car (length entry) fine.address fine.car r fine.good some l) most))

  -- and how long it is, is told
  pub written_long : a ≡ Ok (length (frame report))
  written_long = written_differ a (Ok (length (frame report))) told

  pub writes_report : (n : ℕ) → n ≡ length (frame report) → Writes n (frame_to o r.car (report_of r)) entry exit × (n ≤ report_size)
  unfolding frame_to
  writes_report n q = (
    record { octets = written_octets report entry writable exit (e ∙ ap (λ (m : table.Message). splice 0 (octets_of (write_rules m (length entry))) entry) same); size = sym q },
    subst (λ (k : ℕ). k ≤ report_size) (sym q) report_long,
  )

-- what writing the message x of a confirmation leaves
pub writes_confirmation : (o : Configuration) (r : Record) (k m : ℕ) (x : Message) (b : Beside) (entry exit : List ℕ) → Sendable o r → k < 2 ^ 8 → m < result_limit
    → ((v : Beside) → message_of o.edition x v ≡ message_to o r.car (confirmation k m)) → confirmation_size ≤ length entry
    → exit ≡ splice 0 (octets_of (write_rules (message_of o.edition x b) (length entry))) entry → Writes confirmation_size (frame_to o r.car (confirmation k m)) entry exit
unfolding frame_to
writes_confirmation o r k m x b entry exit fine u l ex room e =
    let y : table.Message = message_to o r.car (confirmation k m) in
    record {
      octets =
          written_octets y entry (validate_cnf_writable o r.car (length entry) fine.address fine.car k m u l room) exit
          (e ∙ ap (λ (z : table.Message). splice 0 (octets_of (write_rules z (length entry))) entry) (ex b));
      size = length_frame y (full_message o.edition (ValidateCnf o.address k r.car m) no_beside whole_none (omega arith));
    }
