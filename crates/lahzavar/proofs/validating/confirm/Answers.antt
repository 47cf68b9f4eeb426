-- The record put back, and VALIDATE.CNF.
use Rattle.messages.specs.Answers.{message_of}
use Rattle.messages.specs.Reading.{yes, Beside}
use Rattle.messages.specs.Table as table
use Rattle.messages.specs.Writing as writing
use Rattle.rules.specs.Stations.{done}
use Rattle.rules.specs.declared.Configuration.{Configuration}
use Rattle.rules.specs.declared.Record.{Record}
use Rattle.rules.specs.Invariant.{GoodRecord}
use Rattle.rules.specs.Replies.{confirmation, message_to, frame_to}
use Rattle.ends.specs.declared.Indication.TheVariants.{Nothing}
use Rattle.ends.proofs.SendLaws.{writable_as}
use Rattle.station.proofs.SendLaws.{validate_cnf_writable}
use Rattle.words.specs.Words.{station_of}
use Rattle.lahzavar.proofs.FrameLaws.{comes_as, config_here}
use lib.ListN.{length, set}
use mathlib.Core.List.{[], ◌∷◌}
use mathlib.Core.Path.{◌≡◌, sym, ap, ap₂, ◌∙◌, subst}
use native.Mathlib.Omega.{arith}
use Rattle.lahzavar.proofs.validating.confirm.Goals as goal

pub sent-requires : goal.sent-requires
sent-requires c =
    let is-reply : (x : Beside) → message_of c.config_of-config.result.edition c.validate_cnf-message.result x ≡ message_to (station_of c.args.words.now c.args.sums.now c.args.spread.now).config c.args.car (confirmation 0 c.args.res) = λ x. let a = c.args in c.validate_cnf-message.ensures x ∙ ap (λ (o : Configuration). message_to o a.car (confirmation 0 a.res)) (config_here a.words.now a.sums.now a.spread.now a.car _ c.config_of-config.ensures) in
    let a = c.args in (
      subst (GoodRecord _) (sym c.owned-r.ensures) c.requires.1.0,
      writable_as _ _ (length a.out.now) (is-reply _)
          (validate_cnf_writable (station_of a.words.now a.sums.now a.spread.now).config a.car (length a.out.now) (c.requires.0.kept.config.address c.requires.0.good) c.requires.0.car 0 a.res (omega arith) c.requires.1.1 (omega (arith, c.requires.0.room))),
    )

pub returns : goal.returns
unfolding frame_to
returns c =
    let is-reply : (x : Beside) → message_of c.config_of-config.result.edition c.validate_cnf-message.result x ≡ message_to (station_of c.args.words.now c.args.sums.now c.args.spread.now).config c.args.car (confirmation 0 c.args.res) = λ x. let a = c.args in c.validate_cnf-message.ensures x ∙ ap (λ (o : Configuration). message_to o a.car (confirmation 0 a.res)) (config_here a.words.now a.sums.now a.spread.now a.car _ c.config_of-config.ensures) in
    let a = c.args in
    let s = station_of a.words.now a.sums.now a.spread.now in
    comes_as _ _ a.words.now a.sums.now a.spread.now a.out.now _ _ _ _ c.sent.result
    (ap₂ (λ (k : Record) (m : table.Message). yes (done s.state (set s.records a.i k) (writing.frame m ∷ []) Nothing)) c.owned-r.ensures (is-reply _))
    c.sent.ensures
