-- The record anew, and PARM.CNF.
use Prim.Native.Nat.{◌^◌, ◌<◌}
use Rattle.messages.specs.Answers.{message_of}
use Rattle.messages.specs.Reading.{yes, Beside}
use Rattle.messages.specs.Table as table
use Rattle.messages.specs.Writing as writing
use Rattle.rules.specs.Replies.{frame_to}
use Rattle.rules.specs.Stations.{done}
use Rattle.rules.specs.declared.Configuration.{Configuration}
use Rattle.ends.specs.declared.Indication.TheVariants.{Nothing}
use Rattle.words.specs.Words.{station_of}
use lib.ListN.{length, set}
use mathlib.Core.List.{[], ◌∷◌}
use Rattle.rules.specs.declared.Record.{Record}
use Rattle.rules.specs.Records.{owned, fresh}
use Rattle.rules.specs.Replies.{parm_cnf, message_to}
use Rattle.rules.specs.Invariant.{GoodRecord}
use Rattle.ends.proofs.SendLaws.{writable_as}
use Rattle.station.proofs.SendLaws.{parm_cnf_writable}
use Rattle.rules.proofs.InvariantKept.{fresh_good}
use Rattle.lahzavar.proofs.FrameLaws.{comes_as, config_here}
use mathlib.Core.Path.{◌≡◌, sym, ap, ap₂, ◌∙◌, subst}
use borrow.Author.Rules.{rules}
use Rattle.lahzavar.proofs.frames.admit.Goals as goal

-- the run is a 64-bit number
run_fits : (c : goal.After-sent-arg-4-1) → c.args.run.0 < 2 ^ 64
run_fits c = search rules

pub sent-requires : goal.sent-requires
sent-requires c =
    let is-reply : (b : Beside) → message_of c.config_of-config.result.edition c.parm_cnf-message.result b ≡ message_to (station_of c.args.words.now c.args.sums.now c.args.spread.now).config c.args.car (parm_cnf c.args.later c.args.run) = λ b. let a = c.args in c.parm_cnf-message.ensures b ∙ ap (λ (o : Configuration). message_to o a.car (parm_cnf a.later a.run)) (config_here a.words.now a.sums.now a.spread.now a.car _ c.config_of-config.ensures) in
    let is-fresh : c.owned-r.result ≡ owned c.args.car (fresh c.args.later c.args.car c.args.run) = c.owned-r.ensures ∙ ap (owned c.args.car) c.fresh.ensures in
    let a = c.args in (
      subst (GoodRecord _) (sym is-fresh) (fresh_good _ a.later a.car a.run c.requires.1 c.requires.0.car),
      writable_as _ _ (length a.out.now) (is-reply _)
          (parm_cnf_writable (station_of a.words.now a.sums.now a.spread.now).config a.car (length a.out.now) (c.requires.0.kept.config.address c.requires.0.good) c.requires.0.car a.later a.run (run_fits c) c.requires.0.room),
    )

pub returns : goal.returns
unfolding frame_to
returns c =
    let is-reply : (b : Beside) → message_of c.config_of-config.result.edition c.parm_cnf-message.result b ≡ message_to (station_of c.args.words.now c.args.sums.now c.args.spread.now).config c.args.car (parm_cnf c.args.later c.args.run) = λ b. let a = c.args in c.parm_cnf-message.ensures b ∙ ap (λ (o : Configuration). message_to o a.car (parm_cnf a.later a.run)) (config_here a.words.now a.sums.now a.spread.now a.car _ c.config_of-config.ensures) in
    let is-fresh : c.owned-r.result ≡ owned c.args.car (fresh c.args.later c.args.car c.args.run) = c.owned-r.ensures ∙ ap (owned c.args.car) c.fresh.ensures in
    let a = c.args in
    let s = station_of a.words.now a.sums.now a.spread.now in
    comes_as _ _ a.words.now a.sums.now a.spread.now a.out.now _ _ _ _ c.sent.result
    (ap₂ (λ (k : Record) (m : table.Message). yes (done s.state (set s.records a.i k) (writing.frame m ∷ []) Nothing)) is-fresh (is-reply _))
    c.sent.ensures
