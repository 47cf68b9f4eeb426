-- By the form that was found.
use Rattle.std.specs.Prelude.{Ok}
use mathlib.Core.Path.{sym}
use Rattle.messages.proofs.FrameLaws.{frame_reads, found}
use Rattle.messages.specs.Private.{kind_of, form_of}
use Rattle.messages.proofs.read.Goals as goal

pub body-requires : goal.body-requires
body-requires c =
    let f = found c.args.edition c.args.frame.now (record { kind = kind_of c.in_ok-form.form.kind; count = c.in_ok-form.form.count }) (sym c.in_ok-form.ensures) in
    (f.counts, f.filled)

pub returns : goal.returns
returns c = frame_reads c.args.edition c.args.frame.now c.body.result (form_of (Ok c.in_ok-form.form)) c.in_ok-form.ensures c.body.ensures
