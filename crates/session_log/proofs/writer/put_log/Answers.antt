-- The four parts one after another.
use mathlib.Core.Path.{sym}
use Rattle.session_log.specs.Writing.{given_in}
use Rattle.session_log.proofs.WriteLaws.{facts}
use Rattle.session_log.proofs.PutLaws.{start_found, end_found, events_fitting, replies_fitting, log_stored}
use Rattle.session_log.proofs.writer.put_log.Goals as goal

pub put_items-requires : goal.put_items-requires
put_items-requires c =
    let a = c.args in
    let g = given_in a.session in
    events_fitting g (facts g a.out.now (sym c.requires))

pub put_items-requires-2 : goal.put_items-requires-2
put_items-requires-2 c =
    let a = c.args in
    let g = given_in a.session in
    let right = facts g a.out.now (sym c.requires) in
    replies_fitting g right (start_found g right c.end_of-start.ensures)

pub returns : goal.returns
returns c =
    let a = c.args in
    let g = given_in a.session in
    let right = facts g a.out.now (sym c.requires) in
    let start = c.end_of-start.ensures in
    rw (c.put_items-2.ensures, c.put_items.ensures, c.put_configuration.ensures, c.put_head.ensures)
    (log_stored g right a.out.now (start_found g right start) (end_found g right start c.end_of-total.ensures))
