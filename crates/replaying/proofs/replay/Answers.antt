-- By what reading answered.
use Rattle.std.proofs.lemmas.Result.{err_from_is_err_and}
use Rattle.replaying.proofs.ReadLaws.{refused_answer}
use Rattle.replaying.proofs.replay.Goals as goal

pub returns-in_err-places : goal.returns-in_err-places
returns-in_err-places c =
    let p = err_from_is_err_and c.from_residual.result c.from_residual.ensures.1 in
    rw (p.1, p.2) (refused_answer c.args.log.now _ c.in_err-places.ensures)
