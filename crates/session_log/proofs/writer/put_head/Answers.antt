-- The five numbers one after another.
use mathlib.Core.List.{[], ◌∷◌}
use Rattle.session_log.specs.Layout.{events_start}
use Rattle.session_log.proofs.PutLaws.{numbers_stored}
use Rattle.session_log.proofs.writer.put_head.Goals as goal

pub returns : goal.returns
returns c =
    let a = c.args in
    rw (c.put_number-5.ensures, c.put_number-4.ensures, c.put_number-3.ensures, c.put_number-2.ensures, c.put_number.ensures)
    (numbers_stored (a.events ∷ a.replies ∷ events_start ∷ a.start ∷ a.total ∷ []) a.out.now 0)
