-- The three numbers one after another.
use Rattle.session_log.specs.Private.{settings_start, settings_of}
use Rattle.session_log.proofs.PutLaws.{numbers_stored}
use Rattle.session_log.proofs.writer.put_settings.Goals as goal

pub returns : goal.returns
returns c =
    let a = c.args in
    rw (c.put_number-3.ensures, c.put_number-2.ensures, c.put_number.ensures)
    (numbers_stored (settings_of a.configuration) a.out.now settings_start)
