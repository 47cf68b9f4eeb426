-- The numbers one after another.
use Rattle.messages.proofs.WriteLaws.{store_encode}
use Rattle.session_log.specs.Layout.{head_octets, fields, values_of}
use Rattle.session_log.specs.Private.{settings_start, settings_of}
use Rattle.session_log.proofs.PutLaws.{numbers_stored}
use Rattle.session_log.proofs.writer.put_configuration.Goals as goal

pub returns : goal.returns
returns c =
    let a = c.args in
    rw (c.put_settings.ensures, ← numbers_stored (settings_of a.configuration) _ settings_start, c.put_number-4.ensures, c.put_number-3.ensures, c.put_low_number.ensures, c.put_number-2.ensures, c.put_number.ensures)
    (store_encode fields (values_of a.configuration) head_octets a.out.now tt)
