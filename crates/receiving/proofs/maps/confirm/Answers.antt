-- What was written is told.
use lib.ListN.{length}
use Rattle.amplitude.specs.Writing.{write_rules}
use Rattle.ends.proofs.SendLaws.{says_written}
use Rattle.receiving.specs.Maps.{confirmation}
use Rattle.receiving.proofs.maps.confirm.Goals as goal

pub returns : goal.returns
returns c =
    let a = c.args in
    says_written (write_rules (confirmation a.config a.car) (length a.out.now)) _ _ _ c.write_cnf-written.result c.told.result c.write_cnf-written.ensures.result_value c.write_cnf-written.ensures.out_after c.told.ensures
