-- `car_words::reports::report_at` meets its contract: the report of its words, read field by field.
use Rattle.car_words.proofs.ReportWords.{place, read_is}
use mathlib.Core.Path.{refl}
use Rattle.car_words.proofs.reports.report_at.Goals as goal

pub returns : goal.returns
returns c = read_is c.args.words.now (place c.args.i) _ refl refl
