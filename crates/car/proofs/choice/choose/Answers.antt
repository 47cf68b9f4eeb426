-- `car::choice::choose` meets its contract: the chosen station is unicast.
use Rattle.car.proofs.ChoiceLaws.{choice_least}
use Rattle.car.proofs.choice.choose.Goals as goal

pub decide-requires : goal.decide-requires
decide-requires c = (c.requires.0, (choice_least c.args.car c.in-Some.report c.in-Some.ensures c.requires.1.stations).1)
