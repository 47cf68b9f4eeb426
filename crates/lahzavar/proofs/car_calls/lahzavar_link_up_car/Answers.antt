-- `lahzavar_link_up_car` meets its contract: the car is unpacked, stepped and stored.
use Rattle.lahzavar.proofs.CarLaws.{car_lent}
use Rattle.lahzavar.proofs.car_calls.lahzavar_link_up_car.Goals as goal

pub link_up-stepped-requires : goal.link_up-stepped-requires
link_up-stepped-requires c = c.unpack-car.ensures.1

pub settle-requires : goal.settle-requires
settle-requires c = c.link_up-stepped.ensures.kept

pub returns : goal.returns
returns c = car_lent _ _ _ _ _ _ _ _ c.unpack-car.ensures.0 c.link_up-stepped.ensures c.settle.ensures
