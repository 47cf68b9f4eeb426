-- `lahzavar_start_car` meets its contract: the car is unpacked, stepped and stored.
use Rattle.lahzavar.proofs.CarLaws.{car_lent}
use Rattle.lahzavar.proofs.car_calls.lahzavar_start_car.Goals as goal

pub start-stepped-requires : goal.start-stepped-requires
start-stepped-requires c = c.unpack-car.ensures.1

pub settle-requires : goal.settle-requires
settle-requires c = c.start-stepped.ensures.kept

pub returns : goal.returns
returns c = car_lent _ _ _ _ _ _ _ _ c.unpack-car.ensures.0 c.start-stepped.ensures c.settle.ensures
