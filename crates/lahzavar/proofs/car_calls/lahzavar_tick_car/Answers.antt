-- `lahzavar_tick_car` meets its contract: the car is unpacked, stepped and stored.
use Rattle.lahzavar.proofs.CarLaws.{car_lent}
use Rattle.lahzavar.proofs.car_calls.lahzavar_tick_car.Goals as goal

pub tick-stepped-requires : goal.tick-stepped-requires
tick-stepped-requires c = c.unpack-car.ensures.1

pub settle-requires : goal.settle-requires
settle-requires c = c.tick-stepped.ensures.kept

pub returns : goal.returns
returns c = car_lent _ _ _ _ _ _ _ _ c.unpack-car.ensures.0 c.tick-stepped.ensures c.settle.ensures
