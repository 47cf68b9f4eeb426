-- `lahzavar_terminate_car` meets its contract: the car is unpacked, stepped and stored.
use Rattle.lahzavar.proofs.CarLaws.{car_lent}
use Rattle.lahzavar.proofs.car_calls.lahzavar_terminate_car.Goals as goal

pub terminate-stepped-requires : goal.terminate-stepped-requires
terminate-stepped-requires c = c.unpack-car.ensures.1

pub settle-requires : goal.settle-requires
settle-requires c = c.terminate-stepped.ensures.kept

pub returns : goal.returns
returns c = car_lent _ _ _ _ _ _ _ _ c.unpack-car.ensures.0 c.terminate-stepped.ensures c.settle.ensures
