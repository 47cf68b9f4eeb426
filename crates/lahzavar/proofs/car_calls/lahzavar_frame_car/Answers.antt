-- `lahzavar_frame_car` meets its contract: the car is unpacked, stepped and stored.
use Rattle.lahzavar.proofs.CarLaws.{car_lent}
use Rattle.lahzavar.proofs.car_calls.lahzavar_frame_car.Goals as goal

pub frame-stepped-requires : goal.frame-stepped-requires
frame-stepped-requires c = c.unpack-car.ensures.1

pub settle-requires : goal.settle-requires
settle-requires c = c.frame-stepped.ensures.kept

pub returns : goal.returns
returns c = car_lent _ _ _ _ _ _ _ _ c.unpack-car.ensures.0 c.frame-stepped.ensures c.settle.ensures
