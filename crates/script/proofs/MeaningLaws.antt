-- What an event of the code is, from the test that its octets met.
use Rattle.std.proofs.Common.{◌≡◌, ℕ, Bool, true, false, List, refl}
use Rattle.std.specs.Bool.{then_some}
use Rattle.script.specs.declared.doing.Event.{Event}
use Rattle.script.specs.declared.car_doing.Event as car_code
use Rattle.script.specs.Events.{given}
use Rattle.script.specs.Meaning as station
use Rattle.script.specs.CarMeaning as car

module _ (t room : ℕ) (s : List ℕ) where
  pub station_given : (b : Bool) (x : Event) → station.event_in t room s (then_some b x) ≡ given b (station.event_as t room s x)
  station_given true x = refl
  station_given false x = refl

  pub car_given : (b : Bool) (x : car_code.Event) → car.event_in t room s (then_some b x) ≡ given b (car.event_as t room s x)
  car_given true x = refl
  car_given false x = refl
