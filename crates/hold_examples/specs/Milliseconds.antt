-- How near a car comes to the longest hold with a tick each millisecond, "at e = 1": computed examples, in both editions.
use Rattle.std.specs.Prelude.{true, false, [], ◌∷◌}
use Rattle.messages.specs.declared.Edition.TheVariants.{Iso, Sae}
use Rattle.rules.specs.declared.Pilot.TheVariants.{B}
use Rattle.rules.specs.Calls.{pilot}
use Rattle.rules.specs.Exceptions.{request}
use Rattle.rules.specs.HoldExamples.{slow, NearLimit}

-- 6 ms short of the limits, 1 ms for each of the times that pass
pub record Milliseconds : Type 0 where
  pub iso : NearLimit 1 Iso (pilot B 0 ∷ []) (slow Iso false) false 6
  pub sae_first : NearLimit 1 Sae (pilot B 0 ∷ []) (slow Sae false) false 6
  pub sae_later : NearLimit 1 Sae (pilot B 0 ∷ request 1 ∷ []) (slow Sae true) false 6
