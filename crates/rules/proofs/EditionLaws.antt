-- The edition of a station: frames are read in it, and no call changes it.
use Prim.Native.Nat.{ℕ}
use mathlib.Core.Path.{◌≡◌, ◌∙◌, ap, subst}
use mathlib.Core.List.{List}
use Rattle.messages.specs.declared.Edition.{Edition}
use Rattle.rules.specs.declared.Configuration.{Configuration}
use Rattle.rules.specs.declared.Station.{Station}
use Rattle.rules.specs.Calls.{Call}
use Rattle.rules.specs.Stations.{shared}
use Rattle.rules.specs.Received.{received}
use Rattle.rules.specs.Frames.{admitted}
use Rattle.rules.specs.Rules.{step, after}
use Rattle.ends.proofs.Logic.{OnYes}
use Rattle.rules.proofs.ReceivedLaws.{FrameAs, read_as}
use Rattle.rules.proofs.Always.{after_all}
use Rattle.rules.proofs.InvariantKept.{config_same}

module _ (e : Edition) where
  -- what a station of this edition receives is what the octets say in this edition
  pub read_in : (o : Configuration) → o.edition ≡ e → (room : ℕ) (s : List ℕ) → OnYes (FrameAs e s) (admitted o room (received o.edition s))
  read_in o q room s = subst (λ (d : Edition). OnYes (FrameAs d s) (admitted o room (received o.edition s))) q (read_as o.edition o room s)

  pub edition_step : (s : Station) (x : Call) → s.config.edition ≡ e → (step s x).config.edition ≡ e
  unfolding step
  edition_step s x q = ap (λ (o : Configuration). o.edition) (config_same (shared s) x) ∙ q

  pub edition_after : (s : Station) (xs : List Call) → s.config.edition ≡ e → (after s xs).config.edition ≡ e
  edition_after = after_all (λ (s : Station). s.config.edition ≡ e) edition_step
