-- A tick's elapsed time: the order of its refusals.
use Rattle.std.proofs.Common.{◌≡◌, ℕ, ◌<◌, ◌≤◌, Bool, true, false, leb, sym, ap, ◌∙◌, le-leb, leb-true}
use borrow.Author.Tests.{lt-leb}
use Rattle.messages.specs.Reading.{no, yes}
use Rattle.messages.proofs.CheckLaws.{pass, fail, passed}
use Rattle.ends.specs.Constants.{longest_gap}
use Rattle.ends.specs.Clock.{elapsed, tick_time}

module _ (good : Bool) (least room reading last : ℕ) where
  -- 16
  pub time_bad : good ≡ false → no 16 ≡ tick_time good least room reading last
  unfolding tick_time
  time_bad g = sym (fail good 16 _ g)

  module _ (g : good ≡ true) where
    -- 15
    pub time_short : room < least → no 15 ≡ tick_time good least room reading last
    unfolding tick_time
    time_short h = sym (pass good 16 _ g ∙ fail (leb least room) 15 _ (lt-leb least room h))

    module _ (r : least ≤ room) (e : ℕ) (ee : e ≡ elapsed reading last) where
      -- 14
      pub time_gap : longest_gap < e → no 14 ≡ tick_time good least room reading last
      unfolding tick_time
      time_gap h =
          let k : leb (elapsed reading last) longest_gap ≡ false = ap (λ (n : ℕ). leb n longest_gap) (sym ee) ∙ lt-leb e longest_gap h in
          sym (pass good 16 _ g ∙ pass (leb least room) 15 _ (le-leb least room r) ∙ fail (leb (elapsed reading last) longest_gap) 14 _ k)

      -- none of the three
      pub time_taken : e ≤ longest_gap → yes e ≡ tick_time good least room reading last
      unfolding tick_time
      time_taken h =
          let k : leb (elapsed reading last) longest_gap ≡ true = ap (λ (n : ℕ). leb n longest_gap) (sym ee) ∙ le-leb e longest_gap h in
          sym (pass good 16 _ g ∙ pass (leb least room) 15 _ (le-leb least room r) ∙ pass (leb (elapsed reading last) longest_gap) 14 _ k ∙ ap yes (sym ee))

  -- where a time is given, the configuration is good and there is room
  pub time_open : (e : ℕ) → yes e ≡ tick_time good least room reading last → (good ≡ true) × (least ≤ room)
  unfolding tick_time
  time_open e h =
      let g = passed good 16 _ e (sym h) in
      (g.0, leb-true least room (passed (leb least room) 15 _ e g.1).0)
