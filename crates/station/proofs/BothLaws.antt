-- Reports and confirmations of one tick: each record sends at most one of both, so there is room for all, one sort behind the other.
use Prim.Native.Nat.{ℕ, ◌+◌, ◌*◌, ◌-◌, ◌≤◌}
use mathlib.Core.Path.{◌≡◌, sym, ap, ◌∙◌}
use mathlib.Core.Bool.{Bool}
use mathlib.Core.List.{List, [], ◌∷◌, ◌++◌}
use native.Mathlib.Omega.{arith}
use lib.ListN.{length, take, drop, length-append, length-map, length-take, length-drop}
use borrow.Rule.Slice.PartMut.{put_mid, same_len_mid}
use Rattle.octets.specs.Octets.{splice}
use Rattle.rules.specs.declared.Configuration.{Configuration}
use Rattle.rules.specs.declared.Record.{Record}
use Rattle.ends.specs.Lists.{only, joins}
use Rattle.ends.specs.Outcomes.{joined}
use Rattle.rules.specs.Replies.{Reply, is_report, is_confirmation, frame_to}
use Rattle.rules.specs.Ticks.{tick_frames, frames_of_all, all_frames}
use Rattle.ends.proofs.ListLaws.{joins_append}
use Rattle.records.specs.Timers.{tick_replies}
use Rattle.records.proofs.TimerLaws.{sends_tick, frames_sent}
use Rattle.station.specs.Reports.{report_size, confirmation_size, Ready, Sent, Confirmable, Confirms}
use Rattle.station.proofs.SpliceLaws.{splice_lent, splice_then}

module _ (o : Configuration) (b : Bool) (e : ℕ) where
  -- as many frames of one sort as replies
  sort_length : (p : Reply → Bool) (r : Record) → length (tick_frames p o b e r) ≡ length (only p (tick_replies b e r))
  sort_length p r = ap length (frames_sent p o b e r) ∙ length-map (only p (tick_replies b e r)) (frame_to o r.car)

  -- of both sorts, at most one of each record
  pub both_few : (rs : List Record) → length (frames_of_all is_report o b e rs) + length (frames_of_all is_confirmation o b e rs) ≤ length rs
  unfolding joins
  both_few [] = omega arith
  both_few (r ∷ rs) = omega (
    arith,
    both_few rs,
    sort_length is_report r,
    sort_length is_confirmation r,
    (sends_tick b e r).one,
    length-append (tick_frames is_report o b e r) (frames_of_all is_report o b e rs),
    length-append (tick_frames is_confirmation o b e r) (frames_of_all is_confirmation o b e rs),
  )

  pub reports_few : (rs : List Record) → length (frames_of_all is_report o b e rs) ≤ length rs
  reports_few rs = omega (arith, both_few rs)

-- the reports are written, k of them, of m octets in all
module _ (o : Configuration) (b : Bool) (e : ℕ) (rs : List Record) (entry out : List ℕ) (k m : ℕ) (ready : Ready o rs entry) (w : Sent (frames_of_all is_report o b e rs) entry out k m) (few : m ≤ report_size * k) (long : length out ≡ length entry) where
  -- they fit
  pub from_fits : m ≤ length out
  from_fits = omega (arith, w.count, reports_few o b e rs, ready.room)

  -- and the confirmations fit behind them
  pub confirmable : Confirmable o b e rs (take (length out - m) (drop m out))
  confirmable = record {
    address = ready.address;
    good = ready.good;
    room = simp (length-take, length-drop) (omega (arith, w.count, both_few o b e rs, ready.room));
  }

  -- the confirmations are written behind them, n of them
  module _ (ys : List ℕ) (n : ℕ) (v : Confirms o b e rs (take (length out - m) (drop m out)) ys n) where
    -- so many frames in all
    pub both_count : k + n ≡ length (all_frames o b e rs)
    unfolding all_frames
    both_count = omega (arith, w.count, v.count, length-append (frames_of_all is_report o b e rs) (frames_of_all is_confirmation o b e rs))

    pub both_most : k + n ≤ length rs
    both_most = omega (arith, w.count, v.count, both_few o b e rs)

    -- back to back
    both_joined : joined (all_frames o b e rs) ≡ joined (frames_of_all is_report o b e rs) ++ joined (frames_of_all is_confirmation o b e rs)
    unfolding all_frames
    both_joined = joins_append (λ (f : List ℕ). f) (frames_of_all is_report o b e rs) (frames_of_all is_confirmation o b e rs)

    pub both_size : m + confirmation_size * n ≡ length (joined (all_frames o b e rs))
    both_size = omega (arith, w.size, v.size, ap length both_joined, length-append (joined (frames_of_all is_report o b e rs)) (joined (frames_of_all is_confirmation o b e rs)))

    pub both_long : length ys ≡ length (take (length out - m) (drop m out)) → length (put_mid m (length out - m) out ys) ≡ length entry
    both_long len = same_len_mid m (length out - m) out ys len ∙ long

    pub both_octets : put_mid m (length out - m) out ys ≡ splice 0 (joined (all_frames o b e rs)) entry
    both_octets =
        splice_then entry out _ (joined (frames_of_all is_report o b e rs)) (joined (frames_of_all is_confirmation o b e rs)) 0 m (omega (arith, w.size)) (omega arith) w.octets
        (splice_lent out (joined (frames_of_all is_confirmation o b e rs)) ys m from_fits v.octets)
        ∙ ap (λ (x : List ℕ). splice 0 x entry) (sym both_joined)
