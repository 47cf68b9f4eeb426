-- A frame is judged by the identity of the configuration alone.
use Prim.Native.Nat.{ℕ}
use mathlib.Core.Path.{◌≡◌, refl}
use mathlib.Core.Bool.{◌&&◌}
use mathlib.Core.List.{List}
use lib.Dec.{leb}
use Rattle.messages.specs.Reading.{Checked, no, yes, check, read_rules}
use Rattle.messages.specs.Table.{Message}
use Rattle.amplitude.specs.Reading as amplitude
use Rattle.amplitude.specs.Reading.{summary_of}
use Rattle.ends.specs.Outcomes.{and_then}
use Rattle.rules.specs.declared.Configuration.{Configuration}
use Rattle.rules.specs.Constants.{least_output}
use Rattle.rules.specs.Received.{parm_req, start, sound, profile, rsp, validate_first, validate_second, Request, for_record, match_req, map_req, Received, message_as, map_in, to_us, not_us}
use Rattle.receiving.specs.Judge.{asking, for_us_rule, judge_rule, map_judge_rule}
use Rattle.words.specs.Words.{identity}

-- whether a frame goes to us
to_us_lem : (o : Configuration) (d f : ℕ) (m : Request) → to_us (identity o) d f m ≡ to_us o d f m
to_us_lem o d f (for_record (parm_req run)) = refl
to_us_lem o d f (for_record (start run a)) = refl
to_us_lem o d f (for_record (sound run k)) = refl
to_us_lem o d f (for_record (profile g vs)) = refl
to_us_lem o d f (for_record (rsp run)) = refl
to_us_lem o d f (for_record validate_first) = refl
to_us_lem o d f (for_record (validate_second timer)) = refl
to_us_lem o d f (match_req run a b) = refl
to_us_lem o d f (map_req n) = refl

-- 7
for_us_lem : (o : Configuration) (x : Checked Received) → for_us_rule (identity o) x ≡ for_us_rule o x
for_us_lem o (no n) = refl
for_us_lem o (yes y) = λ i. check (to_us_lem o y.dst y.src y.request i && not_us o y.car) 7 (yes (asking y))

-- the eleven messages
pub judged_by_lem : (o : Configuration) (room : ℕ) (s : List ℕ) → judge_rule (identity o) room s ≡ judge_rule o room s
unfolding judge_rule
judged_by_lem o room s = λ i. check o.good 16 (check (leb least_output room) 15 (and_then (read_rules o.edition s) (λ (m : Message). for_us_lem o (message_as m) i)))

-- the messages of amplitude maps
pub map_judged_by : (o : Configuration) (s : List ℕ) → map_judge_rule (identity o) s ≡ map_judge_rule o s
unfolding map_judge_rule
map_judged_by o s = for_us_lem o (map_in (summary_of (amplitude.read_rules s)))
