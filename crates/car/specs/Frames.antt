-- What a station's message does, as the code gives it.
use Rattle.std.specs.Prelude.{ℕ, List, Result, Ok, Err}
use Rattle.messages.specs.declared.Refusal.{Refusal}
use Rattle.messages.specs.Answers.{number_of}
use Rattle.messages.specs.Reading.{Checked, no, yes}
use Rattle.car_rules.specs.Frames as rule
use Rattle.car_rules.specs.Frames.{confirms, stays, gathers, repeats, joins}
use Rattle.car.specs.declared.frames.Effect.{Effect}
use Rattle.car.specs.declared.frames.Effect.TheVariants.{Confirms, Stays, Gathers, Repeats, Joins}

-- an effect, with the group values g beside it
abbrev pub effect_of : Effect → List ℕ → rule.Effect
effect_of Confirms g = confirms
effect_of Stays g = stays
effect_of (Gathers k) g = gathers k g
effect_of (Repeats k) g = repeats k
effect_of (Joins nid nmk) g = joins nid nmk

-- an answer, with the group values g beside it
abbrev pub effect_answer_of : Result Effect Refusal → List ℕ → Checked rule.Effect
effect_answer_of (Err x) g = no (number_of x)
effect_answer_of (Ok x) g = yes (effect_of x g)
