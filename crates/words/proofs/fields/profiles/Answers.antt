-- `words::fields::profiles` meets its contract, by the phase.
use Prim.Native.Nat.{◌-◌, min}
use mathlib.Core.Path.{sym, ap, ◌∙◌}
use native.Mathlib.Omega.{arith}
use Rattle.rules.proofs.TryLaws.{some_sounds}
use Rattle.words.specs.Words.{profiles_of}
use borrow.Author.Rules.{rules}
use Rattle.words.proofs.fields.profiles.Goals as goal

pub overflow_sub-most : goal.overflow_sub-most
overflow_sub-most c = let a = c.args in omega (arith, c.sounds-most.ensures, some_sounds a.edition a.later)

pub returns-in-Asked : goal.returns-in-Asked
unfolding profiles_of
returns-in-Asked c = let a = c.args in sym (ap (λ q. profiles_of a.edition a.later q a.word) c.in-Asked.is)

pub returns-in-Sounding : goal.returns-in-Sounding
unfolding profiles_of
returns-in-Sounding c =
    let a = c.args in
    c.at_most_count.ensures ∙ ap (λ m. min (m - 1) a.word) c.sounds-most.ensures ∙ sym (ap (λ q. profiles_of a.edition a.later q a.word) c.in-Sounding.is)

pub returns-in_default : goal.returns-in_default
unfolding profiles_of
returns-in_default c = search rules
