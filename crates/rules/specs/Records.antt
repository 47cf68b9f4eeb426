-- Records: whose they are, which are free, and how one is put back.
use Rattle.std.specs.Prelude.{ℕ, ◌+◌, min, max, Bool, true, false, not, cond, ◌&&◌, ◌||◌, List, [], ◌∷◌, eqb, length, replicate}
use Rattle.messages.specs.declared.CarAddress.{CarAddress}
use Rattle.messages.specs.declared.Edition.{Edition}
use Rattle.messages.specs.declared.Edition.TheVariants.{Iso, Sae}
use Rattle.messages.specs.declared.RunId.{RunId}
use Rattle.messages.specs.Table.{group_count}
use Rattle.rules.specs.declared.Phase.{Phase}
use Rattle.rules.specs.declared.Phase.TheVariants.{Asked, Reported}
use Rattle.rules.specs.declared.Record.{Record}
use Rattle.rules.specs.declared.Spread.{Spread}
use Rattle.rules.specs.Constants.{asked_time, reported_time}
use Rattle.ends.specs.Lists.{only}

-- two cars with one address
unfoldable pub same_car : CarAddress → CarAddress → Bool
same_car c d = eqb c.0 d.0

-- two equal RunIDs
unfoldable pub same_run : RunId → RunId → Bool
same_run a b = eqb a.0 b.0

-- "a run of eight zero octets"
unfoldable pub is_empty : RunId → Bool
is_empty run = eqb run.0 0

-- a record that a car holds
unfoldable pub is_held : Record → Bool
is_held r = r.held

-- a record that no car holds
abbrev pub is_free : Record → Bool
is_free r = not (is_held r)

-- a "held one with its address"
unfoldable pub holds : CarAddress → Record → Bool
holds c r = is_held r && same_car c r.car

-- "its record": the records that car c holds (never two)
abbrev pub mine : CarAddress → List Record → List Record
mine c rs = only (holds c) rs

-- how many records are free
abbrev pub free_places : List Record → ℕ
free_places rs = length (only is_free rs)

-- "no record is held"
abbrev pub none_held : List Record → Bool
none_held rs = eqb (length (only is_held rs)) 0

-- the record as car c's own, and held
unfoldable pub owned : CarAddress → Record → Record
owned c r = record { car = c; run = r.run; held = true; phase = r.phase; heard = r.heard; profiles = r.profiles; sums = r.sums; spread = r.spread; later = r.later; groups = r.groups }

-- "record freed"
unfoldable pub freed : Record → Record
freed r = record { car = r.car; run = r.run; held = false; phase = r.phase; heard = r.heard; profiles = r.profiles; sums = r.sums; spread = r.spread; later = r.later; groups = r.groups }

-- the record n for the one that car c holds
unfoldable pub update : CarAddress → Record → List Record → List Record
update c n [] = []
update c n (r ∷ rs) = cond (holds c r) (n ∷ rs) (r ∷ update c n rs)

-- the record n for "the first free record"
unfoldable pub insert : Record → List Record → List Record
insert n [] = []
insert n (r ∷ rs) = cond (is_held r) (r ∷ insert n rs) (n ∷ rs)

-- sums of no profile
unfoldable pub no_sums : List ℕ
no_sums = replicate group_count 0

-- "255 as the least and 0 as the greatest value of every group"
unfoldable pub no_spread : Spread
no_spread = record { least = replicate group_count 255; greatest = replicate group_count 0 }

-- "phase Asked, 400; the request's run taken; sums, set and count zero", the spread and the group count cleared, in a first or a later try
unfoldable pub fresh : Bool → CarAddress → RunId → Record
fresh later c run = record { car = c; run = run; held = true; phase = Asked asked_time; heard = 0; profiles = 0; sums = no_sums; spread = no_spread; later = later; groups = 0 }

-- the record in another phase
unfoldable pub in_phase : Phase → Record → Record
in_phase p r = record { car = r.car; run = r.run; held = r.held; phase = p; heard = r.heard; profiles = r.profiles; sums = r.sums; spread = r.spread; later = r.later; groups = r.groups }

-- "Reported, 200", with so many retries left
abbrev pub reported : ℕ → Record → Record
reported n r = in_phase (Reported reported_time n) r

-- the record with another set of sound counts
unfoldable pub with_heard : ℕ → Record → Record
with_heard h r = record { car = r.car; run = r.run; held = r.held; phase = r.phase; heard = h; profiles = r.profiles; sums = r.sums; spread = r.spread; later = r.later; groups = r.groups }

-- each group's value put together with what the group has
unfoldable pub merged : (ℕ → ℕ → ℕ) → List ℕ → List ℕ → List ℕ
merged f [] vs = []
merged f (x ∷ xs) [] = x ∷ xs
merged f (x ∷ xs) (v ∷ vs) = f x v ∷ merged f xs vs

-- "values added": each group's value to its sum
abbrev pub added : List ℕ → List ℕ → List ℕ
added sums vs = merged ◌+◌ sums vs

-- "lowers the least and raises the greatest of each group where its value is lower or higher"
unfoldable pub widened : List ℕ → Spread → Spread
widened vs x = record { least = merged min x.least vs; greatest = merged max x.greatest vs }

-- ---- the group count of a record, 0 for none

-- "the first since the request fixes the record's group count, one that differs is 23"
unfoldable pub fits_groups : ℕ → ℕ → Bool
fits_groups g count = eqb count 0 || eqb g count

-- the group count of a record that counts a profile of g groups: with ISO none, always
abbrev pub groups_kept : Edition → ℕ → ℕ
groups_kept Iso g = 0
groups_kept Sae g = g

-- how many groups a record has values of: with ISO all
abbrev pub groups_in : Edition → ℕ → ℕ
groups_in Iso count = group_count
groups_in Sae count = count

-- "values added, one more counted", the spread widened, and the group count kept
unfoldable pub counted : ℕ → List ℕ → Record → Record
counted g vs r = record { car = r.car; run = r.run; held = r.held; phase = r.phase; heard = r.heard; profiles = r.profiles + 1; sums = added r.sums vs; spread = widened vs r.spread; later = r.later; groups = g }
