-- What a request can hold that was read from octets, in an edition.
use Rattle.std.specs.Prelude.{ℕ, ◌<◌, ◌≤◌, ◌≡◌, true, List, length, get_or}
use Rattle.octets.specs.Octets.{Octets}
use Rattle.messages.specs.declared.Edition.{Edition}
use Rattle.messages.specs.Layout.{zeros}
use Rattle.messages.specs.Table.{id_octets, any_id, is_count}
use Rattle.rules.specs.Received.{parm_req, start, sound, profile, rsp, validate_first, validate_second, Request, for_record, match_req, map_req}

-- a group count that is right, with values that are octets; those past the count are zero
pub record CountedValues (e : Edition) (g : ℕ) (vs : List ℕ) : Type 0 where
  pub count : is_count e g ≡ true
  pub octets : Octets vs
  pub past : (i : ℕ) → g ≤ i → get_or vs i 0 ≡ 0

-- an identifier
pub record IsId (e : Edition) (a : List ℕ) : Type 0 where
  pub long : length a ≡ id_octets
  pub right : zeros (any_id e) a 0 id_octets ≡ true

module _ (P : ℕ → List ℕ → Type 0) (Q : ℕ → Type 0) (R : List ℕ → List ℕ → Type 0) where
  -- P of a profile's count and values, Q of a timer, R of the two identifiers
  abbrev pub Holds : Request → Type 0
  Holds (for_record (parm_req run)) = Unit {0}
  Holds (for_record (start run a)) = Unit {0}
  Holds (for_record (sound run k)) = Unit {0}
  Holds (for_record (profile g vs)) = P g vs
  Holds (for_record (rsp run)) = Unit {0}
  Holds (for_record validate_first) = Unit {0}
  Holds (for_record (validate_second timer)) = Q timer
  Holds (match_req run a b) = R a b
  Holds (map_req n) = Unit {0}

-- a request that octets can ask for
abbrev pub OctetRequest : Edition → Request → Type 0
OctetRequest e m = Holds (CountedValues e) (λ (t : ℕ). t < 256) (λ (a b : List ℕ). IsId e a × IsId e b) m
