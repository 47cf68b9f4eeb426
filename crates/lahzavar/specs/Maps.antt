-- Amplitude maps: the answers as plain numbers, and what the calls promise.
use Rattle.std.specs.Prelude.{ℕ, ◌^◌, ◌%◌, ◌≡◌, List}
use Rattle.octets.specs.Octets.{splice}
use Rattle.messages.specs.Reading.{Checked, no, yes}
use Rattle.messages.specs.Writing.{length_of, octets_of}
use Rattle.amplitude.specs.Maps.{req_type, cnf_type}
use Rattle.amplitude.specs.Reading.{Summary, requested, confirmed}
use Rattle.lahzavar.specs.declared.map_calls.Counted.{Counted}
use Rattle.lahzavar.specs.declared.map_calls.MapRead.{MapRead}

-- a refusal's number and nothing else, or 0 with the type, destination and source, a request's carriers and a confirmation's result; 32 binary digits hold all carriers (`carriers_exact`)
abbrev pub map_read_as : Checked Summary → MapRead
map_read_as (no n) = record { refusal = n; kind = 0; receiver = 0; sender = 0; carriers = 0; result = 0 }
map_read_as (yes (requested d f n)) = record { refusal = 0; kind = req_type; receiver = d; sender = f; carriers = n % 2 ^ 32; result = 0 }
map_read_as (yes (confirmed d f x)) = record { refusal = 0; kind = cnf_type; receiver = d; sender = f; carriers = 0; result = x }

-- a refusal's number, or 0 with how many places were filled; 32 binary digits hold all of it (`values_exact`, `write_exact`, `reduce_exact`)
abbrev pub counted_as : Checked ℕ → Counted
counted_as (no n) = record { refusal = n; count = 0 }
counted_as (yes n) = record { refusal = 0; count = n % 2 ^ 32 }

-- the whole promise of a call that fills a lent slice from its first place, by its rule
pub record Fills (x : Checked (List ℕ)) (entry exit : List ℕ) (r : Counted) : Type 0 where
  pub answer : r ≡ counted_as (length_of x)
  pub octets : exit ≡ splice 0 (octets_of x) entry
