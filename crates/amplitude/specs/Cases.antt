-- The proved table of the cases M1 to M5 and M7, and of the worked example of ISO 15118-3 with six carriers: octets, values and levels, and what must come out. (M6 is a station's.)
use Rattle.std.specs.Prelude.{ℕ, ◌-◌, ◌≡◌, List, [], ◌∷◌, ◌++◌, map, ℤ, pos, negsuc, replicate}
use Rattle.messages.specs.Reading.{Checked, no, yes}
use Rattle.amplitude.specs.Maps.{MapMessage, amp_map_req}
use Rattle.amplitude.specs.Reading.{read_rules}
use Rattle.amplitude.specs.Writing.{write_rules}
use Rattle.amplitude.specs.Reductions.{reduce_rules}

-- octets to read, a message to write, or values and levels to reduce by
pub data Question : Type 0 where
  reading : List ℕ → Question
  -- a message, and how long the output is
  writing : MapMessage → ℕ → Question
  -- values, levels, and how long the slice for the reductions is
  reducing : List ℕ → List ℤ → ℕ → Question

-- what comes out
pub data Result : Type 0 where
  reads : Checked MapMessage → Result
  gives : Checked (List ℕ) → Result

unfoldable pub result_of : Question → Result
result_of (reading s) = reads (read_rules s)
result_of (writing m n) = gives (write_rules m n)
result_of (reducing vs ls n) = gives (reduce_rules vs ls n)

-- a case: what is asked, and what must come out
pub record Row : Type 0 where
  pub asked : Question
  pub expected : Result

-- the level -n, for n above 0
abbrev minus : ℕ → ℤ
minus n = negsuc (n - 1)

-- the head of a REQ from the car 02:00:00:00:00:01 to the station 02:00:00:00:00:AA
abbrev req_head : List ℕ
req_head = 0x02 ∷ 0x00 ∷ 0x00 ∷ 0x00 ∷ 0x00 ∷ 0xAA ∷ 0x02 ∷ 0x00 ∷ 0x00 ∷ 0x00 ∷ 0x00 ∷ 0x01 ∷ 0x88 ∷ 0xE1 ∷ 0x01 ∷ 0x1C ∷ 0x60 ∷ 0x00 ∷ 0x00 ∷ []

-- such a REQ
abbrev req : List ℕ → MapMessage
req vs = amp_map_req 0x0200000000AA 0x020000000001 vs

-- M1 to M5, M7, and the example
unfoldable pub table : List Row
table =
    -- M1: a = 14: own -75 gives 3, own -77 gives 1
    record { asked = reducing (14 ∷ 14 ∷ []) (minus 75 ∷ minus 77 ∷ []) 2; expected = gives (yes (3 ∷ 1 ∷ [])) }
    -- M2: a = 0, own -50: 0; own 0: 50
    ∷ record { asked = reducing (0 ∷ 0 ∷ []) (minus 50 ∷ pos 0 ∷ []) 2; expected = gives (yes (0 ∷ 50 ∷ [])) }
    -- M3: n = 1: payload 3, frame of 60; its high half not zero: 6
    ∷ record { asked = writing (req (9 ∷ [])) 60; expected = gives (yes (req_head ++ (0x01 ∷ 0x00 ∷ 0x09 ∷ replicate 38 0x00))) }
    ∷ record { asked = reading (req_head ++ (0x01 ∷ 0x00 ∷ 0x09 ∷ [])); expected = reads (yes (req (9 ∷ []))) }
    ∷ record { asked = reading (req_head ++ (0x01 ∷ 0x00 ∷ 0x19 ∷ [])); expected = reads (no 6) }
    -- M4: n = 1,155: frame of 599 octets
    ∷ record { asked = writing (req (replicate 1155 3)) 599; expected = gives (yes (req_head ++ (0x83 ∷ 0x04 ∷ replicate 577 0x33 ++ (0x03 ∷ [])))) }
    ∷ record { asked = writing (req (replicate 1155 3)) 598; expected = gives (no 15) }
    -- M5: n = 0 and 1,156: 6, also cut behind the count; cut before it: 1
    ∷ record { asked = reading (req_head ++ (0x00 ∷ 0x00 ∷ replicate 39 0x00)); expected = reads (no 6) }
    ∷ record { asked = reading (req_head ++ (0x84 ∷ 0x04 ∷ [])); expected = reads (no 6) }
    ∷ record { asked = reading (req_head ++ (0x84 ∷ [])); expected = reads (no 1) }
    ∷ record { asked = writing (req []) 599; expected = gives (no 6) }
    ∷ record { asked = writing (req (replicate 1156 3)) 599; expected = gives (no 6) }
    -- M7: levels -129 and 1: 16; -128 and 0 are levels
    ∷ record { asked = reducing (0 ∷ []) (minus 129 ∷ []) 1; expected = gives (no 16) }
    ∷ record { asked = reducing (0 ∷ []) (pos 1 ∷ []) 1; expected = gives (no 16) }
    ∷ record { asked = reducing (0 ∷ 15 ∷ []) (minus 128 ∷ pos 0 ∷ []) 2; expected = gives (yes (0 ∷ 80 ∷ [])) }
    -- the example: at most -78 on carriers 2 and 3 of six, and our own levels; the reductions are 3 and 1
    ∷ record { asked = writing (req (0 ∷ 14 ∷ 14 ∷ 0 ∷ 0 ∷ 0 ∷ [])) 60; expected = gives (yes (req_head ++ (0x06 ∷ 0x00 ∷ 0xE0 ∷ 0x0E ∷ 0x00 ∷ replicate 36 0x00))) }
    ∷ record {
      asked = reducing (0 ∷ 14 ∷ 14 ∷ 0 ∷ 0 ∷ 0 ∷ []) (minus 75 ∷ minus 75 ∷ minus 77 ∷ minus 77 ∷ minus 75 ∷ minus 75 ∷ []) 6;
      expected = gives (yes (0 ∷ 3 ∷ 1 ∷ 0 ∷ 0 ∷ 0 ∷ []));
    }
    ∷ []

-- every row of the table comes out as it must
abbrev pub AllHold : Type 0
AllHold = map (λ (r : Row). result_of r.asked) table ≡ map (λ (r : Row). r.expected) table
