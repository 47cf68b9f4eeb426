-- The clock: "a free-running 32-bit millisecond counter that wraps".
use Rattle.std.specs.Prelude.{ℕ, ◌+◌, ◌-◌, ◌%◌, ◌^◌, Bool, nat_le}
use Rattle.messages.specs.Reading.{Checked, yes, check}
use Rattle.ends.specs.Constants.{longest_gap}

-- "the new reading less the last, modulo 2^32"
abbrev pub elapsed : ℕ → ℕ → ℕ
elapsed reading last = (reading + 2 ^ 32 - last) % 2 ^ 32

-- a tick's elapsed time: 16, 15 where the room is less than the least, 14
unfoldable pub tick_time : Bool → ℕ → ℕ → ℕ → ℕ → Checked ℕ
tick_time good least room reading last =
    check good 16
    (check (nat_le least room) 15
    (check (nat_le (elapsed reading last) longest_gap) 14
    (yes (elapsed reading last))))
