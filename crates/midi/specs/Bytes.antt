-- The classes of MIDI bytes, and the rules of document 01 that look at a status alone.
use Rattle.std.specs.Prelude.{ℕ, Bool, ◌&&◌, ◌||◌, leb, eqb}

-- one of low to high, both ends included
abbrev pub within : ℕ → ℕ → ℕ → Bool
within low high b = leb low b && leb b high

-- F8 to FF: clock, start, continue, stop, active sensing, reset, and two that are undefined
abbrev pub real_time : ℕ → Bool
real_time b = within 0xF8 0xFF b

-- F0 to F7: exclusive, its end, and the system common messages
abbrev pub exclusive_or_common : ℕ → Bool
exclusive_or_common b = within 0xF0 0xF7 b

-- 80 to EF: the status byte of a channel message. What is in none of the three ranges is a data byte, 00 to 7F.
abbrev pub channel_status : ℕ → Bool
channel_status b = within 0x80 0xEF b

-- 01, the count of data bytes: one for a program change and a channel pressure, two for every other kind
abbrev pub takes_one : ℕ → Bool
takes_one status = within 0xC0 0xDF status

-- 01 has 0 for a running status that is not there
abbrev pub no_status : ℕ → Bool
no_status status = eqb status 0

-- 01, row 9, on the running status: what a cursor may bring
abbrev pub may_run : ℕ → Bool
may_run status = no_status status || channel_status status
