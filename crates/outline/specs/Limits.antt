-- Every limit of the outline's ranges, once, by name. Limits of settings stand in the order of the outline's table.
use Rattle.std.specs.Prelude.{ℕ}

-- zero count and span count; a count beyond it makes a bad tick
abbrev pub count_limit : ℕ
count_limit = 2000000

-- C, in divisions
abbrev pub capacity_limit : ℕ
capacity_limit = 16000

-- p, in % of C
abbrev pub zero_range_limit : ℕ
zero_range_limit = 30

-- q, in ticks; w and L, in tenths
abbrev pub track_time_limit : ℕ
track_time_limit = 500

abbrev pub track_width_limit : ℕ
track_width_limit = 45

abbrev pub allowance_limit : ℕ
allowance_limit = 10000

-- k, in ticks, from the least to the most; s, in divisions
abbrev pub stable_time_least : ℕ
stable_time_least = 10

abbrev pub stable_time_limit : ℕ
stable_time_limit = 500

abbrev pub stable_width_limit : ℕ
stable_width_limit = 9

-- each of the five delays, and the two of a discharge, in ticks
abbrev pub delay_limit : ℕ
delay_limit = 9999

-- Q, in ticks
abbrev pub flow_limit : ℕ
flow_limit = 60000

-- the limit of a discharge, in ticks
abbrev pub discharge_limit : ℕ
discharge_limit = 60000

abbrev pub address_limit : ℕ
address_limit = 99

-- either analog end, in display digits
abbrev pub end_limit : ℕ
end_limit = 999999

-- overload is beyond C and so many divisions
abbrev pub overload_margin : ℕ
overload_margin = 8

-- the counts of one block
abbrev pub block_limit : ℕ
block_limit = 4096

-- the ticks of a day that are booked
abbrev pub day_ticks : ℕ
day_ticks = 8640000

-- each of the seven setpoints, in display digits
abbrev pub setpoint_limit : ℕ
setpoint_limit = 999999

-- total, in display digits, and count of batches
abbrev pub total_limit : ℕ
total_limit = 99999999

abbrev pub batch_limit : ℕ
batch_limit = 99999999

-- the bytes of a line before CR LF
abbrev pub line_limit : ℕ
line_limit = 64

-- the digits of a number in a log, and the bytes of a request there
abbrev pub number_digits : ℕ
number_digits = 9

abbrev pub request_limit : ℕ
request_limit = 100

-- the digits of a number that is printed: no number of 64 bits has more
abbrev pub decimal_digits : ℕ
decimal_digits = 20

-- ---- guards: limits that the types need and that no run from an accepted opening meets
-- a raw beyond it makes a bad tick
abbrev pub raw_limit : ℕ
raw_limit = 4000000

-- the most that raw changes from one good tick to the next: twice raw_limit
abbrev pub rise_limit : ℕ
rise_limit = 8000000

-- refilled, used and unbooked stop at it: day_ticks changes of at most rise_limit each; unbooked is the difference of two raws, however
-- many ticks
abbrev pub book_limit : ℕ
book_limit = 69120000000000

-- gross and net stop at it: what an i32 holds
abbrev pub display_limit : ℕ
display_limit = 2147483647

-- the number of a log's line stops at it: what a u64 holds
abbrev pub line_number_limit : ℕ
line_number_limit = 18446744073709551615
