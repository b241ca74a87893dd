-- For each request, what it asks of the things that the histories keep account of. They know requests by this table alone, so a new request
-- is one row more.
use Rattle.std.specs.Prelude.{Bool, true, false, Option, None, Some}
use Rattle.types.specs.declared.stages.Setpoints.{Setpoints}
use Rattle.types.specs.declared.requests.Request.{Request}
use Rattle.types.specs.declared.requests.Request.TheVariants as request

-- what is asked of the totals
pub data Asked : Type 0 where
  nothing : Asked
  undo : Asked
  clear : Asked

pub record Kind : Type 0 where
  -- a zero is asked for
  pub zeroes : Bool
  -- a day close is asked
  pub closes : Bool
  -- the setpoints that it writes, if any
  pub writes : Option Setpoints
  -- "Step 6 is passed over in a tick with an accepted start, or a stop."; A1: "BD, like BB, .. passes step 6 over"
  pub skips : Bool
  pub ledger : Asked

-- none of these
abbrev pub elsewhere : Kind
elsewhere = record { zeroes = false; closes = false; writes = None; skips = false; ledger = nothing }

-- a start, a stop, a discharge
abbrev pub skipping : Kind
skipping = record { zeroes = false; closes = false; writes = None; skips = true; ledger = nothing }

abbrev pub request_kind : Option Request → Kind
request_kind None = elsewhere
request_kind (Some request.Zero) = record { zeroes = true; closes = false; writes = None; skips = false; ledger = nothing }
request_kind (Some request.Tare) = elsewhere
request_kind (Some request.TareClear) = elsewhere
request_kind (Some request.Start) = skipping
request_kind (Some request.Stop) = skipping
request_kind (Some (request.Set p)) = record { zeroes = false; closes = false; writes = Some p; skips = false; ledger = nothing }
request_kind (Some request.TotalClear) = record { zeroes = false; closes = false; writes = None; skips = false; ledger = clear }
request_kind (Some request.Undo) = record { zeroes = false; closes = false; writes = None; skips = false; ledger = undo }
request_kind (Some request.ShowGross) = elsewhere
request_kind (Some request.ShowNet) = elsewhere
request_kind (Some request.DayClose) = record { zeroes = false; closes = true; writes = None; skips = false; ledger = nothing }
request_kind (Some request.Discharge) = skipping

-- setpoints are written
abbrev pub is_write : Option Setpoints → Bool
is_write None = false
is_write (Some p) = true
