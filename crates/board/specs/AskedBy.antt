-- What a tick is asked by a number: docs/IMAGES.md, 'Requests by number'. The numbers are the house's.
use Rattle.std.specs.Prelude.{ℕ, List, Bool, true, false, cond, eqb, leb, length, get_or, Option, None, Some, Result, Ok, Err}
use Rattle.types.specs.declared.stages.Setpoints.{Setpoints}
use Rattle.types.specs.declared.requests.Request.{Request}
use Rattle.types.specs.declared.requests.Request.TheVariants as request
use Rattle.board.specs.declared.asked.NoRequest.{NoRequest}

-- the number of a write of setpoints, and of the last request
abbrev pub set_number : ℕ
set_number = 6

abbrev pub last_number : ℕ
last_number = 12

-- the numbers of a write
abbrev pub point_count : ℕ
point_count = 7

-- 6 brings its seven numbers; there is no request above 12
unfoldable pub is_request : ℕ → List ℕ → Bool
is_request n points = cond (eqb n set_number) (eqb (length points) point_count) (leb n last_number)

-- F, FF, P, OP, over, under, near zero
unfoldable pub points_of : List ℕ → Setpoints
points_of points = record {
  target = get_or points 0 0;
  fall = get_or points 1 0;
  preliminary = get_or points 2 0;
  optional = get_or points 3 0;
  over = get_or points 4 0;
  under = get_or points 5 0;
  near = get_or points 6 0;
}

-- one that is no request answers 13, and the tick runs as one that is asked nothing
unfoldable pub request_by : ℕ → List ℕ → Option Request
request_by n points =
    cond (eqb n 1) (Some request.Zero)
    (cond (eqb n 2) (Some request.Tare)
    (cond (eqb n 3) (Some request.TareClear)
    (cond (eqb n 4) (Some request.Start)
    (cond (eqb n 5) (Some request.Stop)
    (cond (eqb n set_number) (cond (eqb (length points) point_count) (Some (request.Set (points_of points))) None)
    (cond (eqb n 7) (Some request.TotalClear)
    (cond (eqb n 8) (Some request.Undo)
    (cond (eqb n 9) (Some request.ShowGross)
    (cond (eqb n 10) (Some request.ShowNet)
    (cond (eqb n 11) (Some request.DayClose)
    (cond (eqb n last_number) (Some request.Discharge) None)))))))))))

-- what is read of a number: whether it is a request, and which
abbrev pub is_known : Result (Option Request) NoRequest → Bool
is_known (Ok r) = true
is_known (Err e) = false

abbrev pub request_in : Result (Option Request) NoRequest → Option Request
request_in (Ok r) = r
request_in (Err e) = None
