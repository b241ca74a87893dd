-- Request A5: the waiting set, and the last accepted write of all, each worked out from what the ticks show: the setpoints that a tick
-- accepts, and whether its stage is 00 after it.
use Rattle.std.specs.Prelude.{Bool, cond, Option, None, Some}
use Rattle.types.specs.declared.stages.Setpoints.{Setpoints}
use Rattle.types.specs.declared.settings.Settings.{Settings}
use Rattle.types.specs.declared.machine.State.{State}
use Rattle.types.specs.declared.machine.Input.{Input}
use Rattle.outline.specs.Setpoints.{open_setpoints}
use Rattle.outline.specs.Stages.{idle_of}
use Rattle.outline.specs.Requests.{grant_of}
use Rattle.outline.specs.Tick.{tick_of}
use Rattle.outline.specs.Kinds.{request_kind}
use Rattle.outline.specs.Run.{History, start, ◌▷◌, run_of}

pub record PointsSeen : Type 0 where
  -- the setpoints that were written and accepted, if any
  pub write : Option Setpoints
  -- stage 00 after the tick
  pub idle : Bool

-- what a tick shows: its answer's outcome says whether the request was accepted, its stage whether it is 00
unfoldable pub points_seen : Settings → State → Input → PointsSeen
points_seen s st i = record {
  write = (request_kind (grant_of (tick_of s st i).answer.outcome i.request)).writes;
  idle = idle_of (tick_of s st i).answer.stage;
}

abbrev pub points_run : Settings → History Input → History PointsSeen
points_run s start = start
points_run s (h ▷ i) = points_run s h ▷ points_seen s (run_of s h) i

-- "a second write replaces the first"
abbrev pub replaces : Option Setpoints → Option Setpoints → Option Setpoints
replaces None before = before
replaces (Some p) before = Some p

-- the last accepted write since the stage was last 00
abbrev pub written_since : History PointsSeen → Option Setpoints
written_since start = None
written_since (h ▷ t) = cond t.idle None (replaces t.write (written_since h))

-- the last accepted write of all; before any, the opening's setpoints
abbrev pub written_last : History PointsSeen → Option Setpoints
written_last start = Some open_setpoints
written_last (h ▷ t) = replaces t.write (written_last h)
