-- Blocks, ticks with lines and ticks of a log are runs: what holds of every run holds after them. Assumes nothing.
use mathlib.Core.Path.{◌≡◌, refl}
use mathlib.Core.Bool.{Bool, true, false, cond}
use mathlib.Core.List.{List, [], ◌∷◌, foldl}
use lib.Dec.{leb}
use lib.ListN.{length}
use lib.IntN.{ℤ}
use borrow.Author.Tests.{le-leb}
use Rattle.types.specs.declared.settings.Settings.{Settings}
use Rattle.types.specs.declared.machine.Input.{Input}
use Rattle.types.specs.declared.lines.LineTick.{LineTick}
use Rattle.outline.specs.Limits.{block_limit}
use Rattle.outline.specs.Tick.{tick_of, count_in, block_of, unasked_of}
use Rattle.outline.specs.Replies.{asked_of, due_text, line_tick_of}
use Rattle.outline.specs.Log.{is_none, received_of, request_tick}
use Rattle.outline.specs.Run.{History, ◌▷◌, run_of, then_all, block_inputs, line_input, log_input}
use Rattle.outline.specs.StaysTrue.{IsTick, BlocksAreRuns, LinesAreRuns, LogsAreRuns}

-- the counts of a block one after another
counts_run : (s : Settings) (contact : Bool) (h : History Input) (counts : List ℤ)
    → foldl (count_in s contact) (run_of s h) counts ≡ run_of s (then_all h (block_inputs counts contact))
unfolding count_in run_of then_all block_inputs
counts_run s contact h [] = refl
counts_run s contact h (count ∷ counts) = counts_run s contact (h ▷ unasked_of count contact) counts

pub blocks_are_runs : BlocksAreRuns
unfolding block_of
blocks_are_runs s h counts contact short = simp (le-leb (length counts) block_limit short) (counts_run s contact h counts)

-- of two ticks and their inputs, the one chosen
either : (s : Settings) (h : History Input) (t : Bool) {a b : LineTick} (i j : Input) → IsTick s h i a → IsTick s h j b → IsTick s h (cond t i j) (cond t a b)
either s h true i j p q = p
either s h false i j p q = q

pub lines_are_runs : LinesAreRuns
unfolding line_tick_of line_input run_of tick_of
lines_are_runs s h count contact receive buffer =
    either s h (leb (length (due_text s (run_of s h) count contact receive)) (length buffer)) (asked_of s count contact receive) (unasked_of count contact)
    (record { state = refl; answer = refl }) (record { state = refl; answer = refl })

pub logs_are_runs : LogsAreRuns
unfolding request_tick log_input run_of tick_of
logs_are_runs s h count contact request buffer =
    either s h (is_none request) (unasked_of count contact) (line_input s (run_of s h) count contact (received_of request) buffer)
    (record { state = refl; answer = refl }) (lines_are_runs s h count contact (received_of request) buffer)
