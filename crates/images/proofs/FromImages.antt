-- Every possible state is read back from its image; so is every state of a run, of today's program or the one before A6, and every state after any ticks and requests from an image that
-- passes. Assumes nothing.
use mathlib.Core.Path.{◌≡◌, sym, subst}
use mathlib.Core.Bool.{true}
use mathlib.Core.List.{foldl}
use Rattle.types.specs.declared.settings.Settings.{Settings}
use Rattle.outline.specs.Tick.{open_state}
use Rattle.outline.specs.Run.{run_of, run_from}
use Rattle.outline.specs.StaysTrue.{earlier_tick}
use Rattle.outline.proofs.Opened.{passed}
use Rattle.outline.proofs.RangeRun.{run_in, from_range}
use Rattle.outline.proofs.BookRun.{balance_law}
use Rattle.outline.proofs.EarlierRun.{earlier_keeps}
use Rattle.images.specs.Possible.{possible}
use Rattle.images.specs.Images.{state_in}
use Rattle.images.specs.Owed.{ReadBack, RunsPass, EarlierPass, FromImages}
use Rattle.images.proofs.Trip.{held_back, is_possible}
use Rattle.images.proofs.Decided.{range_passes, range_of, balance_of}
use Rattle.images.proofs.Bounds.{range_held}

pub read_back : ReadBack
read_back g s a st p =
    held_back g st (range_held s (g, a) st (range_of s st p)) (subst (λ (t : Settings). possible t st ≡ true) (sym (passed g s a).made) p)

pub runs_pass : RunsPass
runs_pass g s a h = read_back g s a (run_of s h) (range_passes s (run_of s h) (run_in s h) (balance_law s (g, a) h))

pub earlier_pass : EarlierPass
earlier_pass g s a is =
    let k = earlier_keeps s is in
    read_back g s a (foldl (earlier_tick s) open_state is) (range_passes s _ k.range k.balance)

pub from_images : FromImages
from_images g s a l z is =
    let st = (state_in g l).state in
    let p = subst (λ (t : Settings). possible t st ≡ true) (passed g s a).made (is_possible g l z) in
    let k = from_range s st (range_of s st p) (balance_of s st p) is in
    record { keeps = k; image = read_back g s a (run_from s st is) (range_passes s (run_from s st is) k.range k.balance) }
