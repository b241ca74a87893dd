-- What the controller opens with; accepted settings are what is made of the numbers given.
use Rattle.std.proofs.Common.{◌≡◌, sym, ap, ◌∙◌, Option, None, Some}
use Rattle.std.specs.Option.{ok_or}
use Rattle.std.specs.Prelude.{IfOk, Result}
use Rattle.types.specs.declared.settings.Given.{Given}
use Rattle.types.specs.declared.settings.Settings.{Settings}
use Rattle.outline.specs.Settings.{settings_of, open_of}
use Rattle.outline.specs.Numbers.{opening_number}
use Rattle.images.specs.GivenImage.{given_at, given_in}
use Rattle.images.proofs.Buffers.{of_length}
use Rattle.board.specs.declared.CallRefusal.{CallRefusal}
use Rattle.board.specs.declared.CallRefusal.TheVariants as refusal
use Rattle.board.specs.Called.{opened_number}
use Rattle.board.proofs.Cases.{made_of}
use Rattle.board.proofs.opened.Goals as goal

number : (g : Given) (o : Option Settings) (r : Result Settings CallRefusal) → o ≡ open_of g → r ≡ ok_or o refusal.Settings → opened_number r ≡ opening_number (open_of g)
number g None r e k = ap opened_number k ∙ ap opening_number e
number g (Some s) r e k = ap opened_number k ∙ ap opening_number e

made : (g : Given) (o : Option Settings) (r : Result Settings CallRefusal) → o ≡ open_of g → r ≡ ok_or o refusal.Settings → IfOk r (λ s. s ≡ settings_of g)
made g None r e k = rw k tt
made g (Some s) r e k = rw k (sym (made_of g s (sym e)))

pub returns-clause-number : goal.returns-clause-number
unfolding given_in
returns-clause-number c n =
    number _ _ _ (c.open.ensures.opened ∙ ap open_of (c.given_at.ensures ∙ ap given_at (of_length _ _ n))) c.ok_or.ensures.value

pub returns-clause-settings : goal.returns-clause-settings
unfolding given_in
returns-clause-settings c n =
    made _ _ _ (c.open.ensures.opened ∙ ap open_of (c.given_at.ensures ∙ ap given_at (of_length _ _ n))) c.ok_or.ensures.value
