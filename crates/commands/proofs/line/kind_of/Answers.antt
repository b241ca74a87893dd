-- The number of a kind that is read off the end that the search gave.
use Rattle.std.specs.Prelude.{Result, Ok}
use Rattle.std.proofs.Common.{◌≡◌, ℕ, List, ap, ◌∙◌}
use borrow.Author.Tests.{ne_eqb}
use Rattle.types.specs.declared.lines.NoEnd.{NoEnd}
use Rattle.outline.specs.Lines.{kind_at, kind_of, line_end_of}
use Rattle.outline.specs.Numbers.{kind_number}
use Rattle.outline.specs.Answers.{kind_due}
use Rattle.outline.proofs.AnswerLaws.{kind_number_lem}
use Rattle.commands.proofs.line.kind_of.Goals as goal

numbered : (b : List ℕ) (e : Result ℕ NoEnd) → e ≡ line_end_of b → kind_number (kind_at e) ≡ kind_due b
unfolding kind_of
numbered b e p = ap (λ (r : Result ℕ NoEnd). kind_number (kind_at r)) p ∙ kind_number_lem b

text : (b : List ℕ) (n : ℕ) → (n ≡ 0 → ⊥) → Ok n ≡ line_end_of b → 3 ≡ kind_due b
text b n h p = simp (ne_eqb n 0 h) at (numbered b (Ok n) p)

pub returns-in-Ok-eq0-clause-number : goal.returns-in-Ok-eq0-clause-number
returns-in-Ok-eq0-clause-number c = numbered _ _ (rw c.in-Ok-eq0.field-0-test at c.in-Ok-eq0.ensures)

pub returns-in-Ok-clause-number : goal.returns-in-Ok-clause-number
returns-in-Ok-clause-number c = text _ _ c.in-Ok.field-0-test.1 c.in-Ok.ensures

pub returns-in-Err-Beyond-clause-number : goal.returns-in-Err-Beyond-clause-number
returns-in-Err-Beyond-clause-number c = numbered _ _ (rw c.in-Err-Beyond.field-0-is at c.in-Err-Beyond.ensures)

pub returns-in-Err-Missing-clause-number : goal.returns-in-Err-Missing-clause-number
returns-in-Err-Missing-clause-number c = numbered _ _ (rw c.in-Err-Missing.field-0-is at c.in-Err-Missing.ensures)
