-- A line by its own count of bytes held, for who is given it and not told how many came.
use Rattle.std.specs.Prelude.{ℕ, ◌≡◌, List, true, false}
use Rattle.std.proofs.Common.{sym, ◌∙◌}
use Rattle.std.proofs.Math.Path.{ap}
use Rattle.types.specs.declared.log.Line.{Line}
use Rattle.outline.specs.Log.{line_at, line_behind, next_line}

module _ (space : List ℕ) {r : Line} (from all number : ℕ) (e : r ≡ line_at space from all number) where
  own_all : r.all ≡ all
  unfolding line_at
  own_all = ap (λ (l : Line). l.all) e

  pub by_count : r ≡ line_at space from r.all number
  by_count = e ∙ sym (ap (λ (a : ℕ). line_at space from a number) own_all)

-- the line behind another: it is whole, or what was read on for it is held in `after`
module _ (space after : List ℕ) (line : Line) {next : Line} (e : next ≡ line_behind space line) where
  pub next_whole : next.whole ≡ true → next ≡ next_line space after next.all line
  unfolding next_line
  next_whole w = e ∙ simp (sym (ap (λ (l : Line). l.whole) e) ∙ w)

  pub next_read : next.whole ≡ false → {r : Line} (n : ℕ) → r ≡ line_at after 0 n next.number → r ≡ next_line space after r.all line
  unfolding next_line
  next_read w n q = by_count after 0 n next.number q ∙ simp (sym (ap (λ (l : Line). l.whole) e) ∙ w, e)
