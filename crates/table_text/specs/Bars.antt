-- How many of a bar's forty places are marked.
use Rattle.std.specs.Prelude.{cond, ℕ, ltb}

unfoldable pub most_forty : ℕ → ℕ
most_forty marks = cond (ltb marks 40) marks 40
