-- `corrections::take_off` meets its contract: `m` is taken so far off the first listed entries, and `zero` says whether one is a zero. Assumes nothing.
use Rattle.std.proofs.Common.{◌≡◌, ◌<◌, ℕ, false, get_or}
use Rattle.std.specs.Float.{nan, binary64}
use Rattle.std.specs.Float.Ieee.{sub}
use Rattle.floats.specs.Float.{is_zero}
use Rattle.square.specs.Square.{line}
use Rattle.corrections.specs.Inner.{Listed}
use Rattle.corrections.proofs.take_off.Given as goal

abbrev pub invariant-loop-col : goal.invariant-loop-col
invariant-loop-col l =
    (l.entries ≡ line (Listed l.columns) l.col-index (λ _ x. sub binary64 x l.m) l.initial.entries)
    × (l.zero ≡ false → (s : ℕ) → s < l.col-index → is_zero (get_or l.entries (Listed l.columns s) nan) ≡ false)
