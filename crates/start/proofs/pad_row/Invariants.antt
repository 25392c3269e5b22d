-- `start::pad_row` meets its contract: the first `j` places of the row are written. Assumes nothing.
use mathlib.Core.Path.{◌≡◌}
use lib.ListN.{get_or}
use lib.Ieee.{nan}
use Rattle.square.specs.Square.{in_row, line}
use Rattle.start.proofs.pad_row.Given as goal

abbrev pub invariant-loop-j : goal.invariant-loop-j
invariant-loop-j l = l.c ≡ line (in_row l.row) l.j (λ k _. get_or l.src k nan) l.initial.c
