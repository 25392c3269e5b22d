-- Document 01, "Lifecycles and events": precision, recall, MOTA, MOTP and the F1 of modules 3, 4 and 5, over a tally of a log.
-- "Zero divisors give 0.0, MOTA included."
use Rattle.std.specs.Prelude.{cond, false, ℕ, ◌+◌, ◌≤◌, eqb, pos, Float}
use Rattle.std.specs.Float.{binary64, fin}
use Rattle.std.specs.Float.Ieee.{add, sub, mul, div, of_int, lt}
use Rattle.floats.specs.Float.{zero64, one64}
use Rattle.events.specs.declared.Tally.{Tally}

-- a count as a float
abbrev pub count64 : ℕ → Float
count64 n = of_int binary64 (pos n)

unfoldable pub mean_of : Float → ℕ → Float
mean_of sum n = cond (eqb n 0) zero64 (div binary64 sum (count64 n))

unfoldable pub ratio_of : ℕ → ℕ → Float
ratio_of part whole = cond (eqb whole 0) zero64 (div binary64 (count64 part) (count64 whole))

-- matches and switches
abbrev pub pairs_of : Tally → ℕ
pairs_of t = t.matches + t.switches

-- (matches + switches) over that plus false positives, and plus misses
unfoldable pub precision_of : Tally → Float
precision_of t = ratio_of (pairs_of t) (pairs_of t + t.false_positives)

unfoldable pub recall_of : Tally → Float
recall_of t = ratio_of (pairs_of t) (pairs_of t + t.misses)

-- "1.0 - (misses + false positives + switches) / truth"
unfoldable pub mota_of : Tally → Float
mota_of t =
    cond (eqb t.truths 0) zero64
    (sub binary64 one64 (div binary64 (count64 (t.misses + t.false_positives + t.switches)) (count64 t.truths)))

-- the literal 2.0
abbrev pub two64 : Float
two64 = fin false 1 (pos 1)

-- "2.0 * p * r / (p + r), left to right, 0.0 if p + r isn't above 0"
unfoldable pub f1_of : Float → Float → Float
f1_of p r =
    cond (lt zero64 (add binary64 p r)) (div binary64 (mul binary64 (mul binary64 two64 p) r) (add binary64 p r)) zero64

-- a log has 1,024 events at most: no part of document 01
pub record Few (t : Tally) : Type 0 where
  pub cases : t.matches + t.switches + t.misses + t.false_positives ≤ 1024
  pub truths : t.truths ≤ 1024
