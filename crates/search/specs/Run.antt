-- The loop D to G, with no cap: a run of path changes and corrections to a stop. Definitions only.
use Rattle.std.specs.Prelude.{ℕ, zero, suc, ◌+◌}
use Rattle.square.specs.Index.{count}
use Rattle.paths.specs.State.{State, paired}
use Rattle.paths.specs.Path.{Path}
use Rattle.search.specs.Steps.{Stop, Corr}

-- from s, by c corrections and p path changes, to t, where it stops
pub data Run (n : ℕ) : State → ℕ → ℕ → State → Type 0 where
  stop : {s : State} → Stop n s → Run n s 0 0 s
  path : {s u t : State} {c p : ℕ} → Path n s u → Run n u c p t → Run n s c (suc p) t
  correct : {s u t : State} {c p : ℕ} → Corr n s u → Run n u c p t → Run n s (suc c) p t

-- how many pairs a state has: k, where the search begins
abbrev pub pairs : ℕ → State → ℕ
pairs n s = count n (paired n s.rows)

-- (k + 1) + (k + 2) + .. + (k + d)
unfoldable pub sum_from : ℕ → ℕ → ℕ
sum_from k zero = 0
sum_from k (suc d) = suc k + sum_from (suc k) d
