-- Document 01, "Assignment": steps A to G of a matrix m of h rows and w columns, a run, row after row. Definitions only.
use Rattle.std.specs.Prelude.{ℕ, max, List, Float}
use Rattle.paths.specs.State.{state}
use Rattle.start.specs.Steps.{start_of}
use Rattle.search.specs.Run.{Run}

-- steps A to G: from the start they lead to a stop, whose row partners are rows
pub record Solved (m : List Float) (h w corrections paths : ℕ) (rows : List ℕ) : Type 0 where
  pub square : List Float
  pub cols : List ℕ
  pub run : Run (max h w) (start_of m h w) corrections paths (state square rows cols)
