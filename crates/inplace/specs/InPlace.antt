-- A frame whose pairing is handed in, over a state whose table is a run of numbers. The run stands for `slots_of` of it.
use Rattle.std.specs.Prelude.{cond, List, [], ◌≡◌, ℕ, zero, suc, ◌+◌, ◌<◌, ◌≤◌, eqb, ℤ, get_or, Float}
use Rattle.slot_cells.specs.Cells.{cells_of}
use Rattle.columns.specs.Columns.{cells_at, put, slots_of}
use Rattle.rows.specs.declared.ExtendedMOTAccumulator.{ExtendedMOTAccumulator}
use Rattle.rows.specs.declared.Row.{Row}
use Rattle.rows.specs.Rows.{row_spot, row_step, trial_of, trial_after}
use Rattle.totals.specs.declared.Shares.{Shares}
use Rattle.frame.specs.Frame.{next_frame, state_with, room_for_all, frame_of}
use Rattle.totals.specs.declared.Totals.{Totals}
use Rattle.inplace.specs.declared.Tally.{Tally}
use Rattle.inplace.specs.declared.Closed.{Closed}

-- THE STATE that a run and its totals stand for
abbrev pub state_of : List ℤ → Totals → ExtendedMOTAccumulator
state_of run t = state_with (slots_of run) t

-- ---- the rows
-- the state before row k, and the place where that row is booked
abbrev pub before : (ℕ → Row) → ℤ → List ℤ → Totals → ℕ → ExtendedMOTAccumulator
before rows frame run totals k = (trial_after rows frame (state_of run totals) k).state

abbrev pub place_of : (ℕ → Row) → ℤ → List ℤ → Totals → ℕ → ℕ
place_of rows frame run totals k = (row_spot (before rows frame run totals k) (rows k)).at

-- the run after the first k rows: each writes the slot that it leaves at its place, and no more
unfoldable pub table_after : (ℕ → Row) → ℤ → List ℤ → Totals → ℕ → List ℤ
table_after rows frame run totals zero = run
table_after rows frame run totals (suc k) =
    put (table_after rows frame run totals k) 256 (place_of rows frame run totals k) (cells_of (row_step (before rows frame run totals k) (rows k) frame).slot)

-- the log of the first k rows: the place of each, and the numbers that stood there before it
pub record Logged (rows : ℕ → Row) (frame : ℤ) (run : List ℤ) (totals : Totals) (places : List ℕ) (log : List ℤ) (k : ℕ) : Type 0 where
  pub place : (j : ℕ) → j < k → get_or places j 0 ≡ place_of rows frame run totals j
  pub numbers : (j : ℕ) → j < k → cells_at log 64 j ≡ cells_at (table_after rows frame run totals j) 256 (place_of rows frame run totals j)

-- all rows on trial
pub record Tried (rows : ℕ → Row) (frame : ℤ) (run : List ℤ) (totals : Totals) (n : ℕ) (after : List ℤ) (places : List ℕ) (log : List ℤ) (r : Tally) : Type 0 where
  pub table : after ≡ table_after rows frame run totals n
  pub trial : trial_of (state_of after r.totals) r.full r.over r.switches ≡ trial_after rows frame (state_of run totals) n
  pub logged : Logged rows frame run totals places log n
  pub few : r.switches ≤ n

-- a log put back, the latest row first
unfoldable pub undone : List ℤ → List ℕ → List ℤ → ℕ → List ℤ
undone run places log zero = run
undone run places log (suc k) = undone (put run 256 (get_or places k 0) (cells_at log 64 k)) places log k

-- ---- the frame
-- 5 before 7; the totals do not hang on the run
unfoldable pub number_of : Tally → Shares → ℕ
number_of t by = cond t.full 5 (cond t.over 7 (cond (room_for_all (state_with [] t.totals) by) 0 7))

-- the run after a frame: written at 0, number by number what it was beside a refusal
abbrev pub table_at : ℕ → (ℕ → Row) → List ℤ → Totals → ℕ → List ℤ
table_at number rows run totals n = cond (eqb number 0) (table_after rows (next_frame totals.frame_id) run totals n) run

-- A FRAME over a run and its totals: the number and the state of `frame_of`, and every number of the run
pub record Framed (run : List ℤ) (totals : Totals) (rows : ℕ → Row) (pairs lefts extra objects : ℕ) (distance : Float) (after : List ℤ) (r : Closed) : Type 0 where
  pub booked : record { number = r.number; state = state_of after r.totals } ≡ frame_of (state_of run totals) rows pairs lefts extra objects distance
  pub table : after ≡ table_at r.number rows run totals (pairs + lefts)
