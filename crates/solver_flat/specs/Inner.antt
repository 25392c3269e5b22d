-- What the inner functions say to each other: no part of the contract. Definitions only.
use Rattle.std.specs.Prelude.{ℕ, ◌≡◌, Bool, false, List, length, take, drop, replicate, Float}
use Rattle.std.proofs.Math.Seq.{paste}
use Rattle.square.specs.Index.{Picked}
use Rattle.optimize.specs.declared.Assignment.{Assignment}
use Rattle.optimize.specs.Answer.{Solved, result_of}
use Rattle.optimize.specs.Inner.{Listed}
use Rattle.solver_flat.specs.Flat.{rows_of, cols_of, flat_after}

-- the first n of a list, written over the places from at on
pub record Pasted (before : List ℕ) (at : ℕ) (list : List ℕ) (n : ℕ) (after : List ℕ) : Type 0 where
  pub after_is : after ≡ paste before at list n
  pub same_len : length after ≡ length before

-- 64 places from at on hold zeros
abbrev pub Clear : ℕ → List ℕ → Type 0
Clear at run = take 64 (drop at run) ≡ replicate 64 0

-- the numbers below k that have no mark, in 64 places from at on, and how many
pub record PickedAt (before : List ℕ) (at : ℕ) (marks : List Bool) (k used : ℕ) (after : List ℕ) : Type 0 where
  pub places : List ℕ
  pub full : length places ≡ 64
  pub picked : Picked false marks k places used
  pub pasted : Pasted before at places 64 after

-- the pairs of the first k rows, how many, and the marks at their rows and columns; the rows in 64 places from 5 on, the columns in 64 more
pub record PairsAt (m : List Float) (w : ℕ) (limit : Float) (rows : List ℕ) (k used : ℕ) (R C : List Bool) (before after : List ℕ) : Type 0 where
  pub pairs : List Assignment
  pub full : length pairs ≡ 64
  pub listed : Listed m w limit rows k pairs used R C
  pub between : List ℕ
  pub rows_at : Pasted before 5 (rows_of pairs) 64 between
  pub cols_at : Pasted between 69 (cols_of pairs) 64 after

-- what steps A to G and the limit come to, in 261 places
pub record Found (m : List Float) (h w : ℕ) (limit : Float) (before after : List ℕ) : Type 0 where
  pub corrections : ℕ
  pub paths : ℕ
  pub rows : List ℕ
  pub solved : Solved m h w corrections paths rows
  pub after_is : after ≡ flat_after (result_of m h w limit rows corrections paths) before
