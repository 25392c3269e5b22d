-- The first n entries of a row, in a run of their own. Assumes nothing.
use Prim.Native.Nat.{ℕ, ◌+◌, ◌-◌, ◌*◌, ◌<◌, ◌≤◌}
use mathlib.Core.Path.{◌≡◌, sym, ap, ◌∙◌}
use mathlib.Core.Bool.{Bool}
use mathlib.Core.List.{List}
use native.Mathlib.Omega.{arith}
use lib.ListN.{drop, length, length-drop, length-take, get_or, take}
use lib.Seq.{get_or-take}
use lib.Ieee.{Float, nan}
use Rattle.std.proofs.lemmas.List.{get_or-drop}
use Rattle.floats.specs.Float.{is_zero}
use Rattle.square.specs.Square.{zero_at}

abbrev pub entries : List Float → ℕ → ℕ → List Float
entries c n row = take (row * 64 + n - row * 64) (drop (row * 64) c)

row_long : (row n : ℕ) → row * 64 + n - row * 64 ≡ n
row_long row n = omega arith

-- a turn of a loop over them stands at a column below n
pub in_row : (c : List Float) (n row col : ℕ) → row < n → n * 64 ≤ length c → col < length (entries c n row) → col < n
in_row c n row col r fits l = omega (arith, length-take (row * 64 + n - row * 64) (drop (row * 64) c), row_long row n)

-- past the last turn
pub whole_row : (c : List Float) (n row col : ℕ) → row < n → n ≤ 64 → n * 64 ≤ length c → length (entries c n row) ≤ col → n ≤ col
whole_row c n row col r n64 fits l = omega (arith, length-take (row * 64 + n - row * 64) (drop (row * 64) c), length-drop (row * 64) c, row_long row n)

pub zero_here : (c : List Float) (n row col : ℕ) → col < n → (b b' : Bool) → b ≡ is_zero (get_or (entries c n row) col nan) → b ≡ b' → zero_at c row col ≡ b'
unfolding zero_at
zero_here c n row col l b b' e f = sym (e ∙ ap is_zero (rw (row_long row n) (get_or-take n (drop (row * 64) c) col nan l ∙ get_or-drop (row * 64) c col nan))) ∙ f
