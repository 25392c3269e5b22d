-- A word's value, digit by digit. Assumes nothing.
use mathlib.Core.Path.{◌≡◌, sym}
use mathlib.Core.List.{List, ◌∷◌}
use Prim.Native.Nat.{ℕ, ◌+◌, ◌*◌, ◌^◌, ◌≤◌, ◌<◌}
use native.Mathlib.Numerals.{add-one}
use borrow.Author.Tests.{lt-ltb, le-ltb}
use lib.ListN.{length, get_or, drop}
use lib.Seq.{drop-cons, drop-length}
use Rattle.std.proofs.Common.{Some, None}
use Rattle.numerals.specs.Numbers.{digit_of, value_from}

step : (base v b d : ℕ) (bs : List ℕ) → d ≡ digit_of b → d < base → v * base + d < 2 ^ 64 → value_from base v (b ∷ bs) ≡ value_from base (v * base + d) bs
unfolding value_from
step base v b d bs e l m = rw (← e, lt-ltb d base l, lt-ltb (v * base + d) (2 ^ 64) m)

stop : (base v b d : ℕ) (bs : List ℕ) → d ≡ digit_of b → base ≤ d → value_from base v (b ∷ bs) ≡ None
unfolding value_from
stop base v b d bs e l = rw (← e, le-ltb d base l)

full : (base v b d : ℕ) (bs : List ℕ) → d ≡ digit_of b → d < base → 2 ^ 64 ≤ v * base + d → value_from base v (b ∷ bs) ≡ None
unfolding value_from
full base v b d bs e l m = rw (← e, lt-ltb d base l, le-ltb (v * base + d) (2 ^ 64) m)

-- at place i of a word, where d is the byte's digit and v the value so far
module _ (base v d i : ℕ) (w : List ℕ) (h : i < length w) (e : d ≡ digit_of (get_or w i 0)) where
  pub next_digit : d < base → v * base + d < 2 ^ 64 → value_from base (v * base + d) (drop (i + 1) w) ≡ value_from base v (drop i w)
  next_digit l m = rw (add-one i, drop-cons w i 0 h) (sym (step base v (get_or w i 0) d _ e l m))

  pub no_digit : base ≤ d → value_from base v (drop i w) ≡ None
  no_digit l = rw (drop-cons w i 0 h) (stop base v (get_or w i 0) d _ e l)

  pub too_large : d < base → 2 ^ 64 ≤ v * base + d → value_from base v (drop i w) ≡ None
  too_large l m = rw (drop-cons w i 0 h) (full base v (get_or w i 0) d _ e l m)

pub no_more : (base v : ℕ) (w : List ℕ) → value_from base v (drop (length w) w) ≡ Some v
unfolding value_from
no_more base v w = rw drop-length
