-- Steps of a run that are seen by computing. Assumes nothing.
use Prim.Native.Nat.{ℕ, ◌≤◌}
use mathlib.Core.Path.{◌≡◌}
use mathlib.Core.Bool.{Bool, false, not}
use mathlib.Core.List.{List}
use borrow.Author.Tests.{not-false}
use Rattle.square.specs.Index.{any}
use Rattle.square.proofs.Index.{any_none}
use Rattle.paths.specs.State.{State, paired}
use Rattle.search.specs.Steps.{Full, Reached}
use Rattle.search.proofs.ReachOf.{Part, whole, free_missing, zero_missing, pair_missing}

module _ (n : ℕ) (s : State) where
  abbrev free : ℕ → Bool
  free i = not (paired n s.rows i)

  -- no row is free
  pub full_by : any n (λ i. not (paired n s.rows i)) ≡ false → Full n s
  full_by e i l = not-false (paired n s.rows i) (any_none n (λ i. not (paired n s.rows i)) e i l)

  -- nothing is missing
  pub reached_by : (n64 : n ≤ 64) (R C : List Bool) → Part n n64 s R C → any n (free_missing n n64 s R) ≡ false
      → any n (λ i. any n (zero_missing n n64 s R C i)) ≡ false → any n (pair_missing n n64 s R C) ≡ false → Reached n s R C
  reached_by n64 R C p a b c =
      whole n n64 s R C p (any_none n (free_missing n n64 s R) a)
      (λ i l. any_none n (zero_missing n n64 s R C i) (any_none n (λ i. any n (zero_missing n n64 s R C i)) b i l)) (any_none n (pair_missing n n64 s R C) c)
