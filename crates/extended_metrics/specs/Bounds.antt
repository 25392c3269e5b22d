-- How large a tally of k lifecycles can be: no part of document 01. Definitions only.
use Rattle.std.specs.Prelude.{ℕ, ◌*◌, ◌≤◌}
use Rattle.extended_metrics.specs.declared.Tally.{Tally}

pub record Below (t : Tally) (k : ℕ) : Type 0 where
  pub tracked : t.tracked ≤ k
  pub partially : t.partially ≤ k
  pub lost : t.lost ≤ k
  pub fragmentations : t.fragmentations ≤ k * 2147483647
