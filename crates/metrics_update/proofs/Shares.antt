-- A frame that was paired by its IoUs is one that can be booked. Assumes nothing.
use mathlib.Core.Path.{◌≡◌, ap, ◌∙◌}
use mathlib.Core.List.{List, map}
use Prim.Native.Nat.{ℕ, ◌*◌, ◌≤◌}
use lib.ListN.{length, length-map}
use lib.Ieee.{Float, binary64, sub}
use Rattle.floats.specs.Float.{one64}
use Rattle.greedy.specs.declared.Pairing.{Pairing}
use Rattle.greedy.specs.Greedy.{Fitting}
use Rattle.greedy_pairs.specs.Pairs.{by_share}
use Rattle.greedy_pairs.proofs.Frames.{share_fits}

pub bookable : (shares : List Float) (threshold : Float) (n w : ℕ) → (n ≤ 64) × (w ≤ 64) × (length shares ≡ n * w) → (p : Pairing) → p ≡ by_share shares threshold w
    → (distances : List Float) → distances ≡ map (sub binary64 one64) shares → ((n ≤ 64) × (w ≤ 64) × (length distances ≡ n * w)) × Fitting n w p
bookable shares threshold n w h p e distances d =
    ((h.0, h.1, ap length d ∙ (length-map shares (sub binary64 one64) ∙ h.2)), rw e (share_fits shares threshold n w h.0 h.1 h.2))
