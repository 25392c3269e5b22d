-- Document 01, "Lifecycles and events": "Module 3's MOTAccumulator takes all finite distances, ascending; module 4's takes
-- IoU >= threshold, descending. Both sorts are stable over (row, column) order. Take a pair if both ends are free."
use Rattle.std.specs.Prelude.{Bool, List, ℕ, length, Float}
use Rattle.std.specs.Float.Ieee.{le}
use Rattle.floats.specs.Float.{is_finite}
use Rattle.square.specs.Index.{gather}
use Rattle.sorting.specs.Order.{key_of}
use Rattle.sorting.specs.Sort.{sort_of, fall_of}
use Rattle.greedy.specs.declared.Pairing.{Pairing}
use Rattle.greedy.specs.Greedy.{pairing_of}

-- the places of a matrix whose entries pass, row by row
abbrev pub places_of : (Float → Bool) → List Float → List ℕ
places_of passes entries = gather (length entries) (λ i. passes (key_of entries i)) (λ i. i)

-- module 3, of w columns
unfoldable pub by_distance : List Float → ℕ → Pairing
by_distance distances w = pairing_of w (sort_of distances (places_of is_finite distances))

-- module 4: a NaN is not at least the threshold, and nothing is at least a NaN
unfoldable pub by_share : List Float → Float → ℕ → Pairing
by_share shares threshold w = pairing_of w (fall_of shares (places_of (le threshold) shares))
