-- The two runs of a log after a frame's events: each event's numbers at its place, and no other number changed.
use Rattle.std.specs.Prelude.{List, [], ◌∷◌, ℕ, suc, ℤ, set, Float}
use Rattle.events.specs.declared.Event.{Event}
use Rattle.event_columns.specs.Columns.{cells_of, put_numbers}

-- the first event at place i, the next at i + 1, and so on
unfoldable pub numbers_after : List ℤ → ℕ → List Event → List ℤ
numbers_after numbers i [] = numbers
numbers_after numbers i (e ∷ es) = numbers_after (put_numbers numbers i (cells_of e)) (suc i) es

unfoldable pub distances_after : List Float → ℕ → List Event → List Float
distances_after distances i [] = distances
distances_after distances i (e ∷ es) = distances_after (set distances i (cells_of e).distance) (suc i) es
