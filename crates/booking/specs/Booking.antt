-- Document 01, "Lifecycles and events": "Events in that order, then misses by row, then false positives by column", after those of a log.
use Rattle.std.specs.Prelude.{Bool, true, not, cond, List, [], ◌∷◌, ◌++◌, ℕ, ◌+◌, ◌*◌, ◌-◌, ◌<◌, ◌≤◌, ◌/◌, ◌%◌, ltb, ℤ, pos, length, get_or, Float}
use Rattle.std.proofs.lemmas.List.Edits.{sets}
use Rattle.std.specs.Float.{nan}
use Rattle.square.specs.Index.{gather, on}
use Rattle.events.specs.declared.Event.{Event}
use Rattle.events.specs.declared.Log.{Log}
use Rattle.events.specs.Events.{values_of}
use Rattle.events.specs.declared.What.TheVariants.{Match, Switch, Miss, FalsePositive}
use Rattle.greedy.specs.declared.Pairing.{Pairing}

-- ---- one event
abbrev pub pair_event : ℤ → Bool → ℤ → ℤ → Float → Event
pair_event frame switched truth hypothesis distance =
    record { frame = frame; what = cond switched (Switch truth hypothesis distance) (Match truth hypothesis distance) }

abbrev pub miss_event : ℤ → ℤ → Event
miss_event frame truth = record { frame = frame; what = Miss truth }

abbrev pub false_event : ℤ → ℤ → Event
false_event frame hypothesis = record { frame = frame; what = FalsePositive hypothesis }

abbrev pub id_at : List ℤ → ℕ → ℤ
id_at ids i = get_or ids i (pos 0)

-- ---- the events of a frame
-- pair number i, by its place k in the matrix: of row k / w and column k % w, with the distance to store for that place
abbrev pub matched_at : ℤ → List ℤ → List ℤ → List Float → List ℕ → List Bool → ℕ → Event
matched_at frame truths hypotheses distances pairs switched i =
    let k = get_or pairs i 0 in
    let w = length hypotheses in
    pair_event frame (on switched i) (id_at truths (k / w)) (id_at hypotheses (k % w)) (get_or distances k nan)

abbrev pub missed_at : ℤ → List ℤ → ℕ → Event
missed_at frame truths i = miss_event frame (id_at truths i)

abbrev pub false_at : ℤ → List ℤ → ℕ → Event
false_at frame hypotheses j = false_event frame (id_at hypotheses j)

-- of the pairs in their order; of the rows that are left; of the columns that are left
abbrev pub matches : ℤ → List ℤ → List ℤ → List Float → Pairing → List Bool → List Event
matches frame truths hypotheses distances p switched =
    gather p.used (λ i. true) (matched_at frame truths hypotheses distances p.pairs switched)

abbrev pub misses : ℤ → List ℤ → Pairing → List Event
misses frame truths p = gather (length truths) (λ i. not (on p.rows i)) (missed_at frame truths)

abbrev pub false_positives : ℤ → List ℤ → Pairing → List Event
false_positives frame hypotheses p = gather (length hypotheses) (λ j. not (on p.cols j)) (false_at frame hypotheses)

-- THE EVENTS OF A FRAME
unfoldable pub events_of : ℤ → List ℤ → List ℤ → List Float → Pairing → List Bool → List Event
events_of frame truths hypotheses distances p switched =
    matches frame truths hypotheses distances p switched
    ++ (misses frame truths p ++ false_positives frame hypotheses p)

-- ---- a log with these events after its own; every other place keeps what it held
unfoldable pub log_after : Log → List Event → Log
log_after l es = record { events = sets l.events l.used es; used = l.used + length es }

-- ---- the ids that stand in events, in order
unfoldable pub truths_in : List Event → List ℤ
truths_in [] = []
truths_in (e ∷ es) = (values_of e.what).truth ++ truths_in es

unfoldable pub hypotheses_in : List Event → List ℤ
hypotheses_in [] = []
hypotheses_in (e ∷ es) = (values_of e.what).hypothesis ++ hypotheses_in es

-- ---- how the code does it
-- event number k, from lists of the rows and columns that are left
unfoldable pub event_at : ℤ → List ℤ → List ℤ → List Float → List ℕ → List Bool → ℕ → List ℕ → List ℕ → ℕ → Event
event_at frame truths hypotheses distances pairs switched used left_rows left_cols k =
    cond (ltb k used) (matched_at frame truths hypotheses distances pairs switched k)
    (cond (ltb k (length truths)) (missed_at frame truths (get_or left_rows (k - used) 0)) (false_at frame hypotheses (get_or left_cols (k - length truths) 0)))

-- what such lists obey, of so many rows and columns
pub record Lists (rows columns : ℕ) (pairs : List ℕ) (used : ℕ) (left_rows left_cols : List ℕ) : Type 0 where
  pub few_rows : rows ≤ 64
  pub few_columns : columns ≤ 64
  pub rows_over : used ≤ rows
  pub columns_over : used ≤ columns
  pub pair_in : (i : ℕ) → i < used → get_or pairs i 0 < rows * columns
  pub row_in : (i : ℕ) → used + i < rows → get_or left_rows i 0 < rows
  pub column_in : (j : ℕ) → used + j < columns → get_or left_cols j 0 < columns
