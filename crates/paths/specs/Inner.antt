-- What the inner functions ask of each other: no part of document 01, and no caller of the search meets it. Definitions only.
use Rattle.std.specs.Prelude.{ℕ, suc, ◌<◌, ◌≤◌, ◌≡◌, Bool, true, false, List, ◌⊎◌, length, get_or, take, ltb, Float, Option, None, Some}
use Rattle.square.specs.Index.{count}
use Rattle.paths.specs.declared.Found.{Found}
use Rattle.paths.specs.State.{Tables, paired}
use Rattle.paths.specs.Path.{Bfs, bfs_of, NoPathBelow}

-- column j was met
abbrev pub met : List ℕ → ℕ → Bool
met f j = ltb (get_or f j 0) 64

-- what holds of the queue at each moment; start: the free row that it began at
pub record Good (n : ℕ) (rows cols : List ℕ) (start : ℕ) (b : Bfs) : Type 0 where
  pub len : length b.from ≡ 64
  pub some : 0 < length b.queue
  pub short : length b.queue ≤ n
  pub first : get_or b.queue 0 0 ≡ start
  pub inside : (t : ℕ) → t < length b.queue → get_or b.queue t 0 < n
  pub from_or : (j : ℕ) → j < n → (get_or b.from j 0 ≡ 64) ⊎ (get_or b.from j 0 < length b.queue)
  pub via_in : (t : ℕ) → 0 < t → t < length b.queue → get_or rows (get_or b.queue t 0) 0 < n
  pub via_from : (t : ℕ) → 0 < t → t < length b.queue → get_or b.from (get_or rows (get_or b.queue t 0) 0) 0 < t
  pub back : (j : ℕ) → j < n → met b.from j ≡ true → get_or cols j 0 < n → (t : ℕ) × (t < length b.queue) × (get_or b.queue t 0 ≡ get_or cols j 0)
  pub size : b.hit ≡ 64 → length b.queue ≡ suc (count n (met b.from))
  pub met_paired : b.hit ≡ 64 → (j : ℕ) → j < n → met b.from j ≡ true → get_or cols j 0 < n
  pub distinct : (t t' : ℕ) → t < length b.queue → t' < length b.queue → get_or b.queue t 0 ≡ get_or b.queue t' 0 → t ≡ t'
  pub hit_or : (b.hit ≡ 64) ⊎ ((b.hit < n) × (get_or b.from b.hit 0 < length b.queue) × (n ≤ get_or cols b.hit 0))

-- what a flip needs of the queue's array: its first places are a queue that found a column
pub record Trail (rows cols from queue : List ℕ) (hit : ℕ) : Type 0 where
  pub n : ℕ
  pub tail : ℕ
  pub start : ℕ
  pub start_free : n ≤ get_or rows start 0
  pub fits : tail ≤ length queue
  pub len : length queue ≡ 64
  pub tables : Tables n rows cols
  pub good : Good n rows cols start (record { from = from; queue = take tail queue; hit = hit })
  pub hit_in : hit < n

-- a row that step E may begin at: a free one
pub record Begins (n : ℕ) (cols : List ℕ) (start : ℕ) : Type 0 where
  pub rows : List ℕ
  pub tables : Tables n rows cols
  pub start_in : start < n
  pub start_free : paired n rows start ≡ false

-- what the code's arrays hold of b
pub record Holds (b : Bfs) (from queue : List ℕ) (hit tail : ℕ) : Type 0 where
  pub from_is : from ≡ b.from
  pub queue_is : take tail queue ≡ b.queue
  pub tail_is : tail ≡ length b.queue
  pub hit_is : hit ≡ b.hit
  pub len : length queue ≡ 64

-- the same, where tail is some place of the queue's array
abbrev pub Held : Bfs → List ℕ → List ℕ → ℕ → Type 0
Held b from queue hit = (tail : ℕ) × Holds b from queue hit tail

-- the free column met, as the definitions have it: 64 is none
abbrev pub hit_of : Option Found → ℕ
hit_of None = 64
hit_of (Some found) = found.hit

-- a row that step E may end at: the first free one that has a path
pub record Leads (n : ℕ) (c : List Float) (rows cols : List ℕ) (start : ℕ) : Type 0 where
  pub tables : Tables n rows cols
  pub start_in : start < n
  pub start_free : paired n rows start ≡ false
  pub first : NoPathBelow start n c rows cols
  pub hit_in : (bfs_of c n cols start).hit < n
