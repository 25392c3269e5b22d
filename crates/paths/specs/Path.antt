-- Step E: "For free rows in order, breadth-first over columns in order, through zeros, from a column to its partner row. The first free column met
-- ends it; the path is flipped (one path change)." The encoding adds: 64 for no place and no column. Definitions only.
use Rattle.std.specs.Prelude.{ℕ, ◌<◌, ◌≡◌, Bool, true, false, ◌&&◌, List, [], ◌∷◌, ◌++◌, length, get_or, set, replicate, ltb, eqb, Float}
use Rattle.square.specs.Index.{loop}
use Rattle.square.specs.Square.{zero_at}
use Rattle.paths.specs.State.{State, paired}

-- ---- breadth first from one row
-- from: for each column the place in the queue of the row that it was met from, or none
-- queue: the rows to go through, in order
-- hit: the free column met, or none
pub record Bfs : Type 0 where
  pub from : List ℕ
  pub queue : List ℕ
  pub hit : ℕ

-- column j is met from the row at place h: one with a partner r queues that row, a free one ends it
unfoldable pub take_in : Bool → ℕ → ℕ → ℕ → Bfs → Bfs
take_in true h j r b = record { from = set b.from j h; queue = b.queue ++ (r ∷ []); hit = b.hit }
take_in false h j r b = record { from = set b.from j h; queue = b.queue; hit = j }

unfoldable pub meet_if : Bool → ℕ → List ℕ → ℕ → ℕ → Bfs → Bfs
unfolding take_in
meet_if true n cols h j b = take_in (paired n cols j) h j (get_or cols j 0) b
meet_if false n cols h j b = b

-- column j is looked at from the row at place h: it is met if no free column was met, it was not met before, and a zero leads there
unfoldable pub meet : List Float → ℕ → List ℕ → ℕ → ℕ → ℕ → Bfs → Bfs
unfolding meet_if
meet c n cols h row j b = meet_if (eqb b.hit 64 && (eqb (get_or b.from j 0) 64 && zero_at c row j)) n cols h j b

-- the row at place h of the queue: its first k columns, in order
unfoldable pub scan : List Float → ℕ → List ℕ → ℕ → ℕ → ℕ → Bfs → Bfs
unfolding loop meet
scan c n cols h row k b = loop k (λ j. meet c n cols h row j) b

unfoldable pub pop_if : Bool → List Float → ℕ → List ℕ → ℕ → Bfs → Bfs
unfolding scan
pop_if true c n cols h b = scan c n cols h (get_or b.queue h 0) n b
pop_if false c n cols h b = b

-- place h of the queue, if a row stands there and no free column was met
unfoldable pub pop : List Float → ℕ → List ℕ → ℕ → Bfs → Bfs
unfolding pop_if
pop c n cols h b = pop_if (eqb b.hit 64 && ltb h (length b.queue)) c n cols h b

-- the queue at first
abbrev pub begun : ℕ → Bfs
begun start = record { from = replicate 64 64; queue = start ∷ []; hit = 64 }

-- the first k places of the queue
unfoldable pub pops : List Float → ℕ → List ℕ → ℕ → ℕ → Bfs
unfolding loop pop
pops c n cols start k = loop k (pop c n cols) (begun start)

-- the whole queue: n places are all there can ever be (proofs/Queue, `whole_queue`)
unfoldable pub bfs_of : List Float → ℕ → List ℕ → ℕ → Bfs
unfolding pops
bfs_of c n cols start = pops c n cols start n

-- ---- the path flipped
-- column j, met from place h, becomes the partner of the row there; that row's partner before is next, back to the row at place 0
pub data Flips (from queue : List ℕ) : ℕ → ℕ → List ℕ → List ℕ → List ℕ → List ℕ → Type 0 where
  last : {j : ℕ} {rows cols : List ℕ} → Flips from queue 0 j rows cols (set rows (get_or queue 0 0) j) (set cols j (get_or queue 0 0))
  next : {h j : ℕ} {rows cols R C : List ℕ} → 0 < h
      → Flips from queue (get_or from (get_or rows (get_or queue h 0) 0) 0) (get_or rows (get_or queue h 0) 0) (set rows (get_or queue h 0) j) (set cols j (get_or queue h 0)) R C
      → Flips from queue h j rows cols R C

-- ---- the free rows in order
-- no free row below k has a path
abbrev pub NoPathBelow : ℕ → ℕ → List Float → List ℕ → List ℕ → Type 0
NoPathBelow k n c rows cols = (i : ℕ) → i < k → paired n rows i ≡ false → (bfs_of c n cols i).hit ≡ 64

abbrev pub NoPath : ℕ → State → Type 0
NoPath n s = NoPathBelow n n s.square s.rows s.cols

-- ONE PATH CHANGE: the first free row with a path, and that path flipped
pub record Path (n : ℕ) (s u : State) : Type 0 where
  pub row : ℕ
  pub row_in : row < n
  pub row_free : paired n s.rows row ≡ false
  pub first : NoPathBelow row n s.square s.rows s.cols
  pub hit_in : (bfs_of s.square n s.cols row).hit < n
  pub same : u.square ≡ s.square
  pub flips : Flips (bfs_of s.square n s.cols row).from (bfs_of s.square n s.cols row).queue
      (get_or (bfs_of s.square n s.cols row).from (bfs_of s.square n s.cols row).hit 0) (bfs_of s.square n s.cols row).hit
      s.rows s.cols u.rows u.cols
