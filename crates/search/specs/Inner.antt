-- What the functions of steps E, F and G say to each other: no part of document 01, and no caller of the search meets it. Definitions only.
use Rattle.std.specs.Prelude.{ℕ, suc, ◌+◌, ◌<◌, ◌≤◌, ◌≡◌, Bool, true, false, not, List, [], ◌∷◌, length, get_or, Float}
use Rattle.square.specs.Index.{on}
use Rattle.square.specs.Square.{zero_at}
use Rattle.paths.specs.State.{State, state, Ok, paired}
use Rattle.search.specs.Steps.{Closed, Within, Blocked, Corr, Stuck}

-- F marks the free rows, and there is one
pub record Freed (n : ℕ) (rows : List ℕ) (F : List Bool) : Type 0 where
  pub marks : (i : ℕ) → i < n → on F i ≡ not (paired n rows i)
  pub some : (i : ℕ) × (i < n) × (paired n rows i ≡ false)

-- from the marks R₀, C₀ to R, C: nothing is lost, what is new is closed, and its columns are all paired
pub record Grown (c : List Float) (n : ℕ) (cols : List ℕ) (R₀ C₀ R C : List Bool) : Type 0 where
  pub len_row : length R ≡ length R₀
  pub len_col : length C ≡ length C₀
  pub keep_row : (i : ℕ) → on R₀ i ≡ true → on R i ≡ true
  pub keep_col : (j : ℕ) → on C₀ j ≡ true → on C j ≡ true
  pub new_row : (i j : ℕ) → i < n → j < n → on R i ≡ true → on R₀ i ≡ false → zero_at c i j ≡ true → on C j ≡ true
  pub new_col : (j : ℕ) → j < n → on C j ≡ true → on C₀ j ≡ false → (get_or cols j 0 < n) × (on R (get_or cols j 0) ≡ true)

-- what is new lies in every closed pair of sets that holds the old marks and the source
abbrev pub Least : List Float → ℕ → List ℕ → List Bool → List Bool → List Bool → List Bool → ((ℕ → Bool) → (ℕ → Bool) → Type 0) → Type 0
Least c n cols R₀ C₀ R C src = (P Q : ℕ → Bool) → Closed c n cols P Q → Within R₀ C₀ P Q → src P Q → Within R C P Q

-- a free column is marked
abbrev pub FreeMarked : ℕ → List ℕ → List Bool → Type 0
FreeMarked n cols C = (j : ℕ) × (j < n) × (on C j ≡ true) × (n ≤ get_or cols j 0)

-- where no free column was met: row's own mark, and all that it leads to
pub record RowClosed (c : List Float) (n : ℕ) (cols : List ℕ) (row : ℕ) (R₀ C₀ R C : List Bool) : Type 0 where
  pub here : on R row ≡ true
  pub own : (j : ℕ) → j < n → zero_at c row j ≡ true → on C j ≡ true
  pub grown : Grown c n cols R₀ C₀ R C

pub record ColClosed (c : List Float) (n : ℕ) (cols : List ℕ) (col : ℕ) (R₀ C₀ R C : List Bool) : Type 0 where
  pub here : on C col ≡ true
  pub grown : Grown c n cols R₀ C₀ R C

-- b: a free column was met, and the routine stopped there
abbrev pub RowEnd : Bool → List Float → ℕ → List ℕ → ℕ → List Bool → List Bool → List Bool → List Bool → Type 0
RowEnd true c n cols row R₀ C₀ R C = FreeMarked n cols C
RowEnd false c n cols row R₀ C₀ R C = RowClosed c n cols row R₀ C₀ R C

abbrev pub ColEnd : Bool → List Float → ℕ → List ℕ → ℕ → List Bool → List Bool → List Bool → List Bool → Type 0
ColEnd true c n cols col R₀ C₀ R C = FreeMarked n cols C
ColEnd false c n cols col R₀ C₀ R C = ColClosed c n cols col R₀ C₀ R C

-- what the row routine and the column routine leave
pub record RowDone (b : Bool) (c : List Float) (n : ℕ) (cols : List ℕ) (row : ℕ) (R₀ C₀ R C : List Bool) : Type 0 where
  pub least : Least c n cols R₀ C₀ R C (λ P Q. P row ≡ true)
  pub end : RowEnd b c n cols row R₀ C₀ R C

pub record ColDone (b : Bool) (c : List Float) (n : ℕ) (cols : List ℕ) (col : ℕ) (R₀ C₀ R C : List Bool) : Type 0 where
  pub least : Least c n cols R₀ C₀ R C (λ P Q. Q col ≡ true)
  pub end : ColEnd b c n cols col R₀ C₀ R C

-- how many places are not marked: the measure of the two routines
unfoldable pub holes : List Bool → ℕ
holes [] = 0
holes (true ∷ l) = holes l
holes (false ∷ l) = suc (holes l)

-- the row routine was called for the marked rows of F below k, in order, and met no free column
pub record Looked (k : ℕ) (c : List Float) (n : ℕ) (cols : List ℕ) (F R₀ C₀ R C : List Bool) : Type 0 where
  pub here : (i : ℕ) → i < k → on F i ≡ true → on R i ≡ true
  pub own : (i j : ℕ) → i < k → j < n → on F i ≡ true → zero_at c i j ≡ true → on C j ≡ true
  pub grown : Grown c n cols R₀ C₀ R C
  pub least : Least c n cols R₀ C₀ R C (λ P Q. (i : ℕ) → i < k → on F i ≡ true → P i ≡ true)

-- at row k it met one
pub record Met (k : ℕ) (c : List Float) (n : ℕ) (cols : List ℕ) (F R₀ C₀ R C : List Bool) : Type 0 where
  pub R₁ : List Bool
  pub C₁ : List Bool
  pub before : Looked k c n cols F R₀ C₀ R₁ C₁
  pub row_on : on F k ≡ true
  pub least : Least c n cols R₁ C₁ R C (λ P Q. P k ≡ true)
  pub met : FreeMarked n cols C

-- k corrections in a row, and nothing else
pub data Corrs (n : ℕ) (s : State) : ℕ → State → Type 0 where
  none : Corrs n s 0 s
  more : {k : ℕ} {u t : State} → Corrs n s k u → Corr n u t → Corrs n s (k + 1) t

-- the tables' rows go with the marks: step F is come to
pub record Marked (n : ℕ) (c : List Float) (rows cols : List ℕ) (R C : List Bool) : Type 0 where
  pub ok : Ok n (state c rows cols)
  pub blocked : Blocked n (state c rows cols) R C

-- corrections until a free column is reached, at least one, or until the minimum is of no use
abbrev pub CorrsEnd : Bool → ℕ → ℕ → State → Type 0
CorrsEnd true n k s = Stuck n s
CorrsEnd false n k s = 0 < k

pub record Corrected (stuck : Bool) (n k : ℕ) (c : List Float) (rows cols : List ℕ) (c' : List Float) : Type 0 where
  pub corrs : Corrs n (state c rows cols) k (state c' rows cols)
  pub end : CorrsEnd stuck n k (state c' rows cols)
