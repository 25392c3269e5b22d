-- The minimum and the correction over listed columns are those over all columns. Assumes nothing.
use Prim.Native.Nat.{ℕ, zero, suc, ◌+◌, ◌-◌, ◌*◌, ◌<◌, ◌≤◌}
use mathlib.Core.Path.{◌≡◌, refl, sym, ap, subst, ◌∙◌}
use mathlib.Core.Bool.{Bool, true, false, not, cond}
use mathlib.Core.List.{List, [], ◌∷◌, ◌++◌}
use mathlib.Core.Logic.{⊎_elim}
use native.Mathlib.Omega.{arith}
use lib.ListN.{get_or-append, length, length-append, get_or, replicate, set, take, drop}
use lib.Seq.{drop-cons, get_or-take, length-take-le, get_or-set_same, get_or-set_other}
use lib.Ieee.{Float, nan, lt, inf, binary64, add, sub}
use Rattle.floats.specs.Float.{is_zero}
use borrow.Author.Tests.{not-true, not-false}
use Rattle.square.specs.Index.{gather, like, loop, on, Picked}
use Rattle.square.specs.Square.{at, in_row, least, line}
use Rattle.square.proofs.Gather.{gather-length}
use Rattle.square.proofs.Index.{below_more, eq-or-not, last_or_before, loop_more, loop_same}
use Rattle.square.proofs.Picking.{picked_loop}
use Rattle.square.proofs.Square.{line-length, least_new, least_old}
use Rattle.square.proofs.Truth.{dec}
use Rattle.std.proofs.lemmas.List.{drop_all, get_or-append_right, get_or-drop, set-append_left, set-append_right}
use borrow.Rule.Slice.PartMut.{put_mid, put_same}
use Rattle.std.proofs.lemmas.List.Elements.{All-from_get_or}
use lib.ListN.{length-drop}
use Rattle.std.specs.List.{All}
use native.Mathlib.Numerals.{add-one}
use Rattle.corrections.specs.Inner.{Columns, Listed, least_in}
use Rattle.corrections.specs.Correction.{correction, least_step, least_row, least_rows, shifted_of}

-- the places of a row's listed columns
abbrev pub listed : ℕ → List ℕ → ℕ → ℕ
listed i columns t = i * 64 + get_or columns t 0

-- ---- the minimum
-- one column more
module _ (row : List Float) (js : List ℕ) (m : Float) (t : ℕ) where
  turn : t < length js → least_in row (drop t js) m ≡ least_in row (drop (t + 1) js) (least m (get_or row (get_or js t 0) nan))
  unfolding least_in
  turn l = rw (drop-cons js t 0, add-one t)

  pub passed : t < length js → lt (get_or row (get_or js t 0) nan) m ≡ false → least_in row (drop t js) m ≡ least_in row (drop (t + 1) js) m
  passed l e = turn l ∙ ap (least_in row (drop (t + 1) js)) (sym (least_old m (get_or row (get_or js t 0) nan) m refl e))

  pub reached : t < length js → lt (get_or row (get_or js t 0) nan) m ≡ true → least_in row (drop t js) m ≡ least_in row (drop (t + 1) js) (get_or row (get_or js t 0) nan)
  reached l e = turn l ∙ ap (least_in row (drop (t + 1) js)) (sym (least_new m (get_or row (get_or js t 0) nan) (get_or row (get_or js t 0) nan) refl e))

  pub all_passed : length js ≤ t → least_in row (drop t js) m ≡ m
  unfolding least_in
  all_passed l = rw (drop_all t js l)

-- none of the entries from `from` on is smaller than m, and the next is none either
pub none_below : (row : List Float) (js : List ℕ) (m : Float) (from t : ℕ) → ((s : ℕ) → from ≤ s → s < t → lt (get_or row (get_or js s 0) nan) m ≡ false)
    → lt (get_or row (get_or js t 0) nan) m ≡ false → (s : ℕ) → from ≤ s → s < t + 1 → lt (get_or row (get_or js s 0) nan) m ≡ false
none_below row js m from t old here s f l =
    below_more t (λ s. from ≤ s → lt (get_or row (get_or js s 0) nan) m ≡ false) (λ s l f. old s f l) (λ _. here) s (omega arith) f

-- ---- a row of the square, and the listed columns in an array
abbrev pub row_of : ℕ → List Float → List Float
row_of i c = take (i * 64 + 64 - i * 64) (drop (i * 64) c)

row_long : (i : ℕ) → i * 64 + 64 - i * 64 ≡ 64
row_long i = omega arith

pub row_of-length : (i : ℕ) (c : List Float) → i * 64 + 64 ≤ length c → length (row_of i c) ≡ 64
row_of-length i c fits = rw (row_long i) (length-take-le 64 (drop (i * 64) c) (omega (arith, length-drop (i * 64) c)))

row_of-at : (i : ℕ) (c : List Float) (j : ℕ) → j < 64 → get_or (row_of i c) j nan ≡ get_or c (i * 64 + j) nan
row_of-at i c j l = rw (row_long i) (get_or-take 64 (drop (i * 64) c) j nan l ∙ get_or-drop (i * 64) c j nan)

pub all_inside : (columns : List ℕ) (used : ℕ) → Columns columns used → used ≤ length columns → All (λ j. j < 64) (take used columns)
all_inside columns used v le = All-from_get_or (λ j. j < 64) (take used columns) 0
    (λ t l. subst (λ (j : ℕ). j < 64) (sym (get_or-take used columns t 0 (omega (arith, length-take-le used columns le)))) (v.inside t (omega (arith, length-take-le used columns le))))

-- what the functions of one row ask
pub asked : (i : ℕ) (c : List Float) (columns : List ℕ) (used : ℕ) → Columns columns used → used ≤ length columns → i * 64 + 64 ≤ length c
    → All (λ j. j < length (row_of i c)) (take used columns) × (length (take used columns) ≤ 64) × (length (row_of i c) ≡ 64)
asked i c columns used v le fits = (
  subst (λ (n : ℕ). All (λ j. j < n) (take used columns)) (sym (row_of-length i c fits)) (all_inside columns used v le),
  omega (arith, v.few, length-take-le used columns le),
  row_of-length i c fits,
)

loop_first : {A : Type 0} (k : ℕ) (f : ℕ → A → A) (a : A) → loop (suc k) f a ≡ loop k (λ t. f (suc t)) (f 0 a)
unfolding loop
loop_first zero f a = refl
loop_first (suc k) f a = ap (f (suc k)) (loop_first k f a)

as_loop : (row : List Float) (js : List ℕ) (m : Float) → least_in row js m ≡ loop (length js) (λ t x. least x (get_or row (get_or js t 0) nan)) m
unfolding least_in loop
as_loop row [] m = refl
as_loop row (j ∷ js) m = as_loop row js (least m (get_or row j nan)) ∙ sym (loop_first (length js) (λ t x. least x (get_or row (get_or (j ∷ js) t 0) nan)) m)

-- the minimum over a row's listed columns, where they stand in the square, is that over all columns outside C
pub listed_square : (c : List Float) (C : List Bool) (i n : ℕ) (columns : List ℕ) (used : ℕ) (m : Float) → Picked false C n columns used
    → loop used (λ t x. least x (get_or c (listed i columns t) nan)) m ≡ least_row c C i n m
unfolding least_row least_step
listed_square c C i n columns used m v =
    picked_loop false C n columns used v (λ j x. least x (at c i j)) m ∙ loop_same n _ _ m (λ j _ x. flipped (on C j) (least x (at c i j)) x)
  where
    flipped : (b : Bool) (x y : Float) → cond (not b) x y ≡ cond b y x
    flipped true x y = refl
    flipped false x y = refl

-- the array has room for its used places
picked_long : (wanted : Bool) (C : List Bool) (n : ℕ) (columns : List ℕ) (used : ℕ) → Picked wanted C n columns used → used ≤ length columns
picked_long wanted C n columns used v =
    let picks : ℕ → Bool = λ j. like wanted (on C j) in
    let l : List ℕ = gather n picks (λ j. j) in
    omega (arith, v.used_is, ap length v.places_are, length-append l (replicate (64 - length l) 0), gather-length picks (λ j. j) n)

-- the same over the row alone, whose run has 64 entries
pub listed_row : (c : List Float) (C : List Bool) (i n : ℕ) (columns : List ℕ) (used : ℕ) (m : Float) → ((t : ℕ) → t < used → get_or columns t 0 < 64) → Picked false C n columns used
    → least_in (row_of i c) (take used columns) m ≡ least_row c C i n m
listed_row c C i n columns used m inside v =
    let le = picked_long false C n columns used v in
    as_loop (row_of i c) (take used columns) m
    ∙ ap (λ (k : ℕ). loop k (λ t x. least x (get_or (row_of i c) (get_or (take used columns) t 0) nan)) m) (length-take-le used columns le)
    ∙ loop_same used _ _ m (λ t l x. ap (least x) (ap (λ (j : ℕ). get_or (row_of i c) j nan) (get_or-take used columns t 0 l) ∙ row_of-at i c (get_or columns t 0) (inside t l)))
    ∙ listed_square c C i n columns used m v

pub rows_none : (c : List Float) (n : ℕ) (R C : List Bool) → least_rows c n R C 0 ≡ inf false
unfolding least_rows
rows_none c n R C = refl

rows_more : (c : List Float) (n : ℕ) (R C : List Bool) (k : ℕ) → least_rows c n R C (k + 1) ≡ cond (on R k) (least_row c C k n (least_rows c n R C k)) (least_rows c n R C k)
unfolding least_rows
rows_more c n R C k = loop_more k (λ i m. cond (on R i) (least_row c C i n m) m) (inf false)

module _ (c : List Float) (n : ℕ) (R C : List Bool) (k : ℕ) (m m' : Float) (v : m ≡ least_rows c n R C k) where
  pub rows_on : m' ≡ least_row c C k n m → on R k ≡ true → m' ≡ least_rows c n R C (k + 1)
  rows_on p e = p ∙ ap (least_row c C k n) v ∙ sym (rows_more c n R C k ∙ rw e)

  pub rows_off : m' ≡ m → on R k ≡ false → m' ≡ least_rows c n R C (k + 1)
  rows_off p e = p ∙ v ∙ sym (rows_more c n R C k ∙ rw e)

-- ---- the correction
set_held : {A : Type 0} (l : List A) (i : ℕ) (d : A) → set l i (get_or l i d) ≡ l
set_held [] i d = refl
set_held (x ∷ l) zero d = refl
set_held {A} (x ∷ l) (suc i) d = ap (λ (k : List A). x ∷ k) (set_held l i d)

-- a row of which only the picked columns change
module _ (i n : ℕ) (wanted : Bool) (C : List Bool) (columns : List ℕ) (used : ℕ) (v : Picked wanted C n columns used) (f : ℕ → Float → Float) (g : Float → Float)
    (changed : (j : ℕ) (x : Float) → like wanted (on C j) ≡ true → g x ≡ f j x) (kept : (j : ℕ) (x : Float) → like wanted (on C j) ≡ false → x ≡ f j x) where
  one : (j : ℕ) (c : List Float) → cond (like wanted (on C j)) (set c (in_row i j) (g (get_or c (in_row i j) nan))) c ≡ set c (in_row i j) (f j (get_or c (in_row i j) nan))
  one j c = ⊎_elim
      (λ (e : like wanted (on C j) ≡ true). rw e (ap (set c (in_row i j)) (changed j (get_or c (in_row i j) nan) e)))
      (λ (e : like wanted (on C j) ≡ false). rw e (sym (set_held c (in_row i j) nan) ∙ ap (set c (in_row i j)) (kept j (get_or c (in_row i j) nan) e)))
      (dec (like wanted (on C j)))

  pub line_picked : (c : List Float) → line (listed i columns) used (λ _. g) c ≡ line (in_row i) n f c
  unfolding line
  line_picked c = picked_loop wanted C n columns used v (λ j c. set c (in_row i j) (g (get_or c (in_row i j) nan))) c ∙ loop_same n _ _ c (λ j _ x. one j x)

-- none of the first listed entries is a zero, and the next is none either
pub zeros_more : (columns : List ℕ) (row : List Float) (t : ℕ) (x : Float) → get_or columns t 0 < length row
    → ((s : ℕ) → s < t → is_zero (get_or row (Listed columns s) nan) ≡ false) → is_zero x ≡ false
    → (s : ℕ) → s < t + 1 → is_zero (get_or (set row (get_or columns t 0) x) (Listed columns s) nan) ≡ false
zeros_more columns row t x l old z s ls = ⊎_elim
    (λ (e : get_or columns s 0 ≡ get_or columns t 0). subst (λ (p : ℕ). is_zero (get_or (set row (get_or columns t 0) x) p nan) ≡ false) (sym e)
    (ap is_zero (get_or-set_same row (get_or columns t 0) x nan l) ∙ z))
    (λ (ne : get_or columns s 0 ≡ get_or columns t 0 → ⊥). ap is_zero (get_or-set_other row (get_or columns t 0) (get_or columns s 0) x nan ne)
    ∙ ⊎_elim (λ (e : s ≡ t). absurd (ne (ap (λ (k : ℕ). get_or columns k 0) e))) (λ (lt : s < t). old s lt) (last_or_before (omega arith)))
    (eq-or-not (get_or columns s 0) (get_or columns t 0))

-- ---- a row that was written to, put back
set_in : (A L P : List Float) (a j : ℕ) (v : Float) → length A ≡ a → j < length L → A ++ (set L j v ++ P) ≡ set (A ++ (L ++ P)) (a + j) v
set_in A L P a j v e l =
    let less : a + j - a ≡ j = omega arith in
    sym (set-append_right A (L ++ P) a (a + j) v e (omega arith) ∙ ap (λ (z : List Float). A ++ z) (ap (λ (k : ℕ). set (L ++ P) k v) less ∙ set-append_left L P j v l))

get_in : (A L P : List Float) (a j : ℕ) → length A ≡ a → j < length L → get_or L j nan ≡ get_or (A ++ (L ++ P)) (a + j) nan
get_in A L P a j e l =
    let less : a + j - a ≡ j = omega arith in
    sym (get_or-append_right A (L ++ P) a (a + j) nan e (omega arith) ∙ ap (λ (k : ℕ). get_or (L ++ P) k nan) less ∙ get_or-append L P nan j l)

-- the square with the row in its place
abbrev pub put_row : ℕ → List Float → List Float → List Float
put_row i c row = put_mid (i * 64) (i * 64 + 64 - i * 64) c row

module _ (i : ℕ) (c : List Float) (fits : i * 64 + 64 ≤ length c) where
  before : length (take (i * 64) c) ≡ i * 64
  before = length-take-le (i * 64) c (omega arith)

  pub put_row-at : (row : List Float) (j : ℕ) → length row ≡ 64 → j < 64 → get_or row j nan ≡ get_or (put_row i c row) (i * 64 + j) nan
  put_row-at row j e l = get_in (take (i * 64) c) row (drop (i * 64 + 64 - i * 64) (drop (i * 64) c)) (i * 64) j before (omega arith)

  module _ (columns : List ℕ) (used : ℕ) (v : Columns columns used) (le : used ≤ length columns) (f : Float → Float) where
    -- the row's first k listed entries
    abbrev Row : ℕ → List Float
    Row k = line (Listed (take used columns)) k (λ _. f) (row_of i c)

    Row-length : (k : ℕ) → length (Row k) ≡ 64
    Row-length k = line-length (Listed (take used columns)) (λ _. f) k (row_of i c) ∙ row_of-length i c fits

    row_line : (k : ℕ) → k ≤ used → put_row i c (Row k) ≡ line (listed i columns) k (λ _. f) c
    unfolding line
    row_line zero l = put_same (i * 64) (i * 64 + 64 - i * 64) c
    row_line (suc k) l = rw (get_or-take used columns k 0 l) (
        set_in (take (i * 64) c) (Row k) (drop (i * 64 + 64 - i * 64) (drop (i * 64) c)) (i * 64) (get_or columns k 0) _ before (omega (arith, Row-length k, v.inside k l))
        ∙ ap (λ (x : Float). set (put_row i c (Row k)) (listed i columns k) (f x)) (put_row-at (Row k) (get_or columns k 0) (Row-length k) (v.inside k l))
        ∙ ap (λ (x : List Float). set x (listed i columns k) (f (get_or x (listed i columns k) nan))) (row_line k (omega arith)))

    pub put_back : (row : List Float) → row ≡ line (Listed (take used columns)) (length (take used columns)) (λ _. f) (row_of i c)
        → put_row i c row ≡ line (listed i columns) used (λ _. f) c
    put_back row e = ap (put_row i c) (e ∙ ap (λ (k : ℕ). Row k) (length-take-le used columns le)) ∙ row_line used (omega arith)

    -- what is known of the row's listed entries, said of the square
    pub zeros_back : (row : List Float) → length row ≡ 64 → ((t : ℕ) → t < length (take used columns) → is_zero (get_or row (Listed (take used columns) t) nan) ≡ false)
        → (t : ℕ) → t < used → is_zero (get_or (put_row i c row) (listed i columns t) nan) ≡ false
    zeros_back row e h t l =
        let w : is_zero (get_or row (get_or (take used columns) t 0) nan) ≡ false = h t (omega (arith, length-take-le used columns le)) in
        ap is_zero (sym (put_row-at row (get_or columns t 0) e (v.inside t l)))
        ∙ ap (λ (j : ℕ). is_zero (get_or row j nan)) (sym (get_or-take used columns t 0 l)) ∙ w

module _ (R C : List Bool) (m : Float) (i n : ℕ) (columns : List ℕ) (used : ℕ) where
  shifted_is : (a b a' b' : Bool) (x : Float) → a ≡ a' → b ≡ b' → shifted_of a' b' m x ≡ shifted_of a b m x
  shifted_is a b a' b' x p q = rw (p, q)

  pub row_less : on R i ≡ true → Picked false C n columns used → (c : List Float) → line (listed i columns) used (λ _ x. sub binary64 x m) c ≡ line (in_row i) n (correction R C m i) c
  unfolding shifted_of
  row_less r v = line_picked i n false C columns used v (correction R C m i) (λ x. sub binary64 x m)
      (λ j x e. shifted_is (on R i) (on C j) true false x r (not-true (on C j) e))
      (λ j x e. shifted_is (on R i) (on C j) true true x r (not-false (on C j) e))

  pub row_more : on R i ≡ false → Picked true C n columns used → (c : List Float) → line (listed i columns) used (λ _ x. add binary64 x m) c ≡ line (in_row i) n (correction R C m i) c
  unfolding shifted_of
  row_more r v = line_picked i n true C columns used v (correction R C m i) (λ x. add binary64 x m)
      (λ j x e. shifted_is (on R i) (on C j) false true x r e)
      (λ j x e. shifted_is (on R i) (on C j) false false x r e)
