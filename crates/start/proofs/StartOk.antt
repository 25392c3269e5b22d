-- Where the loop D to G starts, all is as every step keeps it: the tables are each other's inverse and the square has its length. Assumes nothing.
use Prim.Native.Nat.{ℕ, suc, ◌*◌, ◌<◌, ◌≤◌, max}
use mathlib.Core.Path.{◌≡◌, refl, sym, ap, ◌∙◌, subst}
use mathlib.Core.Bool.{Bool, true, false, not, cond, ◌&&◌}
use mathlib.Core.List.{List}
use mathlib.Core.Logic.{⊎_elim}
use native.Mathlib.Omega.{arith}
use lib.ListN.{length, get_or, set, replicate, length-set, length-replicate, get_or-replicate}
use lib.Seq.{get_or-set_same, get_or-set_other}
use lib.Ieee.{Float, binary64, sub}
use borrow.Author.Tests.{ltb-false, le-ltb, not-true}
use Rattle.floats.specs.Float.{is_finite, zero64}
use Rattle.square.specs.Index.{count}
use Rattle.square.specs.Square.{zero_at, along}
use Rattle.square.proofs.Truth.{and_left, and_right}
use Rattle.square.proofs.Index.{eq-or-not, loop_keeps}
use Rattle.square.proofs.Count.{count_more}
use Rattle.square.proofs.Square.{line-length, over-length}
use Rattle.paths.specs.State.{Tables, Ok, paired}
use Rattle.paths.proofs.FlipKeeps.{paired_same, paired_other}
use Rattle.start.specs.Steps.{entry, padded, least_along, less_by, lowered, rows_lowered, cols_lowered, Pairs, no_pairs, pair_if, pair_at, pair_row, pair_rows, square_of, start_of}

-- ---- C
-- one side: a table a that is inverse to b, with a new pair at two free places
back_more : (n : ℕ) (a b : List ℕ) (i j : ℕ) → i < length a → j < length b → n ≤ get_or b j 0 → ((x : ℕ) → x < n → get_or a x 0 < n → get_or b (get_or a x 0) 0 ≡ x)
    → (x : ℕ) → x < n → get_or (set a i j) x 0 < n → get_or (set b j i) (get_or (set a i j) x 0) 0 ≡ x
back_more n a b i j la lb free old x hx l = ⊎_elim
    (λ (e : x ≡ i). subst (λ (y : ℕ). get_or (set b j i) (get_or (set a i j) y 0) 0 ≡ y) (sym e) (rw (get_or-set_same a i j 0 la) (get_or-set_same b j i 0 lb)))
    (λ (ne : x ≡ i → ⊥).
    let l' : get_or a x 0 < n = rw (get_or-set_other a i x j 0 ne) at l in
    let back = old x hx l' in
    rw (get_or-set_other a i x j 0 ne) (get_or-set_other b j (get_or a x 0) i 0 (λ q. absurd (omega (arith, free, back, ap (λ (y : ℕ). get_or b y 0) q))) ∙ back))
    (eq-or-not x i)

count-set_more : (n : ℕ) (a : List ℕ) (i j : ℕ) → i < n → i < length a → j < n → n ≤ get_or a i 0 → count n (paired n (set a i j)) ≡ suc (count n (paired n a))
count-set_more n a i j hi la hj free = count_more n (paired n a) (paired n (set a i j)) i hi (le-ltb (get_or a i 0) n free) (paired_same n a i j la hj) (λ k _ ne. sym (paired_other n a i j k ne))

pub pair_tables : (n : ℕ) (rows cols : List ℕ) (i j : ℕ) → i < n → j < n → n ≤ get_or rows i 0 → n ≤ get_or cols j 0 → Tables n rows cols → Tables n (set rows i j) (set cols j i)
pair_tables n rows cols i j hi hj fr fc t = record {
  n64 = t.n64;
  len_rows = length-set rows i j ∙ t.len_rows;
  len_cols = length-set cols j i ∙ t.len_cols;
  row_back = back_more n rows cols i j ir jc fc t.row_back;
  col_back = back_more n cols rows j i jc ir fr t.col_back;
  same = count-set_more n rows i j hi ir hj fr ∙ ap suc t.same ∙ sym (count-set_more n cols j i hj jc hi fc);
}
  where
    ir : i < length rows
    ir = omega (arith, t.n64, t.len_rows)

    jc : j < length cols
    jc = omega (arith, t.n64, t.len_cols)

abbrev Fine : ℕ → Pairs → Type 0
Fine n t = Tables n t.rows t.cols

module _ (c : List Float) (n : ℕ) where
  pair_if_lem : (i j : ℕ) → i < n → j < n → (t : Pairs) → Fine n t → (b : Bool) → (zero_at c i j && (not (paired n t.rows i) && not (paired n t.cols j))) ≡ b → Fine n (pair_if b i j t)
  unfolding pair_if
  pair_if_lem i j hi hj t f false e = f
  pair_if_lem i j hi hj t f true e =
      let r = and_right (zero_at c i j) (not (paired n t.rows i) && not (paired n t.cols j)) e in
      pair_tables n t.rows t.cols i j hi hj
      (ltb-false (get_or t.rows i 0) n (not-true (paired n t.rows i) (and_left (not (paired n t.rows i)) (not (paired n t.cols j)) r)))
      (ltb-false (get_or t.cols j 0) n (not-true (paired n t.cols j) (and_right (not (paired n t.rows i)) (not (paired n t.cols j)) r))) f

  pair_at_lem : (i j : ℕ) → i < n → j < n → (t : Pairs) → Fine n t → Fine n (pair_at c n i j t)
  unfolding pair_at
  pair_at_lem i j hi hj t f = pair_if_lem i j hi hj t f (zero_at c i j && (not (paired n t.rows i) && not (paired n t.cols j))) refl

  pair_row_lem : (i : ℕ) → i < n → (t : Pairs) → Fine n t → Fine n (pair_row c n i n t)
  unfolding pair_row
  pair_row_lem i hi t f = loop_keeps (Fine n) n (pair_at c n i) (λ j lj x p. pair_at_lem i j hi lj x p) t f

  pub pair_rows_lem : (t : Pairs) → Fine n t → Fine n (pair_rows c n n t)
  unfolding pair_rows
  pair_rows_lem t f = loop_keeps (Fine n) n (λ i. pair_row c n i n) (λ i li x p. pair_row_lem i li x p) t f

pub no_pairs_fine : (n : ℕ) → n ≤ 64 → Fine n no_pairs
no_pairs_fine n n64 = record {
  n64 = n64;
  len_rows = length-replicate {A = ℕ} 64 64;
  len_cols = length-replicate {A = ℕ} 64 64;
  row_back = λ i hi l. absurd (omega (arith, get_or-replicate {A = ℕ} 64 i 64 0 (omega arith)));
  col_back = λ j hj l. absurd (omega (arith, get_or-replicate {A = ℕ} 64 j 64 0 (omega arith)));
  same = refl;
}

-- ---- A and B: the square keeps its length
abbrev Long : ℕ → List Float → Type 0
Long n c = length c ≡ n * 64

cond_long : (n : ℕ) (b : Bool) (x y : List Float) → Long n x → Long n y → Long n (cond b x y)
cond_long n true x y p q = p
cond_long n false x y p q = q

lower_long : (p : ℕ → ℕ) (n : ℕ) (c : List Float) → Long n c → Long n (lowered p n c)
unfolding lowered
lower_long p n c h = cond_long n (is_finite (least_along p n c)) (less_by p n (least_along p n c) c) c
    (line-length p (λ _ x. sub binary64 x (least_along p n c)) n c ∙ h) h

pub square_long : (m : List Float) (h w : ℕ) → length (square_of m h w) ≡ max h w * 64
unfolding square_of rows_lowered cols_lowered padded
square_long m h w =
    loop_keeps (Long (max h w)) (max h w) (λ j. lowered (along j 64) (max h w)) (λ j _ x p. lower_long (along j 64) (max h w) x p) _
    (loop_keeps (Long (max h w)) (max h w) (λ i. lowered (along (i * 64) 1) (max h w)) (λ i _ x p. lower_long (along (i * 64) 1) (max h w) x p) _
    (over-length w (λ i j _. entry m w i j) h (replicate (max h w * 64) zero64) ∙ length-replicate (max h w * 64) zero64))

pub start_ok : (m : List Float) (h w : ℕ) → h ≤ 64 → w ≤ 64 → Ok (max h w) (start_of m h w)
unfolding start_of
start_ok m h w hh hw = record {
  tables = pair_rows_lem (square_of m h w) (max h w) no_pairs (no_pairs_fine (max h w) (omega arith));
  len = square_long m h w;
}
