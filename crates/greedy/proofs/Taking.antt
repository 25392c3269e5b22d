-- Pairs taken one after the other: a turn, and that both ends of each are free when its turn comes. Assumes nothing.
use mathlib.Core.Path.{◌≡◌, refl, sym, ap, ◌∙◌, subst}
use mathlib.Core.Bool.{Bool, true, false, not, ◌&&◌, cond, false≢true}
use mathlib.Core.List.{List, [], ◌∷◌, ◌++◌, map, map-append, append-nil}
use Prim.Native.Nat.{ℕ, zero, suc, ◌+◌, ◌*◌, ◌<◌, ◌≤◌, ◌/◌, ◌%◌}
use native.Mathlib.Omega.{arith}
use native.Mathlib.Nat.{not-suc-le-zero, div-lt_iff_lt-mul, mod-lt, mul-zero}
use native.Mathlib.Numerals.{add-one}
use lib.ListN.{length, get_or, set, length-set, take, length-append, length-map}
use lib.Seq.{take-suc}
use Rattle.square.specs.Index.{filled, on}
use Rattle.square.proofs.Count.{count_room}
use Rattle.square.proofs.Gather.{fill_one}
use Rattle.sorting.specs.Order.{Each}
use Rattle.sorting.proofs.Permutes.{each_at}
use Rattle.greedy.specs.declared.Pairing.{Pairing}
use Rattle.greedy.specs.Greedy.{both_free, taken, taken_of, none, rows_of, cols_of, marked, pairing_with, pairing_of}
use Rattle.greedy.proofs.Marks.{Fresh, marked_more, counted}

-- ---- a pair's ends
pub some_columns : (k n w : ℕ) → k < n * w → 0 < w
some_columns k n zero h = absurd (not-suc-le-zero (subst (λ (x : ℕ). k < x) (mul-zero n) h))
some_columns k n (suc w) h = omega arith

pub row_in : (k n w : ℕ) → k < n * w → k / w < n
row_in k n w h = (div-lt_iff_lt-mul (some_columns k n w h)).1 h

pub col_in : (k n w : ℕ) → k < n * w → k % w < w
col_in k n w h = mod-lt k (some_columns k n w h)

free_row : (a b : Bool) → (not a && not b) ≡ true → a ≡ false
free_row false b e = refl
free_row true b e = absurd (false≢true e)

free_col : (a b : Bool) → (not a && not b) ≡ true → b ≡ false
free_col true b e = absurd (false≢true e)
free_col false false e = refl
free_col false true e = absurd (false≢true e)

-- ---- what holds of each pair holds of each that is taken
pub each_taken : (P : ℕ → Type 0) (w : ℕ) (l : List ℕ) (rows cols : List Bool) → Each P l → Each P (taken w l rows cols)
unfolding taken
each_taken P w [] rows cols e = tt
each_taken P w (k ∷ l) rows cols e =
    go (both_free w rows cols k) (each_taken P w l (set rows (k / w) true) (set cols (k % w) true) e.1) (each_taken P w l rows cols e.1)
  where
    go : (b : Bool) → Each P (taken w l (set rows (k / w) true) (set cols (k % w) true)) → Each P (taken w l rows cols)
        → Each P (cond b (k ∷ taken w l (set rows (k / w) true) (set cols (k % w) true)) (taken w l rows cols))
    go true r s = (e.0, r)
    go false r s = s

each_take : (P : ℕ → Type 0) (m : ℕ) (l : List ℕ) → Each P l → Each P (take m l)
each_take P zero l e = tt
each_take P (suc m) [] e = tt
each_take P (suc m) (k ∷ l) e = (e.0, each_take P m l e.1)

map_each : (P Q : ℕ → Type 0) (f : ℕ → ℕ) → ((k : ℕ) → P k → Q (f k)) → (l : List ℕ) → Each P l → Each Q (map f l)
map_each P Q f g [] e = tt
map_each P Q f g (k ∷ l) e = (g k e.0, map_each P Q f g l e.1)

-- ---- free at both ends
abbrev FreshEnds : ℕ → List ℕ → List Bool → List Bool → Type 0
FreshEnds w t rows cols = Fresh (rows_of w t) rows × Fresh (cols_of w t) cols

fresh_ends : (n w : ℕ) (l : List ℕ) (rows cols : List Bool) → n ≤ length rows → w ≤ length cols → Each (λ k. k < n * w) l → FreshEnds w (taken w l rows cols) rows cols
unfolding taken
fresh_ends n w [] rows cols h g e = (tt, tt)
fresh_ends n w (k ∷ l) rows cols h g e =
    go (both_free w rows cols k) refl
    (fresh_ends n w l (set rows (k / w) true) (set cols (k % w) true) (rw (length-set rows (k / w) true) h) (rw (length-set cols (k % w) true) g) e.1)
    (fresh_ends n w l rows cols h g e.1)
  where
    go : (b : Bool) → both_free w rows cols k ≡ b
        → FreshEnds w (taken w l (set rows (k / w) true) (set cols (k % w) true)) (set rows (k / w) true) (set cols (k % w) true)
        → FreshEnds w (taken w l rows cols) rows cols
        → FreshEnds w (cond b (k ∷ taken w l (set rows (k / w) true) (set cols (k % w) true)) (taken w l rows cols)) rows cols
    go true q r s =
        let a = row_in k n w e.0 in
        let c = col_in k n w e.0 in (
          ((let z : k / w < length rows = omega arith in z), free_row (on rows (k / w)) (on cols (k % w)) q, r.0),
          ((let z : k % w < length cols = omega arith in z), free_col (on rows (k / w)) (on cols (k % w)) q, r.1),
        )
    go false q r s = s

module _ (n w : ℕ) (l : List ℕ) (n64 : n ≤ 64) (w64 : w ≤ 64) (inside : Each (λ k. k < n * w) l) where
  pub taken_inside : Each (λ k. k < n * w) (taken_of w l)
  taken_inside = each_taken (λ k. k < n * w) w l none none inside

  pub rows_fresh : Fresh (rows_of w (taken_of w l)) none
  rows_fresh = (fresh_ends n w l none none n64 w64 inside).0

  pub cols_fresh : Fresh (cols_of w (taken_of w l)) none
  cols_fresh = (fresh_ends n w l none none n64 w64 inside).1

  pub rows_inside : Each (λ i. i < n) (rows_of w (taken_of w l))
  rows_inside = map_each (λ k. k < n * w) (λ i. i < n) (λ k. k / w) (λ k h. row_in k n w h) (taken_of w l) taken_inside

  pub cols_inside : Each (λ j. j < w) (cols_of w (taken_of w l))
  cols_inside = map_each (λ k. k < n * w) (λ j. j < w) (λ k. k % w) (λ k h. col_in k n w h) (taken_of w l) taken_inside

-- ---- a turn

-- pair k, if it is free once the pairs t are taken
abbrev last : ℕ → ℕ → List ℕ → List Bool → List Bool → List ℕ
last w k t rows cols = cond (both_free w (marked (rows_of w t) rows) (marked (cols_of w t) cols) k) (k ∷ []) []

taken_more : (w : ℕ) (l : List ℕ) (k : ℕ) (rows cols : List Bool) → taken w (l ++ (k ∷ [])) rows cols ≡ taken w l rows cols ++ last w k (taken w l rows cols) rows cols
unfolding taken marked
taken_more w [] k rows cols = refl
taken_more w (j ∷ l) k rows cols =
    go (both_free w rows cols j) _ _ _ _ (taken_more w l k (set rows (j / w) true) (set cols (j % w) true)) (taken_more w l k rows cols)
  where
    go : (b : Bool) (x₁ x₂ t₁ t₂ : List ℕ) → x₁ ≡ t₁ ++ last w k t₁ (set rows (j / w) true) (set cols (j % w) true) → x₂ ≡ t₂ ++ last w k t₂ rows cols
        → cond b (j ∷ x₁) x₂ ≡ cond b (j ∷ t₁) t₂ ++ last w k (cond b (j ∷ t₁) t₂) rows cols
    go true x₁ x₂ t₁ t₂ r s = ap (λ (x : List ℕ). j ∷ x) r
    go false x₁ x₂ t₁ t₂ r s = s

pub starts : (w : ℕ) (order : List ℕ) → pairing_with w [] ≡ pairing_of w (take 0 order)
unfolding pairing_of taken
starts w order = refl

-- the pairing p of the first i pairs, and the pair in hand, with its row and its column
module _ (n w : ℕ) (order : List ℕ) (i : ℕ) (n64 : n ≤ 64) (w64 : w ≤ 64) (inside : Each (λ k. k < n * w) order) (h : i < length order)
    (p : Pairing) (e : p ≡ pairing_of w (take i order)) where
  abbrev k : ℕ
  k = get_or order i 0

  abbrev t : List ℕ
  t = taken_of w (take i order)

  pub pair_in : get_or order i 0 < n * w
  pair_in = each_at (λ j. j < n * w) order i inside h

  so_far : Each (λ j. j < n * w) (take i order)
  so_far = each_take (λ j. j < n * w) i order inside

  held : p ≡ pairing_with w t
  unfolding pairing_of
  held = e

  pairs_are : p.pairs ≡ filled 0 t
  pairs_are = ap (λ (q : Pairing). q.pairs) held

  used_is : p.used ≡ length t
  used_is = ap (λ (q : Pairing). q.used) held

  rows_are : p.rows ≡ marked (rows_of w t) none
  rows_are = ap (λ (q : Pairing). q.rows) held

  cols_are : p.cols ≡ marked (cols_of w t) none
  cols_are = ap (λ (q : Pairing). q.cols) held

  next : taken_of w (take (i + 1) order) ≡ t ++ cond (both_free w p.rows p.cols k) (k ∷ []) []
  next = rw (add-one i, take-suc order i 0 h, rows_are, cols_are) (taken_more w (take i order) k none none)

  -- the code's test: b, of the row and the column in hand
  module _ (row col : ℕ) (b : Bool) (er : row ≡ k / w) (ec : col ≡ k % w) (eb : b ≡ (not (on p.rows row) && not (on p.cols col))) where
    is_free : both_free w p.rows p.cols k ≡ b
    is_free = sym (eb ∙ rw (er, ec) refl)

    -- a pair that is taken has room
    pub room : b ≡ true → p.used < 64
    room f =
        let q : on (marked (rows_of w t) none) (k / w) ≡ false = rw rows_are at (free_row (on p.rows (k / w)) (on p.cols (k % w)) (is_free ∙ f)) in
        let a = counted n (rows_of w t) (rows_fresh n w (take i order) n64 w64 so_far) (rows_inside n w (take i order) n64 w64 so_far) in
        let c = count_room n (on (marked (rows_of w t) none)) (k / w) (row_in k n w pair_in) q in
        let d = length-map t (λ j. j / w) in
        let u = used_is in
        omega arith

    pub takes : (p' : Pairing) → b ≡ true
        → p' ≡ record { pairs = set p.pairs p.used k; used = p.used + 1; rows = set p.rows row true; cols = set p.cols col true } → p' ≡ pairing_of w (take (i + 1) order)
    unfolding pairing_of
    takes p' f ep =
        let one : taken_of w (take (i + 1) order) ≡ t ++ (k ∷ []) = next ∙ rw (is_free, f) refl in
        let r = room f in
        let u = used_is in
        ep
        ∙ ((λ j. record {
          pairs = (let z : set p.pairs p.used k ≡ filled 0 (t ++ (k ∷ [])) = rw (pairs_are, u) (fill_one 0 t k (omega arith)) in z) j;
          used = (let z : p.used + 1 ≡ length (t ++ (k ∷ [])) = omega (arith, length-append t (k ∷ [])) in z) j;
          rows = (let z : set p.rows row true ≡ marked (rows_of w (t ++ (k ∷ []))) none = rw (er, rows_are, map-append) (sym (marked_more (rows_of w t) (k / w) none)) in z) j;
          cols = (let z : set p.cols col true ≡ marked (cols_of w (t ++ (k ∷ []))) none = rw (ec, cols_are, map-append) (sym (marked_more (cols_of w t) (k % w) none)) in z) j;
        })
        ∙ ap (pairing_with w) (sym one))

    pub skips : (p' : Pairing) → b ≡ false → p' ≡ p → p' ≡ pairing_of w (take (i + 1) order)
    unfolding pairing_of
    skips p' f ep = ep ∙ held ∙ ap (pairing_with w) (sym (append-nil t) ∙ sym (next ∙ rw (is_free, f) refl))
