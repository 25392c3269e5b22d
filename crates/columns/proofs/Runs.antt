-- Numbers a column apart in a run: read and written over, one after the other. Assumes nothing.
use mathlib.Core.Path.{◌≡◌, refl, sym, ap, ◌∙◌}
use mathlib.Core.List.{List, [], ◌∷◌}
use Prim.Native.Nat.{ℕ, zero, suc, ◌+◌, ◌%◌, ◌<◌, ◌≤◌}
use native.Mathlib.Nat.{add-mod_right}
use native.Mathlib.Omega.{arith}
use lib.IntN.{ℤ, pos}
use lib.ListN.{length, get_or, set, length-set}
use lib.Seq.{set_comm, set-set, set-get_or, get_or-set_same, get_or-set_other}
use Rattle.columns.specs.Columns.{place_in, put_all}

abbrev pub read_all : List ℤ → ℕ → ℕ → ℕ → List ℤ
read_all run w k zero = []
read_all run w k (suc n) = get_or run k (pos 0) ∷ read_all run w (k + w) n

-- so many columns, from place k on, lie in a run
abbrev pub Fits : ℕ → ℕ → ℕ → ℕ → Type 0
Fits len w k zero = Unit
Fits len w k (suc n) = (k < len) × Fits len w (k + w) n

place_up : (n w k : ℕ) → k ≤ place_in w k n
place_up zero w k = (let g : k ≤ k = omega arith in g)
place_up (suc n) w k = let h = place_up n w (k + w) in omega arith

-- all of them, where the last does
pub fits_up_to : (n len w k : ℕ) → place_in w k n < len → Fits len w k (suc n)
fits_up_to zero len w k h = (h, tt)
fits_up_to (suc n) len w k h = let p = place_up n w (k + w) in ((let g : k < len = omega arith in g), fits_up_to n len w (k + w) h)

pub all_long : (vs run : List ℤ) (w k : ℕ) → length (put_all run w k vs) ≡ length run
all_long [] run w k = refl
all_long (v ∷ vs) run w k = all_long vs (set run k v) w (k + w) ∙ length-set run k v

-- ---- another place
get_other : (vs run : List ℤ) (w k j : ℕ) → (j % w ≡ k % w → ⊥) → get_or (put_all run w k vs) j (pos 0) ≡ get_or run j (pos 0)
get_other [] run w k j x = refl
get_other (v ∷ vs) run w k j x =
    get_other vs (set run k v) w (k + w) j (λ (e : j % w ≡ (k + w) % w). x (e ∙ add-mod_right k w))
    ∙ get_or-set_other run k j v (pos 0) (λ (e : j ≡ k). x (ap (λ (m : ℕ). m % w) e))

pub all_other : (n : ℕ) (vs run : List ℤ) (w k i : ℕ) → (i % w ≡ k % w → ⊥) → read_all (put_all run w k vs) w i n ≡ read_all run w i n
all_other zero vs run w k i x = refl
all_other (suc n) vs run w k i x =
    λ j. get_other vs run w k i x j ∷ all_other n vs run w k (i + w) (λ (e : (i + w) % w ≡ k % w). x (sym (add-mod_right i w) ∙ e)) j

-- ---- the same place
get_before : (vs run : List ℤ) (w k m : ℕ) → m < k → get_or (put_all run w k vs) m (pos 0) ≡ get_or run m (pos 0)
get_before [] run w k m h = refl
get_before (v ∷ vs) run w k m h =
    get_before vs (set run k v) w (k + w) m (omega arith) ∙ get_or-set_other run k m v (pos 0) (λ (e : m ≡ k). omega arith)

set_before : (vs run : List ℤ) (w k m : ℕ) (a : ℤ) → m < k → set (put_all run w k vs) m a ≡ put_all (set run m a) w k vs
set_before [] run w k m a h = refl
set_before (v ∷ vs) run w k m a h =
    set_before vs (set run k v) w (k + w) m a (omega arith)
    ∙ ap (λ (x : List ℤ). put_all x w (k + w) vs) (set_comm run k m v a (λ (e : k ≡ m). omega arith))

fits_set : (n : ℕ) (len len' w k : ℕ) → len' ≡ len → Fits len w k n → Fits len' w k n
fits_set zero len len' w k e f = tt
fits_set (suc n) len len' w k e f = let h = f.0 in ((let g : k < len' = omega arith in g), fits_set n len len' w (k + w) e f.1)

pub all_same : (vs run : List ℤ) (w k : ℕ) → 0 < w → Fits (length run) w k (length vs) → read_all (put_all run w k vs) w k (length vs) ≡ vs
all_same [] run w k p f = refl
all_same (v ∷ vs) run w k p f =
    λ j. (get_before vs (set run k v) w (k + w) k (omega arith) ∙ get_or-set_same run k v (pos 0) f.0) j
    ∷ all_same vs (set run k v) w (k + w) p (fits_set (length vs) (length run) (length (set run k v)) w (k + w) (length-set run k v) f.1) j

-- what stood there, put back
pub all_back : (vs run : List ℤ) (w k : ℕ) → 0 < w → put_all (put_all run w k vs) w k (read_all run w k (length vs)) ≡ run
all_back [] run w k p = refl
all_back (v ∷ vs) run w k p =
    let g = get_or run k (pos 0) in
    let m = read_all run w (k + w) (length vs) in
    ap (λ (x : List ℤ). put_all x w (k + w) m)
    (set_before vs (set run k v) w (k + w) k g (omega arith)
    ∙ ap (λ (x : List ℤ). put_all x w (k + w) vs) (set-set run k v g ∙ set-get_or run k (pos 0)))
    ∙ all_back vs run w (k + w) p
