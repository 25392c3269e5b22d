-- How many pass. Assumes nothing.
use Prim.Native.Nat.{ℕ, zero, suc, ◌+◌, ◌<◌, ◌≤◌}
use mathlib.Core.Path.{◌≡◌, refl, sym, ap, subst}
use mathlib.Core.Bool.{Bool, true, false, true≢false, cond, not}
use mathlib.Core.Logic.{⊎_elim}
use native.Mathlib.Omega.{arith}
use native.Mathlib.Nat.{not-suc-le-zero, eq-or-lt_of_le}
use Rattle.square.specs.Index.{count}
use Rattle.square.proofs.Index.{last_or_before}

bit : Bool → ℕ
bit b = cond b 1 0

bit_le : (b : Bool) → bit b ≤ 1
unfolding bit
bit_le true = omega arith
bit_le false = omega arith

bit_mono : (a b : Bool) → (a ≡ true → b ≡ true) → bit a ≤ bit b
unfolding bit
bit_mono true true h = omega arith
bit_mono true false h = absurd (true≢false (sym (h refl)))
bit_mono false true h = omega arith
bit_mono false false h = omega arith

count-suc : (k : ℕ) (P : ℕ → Bool) → count (suc k) P ≡ bit (P k) + count k P
unfolding count bit
count-suc k P = refl

pub count-zero : (P : ℕ → Bool) → count 0 P ≡ 0
unfolding count
count-zero P = refl

bit-true : (b : Bool) → b ≡ true → bit b ≡ 1
unfolding bit
bit-true b e = rw e

bit-false : (b : Bool) → b ≡ false → bit b ≡ 0
unfolding bit
bit-false b e = rw e

pub count-le : (k : ℕ) (P : ℕ → Bool) → count k P ≤ k
count-le zero P = omega (arith, count-zero P)
count-le (suc k) P = omega (arith, count-suc k P, bit_le (P k), count-le k P)

pub count_mono : (k : ℕ) (P Q : ℕ → Bool) → ((i : ℕ) → i < k → P i ≡ true → Q i ≡ true) → count k P ≤ count k Q
count_mono zero P Q h = omega (arith, count-zero P)
count_mono (suc k) P Q h = omega (arith, count-suc k P, count-suc k Q, bit_mono (P k) (Q k) (h k (omega arith)), count_mono k P Q (λ i lt. h i (omega arith)))

pub count_strict : (k : ℕ) (P Q : ℕ → Bool) → ((i : ℕ) → i < k → P i ≡ true → Q i ≡ true) → (i : ℕ) → i < k → P i ≡ false → Q i ≡ true → count k P < count k Q
count_strict zero P Q h i lt f t = absurd (not-suc-le-zero lt)
count_strict (suc k) P Q h i lt f t = ⊎_elim
    (λ e. omega (
      arith,
      count-suc k P,
      count-suc k Q,
      bit-false (P k) (subst (λ (x : ℕ). P x ≡ false) e f),
      bit-true (Q k) (subst (λ (x : ℕ). Q x ≡ true) e t),
      count_mono k P Q (λ x l. h x (omega arith)),
    ))
    (λ l. omega (arith, count-suc k P, count-suc k Q, bit_mono (P k) (Q k) (h k (omega arith)), count_strict k P Q (λ x l'. h x (omega arith)) i l f t))
    (last_or_before lt)

pub count_room : (k : ℕ) (P : ℕ → Bool) (i : ℕ) → i < k → P i ≡ false → count k P < k
count_room k P i lt f = omega (arith, count_strict k P (λ _. true) (λ _ _ _. refl) i lt f refl, count-le k (λ _. true))

pub count_same : (k : ℕ) (P Q : ℕ → Bool) → ((i : ℕ) → i < k → P i ≡ Q i) → count k P ≡ count k Q
count_same zero P Q h = omega (arith, count-zero P, count-zero Q)
count_same (suc k) P Q h = omega (arith, count-suc k P, count-suc k Q, ap bit (h k (omega arith)), count_same k P Q (λ i lt. h i (omega arith)))

pub count_more : (k : ℕ) (P Q : ℕ → Bool) (i : ℕ) → i < k → P i ≡ false → Q i ≡ true → ((j : ℕ) → j < k → (j ≡ i → ⊥) → P j ≡ Q j) → count k Q ≡ suc (count k P)
count_more zero P Q i lt f t h = absurd (not-suc-le-zero lt)
count_more (suc k) P Q i lt f t h = ⊎_elim
    (λ e. omega (
      arith,
      count-suc k P,
      count-suc k Q,
      bit-false (P k) (subst (λ (x : ℕ). P x ≡ false) e f),
      bit-true (Q k) (subst (λ (x : ℕ). Q x ≡ true) e t),
      count_same k P Q (λ j l. h j (omega arith) (λ e'. omega arith)),
    ))
    (λ l. omega (arith, count-suc k P, count-suc k Q, ap bit (h k (omega arith) (λ e'. omega arith)), count_more k P Q i l f t (λ j l'. h j (omega arith))))
    (last_or_before lt)

pub count_none : (k : ℕ) (P : ℕ → Bool) → ((i : ℕ) → i < k → P i ≡ false) → count k P ≡ 0
count_none zero P h = count-zero P
count_none (suc k) P h = omega (arith, count-suc k P, bit-false (P k) (h k (omega arith)), count_none k P (λ i l. h i (omega arith)))

pub count_all : (k : ℕ) (P : ℕ → Bool) → ((i : ℕ) → i < k → P i ≡ true) → count k P ≡ k
count_all zero P h = count-zero P
count_all (suc k) P h = omega (arith, count-suc k P, bit-true (P k) (h k (omega arith)), count_all k P (λ i l. h i (omega arith)))

-- ---- further indices
pub count_yes : (k : ℕ) (P : ℕ → Bool) → P k ≡ true → count (suc k) P ≡ suc (count k P)
count_yes k P e = omega (arith, count-suc k P, bit-true (P k) e)

pub count_no : (k : ℕ) (P : ℕ → Bool) → P k ≡ false → count (suc k) P ≡ count k P
count_no k P e = omega (arith, count-suc k P, bit-false (P k) e)

pub count_longer : (P : ℕ → Bool) (i k : ℕ) → i ≤ k → count i P ≤ count k P
count_longer P i zero h = let e : i ≡ 0 = omega arith in subst (λ (x : ℕ). count x P ≤ count 0 P) (sym e) (omega arith)
count_longer P i (suc k) h = ⊎_elim
    (λ (e : i ≡ suc k). subst (λ (x : ℕ). count x P ≤ count (suc k) P) (sym e) (omega arith))
    (λ (l : i < suc k). omega (arith, count_longer P i k (omega arith), count-suc k P))
    (eq-or-lt_of_le h)

pub count_up : (P : ℕ → Bool) (i k : ℕ) → i < k → P i ≡ true → count i P < count k P
count_up P i k l e = omega (arith, count_yes i P e, count_longer P (suc i) k l)

bit_not : (b : Bool) → bit b + bit (not b) ≡ 1
unfolding bit
bit_not true = refl
bit_not false = refl

-- those that pass and those that do not
pub count-not : (k : ℕ) (P : ℕ → Bool) → count k P + count k (λ i. not (P i)) ≡ k
count-not zero P = omega (arith, count-zero P, count-zero (λ i. not (P i)))
count-not (suc k) P = omega (arith, count-suc k P, count-suc k (λ i. not (P i)), bit_not (P k), count-not k P)
