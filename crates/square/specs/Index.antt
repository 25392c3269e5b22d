-- Going over 0, 1, .., k - 1. Definitions only.
use Rattle.std.specs.Prelude.{ℕ, zero, suc, ◌+◌, ◌-◌, ◌<◌, ◌≡◌, Bool, true, false, not, cond, ◌||◌, List, [], ◌∷◌, ◌++◌, get_or, length, replicate}

-- f at 0, 1, .., k - 1, in that order
unfoldable pub loop : {A : Type 0} → ℕ → (ℕ → A → A) → A → A
loop zero f a = a
loop (suc k) f a = f k (loop k f a)

-- how many of 0, 1, .., k - 1 pass
unfoldable pub count : ℕ → (ℕ → Bool) → ℕ
count zero P = 0
count (suc k) P = cond (P k) 1 0 + count k P

-- whether one of 0, 1, .., k - 1 passes
unfoldable pub any : ℕ → (ℕ → Bool) → Bool
any zero P = false
any (suc k) P = P k || any k P

-- f of each of 0, 1, .., k - 1 that passes, in that order
unfoldable pub gather : {A : Type 0} → ℕ → (ℕ → Bool) → (ℕ → A) → List A
unfolding loop
gather k P f = loop k (λ i l. cond (P i) (l ++ (f i ∷ [])) l) []

-- a list in 64 places, z behind it
abbrev pub filled : {A : Type 0} → A → List A → List A
filled z l = l ++ replicate (64 - length l) z

-- each number stands above those before it
abbrev pub Rising : List ℕ → Type 0
Rising l = (t t' : ℕ) → t < t' → t' < length l → get_or l t 0 < get_or l t' 0

-- the list names each of 0, 1, .., k - 1 once, and nothing else
pub record Once (k : ℕ) (l : List ℕ) : Type 0 where
  pub inside : (t : ℕ) → t < length l → get_or l t 0 < k
  pub each : (i : ℕ) → i < k → (t : ℕ) × (t < length l) × (get_or l t 0 ≡ i)
  pub one : (t t' : ℕ) → t < length l → t' < length l → get_or l t 0 ≡ get_or l t' 0 → t ≡ t'

-- whether place i of a list of marks is marked
abbrev pub on : List Bool → ℕ → Bool
on l i = get_or l i false

-- a mark is as wanted
abbrev pub like : Bool → Bool → Bool
like true b = b
like false b = not b

-- the numbers below k whose mark is as wanted, rising, and how many
pub record Picked (wanted : Bool) (marks : List Bool) (k : ℕ) (places : List ℕ) (used : ℕ) : Type 0 where
  pub places_are : places ≡ filled 0 (gather k (λ i. like wanted (on marks i)) (λ i. i))
  pub used_is : used ≡ count k (λ i. like wanted (on marks i))
