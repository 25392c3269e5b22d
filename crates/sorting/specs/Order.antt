-- A stable sort of entries by their keys: what it promises. An entry is a place in a run of keys. Nothing here says how it is done.
use Rattle.std.specs.Prelude.{◌≡◌, Bool, false, not, ◌&&◌, cond, List, [], ◌∷◌, ℕ, suc, ◌<◌, eqb, get_or, Float}
use Rattle.std.specs.Float.{nan}
use Rattle.std.specs.Float.Ieee.{lt, is_nan}

abbrev pub key_of : List Float → ℕ → Float
key_of keys k = get_or keys k nan

abbrev pub Each : (ℕ → Type 0) → List ℕ → Type 0
Each P [] = Unit {0}
Each P (k ∷ l) = P k × Each P l

-- every entry has a key that is a number
abbrev pub Numbers : List Float → List ℕ → Type 0
Numbers keys l = Each (λ k. is_nan (key_of keys k) ≡ false) l

-- ---- a permutation: every entry stands as often as it came
unfoldable pub times : ℕ → List ℕ → ℕ
times k [] = 0
times k (j ∷ l) = cond (eqb j k) (suc (times k l)) (times k l)

-- ---- sorted: which of two keys has to come first
abbrev pub ascending : Float → Float → Bool
ascending x y = lt x y

abbrev pub descending : Float → Float → Bool
descending x y = lt y x

-- no entry's key has to come before that of an entry in front of it
abbrev pub Sorted : (Float → Float → Bool) → List Float → List ℕ → Type 0
Sorted first keys [] = Unit {0}
Sorted first keys (k ∷ l) = Each (λ j. first (key_of keys j) (key_of keys k) ≡ false) l × Sorted first keys l

-- ---- stable: neither key is below the other, as with zeros of both signs
abbrev pub tied : Float → Float → Bool
tied x y = not (lt x y) && not (lt y x)

-- the entries whose keys tie with x, in the order in which they stand
unfoldable pub ties : List Float → Float → List ℕ → List ℕ
ties keys x [] = []
ties keys x (k ∷ l) = cond (tied x (key_of keys k)) (k ∷ ties keys x l) (ties keys x l)

-- THE PROMISE: m is l, sorted, and the entries that tie stand as they stood
pub record StableSort (first : Float → Float → Bool) (keys : List Float) (l m : List ℕ) : Type 0 where
  pub permuted : (k : ℕ) → times k m ≡ times k l
  pub sorted : Sorted first keys m
  pub stable : (x : Float) → is_nan x ≡ false → ties keys x m ≡ ties keys x l

-- each entry's number is above those in front of it: row by row, and within a row by column
abbrev pub Rising : List ℕ → Type 0
Rising [] = Unit {0}
Rising (k ∷ l) = Each (λ j. k < j) l × Rising l
