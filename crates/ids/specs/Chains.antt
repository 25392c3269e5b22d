-- The chains by which an id is looked for among those before it. Places are counted from 1, so that 0 says there is none.
use Rattle.std.specs.Prelude.{◌≡◌, List, ℕ, suc, ◌<◌, ◌≤◌, ◌%◌, ℤ, pos, get_or}
use Rattle.std.specs.Int.Signed.{mag}

abbrev pub id_at : List ℤ → ℕ → ℤ
id_at ids i = get_or ids i (pos 0)

unfoldable pub bucket_of : ℤ → ℕ
bucket_of id = mag id % 1024

-- the last of the first i places whose id is in the bucket
pub record Last (ids : List ℤ) (bucket i last : ℕ) : Type 0 where
  pub low : last ≤ i
  pub in_bucket : (j : ℕ) → last ≡ suc j → bucket_of (id_at ids j) ≡ bucket
  pub none_after : (j : ℕ) → last ≤ j → j < i → bucket_of (id_at ids j) ≡ bucket → ⊥

-- each of the first i places leads to the last one before it in its bucket
abbrev pub Chained : List ℤ → List ℕ → ℕ → Type 0
Chained ids links i = (j : ℕ) → j < i → Last ids (bucket_of (id_at ids j)) j (get_or links j 0)
