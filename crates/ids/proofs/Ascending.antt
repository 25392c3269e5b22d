-- Ids that rise from place to place stand once each. Assumes nothing.
use mathlib.Core.Path.{◌≡◌, refl, sym, ap, ◌∙◌}
use mathlib.Core.Bool.{Bool, true, false, true≢false}
use mathlib.Core.List.{List}
use Prim.Native.Nat.{ℕ, zero, suc, ◌<◌, ◌≤◌, ◌+◌, ◌-◌}
use native.Mathlib.Nat.{not-suc-le-zero, lt_irrefl}
use native.Mathlib.Omega.{arith}
use borrow.Author.Tests.{ltb-true, ltb-false, lt-ltb}
use lib.Dec.{ltb}
use lib.IntN.{ℤ, pos, negsuc}
use lib.ListN.{length}
use lib.Signed.{lt_z}
use Rattle.ids.specs.Ids.{distinct_of}
use Rattle.ids.specs.Chains.{id_at}
use Rattle.ids.proofs.NoneTwice.{distinct_is}

-- each of the first i places but the first stands above the one before it
abbrev pub Risen : List ℤ → ℕ → Type 0
Risen ids i = (j : ℕ) → suc j < i → lt_z (id_at ids j) (id_at ids (suc j)) ≡ true

further : (a b c : ℤ) → lt_z a b ≡ true → lt_z b c ≡ true → lt_z a c ≡ true
further (pos a) (pos b) (pos c) p q = lt-ltb a c (let x = ltb-true a b p in let y = ltb-true b c q in omega arith)
further (pos a) (pos b) (negsuc c) p q = q
further (pos a) (negsuc b) c p q = absurd (true≢false (sym p))
further (negsuc a) (pos b) (pos c) p q = p
further (negsuc a) (pos b) (negsuc c) p q = absurd (true≢false (sym q))
further (negsuc a) (negsuc b) (pos c) p q = q
further (negsuc a) (negsuc b) (negsuc c) p q = lt-ltb c a (let x = ltb-true b a p in let y = ltb-true c b q in omega arith)

not_below_itself : (a : ℤ) → lt_z a a ≡ true → ⊥
not_below_itself (pos n) e = lt_irrefl n (ltb-true n n e)
not_below_itself (negsuc n) e = lt_irrefl n (ltb-true n n e)

module _ (ids : List ℤ) where
  -- one place more
  next_by : (i j : ℕ) (b : Bool) → ltb (suc j) i ≡ b → j < i → Risen ids i → lt_z (id_at ids (i - 1)) (id_at ids i) ≡ true → lt_z (id_at ids j) (id_at ids (suc j)) ≡ true
  next_by i j true e p f last = f j (ltb-true (suc j) i e)
  next_by i j false e p f last =
      let g = ltb-false (suc j) i e in
      let here : suc j ≡ i = omega arith in
      let before : j ≡ i - 1 = omega arith in
      rw (here, before) last

  pub next : (i : ℕ) → Risen ids i → lt_z (id_at ids (i - 1)) (id_at ids i) ≡ true → Risen ids (i + 1)
  next i f last j h = next_by i j (ltb (suc j) i) refl (omega arith) f last

  later_by : (i j : ℕ) (b : Bool) → ltb i j ≡ b → i ≤ j → lt_z (id_at ids j) (id_at ids (suc j)) ≡ true → (i < j → lt_z (id_at ids i) (id_at ids j) ≡ true)
      → lt_z (id_at ids i) (id_at ids (suc j)) ≡ true
  later_by i j true e p step f = further (id_at ids i) (id_at ids j) (id_at ids (suc j)) (f (ltb-true i j e)) step
  later_by i j false e p step f = let g = ltb-false i j e in let same : i ≡ j = omega arith in rw same step

  later : (i j n : ℕ) → Risen ids n → i < j → j < n → lt_z (id_at ids i) (id_at ids j) ≡ true
  later i zero n f p q = absurd (not-suc-le-zero p)
  later i (suc j) n f p q = later_by i j (ltb i j) refl (omega arith) (f j q) (λ (h : i < j). later i j n f h (omega arith))

  -- places that rise up to the end, or beyond it
  pub risen_distinct : (n : ℕ) → length ids ≤ n → Risen ids n → distinct_of ids ≡ true
  risen_distinct n all f =
      distinct_is ids (λ (i j : ℕ) (p : i < j) (q : j < length ids) same.
      not_below_itself (id_at ids j) (ap (λ (z : ℤ). lt_z z (id_at ids j)) (sym same) ∙ later i j n f p (omega arith)))
