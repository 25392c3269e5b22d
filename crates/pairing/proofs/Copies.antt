-- One field of every pair, copied place by place. Assumes nothing.
use mathlib.Core.Path.{◌≡◌, sym, ap, ◌∙◌, subst}
use mathlib.Core.Logic.{⊎_elim}
use mathlib.Core.List.{List, map}
use Prim.Native.Nat.{ℕ, ◌+◌, ◌<◌}
use native.Mathlib.Omega.{arith}
use lib.ListN.{length, get_or, set, length-set, length-map, get_or-map}
use lib.Seq.{get_or-set_same, get_or-set_other, ext_get_or}
use Rattle.square.proofs.Index.{last_or_before, below_none}
use Rattle.optimize.specs.declared.Assignment.{Assignment}
use Rattle.optimize.specs.Answer.{no_pair}

-- the first k places are copied
pub record Copied (f : Assignment → ℕ) (pairs : List Assignment) (k : ℕ) (out : List ℕ) : Type 0 where
  pub long : length out ≡ 64
  pub same : (i : ℕ) → i < k → get_or out i 0 ≡ get_or (map f pairs) i 0

module _ (f : Assignment → ℕ) (none : f no_pair ≡ 0) (pairs : List Assignment) where
  at : (k : ℕ) → get_or (map f pairs) k 0 ≡ f (get_or pairs k no_pair)
  at k = ap (get_or (map f pairs) k) (sym none) ∙ get_or-map f pairs k no_pair

  pub copied_none : (out : List ℕ) → length out ≡ 64 → Copied f pairs 0 out
  copied_none out l = record { long = l; same = below_none (λ i. get_or out i 0 ≡ get_or (map f pairs) i 0) }

  pub copied_more : (k : ℕ) (out : List ℕ) → k < 64 → Copied f pairs k out → Copied f pairs (k + 1) (set out k (f (get_or pairs k no_pair)))
  copied_more k out l c = let n = c.long in record {
    long = length-set out k _ ∙ n;
    same = λ i h. ⊎_elim
        (λ (e : i ≡ k). subst (λ (x : ℕ). get_or (set out k (f (get_or pairs k no_pair))) x 0 ≡ get_or (map f pairs) x 0) (sym e)
        (get_or-set_same out k _ 0 (omega arith) ∙ sym (at k)))
        (λ (b : i < k). get_or-set_other out k i _ 0 (λ (e : i ≡ k). omega arith) ∙ c.same i b)
        (last_or_before (omega arith));
  }

  pub copied_all : (k : ℕ) (out : List ℕ) → k ≡ 64 → length pairs ≡ 64 → Copied f pairs k out → out ≡ map f pairs
  copied_all k out e l c = let n = c.long in let m = length-map pairs f in
      ext_get_or 0 out (map f pairs) (omega arith) (λ i h. c.same i (omega arith))
