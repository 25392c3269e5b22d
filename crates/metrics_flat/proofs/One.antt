-- A call has one outcome: its number, and every lent number. Assumes nothing.
use mathlib.Core.Path.{◌≡◌, sym, ap, ◌∙◌}
use mathlib.Core.Bool.{cond}
use mathlib.Core.List.{List}
use Prim.Native.Nat.{ℕ}
use lib.Dec.{eqb}
use lib.IntN.{ℤ}
use lib.Ieee.{Float}
use Rattle.metrics_in_place.specs.InPlace.{Runs}
use Rattle.metrics_flat.specs.Flat.{used_in, answer_of, runs_with, counts_of, Answered}

pub one_answer : {x y₁ y₂ : Runs} {used u₁ u₂ : List ℕ} {frame : ℤ} {truths hypotheses : List ℤ} {gt hyp : List Float} {threshold : Float} {n₁ n₂ : ℕ}
    → Answered x used frame truths hypotheses gt hyp threshold y₁ u₁ n₁ → Answered x used frame truths hypotheses gt hyp threshold y₂ u₂ n₂ → (n₁ ≡ n₂) × (y₁ ≡ y₂) × (u₁ ≡ u₂)
one_answer {x} {used = used} {frame = frame} {truths} {hypotheses} {gt} {hyp} {threshold} {n₁} {n₂} a b =
    let e : n₁ ≡ n₂ = a.number_is ∙ sym b.number_is in (
      e,
      a.runs_are ∙ (ap (λ (n : ℕ). runs_with n x (used_in used) frame truths hypotheses gt hyp threshold) e ∙ sym b.runs_are),
      a.used_are ∙ (ap (λ (n : ℕ). cond (eqb n 0) (counts_of (answer_of x used frame truths hypotheses gt hyp threshold).state) used) e ∙ sym b.used_are),
    )
