-- A call has one outcome: its number, and every lent number. Assumes nothing.
use mathlib.Core.Path.{◌≡◌, sym, ap, ◌∙◌}
use mathlib.Core.Bool.{cond}
use mathlib.Core.List.{List, [], ◌∷◌}
use Prim.Native.Nat.{ℕ}
use lib.Dec.{eqb}
use lib.IntN.{ℤ}
use lib.Ieee.{Float}
use Rattle.frame.specs.Frame.{totals_of}
use Rattle.extended.specs.Update.{pairing_in}
use Rattle.extended_flat.specs.Flat.{totals_in, counters_of, state_in, answer_of, run_with, Answered}

pub one_answer : {run counters : List ℤ} {distance : List Float} {gt_ids : List ℤ} {gt : List Float} {pred_ids : List ℤ} {pred : List Float} {threshold : Float}
    {run₁ run₂ counters₁ counters₂ : List ℤ} {distance₁ distance₂ : List Float} {n₁ n₂ : ℕ}
    → Answered run counters distance gt_ids gt pred_ids pred threshold run₁ counters₁ distance₁ n₁ → Answered run counters distance gt_ids gt pred_ids pred threshold run₂ counters₂ distance₂ n₂
    → (n₁ ≡ n₂) × (run₁ ≡ run₂) × (counters₁ ≡ counters₂) × (distance₁ ≡ distance₂)
one_answer {run} {counters} {distance} {gt_ids} {gt} {pred_ids} {pred} {threshold} {n₁ = n₁} {n₂ = n₂} a b =
    let after = (answer_of run counters distance gt_ids gt pred_ids pred threshold).state in
    let e : n₁ ≡ n₂ = a.number_is ∙ sym b.number_is in (
      e,
      a.run_is ∙ (ap (λ (n : ℕ). run_with n run (totals_in counters distance) gt_ids pred_ids (pairing_in (state_in run counters distance) gt_ids gt pred_ids pred threshold)) e ∙ sym b.run_is),
      a.counters_are ∙ (ap (λ (n : ℕ). cond (eqb n 0) (counters_of (totals_of after)) counters) e ∙ sym b.counters_are),
      a.distance_is ∙ (ap (λ (n : ℕ). cond (eqb n 0) (after.total_distance ∷ []) distance) e ∙ sym b.distance_is),
    )
