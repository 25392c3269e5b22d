-- A run after one frame more, and a run that has ended. Assumes nothing.
use mathlib.Core.Path.{◌≡◌, refl, sym, ap, ◌∙◌}
use mathlib.Core.Bool.{Bool, true, false, cond}
use mathlib.Core.List.{List}
use Prim.Native.Nat.{ℕ, zero, suc, ◌+◌, ◌*◌, ◌-◌, ◌≤◌}
use native.Mathlib.Numerals.{add-one}
use native.Mathlib.Omega.{arith}
use borrow.Author.Tests.{eq-eqb, ne_eqb}
use lib.IntN.{ℤ, pos}
use lib.Ieee.{Float}
use lib.ListN.{take}
use Rattle.scenes.specs.declared.Scene.{Scene}
use Rattle.scenes.specs.declared.Sizes.{Sizes}
use Rattle.scenes.specs.Frames.{frames_in, truths_in, predictions_in, Shown}
use Rattle.replay.specs.declared.Both.{Both}
use Rattle.replay.specs.declared.Step.{Step}
use Rattle.replay.specs.Replay.{new_both, step_of}
use Rattle.score_scene.specs.Playing.{scene_step, Run, run_after, played_of, Stands}

stood : {b c : Both} {o p : Bool} {r q : Run} → b ≡ c → o ≡ p → r ≡ q → Stands c p r → Stands b o q
stood e f g s = record { states = e ∙ (s.states ∙ ap (λ (x : Run). x.both) g); ends = f ∙ (s.ends ∙ ap (λ (x : Run). x.over) g) }

-- ---- what a frame's two numbers make of a run
module _ (s : Step) where
  pub left_refuses : (s.extended_number ≡ 0 → ⊥) → Stands s.both true (run_after s)
  left_refuses h = record { states = refl; ends = rw (ne_eqb _ _ h) }

  pub right_refuses : s.extended_number ≡ 0 → (s.metrics_number ≡ 0 → ⊥) → Stands s.both true (run_after s)
  right_refuses k h = record { states = refl; ends = rw (eq-eqb _ _ k, ne_eqb _ _ h) }

  pub both_take : s.extended_number ≡ 0 → s.metrics_number ≡ 0 → Stands s.both false (run_after s)
  both_take k h = record { states = refl; ends = rw (eq-eqb _ _ k, eq-eqb _ _ h) }

-- ---- a frame that was laid in lent memory is the scene's
module _ (scene : Scene) (number : ℕ) (b : Both) {r : Sizes} {truth_ids : List ℤ} {truth_boxes : List Float} {ids : List ℤ} {boxes : List Float} (s : Shown (frames_in scene) (truths_in scene) (predictions_in scene) number r truth_ids truth_boxes ids boxes) (f : r.truth_floats ≡ r.truths * 4) (g : r.predicted_floats ≡ r.predictions * 4) where
  abbrev step_in : ℤ → Step
  step_in z = step_of b z (take r.truths truth_ids) (take r.truth_floats truth_boxes) (take r.predictions ids) (take r.predicted_floats boxes)

  scene_step_lem : step_in (pos (number + 1)) ≡ scene_step scene number b
  unfolding scene_step
  scene_step_lem = rw (f, g, s.truth_side.the_ids, s.truth_side.the_boxes, s.predicted_side.the_ids, s.predicted_side.the_boxes, ← s.sizes)

  pub frame_played : {z : ℤ} {t : Step} {c : Both} {o : Bool} → z ≡ pos (number + 1) → t ≡ step_in z → Stands c o (run_after t) → Stands c o (run_after (scene_step scene number b))
  frame_played e q p = stood refl refl (ap run_after (q ∙ (ap step_in e ∙ scene_step_lem))) p

-- ---- frames in a row
pub played_none : (scene : Scene) (b : Both) → b ≡ new_both → Stands b false (played_of scene 0)
unfolding played_of
played_none scene b e = record { states = e; ends = refl }

goes_on : (scene : Scene) (k : ℕ) → (played_of scene k).over ≡ false → run_after (scene_step scene k (played_of scene k).both) ≡ played_of scene (suc k)
goes_on scene k h = unfold played_of in rw h

pub played_more : (scene : Scene) (k : ℕ) {b c : Both} {o p : Bool} → Stands b o (played_of scene k) → o ≡ false → Stands c p (run_after (scene_step scene k b)) → Stands c p (played_of scene (k + 1))
played_more scene k s f t =
    let h = ap (λ (x : Both). run_after (scene_step scene k x)) s.states ∙ (goes_on scene k (sym s.ends ∙ f) ∙ sym (ap (played_of scene) (add-one k))) in
    stood refl refl h t

chosen : (r q : Run) (b : Bool) → b ≡ true → r ≡ cond b r q
chosen r q b h = rw h

ended : (scene : Scene) (k : ℕ) → (played_of scene k).over ≡ true → played_of scene k ≡ played_of scene (suc k)
ended scene k h = chosen (played_of scene k) (run_after (scene_step scene k (played_of scene k).both)) (played_of scene k).over h ∙ (unfold played_of in refl)

stays : (scene : Scene) (n d : ℕ) → (played_of scene n).over ≡ true → played_of scene n ≡ played_of scene (n + d)
stays scene n zero h =
    let e : n ≡ n + zero = omega arith in
    ap (played_of scene) e
stays scene n (suc d) h =
    let e = stays scene n d h in
    let q : suc (n + d) ≡ n + suc d = omega arith in
    e ∙ (ended scene (n + d) (sym (ap (λ (x : Run). x.over) e) ∙ h) ∙ ap (played_of scene) q)

-- a run that has ended stays as it is
pub played_over : (scene : Scene) (n m : ℕ) {b : Both} {o : Bool} → n ≤ m → Stands b o (played_of scene n) → o ≡ true → Stands b o (played_of scene m)
played_over scene n m h s f =
    let e : n + (m - n) ≡ m = omega arith in
    stood refl refl (stays scene n (m - n) (sym s.ends ∙ f) ∙ ap (played_of scene) e) s
