-- What the number says: 2, 3 or 0, each exactly when document 01's table has it. Assumes nothing.
use Prim.Native.Nat.{ℕ, ◌*◌, ◌<◌, ◌≤◌}
use mathlib.Core.Path.{◌≡◌, refl}
use mathlib.Core.Bool.{Bool, true, false, cond, ◌&&◌, ◌||◌}
use mathlib.Core.Logic.{◌⊎◌, inl, inr, ⊎_elim}
use native.Mathlib.Omega.{arith}
use lib.Dec.{ltb, eqb}
use borrow.Author.Tests.{ltb-true, ltb-false, le-ltb, eqb-true, eqb-false, eq-eqb, ne_eqb}
use Rattle.optimize.specs.Answer.{assignment_no}

module _ (len h w : ℕ) where
  abbrev pub Large : Type 0
  Large = (64 < h) ⊎ (64 < w)

  abbrev pub Misfit : Type 0
  Misfit = (h ≤ 64) × (w ≤ 64) × ((len ≡ h * w → ⊥) ⊎ ((h ≡ 0) × (0 < w)))

  abbrev pub Fits : Type 0
  Fits = (h ≤ 64) × (w ≤ 64) × (len ≡ h * w) × ((h ≡ 0) → (w ≡ 0))

  abbrev Case : ℕ → Type 0
  Case n = ((n ≡ 2) × Large) ⊎ (((n ≡ 3) × Misfit) ⊎ ((n ≡ 0) × Fits))

  small : (a b c d e : Bool) → ltb 64 h ≡ a → ltb 64 w ≡ b → eqb h 0 ≡ c → ltb 0 w ≡ d → eqb len (h * w) ≡ e → Case (cond (a || b) 2 (cond (c && d) 3 (cond e 0 3)))
  small true b c d e p q r s t = inl (refl, inl (ltb-true 64 h p))
  small false true c d e p q r s t = inl (refl, inr (ltb-true 64 w q))
  small false false true true e p q r s t = inr (inl (refl, (ltb-false 64 h p, ltb-false 64 w q, inr (eqb-true h 0 r, ltb-true 0 w s))))
  small false false true false true p q r s t = inr (inr (refl, (ltb-false 64 h p, ltb-false 64 w q, eqb-true len (h * w) t, λ _. omega (arith, ltb-false 0 w s))))
  small false false true false false p q r s t = inr (inl (refl, (ltb-false 64 h p, ltb-false 64 w q, inl (eqb-false len (h * w) t))))
  small false false false d true p q r s t = inr (inr (refl, (ltb-false 64 h p, ltb-false 64 w q, eqb-true len (h * w) t, λ z. absurd (eqb-false h 0 r z))))
  small false false false d false p q r s t = inr (inl (refl, (ltb-false 64 h p, ltb-false 64 w q, inl (eqb-false len (h * w) t))))

  -- THE NUMBER: one of three, and why
  pub number_is : ((assignment_no len h w ≡ 2) × Large) ⊎ (((assignment_no len h w ≡ 3) × Misfit) ⊎ ((assignment_no len h w ≡ 0) × Fits))
  unfolding assignment_no
  number_is = small (ltb 64 h) (ltb 64 w) (eqb h 0) (ltb 0 w) (eqb len (h * w)) refl refl refl refl refl

  pub fits : assignment_no len h w ≡ 0 → Fits
  fits e = ⊎_elim
      (λ (x : (assignment_no len h w ≡ 2) × Large). absurd (omega (arith, x.0)))
      (λ y. ⊎_elim (λ (x : (assignment_no len h w ≡ 3) × Misfit). absurd (omega (arith, x.0))) (λ (x : (assignment_no len h w ≡ 0) × Fits). x.1) y)
      number_is

  -- a matrix with rows, in shape, is taken
  pub taken : 0 < h → h ≤ 64 → w ≤ 64 → len ≡ h * w → assignment_no len h w ≡ 0
  unfolding assignment_no
  taken some hh hw e = simp (le-ltb 64 h hh, le-ltb 64 w hw, ne_eqb h 0 (λ (z : h ≡ 0). omega arith), eq-eqb len (h * w) e)
