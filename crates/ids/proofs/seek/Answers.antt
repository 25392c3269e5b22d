-- `ids::seek` meets its contract: no place before the one that is found holds the id. Assumes nothing.
use Rattle.std.proofs.Common.{rules, ◌≡◌, ◌<◌, length, get_or, ℕ, ℤ, pos, sym, ap, ◌∙◌, true, false}
use mathlib.Core.Bool.{true≢false}
use Rattle.counts.specs.Counts.{same_id}
use Rattle.counts.proofs.Ids.{same_eq, same_refl}
use Rattle.ids.proofs.Lookups.{first_at, none_at}
use Rattle.ids.proofs.seek.Goals as goal

-- ids that are not the same differ
differ : (a b : ℤ) → same_id a b ≡ false → a ≡ b → ⊥
differ a b n e = true≢false (sym (same_refl b) ∙ (ap (λ (z : ℤ). same_id z b) (sym e) ∙ n))

pub returns-in-Some : goal.returns-in-Some
returns-in-Some c =
    let l = c.args.ids.now in
    let k = c.in-Some.at in
    let within : k < length l = search rules in
    let found : same_id (get_or l k (pos 0)) c.args.id ≡ true = search rules in
    let before : (j : ℕ) → j < k → same_id (get_or l j (pos 0)) c.args.id ≡ false = search rules in
    sym (first_at l c.args.id k within (same_eq _ _ found) (λ (j : ℕ) (h : j < k). differ _ _ (before j h)))

pub returns-in-None : goal.returns-in-None
returns-in-None c =
    let l = c.args.ids.now in
    let none : (j : ℕ) → j < length l → same_id (get_or l j (pos 0)) c.args.id ≡ false = search rules in
    sym (none_at l c.args.id (λ (j : ℕ) (h : j < length l). differ _ _ (none j h)))
