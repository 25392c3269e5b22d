-- A run of floats changed in place, each entry by one function: what is done at place i, and what is to come. Assumes nothing.
use mathlib.Core.Path.{◌≡◌, refl, sym, ap, ◌∙◌}
use mathlib.Core.List.{List, [], ◌∷◌, ◌++◌, map, map-append, append_assoc, append-nil}
use Prim.Native.Nat.{ℕ, suc, ◌+◌, ◌<◌, ◌≤◌}
use native.Mathlib.Omega.{arith}
use native.Mathlib.Numerals.{add-one}
use lib.ListN.{length, get_or, set, take, drop, length-map, length-append, length-drop}
use lib.Seq.{take-suc, take-length, drop-cons, drop-length, length-take-le, get_or_at, set_at}
use lib.Ieee.{Float, nan, binary64, neg, add, sub}
use Rattle.floats.specs.Float.{one64}

module _ (f : Float → Float) (run₀ : List Float) where
  pub record Changing (run : List Float) (i : ℕ) : Type 0 where
    pub within : i ≤ length run₀
    pub is : run ≡ map f (take i run₀) ++ drop i run₀

  pub starts : Changing run₀ 0
  starts = record { within = omega arith; is = refl }

  front_long : (i : ℕ) → i ≤ length run₀ → length (map f (take i run₀)) ≡ i
  front_long i h = length-map (take i run₀) f ∙ length-take-le i run₀ h

  pub as_long : (run : List Float) (i : ℕ) → Changing run i → length run ≡ length run₀
  as_long run i p =
      let h = p.within in
      let a = ap length p.is in
      let b = length-append (map f (take i run₀)) (drop i run₀) in
      let c = front_long i h in
      let d = length-drop i run₀ in
      omega arith

  pub one_more : (run run' : List Float) (i : ℕ) → i < length run₀ → run' ≡ set run i (f (get_or run i nan)) → Changing run i → Changing run' (i + 1)
  one_more run run' i h e p =
      let front = map f (take i run₀) in
      let x = get_or run₀ i nan in
      let rest = drop (suc i) run₀ in
      let long : length front ≡ i = front_long i p.within in
      let was : run ≡ front ++ (x ∷ rest) = p.is ∙ ap (λ (l : List Float). front ++ l) (drop-cons run₀ i nan h) in
      let now : set (front ++ (x ∷ rest)) i (f (get_or (front ++ (x ∷ rest)) i nan)) ≡ front ++ (f x ∷ rest) =
      ap (λ (y : Float). set (front ++ (x ∷ rest)) i (f y)) (get_or_at front x rest nan i long) ∙ set_at front x rest (f x) i long in
      let then : front ++ (f x ∷ rest) ≡ map f (take (suc i) run₀) ++ rest =
      sym (rw (take-suc run₀ i nan h, map-append, append_assoc) refl) in
      record { within = omega arith; is = e ∙ rw was (now ∙ rw (add-one i) then) }

  pub done : (run : List Float) (i : ℕ) → i ≡ length run₀ → Changing run i → run ≡ map f run₀
  done run i e p = p.is ∙ rw (e, take-length run₀, drop-length run₀) (append-nil (map f run₀))

-- negated, and then added to 1.0: 1.0 less each
pub less_each : (l : List Float) → map (add binary64 one64) (map neg l) ≡ map (sub binary64 one64) l
unfolding sub
less_each [] = refl
less_each (x ∷ l) = ap (λ (m : List Float). add binary64 one64 (neg x) ∷ m) (less_each l)
