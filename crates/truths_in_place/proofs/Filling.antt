-- A list with one value from a place on and before another: what stands where. Assumes nothing.
use mathlib.Core.Path.{◌≡◌, sym, ap, ◌∙◌}
use mathlib.Core.List.{List, ◌++◌, append_assoc}
use Prim.Native.Nat.{ℕ, ◌<◌, ◌≤◌, ◌+◌, ◌-◌}
use native.Mathlib.Omega.{arith}
use lib.ListN.{length, take, drop, get_or, replicate, length-append, length-drop, length-replicate, get_or-replicate, take-append-drop, get_or-append}
use lib.Seq.{length-take-le, take-append-le, take-take, get_or-take, get_or-drop, get_or-append-add, drop-append-le, take_at}
use Rattle.seen.specs.Seen.{over}

module _ {A : Type 0} where
  -- ---- a list over the first places of a run
  pub over_long : (l run : List A) → length l ≤ length run → length (over l run) ≡ length run
  over_long l run h = let a = length-append l (drop (length l) run) in let b = length-drop (length l) run in omega arith

  pub over_past : (l run : List A) (j : ℕ) (d : A) → length l ≤ j → get_or (over l run) j d ≡ get_or run j d
  over_past l run j d h =
      let z : j ≡ length l + (j - length l) = omega arith in
      ap (λ (k : ℕ). get_or (over l run) k d) z
      ∙ (get_or-append-add l (drop (length l) run) (j - length l) d ∙ (get_or-drop (length l) run (j - length l) d ∙ ap (λ (k : ℕ). get_or run k d) (sym z)))

  -- the front of a run alone, and the rest behind it
  pub over_part : (l run : List A) (n : ℕ) → length l ≤ n → n ≤ length run → over l (take n run) ++ drop n run ≡ over l run
  over_part l run n h m =
      let t = length-take-le n run m in
      append_assoc l (drop (length l) (take n run)) (drop n run)
      ∙ ap (λ (x : List A). l ++ x) (sym (drop-append-le (length l) (take n run) (drop n run) (omega arith)) ∙ ap (drop (length l)) (take-append-drop n run))

  pub take-over : (l run : List A) (n : ℕ) → length l ≤ n → n ≤ length run → take n (over l run) ≡ over l (take n run)
  take-over l run n h m =
      let t = length-take-le n run m in
      ap (take n) (sym (over_part l run n h m)) ∙ take_at (over l (take n run)) (drop n run) n (over_long l (take n run) (omega arith) ∙ t)

  -- ---- one value from a place on and before another
  module _ (x : A) (run : List A) (from to : ℕ) (h : from ≤ to) (n : to ≤ length run) where
    abbrev front : List A
    front = take from run ++ replicate (to - from) x

    abbrev filled : List A
    filled = over front run

    front_long : length front ≡ to
    front_long =
        let a = length-append (take from run) (replicate (to - from) x) in
        let b = length-take-le from run (omega arith) in
        let c = length-replicate (to - from) x in
        omega arith

    pub filled_long : length filled ≡ length run
    filled_long = let f = front_long in over_long front run (omega arith)

    pub take_before : (k : ℕ) → k ≤ from → take k filled ≡ take k run
    take_before k p =
        let f = front_long in
        let t = length-take-le from run (omega arith) in
        take-append-le k front (drop (length front) run) (omega arith)
        ∙ (take-append-le k (take from run) (replicate (to - from) x) (omega arith) ∙ take-take k from run p)

    pub at_before : (j : ℕ) (d : A) → j < from → get_or filled j d ≡ get_or run j d
    at_before j d p =
        let f = front_long in
        let t = length-take-le from run (omega arith) in
        get_or-append front (drop (length front) run) d j (omega arith)
        ∙ (get_or-append (take from run) (replicate (to - from) x) d j (omega arith) ∙ get_or-take from run j d p)

    pub at_between : (j : ℕ) (d : A) → from ≤ j → j < to → get_or filled j d ≡ x
    at_between j d p q =
        let f = front_long in
        let t = length-take-le from run (omega arith) in
        let z : j ≡ length (take from run) + (j - from) = omega arith in
        get_or-append front (drop (length front) run) d j (omega arith)
        ∙ (ap (λ (k : ℕ). get_or front k d) z
        ∙ (get_or-append-add (take from run) (replicate (to - from) x) (j - from) d ∙ get_or-replicate (to - from) (j - from) x d (omega arith)))

    pub at_after : (j : ℕ) (d : A) → to ≤ j → get_or filled j d ≡ get_or run j d
    at_after j d p = let f = front_long in over_past front run j d (omega arith)
