-- Places taken by ids that are new: nobody in each. Assumes nothing.
use Rattle.std.proofs.Common.{◌≡◌, ℕ, ◌+◌, ◌-◌, ◌≤◌, List, ◌++◌, length, take, drop, replicate, sym, ap, ◌∙◌, append_assoc, arith, length-append, length-drop}
use borrow.Rule.Slice.PartMut.{put_mid}
use lib.ListN.{length-replicate}
use lib.Seq.{length-take-le, drop-drop}
use Rattle.seen.specs.Seen.{over}

-- x written at the places from one on and before another
pub filled : {A : Type 0} (x : A) (old middle : List A) (from to : ℕ) → from ≤ to → to ≤ length old → middle ≡ replicate (length (take (to - from) (drop from old))) x
    → put_mid from (to - from) old middle ≡ over (take from old ++ replicate (to - from) x) old
filled x old middle from to h k e =
    let d = length-drop from old in
    let n = length-take-le (to - from) (drop from old) (omega arith) in
    let m : middle ≡ replicate (to - from) x = e ∙ ap (λ (z : ℕ). replicate z x) n in
    let t = length-take-le from old (omega arith) in
    let r = length-replicate (to - from) x in
    let a = length-append (take from old) (replicate (to - from) x) in
    let z : from + (to - from) ≡ length (take from old ++ replicate (to - from) x) = omega arith in
    sym (append_assoc (take from old) middle (drop (to - from) (drop from old)))
    ∙ (λ j. (take from old ++ m j) ++ (drop-drop (to - from) from old ∙ ap (λ (y : ℕ). drop y old) z) j)
