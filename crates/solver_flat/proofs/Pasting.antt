-- Lists written over the places of a run: a store in one of them, what one leaves of the others, and the stores of a loop. Assumes nothing.
use mathlib.Core.Path.{◌≡◌, refl, sym, ap, ◌∙◌}
use mathlib.Core.List.{List, [], ◌∷◌, ◌++◌, append_assoc}
use Prim.Native.Nat.{ℕ, ◌+◌, ◌-◌, ◌≤◌, ◌<◌}
use native.Mathlib.Omega.{arith}
use lib.ListN.{length, length-set, length-replicate, replicate, replicate-append-replicate, set, take, drop, take-append-drop}
use lib.Seq.{drop_at, drop-drop, length_paste_head, length-take-le, set-append_left, take-add, take_all, take_at, take-paste, take-set-lt, drop-paste}
use borrow.Rule.Slice.PartMut.{put_mid}
use Rattle.std.proofs.lemmas.List.{set-append_right}
use Rattle.std.proofs.lemmas.Slice.{put_mid-paste}
use Rattle.std.proofs.lemmas.List.Edits.{length-paste}
use Rattle.solver_flat.specs.Inner.{Clear, Pasted}

module _ {d : List ℕ} {at : ℕ} {s : List ℕ} {o : List ℕ} (p : Pasted d at s 64 o) (room : at + 64 ≤ length d) (full : length s ≡ 64) where
  take_of : take (at + 64) o ≡ take at d ++ s
  take_of = ap (take (at + 64)) p.after_is ∙ take-paste d at s 64 (omega arith) (omega arith) ∙ ap (λ (l : List ℕ). take at d ++ l) (take_all 64 s (omega arith))

  pub drop_of : (q : ℕ) → at + 64 ≤ q → drop q o ≡ drop q d
  drop_of q far =
      let e : q ≡ (at + 64) + (q - (at + 64)) = omega arith in
      ap (λ (k : ℕ). drop k o) e ∙ sym (drop-drop (q - (at + 64)) (at + 64) o)
      ∙ ap (drop (q - (at + 64))) (ap (drop (at + 64)) p.after_is ∙ drop-paste d at s 64 (omega arith) (omega arith))
      ∙ drop-drop (q - (at + 64)) (at + 64) d ∙ ap (λ (k : ℕ). drop k d) (sym e)

  -- a store in the list that was written
  pub pasted_set : (i v : ℕ) → i < 64 → Pasted d at (set s i v) 64 (set o (at + i) v)
  pasted_set i v less =
      let front = take at d in
      let back = drop (at + 64) d in
      let long = length-take-le at d (omega arith) in
      let here : at + i - at ≡ i = omega arith in
      record {
        after_is = ap (λ (l : List ℕ). set l (at + i) v) p.after_is
            ∙ set-append_left (front ++ take 64 s) back (at + i) v (omega (arith, length_paste_head d at s 64 (omega arith) (omega arith)))
            ∙ ap (λ (l : List ℕ). l ++ back) (set-append_right front (take 64 s) at (at + i) v long (omega arith) ∙ ap (λ (k : ℕ). front ++ set (take 64 s) k v) here
            ∙ ap (λ (l : List ℕ). front ++ l) (sym (take-set-lt 64 s i v less)));
        same_len = length-set o (at + i) v ∙ p.same_len;
      }

  -- places behind are as clear as they were
  pub still_clear : (q : ℕ) → at + 64 ≤ q → Clear q d → Clear q o
  still_clear q far c = ap (take 64) (drop_of q far) ∙ c

-- zeros over zeros
pub pasted_clear : (d : List ℕ) (at : ℕ) (s : List ℕ) → s ≡ replicate 64 0 → Clear at d → Pasted d at s 64 d
pasted_clear d at s e c = record {
  after_is = sym (take-append-drop (at + 64) d) ∙ ap (λ (l : List ℕ). l ++ drop (at + 64) d) (take-add at 64 d
      ∙ ap (λ (l : List ℕ). take at d ++ l) (c ∙ sym (take_all 64 (replicate 64 0) (omega (arith, length-replicate {A = ℕ} 64 0))) ∙ ap (take 64) (sym e)));
  same_len = refl;
}

-- ---- a part of the run that was written over
pub pasted_part : (before : List ℕ) (at k : ℕ) (list ys : List ℕ) (n : ℕ) → at + n ≤ length before → ys ≡ list → n ≡ k → n ≡ length list → Pasted before at list n (put_mid at k before ys)
pasted_part before at k list ys n room e q l =
    let is = put_mid-paste at k before ys list n e q l in
    record { after_is = is; same_len = ap length is ∙ length-paste before at list n room (omega arith) }

pub pasted_zeros : (before ys : List ℕ) → 261 ≤ length before → ys ≡ replicate 256 0 → Pasted before 5 (replicate 256 0) 256 (put_mid 5 256 before ys)
pasted_zeros before ys room e = pasted_part before 5 256 (replicate 256 0) ys 256 room e refl (sym (length-replicate {A = ℕ} 256 0))

module _ {d o : List ℕ} {n : ℕ} (p : Pasted d 5 (replicate n 0) n o) (room : 5 + n ≤ length d) where
  pub cleared_behind : drop (5 + n) o ≡ drop (5 + n) d
  cleared_behind = ap (drop (5 + n)) p.after_is ∙ drop-paste d 5 (replicate n 0) n (omega arith) (omega (arith, length-replicate {A = ℕ} n 0))

  -- every 64 of the n places
  pub clear_at : (j : ℕ) → j + 64 ≤ n → Clear (5 + j) o
  clear_at j inside =
      let more = n - (j + 64) in
      let behind = drop (5 + n) d in
      let e : replicate {A = ℕ} n 0 ≡ replicate j 0 ++ (replicate 64 0 ++ replicate more 0) =
      ap (λ (k : ℕ). replicate {A = ℕ} k 0) (let q : n ≡ j + (64 + more) = omega arith in q)
      ∙ sym (ap (λ (l : List ℕ). replicate j 0 ++ l) (replicate-append-replicate 64 more 0) ∙ replicate-append-replicate j (64 + more) 0) in
      let from : drop 5 o ≡ replicate j 0 ++ (replicate 64 0 ++ (replicate more 0 ++ behind)) =
      ap (drop 5) (p.after_is ∙ append_assoc (take 5 d) (take n (replicate n 0)) behind) ∙ drop_at (take 5 d) _ 5 (length-take-le 5 d (omega arith))
      ∙ ap (λ (l : List ℕ). l ++ behind) (take_all n (replicate n 0) (omega (arith, length-replicate {A = ℕ} n 0)) ∙ e)
      ∙ append_assoc (replicate j 0) (replicate 64 0 ++ replicate more 0) behind ∙ ap (λ (l : List ℕ). replicate j 0 ++ l) (append_assoc (replicate 64 0) (replicate more 0) behind) in
      ap (take 64) (sym (drop-drop j 5 o) ∙ ap (drop j) from ∙ drop_at (replicate j 0) (replicate 64 0 ++ (replicate more 0 ++ behind)) j (length-replicate {A = ℕ} j 0))
      ∙ take_at (replicate 64 0) (replicate more 0 ++ behind) 64 (length-replicate {A = ℕ} 64 0)

-- ---- THE WHOLE RUN: cleared, four lists over it, and the five counts
module _ {d o₁ o₂ o₃ o₄ o₅ o₆ : List ℕ} {R C U Y : List ℕ} (a b c e f : ℕ) (room : 261 ≤ length d) (lR : length R ≡ 64) (lC : length C ≡ 64) (lU : length U ≡ 64) (lY : length Y ≡ 64)
    (z : Pasted d 5 (replicate 256 0) 256 o₁) (r : Pasted o₁ 5 R 64 o₂) (s : Pasted o₂ 69 C 64 o₃) (t : Pasted o₃ 133 U 64 o₄) (u : Pasted o₄ 197 Y 64 o₅)
    (k : Pasted o₅ 0 (a ∷ b ∷ c ∷ e ∷ f ∷ []) 5 o₆) where
  front : take 261 o₅ ≡ take 5 o₁ ++ R ++ C ++ U ++ Y
  front =
      take_of u (omega (arith, z.same_len, r.same_len, s.same_len, t.same_len)) lY ∙ ap (λ (l : List ℕ). l ++ Y)
      (take_of t (omega (arith, z.same_len, r.same_len, s.same_len)) lU ∙ ap (λ (l : List ℕ). l ++ U)
      (take_of s (omega (arith, z.same_len, r.same_len)) lC ∙ ap (λ (l : List ℕ). l ++ C) (take_of r (omega (arith, z.same_len)) lR)))

  behind : drop 261 o₅ ≡ drop 261 d
  behind =
      drop_of u (omega (arith, z.same_len, r.same_len, s.same_len, t.same_len)) lY 261 (omega arith)
      ∙ drop_of t (omega (arith, z.same_len, r.same_len, s.same_len)) lU 261 (omega arith)
      ∙ drop_of s (omega (arith, z.same_len, r.same_len)) lC 261 (omega arith) ∙ drop_of r (omega (arith, z.same_len)) lR 261 (omega arith) ∙ cleared_behind z room

  lists : drop 5 o₅ ≡ R ++ (C ++ (U ++ (Y ++ drop 261 d)))
  lists =
      ap (drop 5) (sym (take-append-drop 261 o₅) ∙ ap (λ (l : List ℕ). l ++ drop 261 o₅) front ∙ ap (λ (l : List ℕ). take 5 o₁ ++ R ++ C ++ U ++ Y ++ l) behind
      ∙ append_assoc (take 5 o₁ ++ R ++ C ++ U) Y _ ∙ append_assoc (take 5 o₁ ++ R ++ C) U _ ∙ append_assoc (take 5 o₁ ++ R) C _ ∙ append_assoc (take 5 o₁) R _)
      ∙ drop_at (take 5 o₁) _ 5 (length-take-le 5 o₁ (omega (arith, z.same_len)))

  pub run_is : o₆ ≡ (a ∷ b ∷ c ∷ e ∷ f ∷ []) ++ (R ++ (C ++ (U ++ (Y ++ drop 261 d))))
  run_is = k.after_is ∙ ap (λ (l : List ℕ). (a ∷ b ∷ c ∷ e ∷ f ∷ []) ++ l) lists
