-- The numeral that is cut from a list of digits. Assumes nothing.
use mathlib.Core.Path.{◌≡◌, refl, sym, ap, ◌∙◌}
use mathlib.Core.Bool.{true}
use mathlib.Core.List.{List, ◌∷◌}
use Prim.Native.Nat.{ℕ, ◌+◌, ◌-◌, ◌≤◌, ◌<◌}
use native.Mathlib.Omega.{arith}
use lib.ListN.{length, take, drop, get_or, length-drop, length-append}
use lib.Seq.{length-take-le, get_or-take, get_or-drop}
use Rattle.digits.proofs.Lists.{take_digits, drop_digits}
use Rattle.decimal_text.specs.Texts.{all_digits, shown_of, Numeral}

module _ (digits : List ℕ) (first : ℕ) (all : all_digits digits ≡ true) (long : length digits ≡ 315) (early : first ≤ 308) where
  abbrev cut : List ℕ
  cut = take (309 - first) (drop first digits)

  cut-length : length cut ≡ 309 - first
  cut-length = length-take-le (309 - first) (drop first digits) (omega (arith, length-drop first digits))

  cut_head : get_or cut 0 0 ≡ get_or digits first 0
  cut_head =
      let there : first + 0 ≡ first = omega arith in
      get_or-take (309 - first) (drop first digits) 0 0 (omega arith) ∙ get_or-drop first digits 0 0 ∙ ap (λ (k : ℕ). get_or digits k 0) there

  pub shown_numeral : (first < 308 → get_or digits first 0 ≡ 48 → ⊥) → Numeral (shown_of digits first)
  shown_numeral lead =
      record {
        whole = cut;
        six = take 6 (drop 309 digits);
        reads = refl;
        some = omega (arith, cut-length);
        most = omega (arith, cut-length);
        places = length-take-le 6 (drop 309 digits) (omega (arith, length-drop 309 digits));
        whole_digits = take_digits (309 - first) (drop first digits) (drop_digits first digits all);
        six_digits = take_digits 6 (drop 309 digits) (drop_digits 309 digits all);
        lead = λ h e. lead (omega (arith, cut-length)) (sym cut_head ∙ e);
      }

-- at most 316 bytes
pub numeral_length : {text : List ℕ} → Numeral text → length text ≤ 316
numeral_length {text} n = omega (arith, ap length n.reads ∙ length-append n.whole (46 ∷ n.six))
