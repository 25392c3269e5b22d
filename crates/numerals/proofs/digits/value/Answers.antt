use Rattle.std.proofs.Common.{◌≡◌, ◌+◌, ◌*◌, ℕ, sym, ◌∙◌, ap, arith, length, drop}
use Rattle.numerals.specs.Numbers.{value_from}
use Rattle.numerals.proofs.Values.{next_digit, no_digit, too_large, no_more}
use Rattle.numerals.proofs.digits.value.Goals as goal

pub returns-then-d : goal.returns-then-d
returns-then-d g c =
    sym (no_digit g.row.BASE c.loop-b.v c.digit-d.result c.loop-b.b-index c.args.word.now (omega arith) c.digit-d.ensures (omega arith)) ∙ c.loop-b.invariant

pub returns-in_err-checked_mul : goal.returns-in_err-checked_mul
returns-in_err-checked_mul g c =
    let h = c.in_err-checked_mul.ensures in
    c.from_residual.ensures ∙ sym (too_large g.row.BASE c.loop-b.v c.digit-d.result c.loop-b.b-index c.args.word.now (omega arith) c.digit-d.ensures (omega arith) (omega arith)) ∙ c.loop-b.invariant

pub returns-in_err-v : goal.returns-in_err-v
returns-in_err-v g c =
    let h = c.in_err-v.ensures in
    let k = c.in_ok-checked_mul.ensures in
    c.from_residual-in_err-v.ensures ∙ sym (too_large g.row.BASE c.loop-b.v c.digit-d.result c.loop-b.b-index c.args.word.now (omega arith) c.digit-d.ensures (omega arith) (omega arith)) ∙ c.loop-b.invariant

pub loop-b-preserved : goal.loop-b-preserved
loop-b-preserved g c =
    let h = c.in_ok-v.ensures in
    let k = c.in_ok-checked_mul.ensures in
    let e : c.in_ok-v.v ≡ c.loop-b.v * g.row.BASE + c.digit-d.result = omega arith in
    ap (λ (n : ℕ). value_from g.row.BASE n (drop (c.loop-b.b-index + 1) c.args.word.now)) e
    ∙ next_digit g.row.BASE c.loop-b.v c.digit-d.result c.loop-b.b-index c.args.word.now (omega arith) c.digit-d.ensures (omega arith) (omega arith)
    ∙ c.loop-b.invariant

pub returns : goal.returns
returns g c =
    let e : c.loop-b.b-index ≡ length c.args.word.now = omega arith in
    sym (no_more g.row.BASE c.loop-b.v c.args.word.now) ∙ ap (λ (n : ℕ). value_from g.row.BASE c.loop-b.v (drop n c.args.word.now)) (sym e) ∙ c.loop-b.invariant
