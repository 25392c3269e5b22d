-- `corrections::useful` meets its contract. Assumes nothing.
use mathlib.Core.Path.{sym, ◌∙◌}
use lib.Ieee.{of_bits}
use Rattle.floats.specs.Float.{is_finite}
use Rattle.square.proofs.Truth.{and_not_right, and-true, not_of_true}
use Rattle.corrections.specs.Correction.{useful_of}
use Rattle.corrections.proofs.useful.Goals as goal

pub returns-then-m : goal.returns-then-m
unfolding useful_of of_bits
returns-then-m c = sym (and_not_right (is_finite c.args.m) _ (not_of_true c.if-m.true))

pub returns : goal.returns
unfolding useful_of of_bits
returns c = rw c.if-m.false (c.is_finite.ensures ∙ sym (and-true _))
