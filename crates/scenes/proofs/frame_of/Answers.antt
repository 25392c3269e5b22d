-- `scenes::frame_of` meets its contract. Assumes nothing.
use mathlib.Core.Path.{refl}
use Rattle.scenes.specs.Frames.{sizes_of}
use borrow.Author.Rules.{rules}
use Rattle.scenes.proofs.frame_of.Goals as goal

pub returns : goal.returns
unfolding sizes_of
returns c =
    let d = c.digits_at-digits.ensures in record { shown = record { sizes = simp (c.side-n.ensures.value.0, c.side-m.ensures.value.0, d); truth_side = rw d at c.side-n.ensures.value.1; predicted_side = rw d at c.side-m.ensures.value.1 }; few = record { truths = c.side-n.ensures.upper_bound.0; predictions = c.side-m.ensures.upper_bound.0; truth_floats = refl; predicted_floats = refl }; truth_ids_len_unchanged = search rules; ids_len_unchanged = search rules }
