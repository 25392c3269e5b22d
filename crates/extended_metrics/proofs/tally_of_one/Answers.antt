-- `extended_metrics::tally_of_one` meets its contract. Assumes nothing.
use mathlib.Core.Path.{ap, ◌∙◌}
use native.Mathlib.Omega.{arith}
use lib.IntN.{nat_abs}
use Rattle.counts.proofs.Ids.{told}
use Rattle.lifecycle.specs.Lifecycle.{class_of}
use Rattle.extended_metrics.specs.Metrics.{class_tally}
use Rattle.extended_metrics.proofs.Laws as laws
use Rattle.extended_metrics.proofs.tally_of_one.Goals as goal

pub returns : goal.returns
returns c =
    let it = c.args.it in
    let o = laws.class_few _ _ c.of_class.ensures in
    let m = c.size.ensures.1 in (
      laws.lone_is c.of_class.result c.size.result it (c.of_class.ensures ∙ ap class_tally (c.class_of.ensures ∙ ap class_of c.share.ensures))
          (told nat_abs it.fragmentations c.struct_told-1.given.1.1.1.1.1.0.1 c.size.ensures.0),
      record { tracked = omega arith; partially = omega arith; lost = omega arith; fragmentations = omega arith },
    )
