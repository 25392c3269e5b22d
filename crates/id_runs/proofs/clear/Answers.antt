-- `id_runs::clear` meets its contract. Assumes nothing.
use Rattle.std.proofs.Common.{rules, pos}
use Rattle.partners.proofs.Fresh.{filled}
use Rattle.id_runs.proofs.clear.Goals as goal

pub returns : goal.returns
returns c =
    filled (pos 0) c.args.run.now c.fill.new.self c.args.from c.args.to c.requires.0 c.requires.1 (c.fill.ensures.after (λ y q. search rules))
