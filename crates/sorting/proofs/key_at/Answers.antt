-- `sorting::key_at` meets its contract.
use Rattle.std.proofs.Common.{sym}
use lib.Ieee.{nan, of_bits}
use Rattle.std.proofs.lemmas.List.{get_or_past}
use Rattle.sorting.proofs.key_at.Goals as goal

pub returns-in-None : goal.returns-in-None
unfolding of_bits
returns-in-None c = let h = c.in-None.ensures.lookup in sym (get_or_past c.args.keys.now c.args.k nan h.3)
