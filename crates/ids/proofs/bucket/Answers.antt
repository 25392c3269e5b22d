-- `ids::bucket` meets its contract. Assumes nothing.
use Rattle.std.proofs.Common.{rules, arith, ◌≡◌, refl, true, false}
use native.Mathlib.Nat.{mod-lt}
use lib.Signed.{mag, non_neg}
use mir.Facts.{to_z-of_z}
use Rattle.ids.specs.Chains.{bucket_of}
use Rattle.ids.proofs.Buckets.{natural, folded, size_fits}
use Rattle.ids.proofs.bucket.Goals as goal

pub returns-then-not_negative : goal.returns-then-not_negative
unfolding bucket_of
returns-then-not_negative c =
    let s : non_neg c.args.id ≡ true = search rules in
    rw (to_z-of_z c.ranges.id, natural c.args.id s) (refl, mod-lt (mag c.args.id) (omega arith))

pub returns : goal.returns
unfolding bucket_of
returns c =
    let s : non_neg c.args.id ≡ false = search rules in
    rw (to_z-of_z c.ranges.id, folded c.args.id s, to_z-of_z (size_fits c.args.id c.ranges.id)) (refl, mod-lt (mag c.args.id) (omega arith))
