use Rattle.std.proofs.Common.{refl}
use Rattle.decimal_text.specs.Texts.{all_digits}
use Rattle.decimal_text.proofs.write_number.Goals as goal

pub spell-requires : goal.spell-requires
unfolding all_digits
spell-requires c = refl
