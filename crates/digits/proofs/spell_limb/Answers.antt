use Rattle.digits.proofs.Lists.{set_digits, glyph_digit}
use Rattle.digits.proofs.spell_limb.Goals as goal

pub loop-k-preserved : goal.loop-k-preserved
loop-k-preserved c = set_digits c.loop-k.digits _ _ c.loop-k.invariant (glyph_digit _ c.glyph.ensures.0 c.glyph.ensures.1)
