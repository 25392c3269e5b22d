-- A slot read back from its numbers. Assumes nothing.
use Rattle.std.specs.Prelude.{ℤ, Option, None, Some}
use mathlib.Core.Path.{◌≡◌, refl}
use mathlib.Core.Bool.{Bool, true, false}
use Rattle.slots.specs.declared.Slot.{Slot}
use Rattle.slot_cells.specs.Cells.{is_set, flag_of, partner_of, known_of, partner_id, slot_of, cells_of}

flag_back : (b : Bool) → is_set (flag_of b) ≡ b
flag_back true = refl
flag_back false = refl

partner_back : (p : Option ℤ) → partner_of (known_of p) (partner_id p) ≡ p
partner_back None = refl
partner_back (Some id) = refl

pub slot_back : (x : Slot) → slot_of (cells_of x) ≡ x
unfolding slot_of cells_of
slot_back x =
    let t = x.lifecycle in
    λ i. record {
      lifecycle = record {
        gt_id = t.gt_id;
        first_frame = t.first_frame;
        last_frame = t.last_frame;
        tracked_frames = t.tracked_frames;
        detected_frames = t.detected_frames;
        fragmentations = t.fragmentations;
        was_matched = flag_back t.was_matched i;
      };
      partner = partner_back x.partner i;
    }
