-- A slot and its nine numbers. Definitions only.
use Rattle.std.specs.Prelude.{Option, None, Some}
use Rattle.std.specs.Prelude.{Bool, not, cond, ℤ, pos}
use Rattle.counts.specs.Counts.{same_id}
use Rattle.slots.specs.declared.Slot.{Slot}
use Rattle.slot_cells.specs.declared.Cells.{Cells}

-- a flag is set where it isn't 0
abbrev pub is_set : ℤ → Bool
is_set flag = not (same_id flag (pos 0))

abbrev pub flag_of : Bool → ℤ
flag_of is = cond is (pos 1) (pos 0)

-- the last partner, where it is known
abbrev pub partner_of : ℤ → ℤ → Option ℤ
partner_of known partner = cond (is_set known) (Some partner) None

abbrev pub known_of : Option ℤ → ℤ
known_of None = pos 0
known_of (Some id) = pos 1

-- 0 where it is not
abbrev pub partner_id : Option ℤ → ℤ
partner_id None = pos 0
partner_id (Some id) = id

unfoldable pub slot_of : Cells → Slot
slot_of v =
    record {
      lifecycle = record {
        gt_id = v.id;
        first_frame = v.first;
        last_frame = v.last;
        tracked_frames = v.tracked;
        detected_frames = v.detected;
        fragmentations = v.fragmentations;
        was_matched = is_set v.matched;
      };
      partner = partner_of v.known v.partner;
    }

unfoldable pub cells_of : Slot → Cells
cells_of x =
    record {
      id = x.lifecycle.gt_id;
      first = x.lifecycle.first_frame;
      last = x.lifecycle.last_frame;
      tracked = x.lifecycle.tracked_frames;
      detected = x.lifecycle.detected_frames;
      fragmentations = x.lifecycle.fragmentations;
      matched = flag_of x.lifecycle.was_matched;
      known = known_of x.partner;
      partner = partner_id x.partner;
    }
