-- `slot_tables::sound` meets its contract. Assumes nothing.
use Rattle.std.proofs.Common.{rules, arith, refl, ◌≡◌, Bool, true, false, sym, ap, ◌∙◌, List, ℕ, ◌<◌, length, take, get_or}
use borrow.Author.Tests.{le-leb, lt-leb}
use Rattle.lifecycle.specs.Lifecycle.{sound_counts}
use Rattle.ids.specs.Ids.{distinct_of}
use Rattle.slots.specs.declared.Slot.{Slot}
use Rattle.slots.specs.Slots.{no_slot, counts_sound, sound_of}
use Rattle.slots.proofs.Tables.{ids_taken}
use Rattle.slots.proofs.Faults.{counts_read, counts_are}
use Rattle.slot_tables.proofs.sound.Goals as goal

abbrev Good : List Slot → Type 0
Good l = (i : ℕ) → i < length l → sound_counts (get_or l i no_slot).lifecycle ≡ true

bad : (l : List Slot) → (Good l → ⊥) → (b : Bool) → counts_sound l ≡ b → counts_sound l ≡ false
bad l f true e = absurd (f (counts_read l e))
bad l f false e = e

pub returns-then-used-gt256 : goal.returns-then-used-gt256
unfolding sound_of
returns-then-used-gt256 c = rw (lt-leb _ _ c.if-used-gt256.true)

pub returns-then-not-all : goal.returns-then-not-all
unfolding sound_of
returns-then-not-all c =
    let t = take c.args.used c.args.slots.now in
    let e : Good t → ⊥ = search rules in
    rw (le-leb _ _ c.if-used-gt256.false, bad t e (counts_sound t) refl)

pub returns : goal.returns
unfolding sound_of
returns c =
    let s = c.args.slots.now in
    let t = take c.args.used s in
    let n : length s ≡ 256 = search rules in
    let h = c.if-used-gt256.false in
    let e : Good t = search rules in
    rw (le-leb _ _ h, counts_are t e)
    (c.distinct.ensures ∙ ap distinct_of (ap (take c.args.used) c.ids_of.ensures.0 ∙ ids_taken s c.args.used (omega arith)))
