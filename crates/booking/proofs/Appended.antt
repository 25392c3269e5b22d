-- A log with events after its own: those that stood still stand, and no other place has changed. Assumes nothing.
use mathlib.Core.Path.{◌≡◌, ap, ◌∙◌}
use mathlib.Core.List.{List, ◌++◌}
use Prim.Native.Nat.{ℕ, ◌+◌, ◌<◌, ◌≤◌}
use native.Mathlib.Omega.{arith}
use lib.ListN.{length, get_or, take, drop, length-append, get_or-append}
use lib.Seq.{sets-eq, length-sets, take_at, drop_at, length-take-le}
use Rattle.events.specs.declared.Event.{Event}
use Rattle.events.specs.declared.Log.{Log}
use Rattle.events.specs.Events.{logged, no_event}
use Rattle.booking.specs.Booking.{log_after}

module _ (l : Log) (es : List Event) (room : l.used + length es ≤ length l.events) where
  parts : (log_after l es).events ≡ (logged l ++ es) ++ drop (l.used + length es) l.events
  unfolding log_after
  parts = sets-eq es l.events l.used room

  long : length (logged l ++ es) ≡ l.used + length es
  long = omega (arith, length-append (logged l) es, length-take-le l.used l.events (omega arith))

  -- APPENDED: the events in use are those that were, and the new ones after them
  pub appends : logged (log_after l es) ≡ logged l ++ es
  unfolding log_after
  appends = ap (take (l.used + length es)) parts ∙ take_at (logged l ++ es) (drop (l.used + length es) l.events) (l.used + length es) long

  -- every place after them keeps what it held
  pub kept_after : drop (l.used + length es) (log_after l es).events ≡ drop (l.used + length es) l.events
  kept_after = ap (drop (l.used + length es)) parts ∙ drop_at (logged l ++ es) (drop (l.used + length es) l.events) (l.used + length es) long

  -- an earlier event is the same
  pub kept_before : (i : ℕ) → i < l.used → get_or (logged (log_after l es)) i no_event ≡ get_or (logged l) i no_event
  kept_before i h = ap (λ (x : List Event). get_or x i no_event) appends ∙ get_or-append (logged l) es no_event i (omega (arith, length-take-le l.used l.events (omega arith)))

  pub still_long : length (log_after l es).events ≡ length l.events
  unfolding log_after
  still_long = length-sets l.events l.used es
