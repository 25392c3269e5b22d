-- An object is tracked in no more frames than it is there. Refusal 1 doesn't ask it of a record that is handed in.
use Rattle.std.specs.Prelude.{◌≡◌, ℕ, ◌≤◌, pos}
use Rattle.lifecycle.specs.declared.TrackLifecycle.{TrackLifecycle}

pub record Within (t : TrackLifecycle) : Type 0 where
  pub tracked : ℕ
  pub detected : ℕ
  pub tracked_is : t.tracked_frames ≡ pos tracked
  pub detected_is : t.detected_frames ≡ pos detected
  pub no_more : tracked ≤ detected
