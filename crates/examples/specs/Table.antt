-- Document 01, "Sixteen marked examples": each stands here, once, under its number. What 01 leaves open is open here too (`Open`).
-- Definitions only.
use Rattle.std.specs.Prelude.{ℕ, Bool, false, List, [], ◌∷◌, ℤ, pos, negsuc, replicate, Float, Ok, Err}
use Rattle.std.specs.Float.{binary64, fin, nan}
use Rattle.std.specs.Float.Ieee.{sub, div}
use Rattle.floats.specs.Float.{zero64, one64}
use Rattle.boxes.specs.declared.Box.{Box}
use Rattle.refusals.specs.declared.Refusal.TheVariants.{EmptyBox}
use Rattle.optimize.specs.Answer.{empty_of}
use Rattle.lifecycle.specs.declared.TrackLifecycle.{TrackLifecycle}
use Rattle.lifecycle_parts.specs.declared.Class.TheVariants.{MostlyTracked, PartiallyTracked}
use Rattle.lifecycle.specs.Lifecycle.{fresh}
use Rattle.extended.specs.Play.{Frame}
use Rattle.events.specs.declared.Event.{Event}
use Rattle.events.specs.declared.What.{What}
use Rattle.events.specs.declared.What.TheVariants.{Match, Miss}
use Rattle.examples.specs.Shown.{whole, shown, pair}
use Rattle.examples.specs.Asked.{Question, boxes, matrix, missed_matched, covered, frames, distances, scene}
use Rattle.examples.specs.Asked.{Answer, distance, assigned, broken, class, switched, logs, scored}

-- what the examples don't say: the other box of 4, max_cost of 8, 9 and 16, the costs of 16, whose lifecycle 10 to 12 are about and when
pub record Open : Type 0 where
  pub other : Box
  pub limit : Float
  pub costs : List Float
  pub id : ℤ
  pub first : ℤ
  pub second : ℤ
  pub third : ℤ
  pub breaks : ℕ
  pub mark : Bool

pub record Row : Type 0 where
  pub number : ℕ
  pub asks : Question
  pub says : Answer

abbrev pub row : ℕ → Question → Answer → Row
row n q a = record { number = n; asks = q; says = a }

-- ---- how the rows are written
abbrev pub half : Float
half = fin false 1 (negsuc 0)

abbrev pub box : ℕ → ℕ → ℕ → ℕ → Box
box a b c d = record { x_min = whole a; y_min = whole b; x_max = whole c; y_max = whole d }

abbrev pub corners : ℕ → ℕ → ℕ → ℕ → List Float → List Float
corners a b c d more = whole a ∷ whole b ∷ whole c ∷ whole d ∷ more

-- tracked in so many of its frames
abbrev pub tracked : Open → ℕ → ℕ → TrackLifecycle
tracked o n all =
    record {
      gt_id = o.id;
      first_frame = o.first;
      last_frame = o.second;
      tracked_frames = pos n;
      detected_frames = pos all;
      fragmentations = pos o.breaks;
      was_matched = o.mark;
    }

-- truth 7 on one box, with the predictions of that box, or none
abbrev pub seven : List ℤ → List Float → Frame
seven ids run = record { gt_ids = pos 7 ∷ []; gt_boxes = corners 0 0 2 2 []; pred_ids = ids; pred_boxes = run; threshold = half }

abbrev pub paired : ℕ → Frame
paired id = seven (pos id ∷ []) (corners 0 0 2 2 [])

abbrev pub unpaired : Frame
unpaired = seven [] []

-- the rows of 5, and those of 6 and 7
abbrev pub fours : List Float
fours = whole 0 ∷ whole 4 ∷ whole 1 ∷ whole 9 ∷ []

abbrev pub nines : List Float
nines = whole 1 ∷ whole 2 ∷ whole 3 ∷ whole 2 ∷ whole 4 ∷ whole 6 ∷ whole 3 ∷ whole 6 ∷ whole 9 ∷ []

-- an event of frame 1
abbrev pub event : What → Event
event w = record { frame = pos 1; what = w }

-- THE TABLE
abbrev pub table : Open → List Row
table o =
    row 1 (boxes (box 0 0 2 2) (box 1 1 3 3)) (distance (Ok (sub binary64 one64 (div binary64 one64 (whole 7)))))
    ∷ row 2 (boxes (box 0 0 2 2) (box 0 0 2 2)) (distance (Ok zero64))
    ∷ row 3 (boxes (box 0 0 1 1) (box 1 0 2 1)) (distance (Ok one64))
    ∷ row 4 (boxes (box 0 0 0 1) o.other) (distance (Err EmptyBox))
    ∷ row 5 (matrix fours 2 2 (whole 3)) (assigned (shown (pair 1 0 ∷ []) (0 ∷ []) (1 ∷ []) 0 1))
    ∷ row 6 (matrix nines 3 3 (whole 9)) (assigned (shown (pair 0 2 ∷ pair 1 1 ∷ pair 2 0 ∷ []) [] [] 1 2))
    ∷ row 7 (matrix nines 3 3 (whole 3)) (assigned (shown (pair 0 2 ∷ pair 2 0 ∷ []) (1 ∷ []) (1 ∷ []) 1 2))
    ∷ row 8 (matrix (nan ∷ []) 1 1 o.limit) (assigned (shown [] (0 ∷ []) (0 ∷ []) 0 0))
    ∷ row 9 (matrix [] 2 0 o.limit) (assigned (shown [] (0 ∷ 1 ∷ []) [] 0 0))
    ∷ row 10 (missed_matched (fresh o.id o.first) o.second o.third) (broken 0 0 (pos 1))
    ∷ row 11 (covered (tracked o 4 5)) (class 0 MostlyTracked)
    ∷ row 12 (covered (tracked o 1 5)) (class 0 PartiallyTracked)
    ∷ row 13 (frames (paired 1 ∷ unpaired ∷ paired 2 ∷ [])) (switched (0 ∷ 0 ∷ 0 ∷ []) (pos 1))
    ∷ row 14 (distances (pos 1) (pos 7 ∷ pos 8 ∷ []) (pos 1 ∷ pos 2 ∷ []) (replicate 4 half))
    (logs 0 (event (Match (pos 7) (pos 1) half) ∷ event (Match (pos 8) (pos 2) half) ∷ []))
    ∷ row 15 (scene (pos 1) (pos 5 ∷ pos 6 ∷ []) (pos 9 ∷ []) (corners 0 0 2 2 (corners 4 4 6 6 [])) (corners 4 4 6 6 []) half)
    (scored 0 (event (Match (pos 6) (pos 9) zero64) ∷ event (Miss (pos 5)) ∷ []) 0 half half)
    ∷ row 16 (matrix o.costs 64 65 o.limit) (assigned (empty_of 2))
    ∷ []
