-- What the reader and the writer keep from call to call. Assumes nothing.
use Rattle.std.specs.Prelude.{◌≡◌, Bool, true, cond, List, ℕ, ◌+◌, ◌≤◌, ltb, length, take, get_or}
use Rattle.lines.specs.declared.input.Reader.{Reader}
use Rattle.lines.specs.declared.output.Writer.{Writer}

-- what was read and not yet passed lies in the buffer
pub record Within (r : Reader) : Type 0 where
  pub inside : r.at ≤ r.end
  pub held : r.end ≤ 65536

-- the byte that stands next; a line's end, 10, where nothing is left
abbrev pub next_byte : Reader → ℕ
next_byte r = cond (ltb r.at r.end) (get_or r.buf r.at 0) 10

-- the same place, with or without a fault
abbrev pub marked_of : Reader → Bool → Reader
marked_of r fault = record r { fault = fault }

-- the place of the byte after it
abbrev pub passed_of : Reader → ℕ
passed_of r = cond (ltb r.at r.end) (r.at + 1) r.at

-- what every read keeps: a fault stays, and so does the input's end
pub record Onward (r q : Reader) : Type 0 where
  pub faults : r.fault ≡ true → q.fault ≡ true
  pub ends : r.over ≡ true → q.over ≡ true
  pub stays : Within r → Within q

-- n counts places at the start of xs. The second part follows from the first; with both a caller's `&xs[..n]` needs no proof file
abbrev pub Front : {A : Type 0} → ℕ → List A → Type 0
Front n xs = (n ≤ length xs) × (n ≡ length (take n xs))

-- where the next byte goes: a full buffer is sent, and begins anew
abbrev pub place_of : Writer → ℕ
place_of w = cond (ltb w.at 65536) w.at 0

-- what every write keeps: what waits lies in the buffer, and a failure stays
pub record Kept (w r : Writer) : Type 0 where
  pub waits : w.at ≤ 65536 → r.at ≤ 65536
  pub fails : w.failed ≡ true → r.failed ≡ true
