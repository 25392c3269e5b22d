-- `paths::bfs` meets its contract: the arrays hold the first `head` places of the queue, and within a row its first `col` columns. Assumes nothing.
use Prim.Native.Nat.{◌<◌}
use native.Mathlib.Omega.{arith}
use mathlib.Core.Path.{refl}
use mathlib.Core.Bool.{true, false}
use mathlib.Core.Logic.{inl, inr}
use lib.ListN.{get_or}
use Rattle.paths.proofs.BfsCode as code
use Rattle.paths.proofs.Rows.{in_row, whole_row, zero_here}
use Rattle.paths.proofs.bfs.Goals as goal
use Rattle.paths.proofs.bfs.Goals.{In-bfs, In-loop-col, else-from-col-eq64, then-from-col-eq64+then-is_zero+else-n-next, else-from-col-eq64-via-then-from-col-eq64+else-is_zero, else-from-col-eq64-via-else-from-col-eq64}

-- the row that is gone through is one of the square's
row_in : (c : In-bfs) → get_or c.bfs.queue c.bfs.head 0 < c.args.n
row_in c = code.row_n _ _ _ _ c.bfs.invariant.0 _ _ _ _ _ c.bfs.invariant.1 c.bfs-test.true

col_in : (c : In-loop-col) → c.loop-col.col < c.args.n
col_in c = in_row c.args.c.now c.args.n (get_or c.bfs.queue c.bfs.head 0) _ (code.row_n _ _ _ _ c.bfs.invariant.0 _ _ _ _ _ c.bfs.invariant.1 c.bfs-test.true) c.requires.3 c.loop-col-test.true

pub bfs-init : goal.bfs-init
bfs-init c =
    (c.requires.0, code.begin c.args.c.now c.args.n c.args.cols.now c.args.start c.requires.0 c.args.from.now c.args.queue.now c.requires.1 c.requires.2, refl)

pub overflow_mul-x-items : goal.overflow_mul-x-items
overflow_mul-x-items c = omega (arith, c.bfs.invariant.0.tables.n64, row_in (goal.at.overflow_mul-x-items c).In-bfs)

pub overflow_mul-x-items-in-bfs : goal.overflow_mul-x-items-in-bfs
overflow_mul-x-items-in-bfs c = omega (arith, c.bfs.invariant.0.tables.n64, row_in (goal.at.overflow_mul-x-items-in-bfs c).In-bfs)

pub overflow_add-x-items : goal.overflow_add-x-items
overflow_add-x-items c = omega (arith, c.bfs.invariant.0.tables.n64, row_in (goal.at.overflow_add-x-items c).In-bfs)

pub offset_bounds-c-row : goal.offset_bounds-c-row
offset_bounds-c-row c = omega (arith, c.bfs.invariant.0.tables.n64, row_in (goal.at.offset_bounds-c-row c).In-bfs)

pub slice_bounds-x-items-end : goal.slice_bounds-x-items-end
slice_bounds-x-items-end c = omega (arith, c.requires.3, c.bfs.invariant.0.tables.n64, row_in (goal.at.slice_bounds-x-items-end c).In-bfs)

pub loop-col-init : goal.loop-col-init
loop-col-init c = (c.bfs.invariant.0, code.row_begin _ _ _ _ c.bfs.invariant.0 _ _ _ _ _ c.bfs.invariant.1 c.bfs-test.true, c.bfs.invariant.2)

pub bounds-queue-tail : goal.bounds-queue-tail
bounds-queue-tail c =
    let lt = col_in (goal.at.bounds-queue-tail c).In-loop-col in
    code.tail_64 _ _ _ _ c.loop-col.invariant.0 _ _ _ _ _ _ _ c.loop-col.invariant.1 lt c.if-from-col-eq64.true (zero_here _ c.args.n _ _ lt _ true c.is_zero.ensures c.if-is_zero.true) c.if-n-next.false

pub loop-col-preserved : goal.loop-col-preserved
loop-col-preserved c =
    let v = c.loop-col.invariant in
    let lt = col_in (goal.at.loop-col-preserved c).In-loop-col in (
      v.0,
      elim c.if-from-col-eq64.branch [
        | then-from-col-eq64+then-is_zero+else-n-next w ↦ code.push _ _ _ _ v.0 _ _ _ _ _ _ _ v.1 lt w.if-from-col-eq64.true (zero_here _ c.args.n _ _ lt _ true w.is_zero.ensures w.if-is_zero.true) w.if-n-next.false
            _ _ _ _ w.from-is w.queue-is w.tail-is refl
        | else-from-col-eq64 w ↦ elim w.else-from-col-eq64.branch [
          | else-from-col-eq64-via-then-from-col-eq64+else-is_zero w' ↦ code.skip _ _ _ _ v.0 _ _ _ _ _ _ _ v.1 _ _ _ _ w.from-is w.queue-is w.tail-is refl lt
              (inr (zero_here _ c.args.n _ _ lt _ false w'.is_zero.ensures w'.if-is_zero.false))
          | else-from-col-eq64-via-else-from-col-eq64 w' ↦ code.skip _ _ _ _ v.0 _ _ _ _ _ _ _ v.1 _ _ _ _ w.from-is w.queue-is w.tail-is refl lt (inl w'.if-from-col-eq64.false)
        ]
      ],
      v.2,
    )

pub bfs-smaller : goal.bfs-smaller
bfs-smaller c = omega (arith, code.tail_n _ _ _ _ c.bfs.invariant.0 _ _ _ _ _ c.bfs.invariant.1, c.bfs-test.true)

pub bfs-preserved : goal.bfs-preserved
bfs-preserved c =
    let over = whole_row c.args.c.now c.args.n (get_or c.bfs.queue c.bfs.head 0) c.loop-col.col (code.row_n _ _ _ _ c.bfs.invariant.0 _ _ _ _ _ c.bfs.invariant.1 c.bfs-test.true) c.bfs.invariant.0.tables.n64 c.requires.3 c.loop-col-test.false in
    (c.loop-col.invariant.0, code.row_end _ _ _ _ c.loop-col.invariant.0 _ _ _ _ _ _ _ c.loop-col.invariant.1 over, c.loop-col.invariant.2)

pub returns-after-bfs : goal.returns-after-bfs
returns-after-bfs c = record {
  held = (_, code.finish _ _ _ _ c.bfs.invariant.0 _ _ _ _ _ c.bfs.invariant.1 c.bfs-test.false);
  met = rw c.bfs.invariant.2 tt;
}

pub returns-then-n-next : goal.returns-then-n-next
returns-then-n-next c =
    let lt = col_in (goal.at.returns-then-n-next c).In-loop-col in
    let e = code.ends _ _ _ _ c.loop-col.invariant.0 _ _ _ _ _ _ _ c.loop-col.invariant.1 lt c.if-from-col-eq64.true (zero_here _ c.args.n _ _ lt _ true c.is_zero.ensures c.if-is_zero.true) c.if-n-next.true in
    record { held = (_, e); met = (lt, e) }
