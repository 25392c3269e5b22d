-- `hungarian::steps` meets its contract: steps A to G in a row. Assumes nothing.
use Rattle.hungarian.proofs.Solve as code
use Rattle.hungarian.proofs.steps.Goals as goal

pub search-requires : goal.search-requires
search-requires c =
    code.ok c.args.cost.now c.args.rows c.args.cols _ c.requires.0 c.requires.1 c.requires.3 _ _ _ c.pad.ensures c.lower_rows.ensures c.lower_cols.ensures _ _ _ c.requires.5 c.first_pass.ensures

pub returns : goal.returns
returns c =
    code.solved c.args.cost.now c.args.rows c.args.cols _ c.requires.0 c.requires.1 c.requires.3 _ _ _ c.pad.ensures c.lower_rows.ensures c.lower_cols.ensures _ _ _ c.requires.5 c.first_pass.ensures
    _ _ _ _ _ c.search.ensures
