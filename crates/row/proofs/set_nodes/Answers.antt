-- `set_nodes` stores three whole parts. Assumes nothing.
use borrow.Author.Rules.{rules}
use Rattle.row.proofs.Rows.{put_nodes}
use Rattle.row.proofs.set_nodes.Goals as goal

pub returns : goal.returns
returns c =
    put_nodes c.args.x.now _ _ _ _ _ _ (search rules) (search rules) (search rules) (search rules)
    c.put.ensures c.put-2.ensures c.put-3.ensures
