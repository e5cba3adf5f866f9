-- `put_quartic` stores `quartic_bytes`. Assumes nothing.
use Rattle.line_reply.proofs.Rows.{one_quartic}
use Rattle.line_reply.proofs.quartics.put_quartic.Goals as goal

pub returns : goal.returns
returns c =
    rw c.put_row.ensures
    (one_quartic c.args.bytes.now c.args.at _ _ _ _ c.quartic_need.result c.from.result
    c.resolvent_arguments-r.result
    c.resolvent_arguments-r.ensures
    c.quartic_need.ensures
    c.from.ensures)
