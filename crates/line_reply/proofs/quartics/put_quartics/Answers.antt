-- `put_quartics` stores the two, one after the other. Assumes nothing.
use mathlib.Core.Path.{refl}
use borrow.Author.Rules.{rules}
use Rattle.line_reply.specs.Reply.{quartic_bytes, quartic_bytes_of}
use Rattle.line_reply.proofs.Rows.{both}
use Rattle.line_reply.proofs.quartics.put_quartics.Goals as goal

pub returns : goal.returns
unfolding quartic_bytes_of
returns c =
    rw (c.put_quartic-2.ensures, c.put_quartic.ensures)
    (both (quartic_bytes c.args.uddu) (quartic_bytes c.args.udud) c.args.bytes.now 57 refl (search rules))
