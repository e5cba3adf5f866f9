-- `write_quartics` writes the characters of both quartics' bytes. Assumes nothing.
use mathlib.Core.Path.{refl}
use mathlib.Core.List.{◌++◌}
use Rattle.line_kinds.specs.Kinds.{quartics_places}
use Rattle.line_reply.specs.Reply.{quartic_bytes, quartic_bytes_of}
use Rattle.line_reply.proofs.Written.{written}
use Rattle.line_reply.proofs.write_quartics.Goals as goal

pub returns : goal.returns
unfolding quartic_bytes_of
returns c =
    rw (c.encode.ensures, c.put_quartics.ensures)
    (written quartics_places (quartic_bytes c.args.uddu ++ quartic_bytes c.args.udud) c.args.reply.now refl)
