-- `send` fills the places of a record or none: a record has 364 bytes. Assumes nothing.
use mathlib.Core.Path.{◌≡◌, ◌∙◌}
use lib.ListN.{length}
use borrow.Author.Rules.{rules}
use Rattle.line_kinds.specs.Kinds.{record_places}
use Rattle.line_reply.proofs.Written.{written}
use Rattle.line_reply.proofs.send.Goals as goal

pub returns : goal.returns
returns c =
    let h : length c.args.bytes.now ≡ 364 = search rules in
    c.encode.ensures ∙ written record_places c.args.bytes.now c.args.reply.now (rw h)
