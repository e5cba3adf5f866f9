-- `put_record` stores the head and then the six rows, over the whole reply. Assumes nothing.
use mathlib.Core.Path.{◌≡◌, ap, ◌∙◌}
use mathlib.Core.List.{List, ◌++◌}
use Prim.Native.Nat.{ℕ}
use lib.ListN.{length}
use borrow.Author.Rules.{rules}
use Rattle.row.specs.Row.{part, numbers_in}
use Rattle.profile.specs.Parts.{profile_in}
use Rattle.line_reply.specs.Reply.{rows_of, reply_bytes_of}
use Rattle.line_reply.proofs.Rows.{head_first, six_rows}
use Rattle.line_reply.proofs.record.put_record.Goals as goal

pub returns : goal.returns
unfolding part reply_bytes_of profile_in
returns c =
    -- the head leaves as many bytes as there were
    let head_long : length c.put_head.new.bytes ≡ 364 = search rules in
    let row_long : length c.args.x.now ≡ 48 = search rules in
    rw (c.put_row-6.ensures, c.put_row-5.ensures, c.put_row-4.ensures)
    (rw (c.put_row-3.ensures, c.put_row-2.ensures, c.put_row.ensures)
    (six_rows c.args.x.now row_long c.put_head.new.bytes head_long
    ∙ ap (λ (l : List ℕ). l ++ rows_of (numbers_in c.args.x.now))
    (head_first c.args.answer c.args.bytes.now _ c.put_head.ensures head_long)))
