-- `write_causes` writes the characters of the record's bytes, and of count and cause after them. Assumes nothing.
use mathlib.Core.Path.{◌≡◌, refl, ap}
use mathlib.Core.List.{[], ◌∷◌}
use Prim.Native.Nat.{ℕ, ◌*◌}
use native.Mathlib.Omega.{arith}
use lib.ListN.{length}
use borrow.Author.Rules.{rules}
use borrow.Author.Tests.{lt-leb}
use Rattle.labels.specs.Causes.{cause_number_of}
use Rattle.profile.specs.Parts.{profile_in, checked_in}
use Rattle.line_kinds.specs.Kinds.{record_places, causes_places}
use Rattle.line_reply.specs.Reply.{reply_bytes_of, causes_bytes_of, written_of}
use Rattle.line_reply.proofs.Rows.{record_length}
use Rattle.line_reply.proofs.Written.{filled, two_parts}
use Rattle.line_reply.proofs.write_causes.Goals as goal

pub returns-then-reply-lt-CAUSES : goal.returns-then-reply-lt-CAUSES
unfolding written_of
returns-then-reply-lt-CAUSES c = rw (lt-leb causes_places (length c.args.reply.now) c.if-reply-lt-CAUSES.true)

pub returns : goal.returns
unfolding causes_bytes_of profile_in
returns c =
    let row : length c.args.x.now ≡ 48 = search rules in
    let first = reply_bytes_of (checked_in c.args.x.now c.args.answer) in
    let second = c.args.answer.labels.calls ∷ cause_number_of c.args.answer.labels.cause ∷ [] in
    two_parts first second c.args.reply.now record_places causes_places
    (ap (λ (k : ℕ). 2 * k) (record_length c.args.x.now c.args.answer row)) refl c.if-reply-lt-CAUSES.false
    c.write_record.new.reply
    (filled record_places first c.args.reply.now _ c.write_record.result (omega arith) c.write_record.ensures)
    c.encode.new.reply c.encode.result (rw (← c.from.ensures) c.encode.ensures)
