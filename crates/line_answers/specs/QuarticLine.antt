-- Kinds 06 and 07: what the quartics of a frame need. Definitions only.
use Rattle.std.specs.Prelude.{List, ◌++◌, ℕ}
use Rattle.step2_solver.specs.declared.Shape.{Shape}
use Rattle.step2_quartics.specs.declared.Quartics.{Quartics}
use Rattle.line_frame.specs.Frame.{Frame}
use Rattle.line_questions.specs.Questions.{quartics_at}
use Rattle.line_reply.specs.Reply.{quartic_bytes}

-- the bytes of the reply: UDDU's quartic, then UDUD's
unfoldable pub both_bytes : Quartics → List ℕ
both_bytes q = quartic_bytes q.uddu ++ quartic_bytes q.udud

abbrev pub quartic_line_of : Shape → Frame → List ℕ
quartic_line_of shape at = both_bytes (quartics_at shape at)
