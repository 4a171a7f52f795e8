-- The reply of what was put, or of the refusal.
-- Assumes nothing.
use Rattle.encoding.proofs.Replying.{reply_refuses, reply_done}
use Rattle.editing.proofs.operations.edit.Goals as goal

pub returns-in-Ok : goal.returns-in-Ok
returns-in-Ok c = reply_done (rw c.in-Ok.is at c.put_edited.ensures) c.done.ensures

pub returns-in-Err : goal.returns-in-Err
returns-in-Err c = reply_refuses (rw c.in-Err.is at c.put_edited.ensures) c.from.ensures
