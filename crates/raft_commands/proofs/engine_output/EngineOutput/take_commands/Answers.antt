-- The deque that stays is the empty one, so the queue is empty, and the number is the one before.
use Rattle.std.proofs.Common.{refl}
use Rattle.raft_commands.proofs.engine_output.EngineOutput.take_commands.Goals as goal

pub returns-clause-rest : goal.returns-clause-rest
returns-clause-rest g c = rw (c.replace.ensures.after, c.new.ensures.items, ← c.self.view_is) refl
