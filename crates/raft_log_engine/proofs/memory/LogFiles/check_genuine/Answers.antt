-- The most that a crash may leave is what reads see.
use Rattle.raft_log_disk.specs.MemorySystem.{disk_in}
use Rattle.raft_log_engine.proofs.Crashes.{most_genuine, most_of_memory, seen_genuine}
use Rattle.raft_log_pipe.proofs.PrefillLemmas.{ok_map}
use Rattle.raft_log_engine.proofs.memory.LogFiles.check_genuine.Goals as goal

pub returns-clause-genuine : goal.returns-clause-genuine
returns-clause-genuine c = ok_map c.may_crash.result _ _ (seen_genuine (disk_in c.args.self.now.files)) c.may_crash.ensures.genuine

pub returns-clause-by_chance : goal.returns-clause-by_chance
returns-clause-by_chance c = λ is genuine. c.may_crash.ensures.by_chance is (most_genuine (disk_in c.args.self.now.files) genuine)

pub returns-clause-only : goal.returns-clause-only
returns-clause-only c = λ is. c.may_crash.ensures.not_an_image is (most_of_memory c.args.self.now.files)
