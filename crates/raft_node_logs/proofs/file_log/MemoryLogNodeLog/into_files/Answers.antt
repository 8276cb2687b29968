-- The files are those of the log.
use Rattle.std.proofs.Common.{ap₂, subst}
use Rattle.raft_log_engine.specs.declared.memory.LogFiles.{LogFiles}
use Rattle.raft_node_logs.specs.Files.{IsFoundAs}
use Rattle.raft_node_logs.proofs.file_log.MemoryLogNodeLog.into_files.Goals as goal

pub returns-clause-hands_back : goal.returns-clause-hands_back
returns-clause-hands_back c =
    let e = c.into_files.ensures in
    ap₂ (λ s f. record { settings = s; files = f }) e.settings e.files

pub returns-clause-finds : goal.returns-clause-finds
returns-clause-finds c = λ content found.
    let e = c.into_files.ensures in
    subst (λ (f : LogFiles). IsFoundAs f content) (ap₂ (λ s f. record { settings = s; files = f }) e.settings e.files) found

pub returns-clause-left : goal.returns-clause-left
returns-clause-left c = λ content found. c.into_files.ensures.as_read content found.genuine found.found
