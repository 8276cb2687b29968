-- What calls keep of the settings that both pipes were opened with.
use Rattle.raft_log_pipe.specs.Kept.{KeepsSettings}
use Rattle.raft_log_pipes.specs.declared.pipes.DualPipes.{DualPipes}

-- new files of both queues have the same target size and the same format
abbrev pub KeepSettings : DualPipes → DualPipes → Type 0
KeepSettings old new = KeepsSettings old.append new.append × KeepsSettings old.rewrite new.rewrite
