use Rattle.std.proofs.Common.{refl, Err}
use Rattle.raft_log_disk.proofs.RefusalLemmas.{no_more_same, no_more_call}
use Rattle.raft_log_recovery.proofs.directories.make_directory.Goals as goal

pub returns-then-is_file-clause-made : goal.returns-then-is_file-clause-made
returns-then-is_file-clause-made g c = tt

pub returns-then-is_file-clause-counted : goal.returns-then-is_file-clause-counted
returns-then-is_file-clause-counted g c = tt

pub returns-then-is_file-clause-file : goal.returns-then-is_file-clause-file
returns-then-is_file-clause-file g c = λ there. refl

pub returns-then-is_file-clause-later : goal.returns-then-is_file-clause-later
returns-then-is_file-clause-later g c = no_more_same _ _

pub returns-then-is_dir-clause-counted : goal.returns-then-is_dir-clause-counted
returns-then-is_dir-clause-counted g c = refl

pub returns-then-is_dir-clause-err : goal.returns-then-is_dir-clause-err
returns-then-is_dir-clause-err g c = tt

pub returns-then-is_dir-clause-later : goal.returns-then-is_dir-clause-later
returns-then-is_dir-clause-later g c = no_more_same _ _

pub returns-then-is_dir-clause-taken : goal.returns-then-is_dir-clause-taken
returns-then-is_dir-clause-taken g c = λ none. tt

pub returns-in-Ok-clause-err : goal.returns-in-Ok-clause-err
returns-in-Ok-clause-err g c = tt

pub returns-in-Ok-clause-taken : goal.returns-in-Ok-clause-taken
returns-in-Ok-clause-taken g c = λ none. tt

pub returns-in-Err-clause-made : goal.returns-in-Err-clause-made
returns-in-Err-clause-made g c = tt

pub returns-in-Err-clause-counted : goal.returns-in-Err-clause-counted
returns-in-Err-clause-counted g c = tt

pub returns-in-Err-clause-later : goal.returns-in-Err-clause-later
returns-in-Err-clause-later g c = no_more_call _ _ _ _ _ _ _ (Err c.in-Err.fault) c.in-Err.ensures.cause c.in-Err.ensures.call c.in-Err.ensures.bound
