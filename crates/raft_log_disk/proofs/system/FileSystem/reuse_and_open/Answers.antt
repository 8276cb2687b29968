use Rattle.raft_log_disk.proofs.CauseLemmas.{same_cause, second_cause}
use Rattle.raft_log_disk.proofs.NameLemmas.{renamed_there}
use Rattle.std.proofs.Common.{inl, refl}
use Rattle.raft_log_disk.specs.declared.fault.IoFault.TheVariants.{Refused}
use Rattle.raft_log_disk.proofs.CauseLemmas.{first_why, same_fault}
use Rattle.raft_log_disk.proofs.system.FileSystem.reuse_and_open.Goals as goal

pub returns-in-Ok-clause-cause : goal.returns-in-Ok-clause-cause
returns-in-Ok-clause-cause g c = second_cause _ _ _ _ _ _ _ c.in-Ok.ensures.cause c.open.ensures.cause (renamed_there _ _ _ _ c.requires c.in-Ok.ensures.ok)

pub returns-in-Err-clause-cause : goal.returns-in-Err-clause-cause
returns-in-Err-clause-cause g c = same_cause _ _ _ _ _ c.in-Err.ensures.cause

pub returns-in-Err-clause-ok : goal.returns-in-Err-clause-ok
returns-in-Err-clause-ok g c = tt

pub returns-in-Err-clause-err : goal.returns-in-Err-clause-err
returns-in-Err-clause-err g c = c.in-Err.ensures.err

pub returns-in-Err-clause-both : goal.returns-in-Err-clause-both
returns-in-Err-clause-both g c = tt

pub returns-in-Err-clause-some : goal.returns-in-Err-clause-some
returns-in-Err-clause-some g c = inl c.in-Err.ensures.call.left

pub returns-in-Err-clause-blown : goal.returns-in-Err-clause-blown
returns-in-Err-clause-blown g c = λ b. same_fault _ _ c.in-Err.fault Refused (c.in-Err.ensures.call.blown b)

pub returns-in-Err-clause-stopped : goal.returns-in-Err-clause-stopped
returns-in-Err-clause-stopped g c = λ x. refl

pub returns-in-Err-clause-why : goal.returns-in-Err-clause-why
returns-in-Err-clause-why g c = λ e. first_why _ _ _ (c.in-Err.ensures.call.why (same_fault _ _ c.in-Err.fault Refused e))

pub returns-in-Err-clause-faulty : goal.returns-in-Err-clause-faulty
returns-in-Err-clause-faulty g c = c.in-Err.ensures.call.faulty

pub returns-in-Err-clause-bound : goal.returns-in-Err-clause-bound
returns-in-Err-clause-bound g c = c.in-Err.ensures.bound
