use Rattle.std.proofs.Common.{◌≡◌, inl, inr, refl, subst, sym}
use Rattle.raft_cluster_events.specs.declared.outcome.Stop.{Stop}
use Rattle.raft_log_disk.specs.MemorySystem.{disk_in}
use Rattle.raft_log_engine.specs.Log.{IsFoundBy}
use Rattle.raft_log_engine.specs.declared.memory.LogFiles.{LogFiles}
use Rattle.raft_node_joint.specs.Reopening.{NamesNobody}
use Rattle.raft_node_laws.specs.Saying.{names_of}
use Rattle.raft_node_logs.specs.Files.{IsFoundAs, IsNotOpened, cause_of_log}
use Rattle.raft_node_logs.proofs.file_log.open_log.Goals as goal

-- a refused opening leaves what it found
pub returns-in-Err-open-clause-err : goal.returns-in-Err-open-clause-err
returns-in-Err-open-clause-err g c =
    let met = c.in-Err-open in
    let made = c.unopened in
    record {
      named = subst (λ s. NamesNobody (names_of s)) (sym made.ensures.stop) (λ h. refl);
      why = subst (λ (files : LogFiles). IsNotOpened c.args.files made.result.stop.cause files) (sym made.ensures.files) (inr (record {
        fault = met.refused.fault;
        named = subst (λ (s : Stop). s.cause ≡ cause_of_log met.refused.fault) (sym made.ensures.stop) refl;
        caused = met.ensures.cause;
        free = met.ensures.taken;
        later = met.ensures.later;
      }));
      found = λ content f.
          let here = subst (λ (files : LogFiles). IsFoundAs files content) made.ensures.files f in
          record {
            genuine = c.in_default.ensures.genuine;
            found = met.ensures.reads content (subst (λ s. IsFoundBy s (disk_in met.refused.files.files) content) met.ensures.refused here.found);
          };
    }

pub returns-in-Err-open_by_workers-clause-err : goal.returns-in-Err-open_by_workers-clause-err
returns-in-Err-open_by_workers-clause-err g c =
    let met = c.in-Err-open_by_workers in
    let made = c.unopened-in-Err-open_by_workers in
    record {
      named = subst (λ s. NamesNobody (names_of s)) (sym made.ensures.stop) (λ h. refl);
      why = subst (λ (files : LogFiles). IsNotOpened c.args.files made.result.stop.cause files) (sym made.ensures.files) (inr (record {
        fault = met.refused.fault;
        named = subst (λ (s : Stop). s.cause ≡ cause_of_log met.refused.fault) (sym made.ensures.stop) refl;
        caused = met.ensures.cause;
        free = met.ensures.taken;
        later = met.ensures.later;
      }));
      found = λ content f.
          let here = subst (λ (files : LogFiles). IsFoundAs files content) made.ensures.files f in
          record {
            genuine = c.in_default.ensures.genuine;
            found = met.ensures.reads content (subst (λ s. IsFoundBy s (disk_in met.refused.files.files) content) met.ensures.refused here.found);
          };
    }
