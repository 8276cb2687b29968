use Rattle.std.specs.Prelude.{None, option_and_then}
use Rattle.raft_node_faults.specs.Fault.{storage_fault_of}
use Rattle.raft_store.specs.Faults.{log_fault}
use Rattle.std.proofs.Common.{[], ◌∷◌, inl, inr, subst, sym}
use Rattle.raft_nodes_on_logs.specs.Kept.{AreShownDown, fails, shows}
use Rattle.raft_nodes_on_logs.specs.Kinds.{kind_of}
use Rattle.raft_nodes_on_logs.proofs.Handing.{handed_back, left_so}
use Rattle.raft_nodes_on_logs.proofs.Standing.{are_of_machine}
use Rattle.raft_nodes_on_logs.proofs.over_log.open_over_log.Goals as goal

pub returns-in-Ok-clause-ok : goal.returns-in-Ok-clause-ok
returns-in-Ok-clause-ok g c =
    let k = kind_of g.M.StateMachine g.L.ContentLog g.L.CrashLog g.L.NodeLog in
    let e = c.in-Ok.ensures in
    let log = c.in_ok-log in
    record {
      own = e.id;
      going = e.going;
      streams = λ peer. e.streams peer;
      content = k.answers log.log;
      found = log.ensures.found;
      opened = λ kept held. e.opened kept (are_of_machine k.rules) (record {
        well = (subst k.is_sound (sym c.new.ensures.log) log.ensures.sound, c.new.ensures.refused, c.new.ensures.cleaning);
        shown = λ group. c.new.ensures.shown group (kept group ∷ []) log.ensures.leaves (inl (held.held group));
        reached = held.reached;
      });
      log = log.log;
      opens = log.ensures.opens;
      met = subst (λ (l : k.Log). k.meets l c.in-Ok.opened.node.groups.storage.log None) c.new.ensures.log e.met.log;
    }

pub returns-in-Err-clause-err : goal.returns-in-Err-clause-err
returns-in-Err-clause-err g c =
    let k = kind_of g.M.StateMachine g.L.ContentLog g.L.CrashLog g.L.NodeLog in
    let e = c.in-Err.ensures in
    let log = c.in_ok-log in
    let storage = c.in-Err.field-0.storage in
    inr (record {
      content = k.answers log.log;
      found = log.ensures.found;
      why = c.in-Err.field-0.fault;
      named = c.as_stop.ensures;
      left = λ kept held. left_so c.args.id kept (shows k storage) (AreShownDown k c.into_files.result) (fails k storage) c.in-Err.field-0.fault
          (handed_back k storage c.into_files.result (λ content found.
          subst (λ (l : k.Log). k.leaves l content) c.into_log.ensures (c.into_files.ensures.left content found)))
          (e.stopped kept (are_of_machine k.rules) (record {
            well = (subst k.is_sound (sym c.new.ensures.log) log.ensures.sound, c.new.ensures.refused, c.new.ensures.cleaning);
            shown = λ group. c.new.ensures.shown group (kept group ∷ []) log.ensures.leaves (inl (held.held group));
            reached = held.reached;
          }));
      log = log.log;
      opens = log.ensures.opens;
      behind = storage;
      met = record {
        log = subst (λ (l : k.Log). k.meets l storage.log (option_and_then log_fault (storage_fault_of c.in-Err.field-0.fault))) c.new.ensures.log e.met.log;
        noted = e.met.noted;
        used_well = λ used. e.met.used_well (
          subst k.is_sound (sym c.new.ensures.log) log.ensures.sound,
          λ group. (k.rules, used.0 group, c.new.ensures.shown group (used.0 group ∷ []) log.ensures.leaves (inl (used.1.held group))),
        );
      };
      hands_back = subst (λ (l : k.Log). k.hands_back l c.into_files.result) c.into_log.ensures c.into_files.ensures.hands_back;
    })
