use Rattle.std.proofs.Common.{ap, ◌∙◌, subst}
use Rattle.raft_nodes_on_logs.specs.Kinds.{kind_of}
use Rattle.raft_nodes_on_logs.proofs.Handing.{handed_back}
use Rattle.raft_nodes_on_logs.proofs.over_log.files_back.Goals as goal

pub returns-clause-hands_back : goal.returns-clause-hands_back
returns-clause-hands_back g c = subst (λ l. g.L.NodeLog.hands_back l c.into_files.result) (c.into_log.ensures ∙ ap (λ s. s.log) c.into_storage.ensures) c.into_files.ensures.hands_back

pub returns-clause-finds : goal.returns-clause-finds
returns-clause-finds g c =
    λ content found. subst (λ l. g.L.NodeLog.finds l content) (c.into_log.ensures ∙ ap (λ s. s.log) c.into_storage.ensures) (c.into_files.ensures.finds content found)

pub returns-clause-shown : goal.returns-clause-shown
returns-clause-shown g c =
    let k = kind_of g.M.StateMachine g.L.ContentLog g.L.CrashLog g.L.NodeLog in
    handed_back k c.args.node.groups.storage c.into_files.result
    (λ content found. subst (λ (l : k.Log). k.leaves l content) (c.into_log.ensures ∙ ap (λ s. s.log) c.into_storage.ensures) (c.into_files.ensures.left content found))
