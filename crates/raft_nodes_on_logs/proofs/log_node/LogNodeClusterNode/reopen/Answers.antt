use Rattle.std.proofs.Common.{inl, inr, refl, sym, ◌∙◌, subst, ⊎_elim}
use Rattle.raft_nodes_on_logs.specs.Acts.{IsLeftOpening, IsOpened}
use Rattle.raft_nodes_on_logs.specs.Kinds.{kind_of}
use Rattle.raft_node_logs.specs.Opening.{IsRefusedOpening}
use Rattle.raft_nodes_on_logs.proofs.Handing.{is_none, opened_or_not, reopened_so}
use Rattle.raft_nodes_on_logs.proofs.log_node.LogNodeClusterNode.reopen.Goals as goal

pub returns-in-Ok-clause-does : goal.returns-in-Ok-clause-does
returns-in-Ok-clause-does g c =
    let k = kind_of g.M.StateMachine g.L.ContentLog g.L.CrashLog g.L.NodeLog in
    let none = is_none c.args.self.now.up (sym c.is_some.ensures ∙ c.if-is_some.false) in
    let o = c.in-Ok.opened in
    let e = c.opened.ensures in
    opened_or_not k c.args.self.now.up _ _ none
    (reopened_so k c.args.self.now c.opened.new.self o.node o.outcomes.items c.opened.result
    (subst (λ (f : k.Files). IsOpened k f c.args.self.now.id o.node o.outcomes.items) c.replace-files.ensures.value c.in-Ok.ensures.ok)
    none e.id e.ok e.up e.err e.down e.files e.hands_back)

pub returns-in-Err-clause-does : goal.returns-in-Err-clause-does
returns-in-Err-clause-does g c =
    let k = kind_of g.M.StateMachine g.L.ContentLog g.L.CrashLog g.L.NodeLog in
    let none = is_none c.args.self.now.up (sym c.is_some.ensures ∙ c.if-is_some.false) in
    let u = c.in-Err.field-0 in
    let same = c.replace-files.ensures.value in
    opened_or_not k c.args.self.now.up _ _ none (
      record { id = refl; down = none },
      ⊎_elim
          (λ refused. inl (subst (λ (f : k.Files). IsRefusedOpening k.found k.unopened f u.stop u.files) same refused))
          (λ left. inr (inl (subst (λ (f : k.Files). IsLeftOpening k f c.args.self.now.id u.stop u.files) same left)))
          c.in-Err.ensures.err,
    )
