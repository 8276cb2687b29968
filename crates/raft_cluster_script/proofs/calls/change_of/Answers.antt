use Rattle.std.proofs.Common.{◌≡◌, [], Some, true, sym, ap, ◌∙◌, subst}
use Rattle.std.specs.Ordering.{nat_cmp}
use Rattle.std.specs.Str.{IsUtf8, is_utf8}
use Rattle.std.proofs.lemmas.Bool.{false_from_ne_true}
use Rattle.std.proofs.lemmas.Str.{IsUtf8-from_is_utf8, is_utf8-from_IsUtf8}
use Rattle.raft_quorums.specs.Nodes.{with_node}
use Rattle.raft_membership.specs.declared.change_members.ChangeMembers.TheVariants.{SetNodes}
use Rattle.raft_group_step.specs.declared.group_call.GroupCall.TheVariants.{ChangeMembership}
use Rattle.raft_cluster_script.specs.Calls.{change_if}
use Rattle.raft_cluster_script.proofs.calls.change_of.Goals as goal

pub returns-in_default : goal.returns-in_default
returns-in_default c =
    let no : IsUtf8 c.args.address.now → ⊥ = λ h. c.in_default.ensures.cases.0 (subst IsUtf8 (sym c.as_slice.ensures) h) in
    sym (ap (λ b. change_if b c.args.id c.args.address.now c.args.token) (false_from_ne_true (is_utf8 c.args.address.now) (λ text. no (IsUtf8-from_is_utf8 c.args.address.now text))))

pub returns : goal.returns
returns c =
    let text : is_utf8 c.args.address.now ≡ true = is_utf8-from_IsUtf8 c.args.address.now (subst IsUtf8 c.as_slice.ensures c.in-Ok.ensures.cases.1) in
    let node : c.in_ok-node.node ≡ c.args.address.now = c.in_ok-node.ensures ∙ c.in-Ok.ensures.cases.0 ∙ c.as_slice.ensures in
    let nodes : c.insert.new.self ≡ with_node nat_cmp [] c.args.id c.args.address.now = c.in_ok-insert.ensures.ok ∙ ap (λ ns. with_node nat_cmp ns c.args.id c.in_ok-node.node) c.new-nodes.ensures ∙ ap (λ n. with_node nat_cmp [] c.args.id n) node in
    ap (λ ns. Some (ChangeMembership (SetNodes ns) c.args.token)) nodes ∙ sym (ap (λ b. change_if b c.args.id c.args.address.now c.args.token) text)
