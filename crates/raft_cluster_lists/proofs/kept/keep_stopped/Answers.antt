use Rattle.std.specs.Prelude.{◌≡◌, List, Some, None}
use Rattle.std.proofs.Common.{sym, ap, ◌∙◌}
use Rattle.raft_cluster_lists.specs.declared.kept.StoppedCall.{StoppedCall}
use Rattle.raft_cluster_lists.specs.Lists.{first_at, stopped_at}
use Rattle.raft_cluster_lists.proofs.StopLemmas.{push_kept, push_others, set_kept, set_others}
use Rattle.raft_cluster_lists.proofs.kept.keep_stopped.Goals as goal

pub returns-in-Some-clause-kept : goal.returns-in-Some-clause-kept
returns-in-Some-clause-kept c =
    let xs = c.args.stopped.now.items in
    let at : first_at xs c.args.node ≡ Some c.in-Some.at = ap (λ (ys : List StoppedCall). first_at ys c.args.node) (sym c.as_slice.ensures.value) ∙ sym c.in-Some.ensures.place in
    let y : StoppedCall = record { node = c.args.node; payload = c.args.payload } in
    set_kept xs c.args.node c.in-Some.at y at c.args.payload

pub returns-in-Some-clause-others : goal.returns-in-Some-clause-others
returns-in-Some-clause-others c =
    let xs = c.args.stopped.now.items in
    let at : first_at xs c.args.node ≡ Some c.in-Some.at = ap (λ (ys : List StoppedCall). first_at ys c.args.node) (sym c.as_slice.ensures.value) ∙ sym c.in-Some.ensures.place in
    let y : StoppedCall = record { node = c.args.node; payload = c.args.payload } in
    λ other differs. set_others xs c.args.node c.in-Some.at y at c.args.payload other differs

pub returns-in-None-clause-kept : goal.returns-in-None-clause-kept
returns-in-None-clause-kept c =
    let xs = c.args.stopped.now.items in
    let at : first_at xs c.args.node ≡ None = ap (λ (ys : List StoppedCall). first_at ys c.args.node) (sym c.as_slice.ensures.value) ∙ sym c.in-None.ensures.place in
    ap (λ (ys : List StoppedCall). stopped_at ys c.args.node) c.push_reserved.ensures.items ∙ push_kept xs c.args.node c.args.payload at

pub returns-in-None-clause-others : goal.returns-in-None-clause-others
returns-in-None-clause-others c = λ other differs.
    ap (λ (ys : List StoppedCall). stopped_at ys other) c.push_reserved.ensures.items ∙ push_others c.args.stopped.now.items c.args.node c.args.payload other differs
