use Rattle.std.specs.Prelude.{◌≡◌, List, Some, None, length, option_map, refl}
use Rattle.std.proofs.Common.{sym, ap, ◌∙◌}
use Rattle.std.proofs.lemmas.Option.{slice_get_read}
use Rattle.raft_cluster_lists.specs.declared.kept.StoppedCall.{StoppedCall}
use Rattle.raft_cluster_lists.specs.Lists.{first_at, stopped_at}
use Rattle.raft_cluster_lists.proofs.StopLemmas.{found_at, none_found, removed_others, there}
use Rattle.raft_cluster_lists.proofs.kept.take_stopped.Goals as goal

pub returns-in-Some-clause-taken : goal.returns-in-Some-clause-taken
returns-in-Some-clause-taken c =
    let xs = c.args.stopped.now.items in
    let at : first_at xs c.args.node ≡ Some c.in-Some.at = ap (λ (ys : List StoppedCall). first_at ys c.args.node) (sym c.as_slice.ensures.value) ∙ sym c.in-Some.ensures.place in
    let call = c.remove-call.result in
    let here = slice_get_read xs (length xs) c.in-Some.at call refl (there xs c.args.node c.in-Some.at call at).0 c.remove-call.ensures.value in
    sym (found_at xs c.args.node c.in-Some.at call at ∙ ap (option_map (λ (x : StoppedCall). x.payload)) here)

pub returns-in-Some-clause-others : goal.returns-in-Some-clause-others
returns-in-Some-clause-others c =
    let xs = c.args.stopped.now.items in
    let at : first_at xs c.args.node ≡ Some c.in-Some.at = ap (λ (ys : List StoppedCall). first_at ys c.args.node) (sym c.as_slice.ensures.value) ∙ sym c.in-Some.ensures.place in
    λ other differs.
    ap (λ (ys : List StoppedCall). stopped_at ys other) c.remove-call.ensures.items
    ∙ removed_others xs c.args.node c.in-Some.at c.remove-call.result at other differs

pub returns-in-None-clause-taken : goal.returns-in-None-clause-taken
returns-in-None-clause-taken c =
    let xs = c.args.stopped.now.items in
    let at : first_at xs c.args.node ≡ None = ap (λ (ys : List StoppedCall). first_at ys c.args.node) (sym c.as_slice.ensures.value) ∙ sym c.in-None.ensures.place in
    sym (ap (option_map (λ (x : StoppedCall). x.payload)) (none_found xs c.args.node at))
