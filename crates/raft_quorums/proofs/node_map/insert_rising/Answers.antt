use Rattle.std.proofs.Common.{◌∙◌, sym, subst}
use Rattle.std.specs.Prelude.{Ok}
use Rattle.raft_quorums.specs.Rising.{IsRisingByFirst}
use Rattle.raft_quorums.proofs.PlaceLemmas.{with_node-found, rising-with_node}
use Rattle.raft_quorums.proofs.node_map.insert_rising.Goals as goal

pub returns-in-Ok-clause-ok : goal.returns-in-Ok-clause-ok
returns-in-Ok-clause-ok g c =
    sym (with_node-found g.NID.Ord.cmp c.args.nodes.now.items c.as_slice.result.now c.args.id c.args.node (Ok c.in-Ok.at) c.as_slice.ensures.value c.in-Ok.ensures.place)

pub returns-in-Ok-clause-rising : goal.returns-in-Ok-clause-rising
returns-in-Ok-clause-rising g c =
    subst (IsRisingByFirst g.NID.Ord.cmp) (sym (returns-in-Ok-clause-ok g c)) (rising-with_node g.met.NID.Ord.total c.args.id c.args.node c.args.nodes.now.items c.requires)

pub returns-in_ok-insert-in-Err-clause-ok : goal.returns-in_ok-insert-in-Err-clause-ok
returns-in_ok-insert-in-Err-clause-ok g c =
    c.in_ok-insert-in-Err.ensures.items
    ∙ sym (with_node-found g.NID.Ord.cmp c.args.nodes.now.items c.as_slice.result.now c.args.id c.args.node _ c.as_slice.ensures.value c.in-Err.ensures.place)

pub returns-in_ok-insert-in-Err-clause-rising : goal.returns-in_ok-insert-in-Err-clause-rising
returns-in_ok-insert-in-Err-clause-rising g c =
    subst (IsRisingByFirst g.NID.Ord.cmp) (sym (returns-in_ok-insert-in-Err-clause-ok g c)) (rising-with_node g.met.NID.Ord.total c.args.id c.args.node c.args.nodes.now.items c.requires)
