use Rattle.std.proofs.Common.{◌∷◌, [], ◌++◌, List, length, map, ap, ◌∙◌, append_assoc, arith, sym, subst}
use Rattle.std.specs.Vec.Iter.{into_iter_items}
use Rattle.std.proofs.lemmas.List.{map-append}
use Rattle.raft_log_recovery.specs.Replay.{Placed}
use Rattle.raft_log_workers.specs.Batches.{placed_of}
use Rattle.raft_log_workers.proofs.batches.ReplayedBatches.replay_into.Goals as goal

pub loop-next-preserved : goal.loop-next-preserved
loop-next-preserved g c =
    let at = c.loop-next in
    let x = c.in-Some.next in
    let steps = c.in-Some.ensures.steps.0 in
    let short = ap length steps in (
      append_assoc at.yielded (x ∷ []) (into_iter_items c.next.new.self) ∙ ap (λ l. at.yielded ++ l) (sym steps) ∙ at.invariant.0,
      (let was = at.invariant.1 in let gone = c.in-Some.ensures.steps.1 in omega arith),
      λ placed has.
          subst (λ (l : List Placed). g.M.ReplayMachine.has_replayed c.replay.new.self l)
          (append_assoc placed (map placed_of at.yielded) (placed_of x ∷ []) ∙ ap (λ l. placed ++ l) (sym (map-append placed_of at.yielded (x ∷ []))))
          (c.in_ok-replay.ensures.replayed (placed ++ map placed_of at.yielded) (at.invariant.2 placed has)),
    )
