use Rattle.raft_log_tool.specs.Lines.{hole_text}
use Rattle.raft_log_tool.proofs.LineLemmas.{flat_more_at}
use Rattle.raft_log_tool.proofs.holes.push_holes.Goals as goal

pub loop-hole-preserved : goal.loop-hole-preserved
loop-hole-preserved c =
    flat_more_at hole_text c.args.holes.now c.loop-hole.hole-index (0, 0) _ _ _ c.loop-hole-test.true c.loop-hole.invariant c.in_ok-push_hole.ensures
