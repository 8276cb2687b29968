use Rattle.std.specs.Prelude.{◌≡◌, List, [], ◌∷◌}
use Rattle.std.proofs.Common.{sym, ap, ◌∙◌}
use Rattle.raft_group_step.specs.GroupState.{Untold, no_group, state_of}
use Rattle.raft_laws.specs.GroupWorld.{Absent, Down, NodeState, Up}
use Rattle.raft_laws.proofs.Counts.{contains_among}
use Rattle.raft_headline.specs.Machines.{Replicas}
use Rattle.raft_headline.specs.Rows.{waits}
use Rattle.raft_cluster_laws.specs.Rows.{waiting}
use Rattle.raft_cluster_laws.proofs.EventKept.{is_only, new_leads}
use Rattle.raft_cluster_laws.proofs.NodesActing.{has_first}
use Rattle.raft_cluster_laws.proofs.rows.candidates_of_nodes.Goals as goal

untold_at : NodeState → List Untold
untold_at Absent = []
untold_at (Up s) = s.untold
untold_at (Down st) = []

other_untold : Up (state_of no_group) ≡ Up waiting → ⊥
unfolding untold_at
other_untold e = let f : [] ≡ waits 3 2 ∷ [] = ap untold_at e in cc

pub returns-clause-some : goal.returns-clause-some
returns-clause-some c = λ k. contains_among [] (k.one 1) (k.among 1)

pub returns-clause-new : goal.returns-clause-new
returns-clause-new c = new_leads _ _ _

pub returns-clause-begins : goal.returns-clause-begins
returns-clause-begins c =
    λ k. let l = k.leads k.one k.among in
    other_untold (sym (ap (λ (g : Replicas). g.world.nodes 1) l.replays.1.1) ∙ l.nodes 1 ∙ is_only (Up waiting) (k.one 1) (k.among 1))

pub returns-clause-from_nothing : goal.returns-clause-from_nothing
returns-clause-from_nothing c =
    λ k. let came = k.came (Up waiting) (has_first (Up waiting)) in
    other_untold (sym (is_only (Up (state_of no_group)) came.0 came.1) ∙ sym came.2)
