use Rattle.std.specs.Prelude.{◌≡◌, ℕ, true, false, slice_get, Some, None, refl}
use Rattle.std.proofs.Common.{ap, ◌∙◌}
use Rattle.raft_group_step.specs.Values.{Entry}
use Rattle.raft_group_step.specs.StoredGroup.{held}
use Rattle.raft_group_step.specs.GroupState.{GroupState, is_leader}
use Rattle.raft_laws.specs.GroupRun.{Scene, Nowhere, At}
use Rattle.raft_laws.specs.Settled.{settled_part}
use Rattle.raft_laws.specs.Example.{add, run_of, three}
use Rattle.raft_laws.specs.LawRuns.{state_in}
use Rattle.raft_laws.specs.OriginRun.{command_at}
use Rattle.raft_laws.specs.ThreeNodes.{until_accepted, until_told}
use Rattle.raft_laws.proofs.Counts.{at_contains}
use Rattle.raft_history_laws.proofs.RunNotes.{first_note}
use Rattle.raft_history_laws.proofs.told.tokens_told_in_runs.Goals as goal

pub returns-clause-told : goal.returns-clause-told
returns-clause-told c =
    let w = run_of three until_told in
    record {
      node = 1;
      at_node = _;
      here = refl;
      state = _;
      leading = record { is_up = refl; leads = refl };
      entry = command_at 2 (add 5);
      stands = refl;
      settled = (first_note, refl, at_contains w.led first_note 3 refl, at_contains (settled_part w first_note) (command_at 2 (add 5)) 2 refl);
    }

abbrev node_of : Scene → ℕ
node_of Nowhere = 0
node_of (At n e) = n

no_entry : (e : Entry) → None ≡ Some e → ⊥
no_entry e h = cc

pub returns-clause-no_entry : goal.returns-clause-no_entry
returns-clause-no_entry c = λ h.
    let w = run_of three until_told in
    let n : 1 ≡ h.node = ap node_of h.here in
    let state = ap (λ m. state_in (w.nodes m)) n ∙ ap state_in h.leading.is_up in
    no_entry h.entry (ap (λ (s : GroupState). slice_get (held s.stored) 3) state ∙ h.stands)

no_leader : false ≡ true → ⊥
no_leader h = cc

pub returns-clause-follower : goal.returns-clause-follower
returns-clause-follower c = λ h.
    let w = run_of three until_accepted in
    let n : 2 ≡ h.node = ap node_of h.here in
    let state = ap (λ m. state_in (w.nodes m)) n ∙ ap state_in h.leading.is_up in
    no_leader (ap (λ (s : GroupState). is_leader s.role) state ∙ h.leading.leads)
