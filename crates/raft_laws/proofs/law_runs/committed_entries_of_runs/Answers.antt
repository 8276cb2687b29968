use Rattle.std.specs.Prelude.{◌≡◌, ℕ, ◌<◌, refl}
use Rattle.std.proofs.Common.{ap, ◌∙◌, arith}
use Rattle.raft_values.specs.LogId.{log_id_of}
use Rattle.raft_state.specs.declared.entry.EntryPayload.TheVariants.{Normal}
use Rattle.raft_group_step.specs.Values.{Entry, entry_of}
use Rattle.raft_group_step.specs.StoredGroup.{entry_at}
use Rattle.raft_values.specs.declared.vote.LeaderId.{LeaderId}
use Rattle.raft_laws.specs.LawRuns.{leads_on_a_snapshot, state_after}
use Rattle.raft_laws.specs.OriginRun.{command_at}
use Rattle.raft_laws.specs.Example.{add}
use Rattle.raft_laws.proofs.BallotAgreement.{same_some}
use Rattle.raft_laws.proofs.law_runs.committed_entries_of_runs.Goals as goal

apart : (a b : ℕ) → a < b → a ≡ b → ⊥
apart a b l e = omega arith

pub returns-clause-own : goal.returns-clause-own
returns-clause-own c =
    record {
      entry = entry_of (log_id_of 2 2 3) (Normal (add 7));
      place = refl;
      in_log = refl;
      written = refl;
      own_vote = refl;
    }

pub returns-clause-snapshots : goal.returns-clause-snapshots
returns-clause-snapshots c = λ h.
    let s = state_after leads_on_a_snapshot 2 in
    let place : 2 ≡ h.entry.log_id.index = same_some h.place in
    let entry : command_at 2 (add 5) ≡ h.entry = same_some (ap (entry_at s.stored) place ∙ h.in_log) in
    apart 1 2 (omega arith)
    (ap (λ (x : Entry). x.log_id.leader_id.node_id) entry ∙ ap (λ (x : LeaderId ℕ). x.node_id) h.written)

pub returns-clause-followers : goal.returns-clause-followers
returns-clause-followers c = λ h. apart 1 2 (omega arith) h.own_vote
