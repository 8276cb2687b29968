-- What the end of an event leaves of what was stored before it: the vote and the list.
use Rattle.std.specs.Prelude.{◌≡◌, ℕ, ◌<◌, List, length, Option, refl}
use Rattle.std.proofs.Common.{ap, ◌∙◌}
use Rattle.raft_group_step.specs.Values.{Membership}
use Rattle.raft_group_step.specs.StoredGroup.{StoredGroup, held}
use Rattle.raft_group_step.specs.GroupState.{Role, Follower, Candidate, Leader}
use Rattle.raft_group_step.specs.StepResult.{StepResult}
use Rattle.raft_group_step.specs.Lead.{commit_as_leader, purge_as_wished}
use Rattle.raft_group_step.specs.GroupStep.{finished}
use Rattle.raft_laws.specs.BallotWorld.{BallotEvent, BallotWorld}
use Rattle.raft_laws.proofs.StepCommits.{Purged, frames_same, purged_same}
use Rattle.raft_laws.proofs.StepWishes.{Wished, committed_wish}
use Rattle.raft_laws.proofs.TrackCommits.{commit_ends}
use Rattle.raft_laws.proofs.TrackElections.{Ends}

pub commit_same : (own : ℕ) (role : Role) (r : StepResult) → ((commit_as_leader own role r).commands ≡ r.commands) × ((commit_as_leader own role r).state.stored ≡ r.state.stored)
commit_same own Follower r = (refl, refl)
commit_same own (Candidate granters) r = (refl, refl)
commit_same own (Leader lead) r = (refl, refl)

module _ {m : Membership} {some : 0 < length m.configs} {own : ℕ} {before : List BallotEvent} {base : StoredGroup} {w : BallotWorld} (committed : Option ℕ) (r : StepResult) (e : Ends m some own before base w r) (h : Wished r) where
  abbrev r1 : StepResult
  r1 = commit_as_leader own r.state.role r

  abbrev r2 : StepResult
  r2 = purge_as_wished r1.state.role r1.state.wish r1

  pub purged : Purged r1 r2
  purged =
      let one = commit_ends e.world r e.tracks r.state.role refl e.role in
      purged_same m one.world own r1 one.tracks.up (committed_wish own r h)

  pub finished_held : held (finished own committed r).state.stored ≡ held r.state.stored
  finished_held =
      ap held (frames_same own committed r2).0
      ∙ purged.held'
      ∙ ap held (commit_same own r.state.role r).1

  pub finished_vote : (finished own committed r).state.stored.vote ≡ r.state.stored.vote
  finished_vote =
      (frames_same own committed r2).3
      ∙ purged.vote
      ∙ ap (λ (st : StoredGroup). st.vote) (commit_same own r.state.role r).1
