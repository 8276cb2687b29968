-- Each step of the group keeps what ties a node to the ballot machine.
use Rattle.std.specs.Prelude.{◌≡◌, ℕ, ◌<◌, ◌^◌, List, [], length, Option, Some, None, refl}
use Rattle.std.proofs.Common.{sym, subst}
use Rattle.raft_group_step.specs.Values.{Membership}
use Rattle.raft_group_step.specs.Peer.{is_kept_for_peers}
use Rattle.raft_group_step.specs.StoredGroup.{StoredGroup, MakeGroup, held}
use Rattle.raft_group_step.specs.GroupState.{GroupState, Role, Follower, Candidate, Leader, state_of}
use Rattle.raft_group_step.specs.GroupEvent.{GroupEvent, AddGroup, Call, Receive, Open}
use Rattle.raft_group_step.specs.StepResult.{RefusalReason, StepResult, refused_step, store, unchanged}
use Rattle.raft_group_step.specs.Lead.{commit_as_leader, other_ids, purge_as_wished, with_wish}
use Rattle.raft_group_step.specs.Frames.{has_grown}
use Rattle.raft_group_step.specs.Refusal.{refusal_of}
use Rattle.raft_group_step.specs.GroupStep.{begun, event_step, finished, step_unless}
use Rattle.raft_group_step.proofs.Words.{either_by}
use Rattle.raft_laws.specs.BallotWorld.{BallotWorld, BallotEvent}
use Rattle.raft_laws.proofs.BallotOthers.{extends_refl}
use Rattle.raft_laws.proofs.Standing.{LeadKept, lead_same, MessageFits, RoleFits, up_down}
use Rattle.raft_laws.proofs.StepFits.{world_after, NodeFits, StopFits, EventFits, Later, StepStop, StepEnd, StepFits, OpeningFits}
use Rattle.raft_laws.proofs.StepWishes.{Wished, committed_wish, purged_wish, frames_wish}
use Rattle.raft_laws.proofs.StepOpening.{nothing_yet, not_yet, opening_ends, opening_wish}
use Rattle.raft_laws.proofs.StepCalls.{call_goes}
use Rattle.raft_laws.proofs.StepMessages.{message_goes}
use Rattle.raft_laws.proofs.Tracking.{Reached, MayStop, Tracks, track_same, track_store, up_same}
use Rattle.raft_laws.proofs.TrackElections.{Ends, ends_from}
use Rattle.raft_laws.proofs.TrackCommits.{commit_ends}
use Rattle.raft_laws.proofs.TrackFrames.{serve_all_ends}
use Rattle.raft_laws.proofs.TrackPurges.{purge_ends}

module _ {m : Membership} {some : 0 < length m.configs} {own : ℕ} {before : List BallotEvent} {base : StoredGroup} where
  -- ---- the end of an event

  pub wished_ends : (w : BallotWorld) (r : StepResult) → Tracks m some own before base w r → (role : Role) → r.state.role ≡ role → RoleFits own w r.state.stored.vote (held r.state.stored) r.state.role → (wish : Option ℕ) → r.state.wish ≡ wish → Wished r → Ends m some own before base w (purge_as_wished role wish r)
  wished_ends w r t Follower e fits wish f h = record { world = w; extends = extends_refl own w; tracks = t; role = fits }
  wished_ends w r t (Candidate granters) e fits wish f h = record { world = w; extends = extends_refl own w; tracks = t; role = fits }
  wished_ends w r t (Leader lead) e fits None f h = record { world = w; extends = extends_refl own w; tracks = t; role = fits }
  wished_ends w r t (Leader lead) e fits (Some place) f h =
      either_by (Ends m some own before base w) (is_kept_for_peers place lead.peers) _ _
      (λ b. record { world = w; extends = extends_refl own w; tracks = t; role = fits })
      (λ b. purge_ends w (with_wish None r) (track_same (with_wish None r) t refl refl refl refl refl) fits place (h place f))

  pub finished_ends : {w : BallotWorld} (committed : Option ℕ) (r : StepResult) → Ends m some own before base w r → Wished r → Ends m some own before base w (finished own committed r) × Wished (finished own committed r)
  finished_ends committed r e h =
      let one = commit_ends e.world r e.tracks r.state.role refl e.role in
      let r1 = commit_as_leader own r.state.role r in
      let h1 = committed_wish own r h in
      let two = wished_ends one.world r1 one.tracks r1.state.role refl one.role r1.state.wish refl h1 in
      let r2 = purge_as_wished r1.state.role r1.state.wish r1 in
      let three = serve_all_ends (has_grown committed r2.state.committed) (other_ids own r2.state.stored) two.world r2 two.tracks two.role in (
        ends_from e.extends (ends_from one.extends (ends_from two.extends three)),
        frames_wish own committed r2 (purged_wish r1 h1),
      )

  -- ---- the events of a step, all of this node

  abbrev later_of : {w : BallotWorld} → Reached m some own before base w → Later m own before
  later_of x = record { events = x.events; by = x.by }

  stop_of : {st : StoredGroup} → MayStop m some own before base st → StepStop m own before st
  stop_of {st} x =
      record {
        later = later_of x.reached;
        fits = subst (λ v. StopFits m v own st) (sym (x.reached).is) (record { down = x.fits; lead = x.lead });
      }

  pub end_of : {w : BallotWorld} {r : StepResult} → Ends m some own before base w r → Wished r → StepEnd m own before base r
  end_of {w} {r} e h =
      let t = e.tracks in
      record {
        later = later_of t.reached;
        node = subst (λ v. NodeFits m v own r.state) (sym (t.reached).is) (record { up = t.up; role = e.role; lead = t.lead; wish = h });
        messages = λ x a. subst (λ v. MessageFits m v x) (sym (t.reached).is) (t.messages x a);
        stops = λ k. stop_of (t.stops k);
      }

module _ (m : Membership) (some : 0 < length m.configs) (own : ℕ) (before : List BallotEvent) where
  -- a node that is up, before anything happens
  pub begins : (s s' : GroupState) → NodeFits m (world_after m before) own s → s'.stored ≡ s.stored → s'.committed ≡ s.committed → s'.applied ≡ s.applied → Tracks m some own before s.stored (world_after m before) (unchanged s')
  begins s s' n a b c =
      record {
        reached = nothing_yet;
        stops = not_yet (up_down n.up) n.lead;
        stored = a;
        up = up_same s s' a b c n.up;
        lead = subst (LeadKept own) (sym a) n.lead;
        messages = λ x y. absurd y;
      }

  -- the group is made
  made_ends : (s : GroupState) (n : NodeFits m (world_after m before) own s) → Ends m some own before s.stored (world_after m before) (store MakeGroup (unchanged s))
  made_ends s n =
      let t = begins s s n refl refl refl in
      let u = n.up in
      record {
        world = world_after m before;
        extends = extends_refl own (world_after m before);
        tracks =
            track_store MakeGroup t t.reached
            (record {
              list = u.list;
              fits = record {
                ballot = u.fits.ballot;
                committed = u.fits.committed;
                bound = u.fits.bound;
                log = u.fits.log;
                good = u.fits.good;
                snapshot = u.fits.snapshot;
                purged = u.fits.purged;
                reaches = u.fits.reaches;
              };
              joined = record { front = u.joined.front; log = u.joined.log; low = u.joined.low; high = u.joined.high };
              commit = u.commit;
              applied = u.applied;
            })
            t.messages
            (lead_same refl refl n.lead);
        role = n.role;
      }

  pub event_ends : (small : own < 2 ^ 64) (s : GroupState) (e : GroupEvent) → NodeFits m (world_after m before) own s → EventFits m (world_after m before) e → refusal_of own s e ≡ None → Ends m some own before s.stored (world_after m before) (event_step own s e) × Wished (event_step own s e)
  event_ends small s AddGroup n fits passed = (made_ends s n, n.wish)
  event_ends small s (Call call now) n fits passed =
      call_goes small (world_after m before) s now (begins s (begun now s).state n refl refl refl) n.role n.wish call fits passed
  event_ends small s (Receive peer x now) n fits passed =
      message_goes small (world_after m before) s now (begins s (begun now s).state n refl refl refl) n.role n.wish peer x fits passed
  event_ends small s Open n fits passed = (opening_ends m some own before s.stored (up_down n.up) n.lead, opening_wish m some own before s.stored (up_down n.up) n.lead)

  -- nothing happens
  refused_end : (s : GroupState) (why : RefusalReason) → NodeFits m (world_after m before) own s → StepEnd m own before s.stored (refused_step s why)
  refused_end s why n =
      record {
        later = record { events = []; by = tt };
        node = n;
        messages = λ x a. absurd a;
        stops = λ k. stop_of (not_yet {some = some} (up_down n.up) n.lead k);
      }

  step_ends : (small : own < 2 ^ 64) (s : GroupState) (e : GroupEvent) → NodeFits m (world_after m before) own s → EventFits m (world_after m before) e → (why : Option RefusalReason) → refusal_of own s e ≡ why → StepEnd m own before s.stored (step_unless why own s e)
  step_ends small s e n fits (Some why) refused = refused_end s why n
  step_ends small s e n fits None refused =
      let on = event_ends small s e n fits refused in
      let done = finished_ends s.committed (event_step own s e) on.0 on.1 in
      end_of done.0 done.1

pub step_fits : StepFits
step_fits m some own small before s e n fits = step_ends m some own before small s e n fits (refusal_of own s e) refl

pub opening_fits : OpeningFits
opening_fits m some own small before st n =
    let done = finished_ends {some = some} None (event_step own (state_of st) Open) (opening_ends m some own before st n.down n.lead) (opening_wish m some own before st n.down n.lead) in
    end_of done.0 done.1
