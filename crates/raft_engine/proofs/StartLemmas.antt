-- The engine that a node starts with.
use Rattle.std.specs.Prelude.{◌≡◌, ℕ, false, Option, None, Some, option_map}
use Rattle.std.proofs.Common.{ap, sym, subst, ◌∙◌}
use Rattle.raft_values.specs.declared.log_id.LogId.{LogId}
use Rattle.raft_values.specs.LogId.{place_of}
use Rattle.raft_commands.specs.Config.{config_of}
use Rattle.raft_group_step.specs.StoredGroup.{Snapshot, StoredGroup, snapshot_last}
use Rattle.raft_group_step.specs.GroupState.{GroupState, Follower}
use Rattle.raft_group_step.specs.Frames.{committed_id}
use Rattle.raft_known_state.specs.KnownState.{KnownState, Knows, meta_of, with_committed}
use Rattle.raft_engine.specs.Opening.{OpensAs, given_at_opening}
use Rattle.raft_engine.specs.Standing.{Engine, IsStateOf, PlaysRole, given_at_start}

-- the snapshot's last log id, as it is known
pub covered_last : (s : StoredGroup) (x : Option Snapshot) → s.snapshot ≡ x → (meta_of s.snapshot).last_log_id ≡ snapshot_last s
covered_last s None e = ap (λ o. (meta_of o).last_log_id) e ∙ sym (ap (option_map (λ (y : Snapshot). y.last)) e)
covered_last s (Some y) e = ap (λ o. (meta_of o).last_log_id) e ∙ sym (ap (option_map (λ (y : Snapshot). y.last)) e)

module _ {C R : Type 0} (own : ℕ) (k : KnownState) (covered : Option (LogId ℕ)) (e : Engine C R) (s : GroupState) (opens : OpensAs own k s)
    (last : covered ≡ snapshot_last s.stored) (known : e.state ≡ with_committed k covered e.state.state.membership_state) where
  -- what is committed is what the snapshot covers
  committed_then : e.state.state.committed ≡ committed_id s
  committed_then = ap (λ (x : KnownState). x.state.committed) known ∙ last ∙ sym opens.committed

  -- it stands for what is known
  pub start_stands : e.config ≡ config_of own → e.leader ≡ None → e.candidate ≡ None → Knows e.state s.stored → IsStateOf own e s
  start_stands config no_lead no_candidate knows =
      record {
        config = config;
        knows = knows;
        renewed = ap (λ (x : KnownState). x.state.vote.utime) known ∙ opens.renewed;
        committed = committed_then;
        wish = ap (λ (x : KnownState). place_of x.wish) known ∙ opens.wish;
        role =
            subst (λ role. PlaysRole own e.leader e.candidate s.stored role) (sym opens.follows)
            (subst (λ l. PlaysRole own l e.candidate s.stored Follower) (sym no_lead)
            (subst (λ c. PlaysRole own None c s.stored Follower) (sym no_candidate) tt));
        order = opens.order;
      }

  -- what it knows as it starts
  pub start_given : (x : Snapshot) → e.seen_greater_log ≡ false → e.output.last_sm_seq ≡ 0 → given_at_start x e s ≡ given_at_opening x s
  start_given x seen number =
      ap (λ b. record (given_at_start x e s) { seen_greater_log = b }) seen
      ∙ ap (λ n. record (given_at_opening x s) { last_sm_seq = n; committed_before = e.state.state.committed }) number
      ∙ ap (λ c. record (given_at_opening x s) { committed_before = c }) committed_then
