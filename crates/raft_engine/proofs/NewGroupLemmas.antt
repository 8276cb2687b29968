-- The engine of a group with nothing in it stands for that, and is ready for each event.
use Rattle.std.specs.Prelude.{◌≡◌, ℕ, ◌≤◌, ◌^◌, true, None, refl}
use Rattle.std.proofs.Common.{ap, sym, subst, arith}
use Rattle.std.proofs.lemmas.Option.{none-some}
use Rattle.raft_values.specs.LogId.{place_of}
use Rattle.raft_commands.specs.Config.{config_of}
use Rattle.raft_known_state.specs.KnownState.{Knows}
use Rattle.raft_group_step.specs.StoredGroup.{StoredGroup}
use Rattle.raft_group_step.specs.GroupState.{Follower, no_group, state_of}
use Rattle.raft_engine.specs.Events.{IsReady}
use Rattle.raft_engine.specs.Standing.{Engine, IsInOrder, IsStateOf, PlaysRole}

-- a group with nothing in it
abbrev pub new_group : StoredGroup
new_group = record no_group { present = true }

order : IsInOrder (state_of new_group)
order =
    let low : 0 ≤ 0 = omega arith in
    record { placed = tt; purged = low; snapshot = low; committed = refl; applied = refl; within = low }

pub ready : (own : ℕ) → IsReady own (state_of new_group)
ready own =
    record {
      places = let l : 0 ≤ 2 ^ 62 = omega arith in l;
      wish = λ place e. absurd (none-some _ e);
    }

module _ {C R : Type 0} (own : ℕ) (e : Engine C R) where
  -- it knows nothing but the group
  pub stands : e.config ≡ config_of own → Knows e.state new_group → e.state.state.vote.utime ≡ None → e.state.state.committed ≡ None
      → e.state.wish ≡ None → e.leader ≡ None → e.candidate ≡ None → IsStateOf own e (state_of new_group)
  stands config knows renewed committed wish leader candidate =
      record {
        config = config;
        knows = knows;
        renewed = renewed;
        committed = committed;
        wish = ap place_of wish;
        role =
            subst (λ o. PlaysRole own o e.candidate new_group Follower) (sym leader)
            (subst (λ c. PlaysRole own None c new_group Follower) (sym candidate) tt);
        order = order;
      }
