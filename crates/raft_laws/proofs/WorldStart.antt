-- A new world fits the ballot machine at its start, and so does each that a history leads to.
use Rattle.std.specs.Prelude.{◌≡◌, ◌⊎◌, ℕ, ◌<◌, ◌^◌, Bool, true, false, List, [], ◌∷◌, length, Option, Some, None, refl}
use Rattle.std.proofs.Common.{inl, inr, sym, ap, ◌∙◌, arith}
use Rattle.std.proofs.lemmas.Option.{none-some}
use Rattle.raft_group_step.specs.Values.{Membership, LoggedMembership, has_id}
use Rattle.raft_group_step.specs.GroupState.{no_group, state_of}
use Rattle.raft_laws.specs.BallotWorld.{BallotWorld}
use Rattle.raft_laws.specs.GroupWorld.{GroupWorld, Absent, Up, Led, Recorded, new_world, state_or}
use Rattle.raft_laws.specs.GroupRun.{Replays}
use Rattle.raft_laws.specs.OneList.{AreNodeIds}
use Rattle.raft_laws.proofs.BallotAgreement.{same_some}
use Rattle.raft_laws.proofs.BallotSafe.{Among}
use Rattle.raft_laws.proofs.Shapes.{good_none}
use Rattle.raft_laws.proofs.Memberships.{last_voters}
use Rattle.raft_laws.proofs.Standing.{lead_young}
use Rattle.raft_laws.proofs.StepFits.{NodeFits, world_after}
use Rattle.raft_laws.proofs.WorldFits.{LedFits, NodeStateFits, WorldFits}
use Rattle.raft_laws.proofs.WorldRuns.{SetUpWith, Matches, run_matches}

new_node : (m : Membership) (n : ℕ) → NodeFits m (world_after m []) n (state_of no_group)
new_node m n =
    record {
      up =
          record {
            list = [];
            fits =
                record {
                  ballot = refl;
                  committed = refl;
                  bound = omega arith;
                  log = refl;
                  good = good_none m 0;
                  snapshot = λ x e. absurd (none-some _ e);
                  purged = λ id e. absurd (none-some _ e);
                  reaches = omega arith;
                };
            joined = record { front = refl; log = refl; low = omega arith; high = omega arith };
            commit = refl;
            applied = refl;
          };
      role = tt;
      lead = lead_young refl;
      wish = λ place e. absurd (none-some _ e);
    }

new_state : (m : Membership) (n : ℕ) (b : Bool) → (b ≡ true → n < 2 ^ 64) → NodeStateFits m (world_after m []) n (state_or b (Up (state_of no_group)) Absent)
new_state m n true small = (small refl, new_node m n)
new_state m n false small = tt

pub new_fits : (m : Membership) (ids : List ℕ) → AreNodeIds ids → WorldFits m (world_after m []) (new_world ids)
new_fits m ids small =
    record {
      nodes = λ n. new_state m n (has_id ids n) (small n);
      messages = λ x a. absurd a;
      led = λ l a. absurd a;
    }

pub history_matches : (m : Membership) (some : 0 < length m.configs) (ids : List ℕ) → AreNodeIds ids → (rs : List Recorded) (end : GroupWorld) → Replays (new_world ids) rs end → SetUpWith m end → Matches m some end
history_matches m some ids small rs end run known =
    run_matches m some rs (new_world ids) end (record { before = []; fits = new_fits m ids small }) run known

-- ---- a group that isn't set up has no leader

voters_of : (m : Membership) (b : BallotWorld) (l : Led) (f : LedFits m b l) → (f.has).0.membership.configs ≡ m.configs
voters_of m b l f = last_voters m 0 l.list None (λ y e. absurd (none-some _ e)) f.good (f.has).0 (f.has).1

abbrev one_voter : ℕ → Membership
one_voter n = record { configs = (n ∷ []) ∷ []; nodes = [] }

-- the world has the group's membership, or no note of a leader
pub record IsFounded (m : Membership) (some : 0 < length m.configs) (w : GroupWorld) : Type 0 where
  pub matches : Matches m some w
  pub setup : (w.setup ≡ Some m) ⊎ ((l : Led) → Among l w.led → ⊥)

-- a history at whose end some group is founded, or none
pub record Founded (w : GroupWorld) : Type 0 where
  pub membership : Membership
  pub some : 0 < length membership.configs
  pub is : IsFounded membership some w
  pub known : SetUpWith membership w

one_two : (one_voter 0).configs ≡ (one_voter 1).configs → ⊥
one_two e = cc

module _ (ids : List ℕ) (small : AreNodeIds ids) (rs : List Recorded) (end : GroupWorld) (run : Replays (new_world ids) rs end) where
  unfounded : ((m : Membership) → SetUpWith m end) → Founded end
  unfounded known =
      let a = history_matches (one_voter 0) (omega arith) ids small rs end run (known (one_voter 0)) in
      let b = history_matches (one_voter 1) (omega arith) ids small rs end run (known (one_voter 1)) in
      record {
        membership = one_voter 0;
        some = omega arith;
        is =
            record {
              matches = a;
              setup =
                  inr
                  (λ l h.
                  let f = a.fits.led l h in
                  let g = b.fits.led l h in
                  let same : f.has.0 ≡ g.has.0 = same_some (sym f.has.1 ∙ g.has.1) in
                  one_two (sym (voters_of (one_voter 0) (world_after (one_voter 0) a.before) l f) ∙ ap (λ (x : LoggedMembership). x.membership.configs) same ∙ voters_of (one_voter 1) (world_after (one_voter 1) b.before) l g));
            };
        known = known (one_voter 0);
      }

  set_up : (m : Membership) (configs : List (List ℕ)) → m.configs ≡ configs → end.setup ≡ Some m → Founded end
  set_up m [] none is = unfounded (λ n x e. inr (ap (λ (y : Membership). y.configs) (same_some (sym e ∙ is)) ∙ none))
  set_up m (group ∷ groups) voters is =
      let some : 0 < length m.configs = let n = ap (λ (cs : List (List ℕ)). length cs) voters in omega arith in
      record {
        membership = m;
        some = some;
        is =
            record {
              matches = history_matches m some ids small rs end run (λ x e. inl (same_some (sym e ∙ is)));
              setup = inl is;
            };
        known = λ x e. inl (same_some (sym e ∙ is));
      }

  founded_by : (o : Option Membership) → end.setup ≡ o → Founded end
  founded_by None is = unfounded (λ m x e. absurd (none-some _ (sym is ∙ e)))
  founded_by (Some m) is = set_up m m.configs refl is

  -- each history that replays leads to a world that fits the ballot machine
  pub founded : Founded end
  founded = founded_by end.setup refl
