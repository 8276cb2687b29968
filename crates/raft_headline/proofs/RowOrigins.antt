-- The events of the small histories that last noted a log id.
use Rattle.std.specs.Prelude.{◌≡◌, ◌<◌, ℕ, [], ◌∷◌, ◌++◌, Some, None, refl}
use Rattle.std.proofs.Common.{arith}
use Rattle.raft_values.specs.LogId.{log_id_of}
use Rattle.raft_group_step.specs.declared.group_call.GroupCall.TheVariants.{Propose}
use Rattle.raft_laws.specs.declared.world_event.WorldEvent.{WorldEvent}
use Rattle.raft_laws.specs.declared.world_event.WorldEvent.TheVariants as event
use Rattle.raft_laws.specs.Example.{add}
use Rattle.raft_laws.specs.OneVoter.{one}
use Rattle.raft_laws.specs.OriginRun.{command_at}
use Rattle.raft_laws.proofs.BallotAgreement.{same_some}
use Rattle.raft_history_laws.proofs.SmallIds.{one_is_small}
use Rattle.raft_headline.specs.ClusterEvent.{Done, Stopped}
use Rattle.raft_headline.specs.Seen.{Own, Passed}
use Rattle.raft_headline.specs.Rows.{at_one, collecting, history, noted_again, proposes, tells, told_at, told_event, unknown_of}
use Rattle.raft_headline.specs.Told.{IsLastNoted}
use Rattle.raft_headline.proofs.Origins.{last_noted}
use Rattle.raft_headline.proofs.OwnRuns.{seen_is_own}
use Rattle.raft_headline.proofs.RowRuns.{crashed, history_runs, noted_again_runs, start, told_again}

above_none : (j k : ℕ) → 0 < j → Some j ≡ Some k → 0 < k
above_none j k l e = let f = same_some e in omega (arith, f)

no_stop : (k : ℕ) → None ≡ Some k → 0 < k
no_stop k e = absurd (let f : None ≡ Some k = e in cc)

not_passed : (x : WorldEvent) → Own x ≡ Passed → ⊥
not_passed x e = cc

-- the command that is told
pub told_last : IsLastNoted one 7 history (0 ∷ []) 4 (log_id_of 1 1 2)
told_last =
    last_noted collecting one 7 history (crashed 0) (0 ∷ []) (history_runs 0) one_is_small 3 (Propose (add 5) 1) (command_at 2 (add 5))
    (record { node = 1; now = 0; stop = None; state = _; event = refl; is_up = refl; set_up = refl; taken = refl; stored = no_stop; writes = refl }) 4
    (seen_is_own collecting 7 history (0 ∷ []) start (crashed 0) (history_runs 0) 4 told_event refl (not_passed (event.Ask 1 (Propose (add 5) 1) 0))) refl

-- the command that was stored, and stopped
pub stored_last : IsLastNoted one 7 history (1 ∷ []) 8 (log_id_of 1 1 3)
stored_last =
    last_noted collecting one 7 history (crashed 1) (1 ∷ []) (history_runs 1) one_is_small 7 (Propose (add 7) 5) (command_at 3 (add 7))
    (record { node = 1; now = 0; stop = Some 1; state = _; event = refl; is_up = refl; set_up = refl; taken = refl; stored = λ k e. above_none 1 k (omega arith) e; writes = refl }) 8
    (seen_is_own collecting 7 history (1 ∷ []) start (crashed 1) (history_runs 1) 8 (at_one (proposes 7 5) (Stopped (unknown_of 7 5 ∷ []))) refl (not_passed (event.Ask 1 (Propose (add 7) 5) 0))) refl

-- the same command that is told, where the first wasn't stored
pub again_last : IsLastNoted one 7 noted_again (0 ∷ []) 10 (log_id_of 1 1 3)
again_last =
    last_noted collecting one 7 noted_again told_again (0 ∷ []) noted_again_runs one_is_small 9 (Propose (add 7) 6) (command_at 3 (add 7))
    (record { node = 1; now = 0; stop = None; state = _; event = refl; is_up = refl; set_up = refl; taken = refl; stored = no_stop; writes = refl }) 10
    (seen_is_own collecting 7 noted_again (0 ∷ []) start told_again noted_again_runs 10 (at_one (proposes 7 6) (Done (tells (told_at 6 3 (3 ∷ add 5 ++ add 7))))) refl (not_passed (event.Ask 1 (Propose (add 7) 6) 0))) refl
