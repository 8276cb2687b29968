use Rattle.std.specs.Prelude.{ℕ, ◌<◌, ◌≤◌, ◌^◌, [], ◌∷◌, ◌++◌, refl}
use Rattle.std.proofs.Common.{arith}
use Rattle.raft_group_step.specs.declared.group_call.GroupCall.TheVariants.{Propose}
use Rattle.raft_laws.specs.Example.{add}
use Rattle.raft_laws.specs.OneVoter.{one}
use Rattle.raft_laws.proofs.Counts.{at_contains}
use Rattle.raft_history_laws.proofs.SmallIds.{one_is_small}
use Rattle.raft_step_laws.specs.Taking.{HasRoom}
use Rattle.raft_headline.specs.ClusterEvent.{Done, Stopped}
use Rattle.raft_headline.specs.Rows.{at_one, collecting, history, noted_again, proposes, state_there, tells, told_at, told_event, unknown_of}
use Rattle.raft_headline.proofs.RowRuns.{after_told, crashed, history_runs, is_set_up, told_happened}
use Rattle.raft_headline.proofs.TheHeadline.{headline_of_histories}
use Rattle.raft_headline.proofs.rows.headline_of_small_histories.Goals as goal

pub returns-clause-told : goal.returns-clause-told
returns-clause-told c = λ numbers end run.
    let t = told_at 1 2 (2 ∷ add 5) in
    (headline_of_histories collecting one one_is_small 7 history end (numbers, run)).told numbers run 4 told_event t refl (at_contains (t ∷ []) t 0 refl)

pub returns-clause-told_again : goal.returns-clause-told_again
returns-clause-told_again c = λ numbers end run.
    let t = told_at 6 3 (3 ∷ add 5 ++ add 7) in
    (headline_of_histories collecting one one_is_small 7 noted_again end (numbers, run)).told numbers run 10 (at_one (proposes 7 6) (Done (tells t))) t refl (at_contains (t ∷ []) t 0 refl)

pub returns-clause-token : goal.returns-clause-token
returns-clause-token c = λ numbers end run.
    (headline_of_histories collecting one one_is_small 7 history end (numbers, run)).tokens numbers run 4 1 1 0 told_event (Propose (add 5) 1) refl refl refl refl

pub returns-clause-unknown_token : goal.returns-clause-unknown_token
returns-clause-unknown_token c = λ numbers end run.
    (headline_of_histories collecting one one_is_small 7 history end (numbers, run)).tokens numbers run 8 1 5 0 (at_one (proposes 7 5) (Stopped (unknown_of 7 5 ∷ []))) (Propose (add 7) 5) refl refl refl refl

short : 8 ≤ 65536
short = omega arith

low : 2 < 2 ^ 62
low = omega arith

none_below : (k : ℕ) {P : Type 0} → k < 0 → P
none_below k less = absurd (omega arith)

pub returns-clause-taken : goal.returns-clause-taken
returns-clause-taken c =
    let all = headline_of_histories collecting one one_is_small 7 history (crashed 0) (0 ∷ [], history_runs 0) in
    let s = state_there is_set_up.world in
    let room : HasRoom s (record { began = 1; peers = [] }) 0 = record { moment = omega arith; place = low; requests = λ k d less. none_below k less } in
    (is_set_up, after_told, s, refl, all.taken told_event is_set_up after_told told_happened 1 s (record { began = 1; peers = [] }) refl refl (add 5) 1 0 refl short room refl refl, (crashed 0, told_happened))

pub returns-clause-stops : goal.returns-clause-stops
returns-clause-stops c = (headline_of_histories collecting one one_is_small 7 history (crashed 0) (0 ∷ [], history_runs 0)).stops
