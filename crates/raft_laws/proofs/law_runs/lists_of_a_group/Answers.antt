use Rattle.std.specs.Prelude.{◌≡◌, ℕ, ◌<◌, true, [], ◌∷◌, refl}
use Rattle.std.proofs.Common.{arith, sym}
use Rattle.raft_values.specs.LogId.{log_id_of}
use Rattle.raft_values.specs.Vote.{vote_of}
use Rattle.raft_state.specs.declared.entry.EntryPayload.TheVariants.{Membership as Members}
use Rattle.raft_group_step.specs.Values.{entry_of}
use Rattle.raft_laws.specs.GroupWorld.{Led}
use Rattle.raft_laws.specs.Example.{add, membership_of, three, to_their_end}
use Rattle.raft_laws.specs.LawRuns.{after, blank_at}
use Rattle.raft_laws.specs.OriginRun.{command_at}
use Rattle.raft_laws.specs.Settled.{IsSettled, settled_part}
use Rattle.raft_laws.specs.ThreeNodes.{until_told}
use Rattle.raft_laws.proofs.Counts.{at_contains}
use Rattle.raft_laws.proofs.law_runs.lists_of_a_group.Goals as goal

apart : (a b : ℕ) → a < b → a ≡ b → ⊥
apart a b l e = omega arith

-- what node 1 led with, at the end of the last event
abbrev note : Led
note =
    record {
      node = 1;
      vote = vote_of 1 1 true;
      list = entry_of (log_id_of 0 0 0) (Members (membership_of three [])) ∷ blank_at 1 ∷ command_at 2 (add 5) ∷ [];
    }

command_settled : IsSettled (after (to_their_end until_told)) (command_at 2 (add 5))
command_settled =
    let w = after (to_their_end until_told) in
    (note, at_contains w.led note 3 refl, at_contains (settled_part w note) (command_at 2 (add 5)) 2 refl)

pub returns-clause-settled : goal.returns-clause-settled
returns-clause-settled c = command_settled

pub returns-clause-lacks : goal.returns-clause-lacks
returns-clause-lacks c = λ h.
    let a = h.all_settled (command_at 2 (add 5)) command_settled in
    let none : a.0 < 0 = a.1 in omega arith

pub returns-clause-unsettled : goal.returns-clause-unsettled
returns-clause-unsettled c = λ h.
    let x = h.only_settled (blank_at 0) (0, omega arith, refl) in
    let none : x.1.0 < 0 = x.1.1 in omega arith

pub returns-clause-misplaced : goal.returns-clause-misplaced
returns-clause-misplaced c = λ w h. apart 0 1 (omega arith) (sym (h.by_place 0 (blank_at 1) refl))
