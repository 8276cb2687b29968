use Rattle.std.specs.Prelude.{◌≡◌, ℕ, true, length, refl}
use Rattle.std.proofs.Common.{arith, ap, sym, ◌∙◌}
use Rattle.std.proofs.lemmas.Option.{slice_get_within}
use Rattle.raft_values.specs.declared.vote.Vote.{Vote}
use Rattle.raft_values.specs.Vote.{vote_of}
use Rattle.raft_laws.specs.GroupWorld.{Led, new_world}
use Rattle.raft_laws.specs.GroupRun.{history_of}
use Rattle.raft_laws.specs.Settled.{group_list, settled_part}
use Rattle.raft_laws.specs.Example.{add, run_of, three, to_their_end}
use Rattle.raft_laws.specs.OriginRun.{command_at}
use Rattle.raft_laws.specs.SnapshotRun.{until_caught_up}
use Rattle.raft_laws.specs.ThreeNodes.{until_accepted, until_proposed}
use Rattle.raft_laws.proofs.Counts.{at_contains, contains_at}
use Rattle.raft_laws.proofs.GroupList.{is_list}
use Rattle.raft_laws.proofs.Runs.{run-replays}
use Rattle.raft_laws.proofs.StepEntries.{Each}
use Rattle.raft_laws.proofs.WorldStart.{founded}
use Rattle.raft_history_laws.proofs.RunNotes.{first_note}
use Rattle.raft_history_laws.proofs.SmallIds.{three_are_small}
use Rattle.raft_history_laws.proofs.WaitingTokens.{each_contains}
use Rattle.raft_history_laws.proofs.told.entries_settled_under_votes.Goals as goal

pub returns-clause-replied : goal.returns-clause-replied
returns-clause-replied c =
    let w = run_of three until_accepted in
    (first_note, refl, at_contains w.led first_note 2 refl, at_contains (settled_part w first_note) (command_at 2 (add 5)) 2 refl)

pub returns-clause-later : goal.returns-clause-later
returns-clause-later c =
    let w = run_of three until_caught_up in
    (first_note, refl, at_contains w.led first_note 2 refl, at_contains (settled_part w first_note) (command_at 2 (add 5)) 2 refl)

pub returns-clause-minority : goal.returns-clause-minority
returns-clause-minority c = λ h.
    let w = run_of three until_proposed in
    let f = founded three three_are_small (history_of (to_their_end until_proposed) (new_world three)) w (run-replays (to_their_end until_proposed) (new_world three)) in
    let list = is_list f.membership f.some w f.is in
    let k = contains_at (group_list w) (command_at 2 (add 5)) (list.all_settled (command_at 2 (add 5)) (h.0, h.2, h.3)) in
    let within = slice_get_within (group_list w) k.0 (command_at 2 (add 5)) k.1 in
    let place : 2 ≡ k.0 = list.by_place k.0 (command_at 2 (add 5)) k.1 in
    let size : length (group_list w) ≡ 2 = refl in
    omega (arith, within, place, size)

other_term : vote_of 1 1 true ≡ vote_of 2 2 true → ⊥
other_term e = let term : 1 ≡ 2 = ap (λ (v : Vote ℕ). v.leader_id.term) e in omega (arith, term)

pub returns-clause-other_vote : goal.returns-clause-other_vote
returns-clause-other_vote c = λ h.
    let w = run_of three until_accepted in
    let first = refl {a = vote_of 1 1 true} in
    let all : Each (λ (l : Led). l.vote ≡ vote_of 1 1 true) w.led = (first, (first, (first, tt))) in
    other_term (sym (each_contains (λ (l : Led). l.vote ≡ vote_of 1 1 true) w.led h.0 all h.2) ∙ h.1)
