-- What is settled stands on one list, also before a note or a message.
use Rattle.std.specs.Prelude.{◌≡◌, ℕ, ◌≤◌, true, List, length, Contains, refl}
use Rattle.std.proofs.Common.{ap, ◌∙◌, arith}
use Rattle.std.proofs.lemmas.Bool.{and_from, and_parts}
use Rattle.raft_values.specs.declared.vote.Vote.{Vote}
use Rattle.raft_quorums.specs.Quorum.{is_quorum}
use Rattle.raft_group_step.specs.Values.{Entry, is_written_by}
use Rattle.raft_laws.specs.GroupWorld.{GroupWorld, Led}
use Rattle.raft_laws.specs.Settled.{count_to_last, has_accepted_some, is_accepted_by_quorum, is_at_or_after, setup_configs, settled_part}
use Rattle.raft_laws.proofs.BallotAgreement.{agree_more, agree_refl}
use Rattle.raft_laws.proofs.Counts.{contains_among}
use Rattle.raft_laws.proofs.GroupList.{part_on}
use Rattle.raft_laws.proofs.WorldStart.{founded}
use Rattle.raft_list_laws.specs.Accounts.{PartsAreFronts}
use Rattle.raft_list_laws.specs.Changes.{FrontsBeforeMessages, FrontsBeforeNotes, PartsOfHistories, message_reaches, note_reaches, with_message, with_note}
use Rattle.raft_list_laws.proofs.Keeping.{message_more, note_more, or_first, stays_in}
use Rattle.raft_list_laws.proofs.Parts.{count_more, quorum_wider, take_fronts, taken_size}

pub parts_of_histories : PartsOfHistories
parts_of_histories ids rs end h =
    let f = founded ids h.node_ids rs end h.replays in
    λ l c. part_on f.membership f.some end f.is l (contains_among end.led l c)

-- a later world has the same set-up, the notes of the earlier one, and what was accepted there
module _ (list : List Entry) (w w' : GroupWorld) (setup : w'.setup ≡ w.setup) (stay : (l : Led) → Contains w.led l → Contains w'.led l) (more : (vote : Vote ℕ) (place node : ℕ) → has_accepted_some w vote (is_at_or_after vote.leader_id place) node ≡ true → has_accepted_some w' vote (is_at_or_after vote.leader_id place) node ≡ true) (fronts : PartsAreFronts list w') where
  accepted_still : (vote : Vote ℕ) (e : Entry) → is_accepted_by_quorum w vote e ≡ true → is_accepted_by_quorum w' vote e ≡ true
  accepted_still vote e h =
      let set = has_accepted_some w vote (is_at_or_after vote.leader_id e.log_id.index) in
      let set' = has_accepted_some w' vote (is_at_or_after vote.leader_id e.log_id.index) in
      let p = and_parts (is_written_by vote.leader_id e) (is_quorum (setup_configs w.setup) set) h in
      and_from (is_written_by vote.leader_id e) (is_quorum (setup_configs w'.setup) set') p.0
      (ap (λ o. is_quorum (setup_configs o) set') setup
      ∙ quorum_wider (setup_configs w.setup) set set' (λ node q. more vote e.log_id.index node q) p.1)

  pub earlier_fronts : PartsAreFronts list w
  earlier_fronts l c =
      let test = is_accepted_by_quorum w l.vote in
      let test' = is_accepted_by_quorum w' l.vote in
      let le = count_more test test' l.list l.list (agree_refl (length l.list) l.list (omega arith)) (accepted_still l.vote) in
      let size = taken_size test l.list in
      let size' = taken_size test' l.list in
      let longer : length (settled_part w l) ≤ length (settled_part w' l) = omega arith in
      agree_more (take_fronts (count_to_last test 0 0 l.list) (count_to_last test' 0 0 l.list) l.list longer) (fronts l (stay l c))

pub fronts_before_notes : FrontsBeforeNotes
fronts_before_notes list w l fronts =
    earlier_fronts list w (with_note w l) refl (λ x c. stays_in w.led l x c)
    (λ vote place node h. note_more w l vote place node ∙ or_first (has_accepted_some w vote (is_at_or_after vote.leader_id place) node) (note_reaches l vote place node) h)
    fronts

pub fronts_before_messages : FrontsBeforeMessages
fronts_before_messages list w m fronts =
    earlier_fronts list w (with_message w m) refl (λ l c. c)
    (λ vote place node h. message_more w m vote place node ∙ or_first (has_accepted_some w vote (is_at_or_after vote.leader_id place) node) (message_reaches m vote place node) h)
    fronts
