-- What the leaders of the rows' worlds hold.
use Rattle.std.specs.Prelude.{true, [], ◌∷◌, refl}
use Rattle.raft_values.specs.LogId.{log_id_of}
use Rattle.raft_values.specs.Vote.{vote_of}
use Rattle.raft_state.specs.declared.entry.EntryPayload.TheVariants.{Blank, Membership as Members}
use Rattle.raft_group_step.specs.Values.{Entry, entry_of}
use Rattle.raft_group_step.specs.declared.group_call.GroupCall.TheVariants.{Propose}
use Rattle.raft_laws.specs.declared.world_event.WorldEvent.TheVariants as event
use Rattle.raft_laws.specs.GroupWorld.{Led, new_world}
use Rattle.raft_laws.specs.GroupRun.{history_of}
use Rattle.raft_laws.specs.Origins.{Events}
use Rattle.raft_laws.specs.Settled.{settled_part}
use Rattle.raft_laws.specs.Example.{add, membership_of, three, to_their_end}
use Rattle.raft_laws.specs.LawRuns.{after, blank_at, settled_aside}
use Rattle.raft_laws.specs.OneVoter.{one}
use Rattle.raft_laws.specs.OriginRun.{command_at}
use Rattle.raft_laws.proofs.Counts.{at_contains}
use Rattle.raft_laws.proofs.ListLaws.{leaders_hold}
use Rattle.raft_laws.proofs.Runs.{run-replays}
use Rattle.raft_history_laws.proofs.SmallIds.{one_is_small, three_are_small}
use Rattle.raft_headline.specs.Leaders.{HoldUpTo}
use Rattle.raft_headline.specs.Rows.{has_told, its_list, set_up}

-- what one voter led with, once it had the command
abbrev its_note : Led
its_note = record { node = 1; vote = vote_of 1 1 true; list = its_list }

abbrev until_told : Events
until_told = to_their_end (event.Add 1 ∷ event.Ask 1 set_up 0 ∷ event.Ask 1 (Propose (add 5) 1) 0 ∷ [])

pub told_held : HoldUpTo has_told (vote_of 1 1 true) 2
told_held n s leading above =
    leaders_hold one (history_of until_told (new_world one)) has_told (record { node_ids = one_is_small; replays = run-replays until_told (new_world one) }) (vote_of 1 1 true) (command_at 2 (add 5))
    (its_note, refl, at_contains has_told.led its_note 1 refl, at_contains (settled_part has_told its_note) (command_at 2 (add 5)) 2 refl) n s leading above

-- what node 2 leads with, whose first entry node 3 has accepted
abbrev its_first : Entry
its_first = entry_of (log_id_of 2 2 2) Blank

abbrev second_note : Led
second_note =
    record { node = 2; vote = vote_of 2 2 true; list = entry_of (log_id_of 0 0 0) (Members (membership_of three [])) ∷ blank_at 1 ∷ its_first ∷ [] }

pub second_holds : HoldUpTo (after settled_aside) (vote_of 2 2 true) 2
second_holds n s leading above =
    leaders_hold three (history_of settled_aside (new_world three)) (after settled_aside) (record { node_ids = three_are_small; replays = run-replays settled_aside (new_world three) }) (vote_of 2 2 true) its_first
    (second_note, refl, at_contains (after settled_aside).led second_note 3 refl, at_contains (settled_part (after settled_aside) second_note) its_first 2 refl) n s leading above
