-- What a leader tells, holds and writes, in worked runs of a group of one voter.
use Rattle.std.specs.Prelude.{ℕ, true, List, [], ◌∷◌, ◌++◌, Option, Some, None}
use Rattle.raft_values.specs.LogId.{log_id_of}
use Rattle.raft_values.specs.Vote.{vote_of}
use Rattle.raft_values.specs.declared.log_id.LogId.{LogId}
use Rattle.raft_group_step.specs.declared.group_call.GroupCall.TheVariants.{Initialize, Propose}
use Rattle.raft_laws.specs.declared.world_event.WorldEvent.TheVariants.{Add, Ask, Restart}
use Rattle.raft_laws.specs.GroupRun.{group_run}
use Rattle.raft_laws.specs.GroupWorld.{new_world}
use Rattle.raft_laws.specs.Origins.{Events}
use Rattle.raft_laws.specs.Example.{add, held_ids_at, membership_of}
use Rattle.raft_laws.specs.OneVoter.{one}
use Rattle.raft_list_facts.specs.Leads.{leading_in}
use Rattle.raft_list_facts.specs.declared.leading.Base.TheVariants.{UpTo}
use Rattle.raft_list_facts.specs.declared.leading.Leading.{Leading}

-- node 1 is set up alone, and stops after so many storing commands, or doesn't
abbrev pub set_up : Option ℕ → Events
set_up stop = (Add 1, None) ∷ (Ask 1 (Initialize (membership_of one [])) 0, stop) ∷ []

-- then a proposal stops after so many
abbrev pub until_stopped : ℕ → Events
until_stopped k = set_up None ++ (Ask 1 (Propose (add 5) 1) 0, Some k) ∷ []

-- and the node is opened
abbrev pub opened : Events → Events
opened es = es ++ (Restart 1, None) ∷ []

-- what node 1 tells behind a run
abbrev pub told_behind : Events → Option Leading
told_behind es = leading_in ((group_run es (new_world one)).nodes 1)

-- the log ids that it holds then
abbrev pub held_behind : Events → Option (List (LogId ℕ))
held_behind es = held_ids_at (group_run es (new_world one)) 1

-- it leads in term 1 up to this log id, and took over the set-up's entry
abbrev pub leads_to : LogId ℕ → Option Leading
leads_to last = Some (record { vote = vote_of 1 1 true; last = Some last; base = UpTo (log_id_of 0 0 0) })
