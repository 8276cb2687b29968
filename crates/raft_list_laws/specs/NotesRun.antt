-- What leaders took over and wrote, in worked runs.
use Rattle.std.specs.Prelude.{ℕ, List, [], ◌∷◌, ◌++◌, map, filter, slice_get, Option, option_map}
use Rattle.raft_values.specs.declared.log_id.LogId.{LogId}
use Rattle.raft_values.specs.declared.vote.Vote.{Vote}
use Rattle.raft_state.specs.declared.entry.EntryPayload.TheVariants.{Blank}
use Rattle.raft_group_step.specs.Values.{Entry, EntryPayload, vote_eq}
use Rattle.raft_laws.specs.Example.{ids_of_log}
use Rattle.raft_laws.specs.GroupWorld.{GroupWorld, Led}
use Rattle.raft_list_laws.specs.Bases.{base_of}
use Rattle.raft_list_laws.specs.NewEntries.{behind}

-- the log ids of what the leader took over, at each note under the vote
abbrev pub bases_under : Vote ℕ → GroupWorld → List (List (LogId ℕ))
bases_under vote w = map (λ (l : Led). ids_of_log (base_of l)) (filter (λ (l : Led). vote_eq l.vote vote) w.led)

-- the list of the note with this number, from 0 on
abbrev pub list_of_note : ℕ → GroupWorld → Option (List Entry)
list_of_note number w = option_map (λ (l : Led). l.list) (slice_get w.led number)

-- the list of the note, and an entry behind it
abbrev pub list_gone_on : EntryPayload → ℕ → GroupWorld → Option (List Entry)
list_gone_on payload number w =
    option_map (λ (l : Led). l.list ++ behind l.vote l.list payload ∷ []) (slice_get w.led number)

-- what the leader of the note took over, and a blank entry behind it
abbrev pub base_gone_on : ℕ → GroupWorld → Option (List Entry)
base_gone_on number w =
    option_map (λ (l : Led). base_of l ++ behind l.vote (base_of l) Blank ∷ []) (slice_get w.led number)
