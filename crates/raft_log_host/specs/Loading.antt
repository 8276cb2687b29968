-- The calls of an opening: they read, sync and make a folder, and change no file that is there.
use Rattle.std.specs.Prelude.{◌≡◌, ℕ, Bool, List, [], ◌∷◌}
use Rattle.raft_log_host.specs.Calls.{HostCall, Note, Create, Take, Delete, Rename, MakeDir, Write, Read, Truncate, Fill, Sync, SyncFolder, Settle, noted}

abbrev pub IsLoading : HostCall → Type 0
IsLoading (Take path number) = Unit {0}
IsLoading (MakeDir path) = Unit {0}
IsLoading (Read number at bytes) = Unit {0}
IsLoading (Sync number) = Unit {0}
IsLoading (SyncFolder path) = Unit {0}
IsLoading (Settle number) = Unit {0}
IsLoading (Create path number) = ⊥
IsLoading (Delete path) = ⊥
IsLoading (Rename from to) = ⊥
IsLoading (Write number at bytes) = ⊥
IsLoading (Truncate number len) = ⊥
IsLoading (Fill number at len) = ⊥

-- this is the note of such a call
pub record IsLoadingNote (note : Note) : Type 0 where
  pub call : HostCall
  pub done : Bool
  pub loads : IsLoading call
  pub is : note ≡ noted call done

-- nothing but such calls was made so far
abbrev pub HasOnlyLoaded : List Note → Type 0
HasOnlyLoaded [] = Unit {0}
HasOnlyLoaded (note ∷ notes) = IsLoadingNote note × HasOnlyLoaded notes
