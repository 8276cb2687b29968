-- What the notes of a file in memory stand for.
use Rattle.std.specs.Prelude.{ℕ, List, [], ◌∷◌, map, take}
use Rattle.raft_log_disk.specs.declared.memory_file.Change.{Change}
use Rattle.raft_log_disk.specs.declared.memory_file.Written.{Written}
use Rattle.raft_log_disk.specs.Disk.{FileState, put}

-- the places and bytes of writes
abbrev pub spans_of : List Written → List (ℕ × List ℕ)
spans_of writes = map (λ w. (w.at, w.bytes.items)) writes

abbrev pub ranges_of : List Change → List (ℕ × ℕ)
ranges_of changes = map (λ c. (c.from, c.to)) changes

-- the bytes before the last change
abbrev pub undo : Change → List ℕ → List ℕ
undo c bytes = take c.len (put bytes c.from c.replaced.items)

-- the bytes before all changes, of which the last one is undone first
abbrev pub undone : List Change → List ℕ → List ℕ
undone [] bytes = bytes
undone (c ∷ cs) bytes = undo c (undone cs bytes)

-- the file of these bytes and notes
abbrev pub noted_file : List ℕ → List Change → ℕ → ℕ → List Written → List Written → List ℕ → FileState
noted_file bytes changes least greatest earlier later brought = record {
  bytes = bytes;
  kept = undone changes bytes;
  changed = ranges_of changes;
  least = least;
  greatest = greatest;
  earlier = spans_of earlier;
  later = spans_of later;
  brought = brought;
}
