-- What every call of a pipe keeps of the settings that it was opened with.
use Rattle.std.specs.Prelude.{◌≡◌, ℕ, Vec}
use Rattle.std.specs.declared.alloc.Global.{Global}
use Rattle.raft_log_pipe.specs.declared.file.ReservedFile.{ReservedFile}
use Rattle.raft_log_pipe.specs.declared.pipe.SinglePipe.{SinglePipe}

-- new files have the same target size and the same format, and as many files are kept for reuse
abbrev pub KeepsSettings : SinglePipe → SinglePipe → Type 0
KeepsSettings old new = (new.target_file_size ≡ old.target_file_size) × (new.default_format ≡ old.default_format) × (new.capacity ≡ old.capacity)

-- the pipe with other reserved files, of which so many are kept
abbrev pub with_reserved : SinglePipe → Vec ReservedFile Global → ℕ → SinglePipe
with_reserved p reserved capacity = record {
  alloc = p.alloc;
  queue = p.queue;
  paths = p.paths;
  default_format = p.default_format;
  target_file_size = p.target_file_size;
  older = p.older;
  active = p.active;
  writer = p.writer;
  reserved = reserved;
  capacity = capacity;
}
