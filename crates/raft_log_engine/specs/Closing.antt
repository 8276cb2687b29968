-- What a close hands back.
use Rattle.std.specs.Prelude.{Result, Ok, Err}
use Rattle.raft_log_engine.specs.declared.opening.NotClosed.{NotClosed}

-- the files, refused or not
abbrev pub handed_back : {F : Type 0} → Result F (NotClosed F) → F
handed_back (Ok files) = files
handed_back (Err refused) = refused.files
