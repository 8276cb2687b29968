use Rattle.std.proofs.Common.{refl}
use Rattle.raft_log_records.specs.Checksum.{crc32_of}
use Rattle.raft_log_records.proofs.checksum.Checksum.new.Goals as goal

pub returns : goal.returns
unfolding crc32_of
returns c = refl
