use Rattle.std.proofs.Common.{◌<◌, ◌^◌, ℕ, arith}
use Rattle.std.specs.Int.{w64, to_be_bytes}
use Rattle.raft_wire.specs.Reader.{number_at}
use Rattle.raft_wire.proofs.Fitting.{u64_reads}
use Rattle.raft_wire.proofs.Whole.{is_found, is_only}
use Rattle.raft_wire.proofs.stored.read_place.Goals as goal

pub returns-clause-found : goal.returns-clause-found
returns-clause-found c = is_found (number_at w64) (to_be_bytes w64) (λ (n : ℕ). n < 2 ^ 64) u64_reads c.args.bytes.now c.whole_place.result (λ i. omega (arith, c.type_inv.bytes i)) c.whole_place.ensures

pub returns-clause-only : goal.returns-clause-only
returns-clause-only c = λ e fits is. is_only (number_at w64) (to_be_bytes w64) (λ (n : ℕ). n < 2 ^ 64) u64_reads c.args.bytes.now c.whole_place.result e c.whole_place.ensures fits is
