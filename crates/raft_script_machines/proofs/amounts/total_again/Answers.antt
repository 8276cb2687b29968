use Rattle.std.specs.Prelude.{ℕ, Option, Some}
use Rattle.std.proofs.Common.{ap, sym}
use Rattle.std.proofs.lemmas.Nat.{from_be_bytes-to_be_bytes_8}
use Rattle.raft_script_machines.proofs.amounts.total_again.Goals as goal

pub returns : goal.returns
returns c =
    let some : ℕ → Option ℕ = λ n. Some n in ap some (sym (from_be_bytes-to_be_bytes_8 c.args.total c.ranges.total.fits))
