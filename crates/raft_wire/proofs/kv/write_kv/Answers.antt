use Rattle.std.proofs.Common.{◌≡◌, Ok, List, ℕ, sym, subst}
use Rattle.raft_wire.specs.Reader.{all_of}
use Rattle.raft_wire.proofs.Whole.{whole_again}
use Rattle.raft_wire.specs.Kv.{FitsCommand, command_at, spelled_command}
use Rattle.raft_wire.proofs.KvReading.{command_reads}
use Rattle.raft_wire.proofs.kv.write_kv.Goals as goal

pub returns-clause-found : goal.returns-clause-found
returns-clause-found c =
    let command = c.args.command.now in
    let written : c.in_ok-command_bytes.field-0.items ≡ spelled_command command = c.in_ok-command_bytes.ensures.items in
    let again = whole_again command_at spelled_command FitsCommand command_reads command c.in_ok-command_bytes.ensures.fits in
    subst (λ (bytes : List ℕ). all_of command_at bytes ≡ Ok command) (sym written) again
