use Rattle.std.proofs.Common.{◌≡◌, Ok, List, ℕ, sym, subst}
use Rattle.raft_wire.specs.Reader.{all_of}
use Rattle.raft_wire.specs.Entries.{spelled_entry, FitsEntry, entry_at}
use Rattle.raft_wire.proofs.Values.{entry_alone_reads}
use Rattle.raft_wire.proofs.Whole.{whole_again}
use Rattle.raft_wire.proofs.entries.write_entry.Goals as goal

pub returns-clause-found : goal.returns-clause-found
returns-clause-found c =
    let e = c.args.entry.now in
    let written : c.in_ok-entry_bytes.field-0.items ≡ spelled_entry e = c.in_ok-entry_bytes.ensures.items in
    let again = whole_again entry_at spelled_entry FitsEntry entry_alone_reads e c.in_ok-entry_bytes.ensures.fits in
    subst (λ (bytes : List ℕ). all_of entry_at bytes ≡ Ok e) (sym written) again
