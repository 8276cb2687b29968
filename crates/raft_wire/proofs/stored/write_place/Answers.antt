use Rattle.std.proofs.Common.{◌++◌, ◌<◌, ◌^◌, ℕ, ◌≡◌, ◌∙◌, Ok, List, ap, sym, subst}
use Rattle.raft_wire.specs.Reader.{all_of}
use Rattle.std.specs.Int.{w64, to_be_bytes}
use Rattle.raft_wire.specs.Reader.{number_at}
use Rattle.raft_wire.proofs.Fitting.{u64_reads}
use Rattle.raft_wire.proofs.Whole.{whole_again}
use Rattle.raft_wire.proofs.stored.write_place.Goals as goal

pub returns-clause-found : goal.returns-clause-found
returns-clause-found c =
    let written : c.new-out.result.items ++ to_be_bytes w64 c.args.place ≡ to_be_bytes w64 c.args.place = ap (λ (bytes : List ℕ). bytes ++ to_be_bytes w64 c.args.place) c.new-out.ensures.items in
    let again = whole_again (number_at w64) (to_be_bytes w64) (λ (n : ℕ). n < 2 ^ 64) u64_reads c.args.place c.in_ok-put_u64.ensures.fits in
    subst (λ (bytes : List ℕ). all_of (number_at w64) bytes ≡ Ok c.args.place) (sym (c.in_ok-put_u64.ensures.items ∙ written)) again
