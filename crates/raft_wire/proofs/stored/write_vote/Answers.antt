use Rattle.std.proofs.Common.{◌++◌, ℕ, ◌≡◌, ◌∙◌, Ok, List, ap, sym, subst}
use Rattle.raft_wire.specs.Reader.{all_of}
use Rattle.raft_wire.specs.Fields.{spelled_vote, FitsVote, vote_at}
use Rattle.raft_wire.proofs.Values.{vote_reads}
use Rattle.raft_wire.proofs.Whole.{whole_again}
use Rattle.raft_wire.proofs.stored.write_vote.Goals as goal

pub returns-clause-found : goal.returns-clause-found
returns-clause-found c =
    let written : c.new-out.result.items ++ spelled_vote c.args.vote.now ≡ spelled_vote c.args.vote.now = ap (λ (bytes : List ℕ). bytes ++ spelled_vote c.args.vote.now) c.new-out.ensures.items in
    let again = whole_again vote_at spelled_vote FitsVote vote_reads c.args.vote.now c.in_ok-put_vote.ensures.fits in
    subst (λ (bytes : List ℕ). all_of vote_at bytes ≡ Ok c.args.vote.now) (sym (c.in_ok-put_vote.ensures.items ∙ written)) again
