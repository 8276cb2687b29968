-- A leader of a higher term than all entries has written none of them.
use Rattle.std.proofs.Common.{◌<◌, arith}
use Rattle.std.proofs.lemmas.Bool.Decides.{nat_tests}
use Rattle.raft_known_state.specs.KnownState.{entry_ids}
use Rattle.raft_known_state.proofs.TermLemmas.{none_of_higher}
use Rattle.raft_known_state.proofs.known_state.KnownState+u64+BasicNode.may_have_leader.Goals as goal

pub returns : goal.returns
returns c = λ s known no.
    let leader = c.args.leader.now in
    let term = c.args.self.now.highest_term in
    let above : term < leader.term = grind (arith, nat_tests, no) in
    none_of_higher term leader (entry_ids s.log) above known.terms
