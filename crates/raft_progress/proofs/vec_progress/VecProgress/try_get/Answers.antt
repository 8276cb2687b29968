-- Where no voter has the id, its value is a learner's.
use Rattle.std.proofs.Common.{◌∙◌, ap, sym}
use Rattle.std.specs.Option.{option_or}
use Rattle.raft_progress.specs.Values.{value_at}
use Rattle.raft_progress.proofs.PartsLemmas.{value_at-missing}
use Rattle.raft_progress.proofs.vec_progress.VecProgress.try_get.Goals as goal

pub returns-in-None : goal.returns-in-None
returns-in-None g c =
    let eq = g.ID.PartialEq.eq in
    let p = c.args.self.now in
    let id = c.args.id.now in
    let no_voter = rw (c.as_slice-voters.ensures.value ∙ ap (λ q. q.voters) c.self.view_is) at c.in-None.ensures.has in
    c.value_in.ensures
    ∙ ap (λ l. value_at eq l id) (c.as_slice.ensures.value ∙ ap (λ q. q.learners) c.self.view_is)
    ∙ sym (ap (λ o. option_or o (value_at eq p.learners id)) (value_at-missing eq p.voters id no_voter))
