use Rattle.std.specs.Prelude.{◌≡◌, length, refl}
use Rattle.std.proofs.Common.{sym, ap, ◌∙◌}
use Rattle.std.proofs.lemmas.Option.{slice_get_read, slice_get_within}
use Rattle.raft_laws.proofs.BallotAgreement.{same_some}
use Rattle.raft_group_lists.specs.declared.notes.Reached.{Reached}
use Rattle.raft_group_lists.proofs.LeadLemmas.{reached_more}
use Rattle.raft_group_lists.proofs.leads.learn.Goals as goal

pub returns-clause-reached : goal.returns-clause-reached
returns-clause-reached c =
    let items = c.args.lead.now.reached.items in
    let x = c.index_mut-one.result.now in
    let there = slice_get_read items (length items) c.args.spot x refl (slice_get_within items c.args.spot c.requires.one c.requires.there) c.index_mut-one.ensures.value in
    let of : x.node ≡ c.args.node = ap (λ (one : Reached). one.node) (same_some (sym there ∙ c.requires.there)) ∙ c.requires.of_node in
    reached_more items c.args.spot x (record { node = x.node; place = c.greater-one.result }) c.args.node c.args.place there of refl c.greater-one.ensures
