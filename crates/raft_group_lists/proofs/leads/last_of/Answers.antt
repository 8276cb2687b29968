use Rattle.std.specs.Prelude.{suc, drop}
use Rattle.std.proofs.Common.{ap, ◌∙◌, sym}
use Rattle.std.proofs.lemmas.Option.{get_or_from_slice_get}
use Rattle.raft_group_lists.specs.declared.notes.Lead.{Lead}
use Rattle.raft_group_lists.specs.Notes.{last_in, lead_in}
use Rattle.raft_group_lists.proofs.SetLemmas.{lead_found}
use Rattle.raft_group_lists.proofs.leads.last_of.Goals as goal

pub returns-in-Some : goal.returns-in-Some
returns-in-Some c =
    let leads = c.args.leads.now in
    let f = c.in-Some.ensures in
    let none = ap (lead_in (drop (suc c.in-Some.at) leads)) f.of_vote ∙ f.is_last in
    ap (λ (l : Lead). l.last) (get_or_from_slice_get leads c.in-Some.at f.lead c.index-leads-at.result f.there)
    ∙ sym (ap last_in (ap (lead_in leads) (sym f.of_vote) ∙ lead_found leads c.in-Some.at f.lead f.there none))
