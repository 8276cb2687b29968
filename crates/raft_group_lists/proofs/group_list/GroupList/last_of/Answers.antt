use Rattle.std.specs.Prelude.{◌≡◌, ℕ, List, [], Option, Some, MatchOption}
use Rattle.std.proofs.Common.{ap, subst, ◌∙◌, sym}
use Rattle.raft_group_lists.specs.declared.notes.Lead.{Lead}
use Rattle.raft_group_lists.specs.Notes.{IsEnded, IsWithin, Notes, last_in, lead_in, list_to}
use Rattle.raft_group_lists.proofs.WalkLemmas.{some_ends}
use Rattle.raft_group_lists.specs.Room.{Kept}
use Rattle.raft_group_lists.proofs.KeepLemmas.{last_within}
use Rattle.raft_group_lists.proofs.group_list.GroupList.last_of.Goals as goal

pub returns-clause-within : goal.returns-clause-within
returns-clause-within c =
    let i = c.self.inside in
    let is = c.last_of.ensures ∙ ap (λ (ls : List Lead). last_in (lead_in ls c.args.vote.now)) c.as_slice.ensures.value in
    subst (λ (n : Notes). IsWithin n.noted c.last_of.result) (ap (λ (k : Kept). k.notes) c.self.view_is)
    (subst (λ (o : Option ℕ). IsWithin i.noted.items o) (sym is) (last_within i.noted.items i.leads.items c.self.invariant.0.leads c.args.vote.now))

pub returns-clause-ends : goal.returns-clause-ends
returns-clause-ends c =
    let i = c.self.inside in
    let vote = c.args.vote.now in
    let at = c.last_of.result in
    let is = c.last_of.ensures ∙ ap (λ (ls : List Lead). last_in (lead_in ls vote)) c.as_slice.ensures.value in
    let within = subst (λ (o : Option ℕ). IsWithin i.noted.items o) (sym is) (last_within i.noted.items i.leads.items c.self.invariant.0.leads vote) in
    let ends = some_ends i.noted.items c.self.invariant.0.joined at within in
    subst (λ (n : Notes). MatchOption at (list_to n.noted (last_in (lead_in n.leads vote)) ≡ []) (λ (k : ℕ). IsEnded (list_to n.noted (Some k)))) (ap (λ (k : Kept). k.notes) c.self.view_is)
    (subst (λ (o : Option ℕ). MatchOption at (list_to i.noted.items o ≡ []) (λ (k : ℕ). IsEnded (list_to i.noted.items (Some k)))) is ends)
