use Rattle.std.specs.Prelude.{◌≡◌, ⊤, ℕ, List, Option, Some, None, MatchOption}
use Rattle.std.proofs.Common.{ap, subst, ◌∙◌}
use Rattle.raft_values.specs.declared.log_id.LogId.{LogId}
use Rattle.raft_group_lists.specs.declared.notes.Noted.{Noted}
use Rattle.raft_group_lists.specs.Notes.{AreJoined, EndsWith, HasNoId, IsNotedAt, list_to}
use Rattle.raft_group_lists.specs.Room.{Kept}
use Rattle.raft_group_lists.proofs.WalkLemmas.{noted_ends}
use Rattle.raft_group_lists.proofs.group_list.GroupList.find.Goals as goal

pub returns-clause-noted : goal.returns-clause-noted
returns-clause-noted c =
    subst (λ (ns : List Noted). MatchOption c.find_noted.result (HasNoId ns c.args.id.now) (IsNotedAt ns c.args.id.now))
    (c.as_slice.ensures.value ∙ ap (λ (k : Kept). k.notes.noted) c.self.view_is) c.find_noted.ensures

ends : (noted : List Noted) (joined : AreJoined noted) (id : LogId ℕ) (at : Option ℕ) → MatchOption at (HasNoId noted id) (IsNotedAt noted id) → MatchOption at ⊤ (λ k. EndsWith (list_to noted (Some k)) id)
ends noted joined id None found = tt
ends noted joined id (Some k) found = noted_ends noted joined id k found

pub returns-clause-ends : goal.returns-clause-ends
returns-clause-ends c =
    let noted = c.self.inside.noted.items in
    let found = subst (λ (ns : List Noted). MatchOption c.find_noted.result (HasNoId ns c.args.id.now) (IsNotedAt ns c.args.id.now)) c.as_slice.ensures.value c.find_noted.ensures in
    subst (λ (ns : List Noted). MatchOption c.find_noted.result ⊤ (λ (at : ℕ). EndsWith (list_to ns (Some at)) c.args.id.now))
    (ap (λ (k : Kept). k.notes.noted) c.self.view_is) (ends noted c.self.invariant.0.joined c.args.id.now c.find_noted.result found)
