use Rattle.std.specs.Prelude.{◌≡◌, ◌++◌, ◌∷◌, ◌+◌, ◌<◌, ℕ, suc, [], List, Some, length, refl}
use Rattle.std.proofs.Common.{sym, ap, ◌∙◌, arith, subst}
use Rattle.raft_list_laws.specs.Accounts.{Accounts, AreTrue}
use Rattle.raft_group_lists.specs.declared.notes.Noted.{Noted}
use Rattle.raft_group_lists.specs.Notes.{AreWhole, IsWithin, Notes, accounts_of, count_to, list_to}
use Rattle.raft_group_lists.specs.Room.{Kept}
use Rattle.raft_group_lists.proofs.KeepLemmas.{accounts_kept, count_low, list_kept, new_list, whole_more}
use Rattle.raft_group_lists.proofs.WalkLemmas.{within_some}
use Rattle.raft_group_lists.proofs.group_list.GroupList.write.Goals as goal

pub overflow_add-count : goal.overflow_add-count
overflow_add-count c =
    let noted = c.self.inside.noted in
    let within = subst (λ (n : Notes). IsWithin n.noted c.args.before) (sym (ap (λ (k : Kept). k.notes) c.self.view_is)) c.requires in
    let low = count_low noted.items c.self.invariant.0.joined c.args.before within in
    let count = c.count_to-count.ensures ∙ ap (λ (ns : List Noted). count_to ns c.args.before) c.as_slice.ensures.value in
    omega (arith, noted.ok.0, noted.ok.1, noted.small)

pub invariant_of-self-2 : goal.invariant_of-self-2
invariant_of-self-2 c =
    let i = c.self.inside in
    let s : Notes = record { voters = i.voters; noted = i.noted.items; leads = i.leads.items; listed = i.listed.items } in
    let x : Noted = record { entry = c.args.entry; before = c.args.before; count = c.count_to-count.result + 1 } in
    let within = subst (λ (n : Notes). IsWithin n.noted c.args.before) (sym (ap (λ (k : Kept). k.notes) c.self.view_is)) c.requires in
    let read = c.count_to-count.ensures ∙ ap (λ (ns : List Noted). count_to ns c.args.before) c.as_slice.ensures.value in
    let count : c.count_to-count.result + 1 ≡ suc (count_to s.noted c.args.before) = omega arith in
    let whole = subst (λ (ns : List Noted). AreWhole (record { voters = i.voters; noted = ns; leads = i.leads.items; listed = i.listed.items }))
    (sym (c.push_reserved.ensures.items ∙ ap (λ (ns : List Noted). ns ++ x ∷ []) c.reserve.ensures.items)) (whole_more s c.self.invariant.0 x count within)
    in
    (whole, c.self.invariant.1)

pub returns-clause-truth : goal.returns-clause-truth
returns-clause-truth c =
    let i = c.self.inside in
    let s : Notes = record { voters = i.voters; noted = i.noted.items; leads = i.leads.items; listed = i.listed.items } in
    let x : Noted = record { entry = c.args.entry; before = c.args.before; count = c.count_to-count.result + 1 } in
    λ w t.
    subst (λ (ns : List Noted). AreTrue (accounts_of (record { voters = i.voters; noted = ns; leads = i.leads.items; listed = i.listed.items })) w)
    (sym (c.push_reserved.ensures.items ∙ ap (λ (ns : List Noted). ns ++ x ∷ []) c.reserve.ensures.items))
    (subst (λ (a : Accounts). AreTrue a w) (accounts_kept s c.self.invariant.0 x)
    (subst (λ (n : Notes). AreTrue (accounts_of n) w) (sym (ap (λ (k : Kept). k.notes) c.self.view_is)) t))

pub returns-clause-list : goal.returns-clause-list
returns-clause-list c =
    let i = c.self.inside in
    let noted = i.noted.items in
    let x : Noted = record { entry = c.args.entry; before = c.args.before; count = c.count_to-count.result + 1 } in
    let within = subst (λ (n : Notes). IsWithin n.noted c.args.before) (sym (ap (λ (k : Kept). k.notes) c.self.view_is)) c.requires in
    let read = c.count_to-count.ensures ∙ ap (λ (ns : List Noted). count_to ns c.args.before) c.as_slice.ensures.value in
    let count : c.count_to-count.result + 1 ≡ suc (count_to noted c.args.before) = omega arith in
    let at : c.len-at.result ≡ length noted = omega (arith, c.len-at.ensures, i.noted.ok.0) in
    ap (λ (ns : List Noted). list_to ns (Some c.len-at.result)) (c.push_reserved.ensures.items ∙ ap (λ (ns : List Noted). ns ++ x ∷ []) c.reserve.ensures.items)
    ∙ ap (λ (n : ℕ). list_to (noted ++ x ∷ []) (Some n)) at
    ∙ new_list noted x c.self.invariant.0.joined count within
    ∙ ap (λ (n : Notes). list_to n.noted c.args.before ++ c.args.entry ∷ []) (ap (λ (k : Kept). k.notes) c.self.view_is)

pub returns-clause-others : goal.returns-clause-others
returns-clause-others c =
    let noted = c.self.inside.noted.items in
    let x : Noted = record { entry = c.args.entry; before = c.args.before; count = c.count_to-count.result + 1 } in
    λ at l.
    let inside = subst (λ (n : Notes). at < length n.noted) (sym (ap (λ (k : Kept). k.notes) c.self.view_is)) l in
    ap (λ (ns : List Noted). list_to ns (Some at)) (c.push_reserved.ensures.items ∙ ap (λ (ns : List Noted). ns ++ x ∷ []) c.reserve.ensures.items)
    ∙ list_kept noted x c.self.invariant.0.joined (Some at) (within_some noted at inside)
    ∙ ap (λ (n : Notes). list_to n.noted (Some at)) (ap (λ (k : Kept). k.notes) c.self.view_is)

pub returns-clause-noted : goal.returns-clause-noted
returns-clause-noted c =
    let i = c.self.inside in
    let noted = i.noted.items in
    let x : Noted = record { entry = c.args.entry; before = c.args.before; count = c.count_to-count.result + 1 } in
    let at : c.len-at.result ≡ length noted = omega (arith, c.len-at.ensures, i.noted.ok.0) in
    let same : noted ≡ c.args.self.now.notes.noted = ap (λ (k : Kept). k.notes.noted) c.self.view_is in
    record {
      one = x;
      of_entry = refl;
      place = at ∙ ap length same;
      behind = c.push_reserved.ensures.items ∙ ap (λ (ns : List Noted). ns ++ x ∷ []) (c.reserve.ensures.items ∙ same);
    }
