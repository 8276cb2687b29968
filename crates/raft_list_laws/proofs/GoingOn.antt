-- A note goes on from what accounts keep under its vote.
use Rattle.std.specs.Prelude.{◌≡◌, ℕ, List, [], ◌∷◌, ◌++◌, length, slice_get, Some}
use Rattle.std.proofs.Common.{sym, ap, ◌∙◌, subst, arith, ⊎_elim}
use Rattle.std.proofs.lemmas.Option.{slice_get_within}
use Rattle.raft_group_step.specs.Values.{Entry}
use Rattle.raft_laws.specs.BallotLists.{AgreeBelow}
use Rattle.raft_laws.specs.GroupWorld.{GroupWorld, Led, Recorded}
use Rattle.raft_laws.specs.OneList.{IsGroupHistory}
use Rattle.raft_laws.proofs.BallotAgreement.{agree_none, slice_get-append, slice_get_end}
use Rattle.raft_laws.proofs.Counts.{contains_at}
use Rattle.raft_history_laws.proofs.LeaderLists.{lists_grow}
use Rattle.raft_list_laws.specs.Accounts.{WasNoted}
use Rattle.raft_list_laws.specs.Changes.{NotesGoOn}

module _ (ids : List ℕ) (rs : List Recorded) (end : GroupWorld) (h : IsGroupHistory ids rs end) (w : GroupWorld) (l : Led) (is : end.led ≡ w.led ++ l ∷ []) where
  noted_goes_on : (list : List Entry) → WasNoted w l.vote list → AgreeBelow (length list) list l.list
  noted_goes_on list x =
      let at = contains_at w.led x.0 x.1 in
      let inside = slice_get_within w.led at.0 x.0 at.1 in
      let early : slice_get end.led at.0 ≡ Some x.0 = ap (λ ls. slice_get ls at.0) is ∙ slice_get-append w.led (l ∷ []) at.0 inside ∙ at.1 in
      let late : slice_get end.led (length w.led) ≡ Some l = ap (λ ls. slice_get ls (length w.led)) is ∙ slice_get_end w.led l in
      subst (λ (es : List Entry). AgreeBelow (length es) es l.list) x.3
      (lists_grow ids rs end h at.0 (length w.led) x.0 l (omega arith) early late x.2)

pub notes_go_on : NotesGoOn
notes_go_on ids rs end h a w l t is =
    ⊎_elim
    (λ none. subst (λ (es : List Entry). AgreeBelow (length es) es l.list) (sym none) (agree_none l.list))
    (λ x. noted_goes_on ids rs end h w l is (a.latest l.vote) x)
    (t.notes.noted l.vote)
