-- One report after another.
use Rattle.std.specs.Prelude.{◌≡◌, ℕ, ◌<◌, List, [], ◌∷◌, ◌++◌, length, Some, None, refl}
use Rattle.std.proofs.Common.{sym, ap, ◌∙◌, subst, arith}
use Rattle.raft_laws.specs.GroupWorld.{GroupWorld, Recorded, new_world}
use Rattle.raft_list_laws.specs.Accounts.{Accounts, AreTrue}
use Rattle.raft_group_lists.specs.declared.notes.Noted.{Noted}
use Rattle.raft_group_lists.specs.Notes.{Notes, accounts_of, list_to}
use Rattle.raft_list_steps.specs.declared.report.GroupReport.{GroupReport}
use Rattle.raft_list_steps.specs.Lists.{HasFirst, IsKnown, IsListOf}
use Rattle.raft_list_steps.specs.Reports.{AreReportsOf, Hears, IsBehind, IsReportOf}

-- the last of the reports
pub record IsLastReport (ids : List ℕ) (xs : List GroupReport) (x : GroupReport) (w end : GroupWorld) : Type 0 where
  pub middle : GroupWorld
  pub before : List Recorded
  pub record_of : Recorded
  pub rest : AreReportsOf ids xs w before middle
  pub behind : IsBehind ids middle record_of end
  pub report : IsReportOf x middle record_of end

pub last_report : (ids : List ℕ) (xs : List GroupReport) (x : GroupReport) (w : GroupWorld) (rs : List Recorded) (end : GroupWorld) → AreReportsOf ids (xs ++ x ∷ []) w rs end → IsLastReport ids xs x w end
last_report ids [] x w [] end are = absurd are
last_report ids [] x w (r ∷ []) end are =
    record {
      middle = w;
      before = [];
      record_of = r;
      rest = refl;
      behind = subst (IsBehind ids w r) (sym are.3) are.1;
      report = subst (IsReportOf x w r) (sym are.3) are.2;
    }
last_report ids [] x w (r ∷ q ∷ rs) end are = absurd are.3
last_report ids (y ∷ xs) x w [] end are = absurd are
last_report ids (y ∷ xs) x w (r ∷ rs) end are =
    let l = last_report ids xs x are.0 rs end are.3 in
    record {
      middle = l.middle;
      before = r ∷ l.before;
      record_of = l.record_of;
      rest = (are.0, are.1, are.2, l.rest);
      behind = l.behind;
      report = l.report;
    }

-- the list of whatever world the reports lead to
abbrev pub IsBehindAll : Notes → List GroupReport → Type 0
IsBehindAll s reports = (ids : List ℕ) (rs : List Recorded) (end : GroupWorld) → AreReportsOf ids reports (new_world ids) rs end → IsListOf s end

-- nothing is noted
pub nothing_noted : (s : Notes) → ((ids : List ℕ) → AreTrue (accounts_of s) (new_world ids)) → s.noted ≡ [] → IsBehindAll s []
nothing_noted s truth none ids [] end are =
    subst (IsListOf s) (sym are)
    (record {
      truth = truth ids;
      known = λ k less. absurd (let no = ap length none in omega arith);
      first = λ m up. absurd (let no : None ≡ Some m = up in cc);
    })
nothing_noted s truth none ids (r ∷ rs) end are = absurd are

-- the same is noted, and stands for the same
pub same_list : (s next : Notes) → accounts_of next ≡ accounts_of s → next.noted ≡ s.noted → (w : GroupWorld) → IsListOf s w → IsListOf next w
same_list s next accounts noted w h =
    record {
      truth = subst (λ (a : Accounts). AreTrue a w) (sym accounts) h.truth;
      known = λ k less. subst (λ (ns : List Noted). IsKnown w (list_to ns (Some k))) (sym noted) (h.known k (subst (λ (ns : List Noted). k < length ns) noted less));
      first = λ m up.
          let f : HasFirst s m = h.first m up in
          record {
            at = f.at;
            within = subst (λ (ns : List Noted). f.at < length ns) (sym noted) f.within;
            list = ap (λ (ns : List Noted). list_to ns (Some f.at)) noted ∙ f.list;
          };
    }

pub heard_next : (s more next : Notes) (xs : List GroupReport) (x : GroupReport) → accounts_of more ≡ accounts_of s → more.noted ≡ s.noted → Hears more x next → IsBehindAll s xs → IsBehindAll next (xs ++ x ∷ [])
heard_next s more next xs x accounts noted hears before ids rs end are =
    let l = last_report ids xs x (new_world ids) rs end are in
    (hears ids l.middle l.record_of end l.behind l.report (same_list s more accounts noted l.middle (before ids l.before l.middle l.rest))).truth
