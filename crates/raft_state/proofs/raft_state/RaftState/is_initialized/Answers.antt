use Rattle.std.proofs.Common.{◌≡◌, Bool, true, false, not, List, [], ◌∷◌, refl, sym, subst}
use Rattle.raft_state.specs.State.{first_vote}
use Rattle.std.specs.Prelude.{◌↔◌, IsTrue, None}
use Rattle.raft_values.specs.declared.log_id.LogId.{LogId}
use Rattle.raft_log_ids.specs.LogIdList.{last_id}
use Rattle.raft_log_ids.proofs.LogIdListLemmas.{last_id-cons}
use Rattle.raft_state.proofs.raft_state.RaftState.is_initialized.Goals as goal

-- what has no last one has none
none_last : {K : Type 0} (ids : List (LogId K)) → last_id ids ≡ None → ids ≡ []
none_last [] e = refl
none_last (x ∷ ids) e = cc (last_id-cons x ids)

unless_both : {A B : Type 0} (r : Bool) → A → (IsTrue r ↔ B) → (not r ≡ false) ↔ (A × B)
unless_both true a h = (λ _. (a, h.0 refl), λ _. refl)
unless_both false a h = (λ e. cc, λ w. cc (h.1 w.1))

pub returns-in-None : goal.returns-in-None
returns-in-None g c =
    let state = c.args.self.now in
    let told : IsTrue c.is_first_vote.result ↔ (state.vote.value ≡ first_vote g.NID.NodeIdEssential.default_id) =
    subst (λ v. IsTrue c.is_first_vote.result ↔ (v ≡ first_vote g.NID.NodeIdEssential.default_id)) c.get.ensures c.is_first_vote.ensures in
    unless_both c.is_first_vote.result (none_last state.log_ids (sym c.in-None.ensures)) told
