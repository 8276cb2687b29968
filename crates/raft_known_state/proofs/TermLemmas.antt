-- Log ids up to a term, of lists put together and cut; and what the last key alone tells.
use Rattle.std.proofs.Common.{◌≡◌, ℕ, zero, suc, ◌+◌, ◌<◌, ◌≤◌, ◌-◌, ◌==◌, false, List, [], ◌∷◌, ◌++◌, length, take, drop, Some, refl, arith, sym, ap, ◌∙◌, subst}
use Rattle.std.specs.List.{slice_get}
use Rattle.std.proofs.lemmas.Bool.Decides.{nat_tests}
use Rattle.raft_values.specs.declared.log_id.LogId.{LogId}
use Rattle.raft_values.specs.declared.vote.LeaderId.{LeaderId}
use Rattle.raft_log_ids.specs.LogIdList.{PlacesRise, last_id}
use Rattle.raft_log_ids.proofs.LogIdListLemmas.{last_id-cons}
use Rattle.raft_group_step.specs.Values.{Entry}
use Rattle.raft_known_state.specs.KnownState.{AreUpToTerm, entry_ids, ids_of_leader}

pub up_to_more : (low high : ℕ) (ids : List (LogId ℕ)) → low ≤ high → AreUpToTerm low ids → AreUpToTerm high ids
up_to_more low high [] l h = tt
up_to_more low high (id ∷ ids) l h = ((let at : id.leader_id.term ≤ low = h.0 in omega arith), up_to_more low high ids l h.1)

pub up_to_both : (term : ℕ) (ids more : List (LogId ℕ)) → AreUpToTerm term ids → AreUpToTerm term more → AreUpToTerm term (ids ++ more)
up_to_both term [] more h g = g
up_to_both term (id ∷ ids) more h g = (h.0, up_to_both term ids more h.1 g)

-- of the first ones, and of those behind them
pub up_to_taken : (term n : ℕ) (es : List Entry) → AreUpToTerm term (entry_ids es) → AreUpToTerm term (entry_ids (take n es))
up_to_taken term zero es h = tt
up_to_taken term (suc n) [] h = tt
up_to_taken term (suc n) (e ∷ es) h = (h.0, up_to_taken term n es h.1)

pub up_to_dropped : (term n : ℕ) (es : List Entry) → AreUpToTerm term (entry_ids es) → AreUpToTerm term (entry_ids (drop n es))
up_to_dropped term zero es h = h
up_to_dropped term (suc n) [] h = tt
up_to_dropped term (suc n) (e ∷ es) h = up_to_dropped term n es h.1

-- of one entry more
pub up_to_next : (term : ℕ) (es : List Entry) (i : ℕ) (e : Entry) → slice_get es i ≡ Some e → e.log_id.leader_id.term ≤ term
    → AreUpToTerm term (entry_ids (take i es)) → AreUpToTerm term (entry_ids (take (i + 1) es))
up_to_next term [] i e h l t = cc
up_to_next term (x ∷ es) zero e h l t = let same : x ≡ e = cc in (subst (λ (y : Entry). y.log_id.leader_id.term ≤ term) (sym same) l, tt)
up_to_next term (x ∷ es) (suc i) e h l t =
    let more : suc i + 1 ≡ suc (i + 1) = omega arith in
    rw more (t.0, up_to_next term es i e h l t.1)

-- ---- the last key alone

-- all keys but the last one
abbrev pub all_but_one : List (LogId ℕ) → ℕ
all_but_one keys = length keys - 1

one_fewer : (key next : LogId ℕ) (keys : List (LogId ℕ)) → all_but_one (key ∷ next ∷ keys) ≡ suc (all_but_one (next ∷ keys))
one_fewer key next keys = omega arith

pub last_rises : (keys : List (LogId ℕ)) → PlacesRise keys → PlacesRise (drop (all_but_one keys) keys)
last_rises [] rise = tt
last_rises (key ∷ []) rise = rise
last_rises (key ∷ next ∷ keys) rise = rw (one_fewer key next keys) (last_rises (next ∷ keys) rise.1)

pub last_left : (keys : List (LogId ℕ)) → last_id (drop (all_but_one keys) keys) ≡ last_id keys
last_left [] = refl
last_left (key ∷ []) = refl
last_left (key ∷ next ∷ keys) =
    ap (λ n. last_id (drop n (key ∷ next ∷ keys))) (one_fewer key next keys)
    ∙ last_left (next ∷ keys) ∙ last_id-cons next keys ∙ sym (last_id-cons key (next ∷ keys))

-- a leader of a higher term has none of them
pub none_of_higher : (term : ℕ) (leader : LeaderId ℕ) (ids : List (LogId ℕ)) → term < leader.term → AreUpToTerm term ids → ids_of_leader leader ids ≡ []
none_of_higher term leader [] l h = refl
none_of_higher term leader (id ∷ ids) l h =
    let at : id.leader_id.term ≤ term = h.0 in
    let other : (id.leader_id.term == leader.term) ≡ false = grind (arith, nat_tests, at, l) in
    rw other (none_of_higher term leader ids l h.1)
