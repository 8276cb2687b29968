-- What the numbers of an event say that isn't refused: they are low, and the entries of an append request stand at low
-- places one after another.
use Rattle.std.specs.Prelude.{◌≡◌, ℕ, ◌+◌, ◌≤◌, ◌<◌, ◌^◌, ◌==◌, ◌&&◌, nat_lt, not, cond, Bool, true, false, List, [], ◌∷◌, ◌++◌, length, Option, Some, None, refl}
use Rattle.std.proofs.Common.{subst, arith, eqb-true}
use Rattle.std.proofs.lemmas.Bool.{and_parts, ltb-true}
use Rattle.raft_values.specs.declared.vote.Vote.{Vote}
use Rattle.raft_values.specs.declared.log_id.LogId.{LogId}
use Rattle.raft_values.specs.LogId.{next_place}
use Rattle.raft_group_step.specs.Values.{Entry, leader_lt}
use Rattle.raft_group_step.specs.StoredGroup.{StoredGroup, has_id_in_log}
use Rattle.raft_group_step.specs.GroupState.{GroupState}
use Rattle.raft_group_step.specs.StepResult.{NumberAtEnd, is_within}
use Rattle.raft_group_step.specs.SnapshotRequest.{place_above}
use Rattle.raft_group_step.specs.AppendRequest.{above_committed, missing_entries}
use Rattle.raft_group_step.specs.Refusal.{are_in_range, do_follow, next_ids, number_limit, numbers_of_entries, range_reason}
use Rattle.raft_group_step.proofs.Refusals.{unless_none}
use Rattle.raft_laws.proofs.FreshEntries.{within_is, without_is}
use Rattle.raft_laws.proofs.StepEntries.{Each}
use Rattle.raft_laws.proofs.LowGroups.{IsLowEntry}

-- ---- numbers

abbrev pub IsLow : ℕ → Type 0
IsLow n = n < 2 ^ 62

each_parts : {A : Type 0} (P : A → Type 0) (xs ys : List A) → Each P (xs ++ ys) → Each P xs × Each P ys
each_parts P [] ys h = (tt, h)
each_parts P (x ∷ xs) ys h = let rest = each_parts P xs ys h.1 in ((h.0, rest.0), rest.1)

pub low_parts : (ms ns : List ℕ) → Each IsLow (ms ++ ns) → Each IsLow ms × Each IsLow ns
low_parts ms ns h = each_parts IsLow ms ns h

each_low : (ns : List ℕ) → are_in_range ns ≡ true → Each IsLow ns
each_low [] t = tt
each_low (n ∷ ns) t =
    let parts = and_parts (nat_lt n number_limit) (are_in_range ns) t in
    (ltb-true n number_limit parts.0, each_low ns parts.1)

-- numbers that passed are low
pub passed_low : (s : GroupState) (ns : List ℕ) → range_reason s ns ≡ None → Each IsLow ns
passed_low s ns e =
    let t = unless_none (are_in_range (ns ++ next_ids s.role)) NumberAtEnd e in
    (low_parts ns (next_ids s.role) (each_low (ns ++ next_ids s.role) t)).0

pub entries_low : (es : List Entry) → Each IsLow (numbers_of_entries es) → Each IsLowEntry es
entries_low [] h = tt
entries_low (e ∷ es) h = (h.1.0, entries_low es h.1.1)

-- ---- entries at places that follow one another

-- the entries stand one after another from this place on, and all are low
abbrev pub StandFrom : ℕ → List Entry → Type 0
StandFrom k [] = Unit {0}
StandFrom k (e ∷ es) = (e.log_id.index ≡ k) × (k < 2 ^ 62) × StandFrom (k + 1) es

pub stand_each : (k : ℕ) (es : List Entry) → StandFrom k es → Each IsLowEntry es
stand_each k [] h = tt
stand_each k (e ∷ es) h = (omega (arith, h.0, h.1), stand_each (k + 1) es h.2)

pub stand_end : (k : ℕ) (es : List Entry) → k ≤ 2 ^ 62 → StandFrom k es → k + length es ≤ 2 ^ 62
stand_end k [] l h = omega arith
stand_end k (e ∷ es) l h = let rest = stand_end (k + 1) es (omega (arith, h.1)) h.2 in omega arith

-- they do so from some place on that isn't below this one
abbrev pub StandAbove : ℕ → List Entry → Type 0
StandAbove low es = (k : ℕ) × (low ≤ k) × StandFrom k es

-- an append request's entries follow its previous log id
pub follow_stand : (vote : Vote ℕ) (previous : Option (LogId ℕ)) (es : List Entry) → do_follow vote previous es ≡ true → Each IsLowEntry es → StandFrom (next_place previous) es
follow_stand vote previous [] t h = tt
follow_stand vote None (e ∷ es) t h =
    let rest = and_parts (e.log_id.index == 0 && not (leader_lt vote.leader_id e.log_id.leader_id)) (do_follow vote (Some e.log_id) es) t in
    let first = and_parts (e.log_id.index == 0) (not (leader_lt vote.leader_id e.log_id.leader_id)) rest.0 in
    let is = eqb-true e.log_id.index 0 first.0 in
    (is, omega arith, subst (λ k. StandFrom (k + 1) es) is (follow_stand vote (Some e.log_id) es rest.1 h.1))
follow_stand vote (Some id) (e ∷ es) t h =
    let rest =
    and_parts
    (e.log_id.index == id.index + 1 && not (leader_lt e.log_id.leader_id id.leader_id) && not (leader_lt vote.leader_id e.log_id.leader_id))
    (do_follow vote (Some e.log_id) es) t
    in
    let two = and_parts (e.log_id.index == id.index + 1 && not (leader_lt e.log_id.leader_id id.leader_id)) (not (leader_lt vote.leader_id e.log_id.leader_id)) rest.0 in
    let one = and_parts (e.log_id.index == id.index + 1) (not (leader_lt e.log_id.leader_id id.leader_id)) two.0 in
    let is = eqb-true e.log_id.index (id.index + 1) one.0 in
    (is, omega (arith, h.0), subst (λ k. StandFrom (k + 1) es) is (follow_stand vote (Some e.log_id) es rest.1 h.1))

-- past what is committed all of them stay
all_stay : (committed : Option ℕ) (k : ℕ) (es : List Entry) → place_above committed ≤ k → StandFrom k es → StandFrom k (above_committed committed es)
all_stay committed k [] l h = tt
all_stay committed k (e ∷ es) l h =
    go (is_within e.log_id.index committed) refl (all_stay committed (k + 1) es (omega arith) h.2)
  where
    go : (b : Bool) → is_within e.log_id.index committed ≡ b → StandFrom (k + 1) (above_committed committed es) → StandFrom k (cond (not b) (e ∷ above_committed committed es) (above_committed committed es))
    go true q rest = let below = within_is committed e.log_id.index q in absurd (omega (arith, h.0))
    go false q rest = (h.0, h.1, rest)

pub above_stand : (committed : Option ℕ) (k : ℕ) (es : List Entry) → StandFrom k es → StandAbove (place_above committed) (above_committed committed es)
above_stand committed k [] h = (place_above committed, omega arith, tt)
above_stand committed k (e ∷ es) h =
    go (is_within e.log_id.index committed) refl (above_stand committed (k + 1) es h.2)
  where
    go : (b : Bool) → is_within e.log_id.index committed ≡ b → StandAbove (place_above committed) (above_committed committed es) → StandAbove (place_above committed) (cond (not b) (e ∷ above_committed committed es) (above_committed committed es))
    go true q rest = rest
    go false q rest =
        let above = without_is committed e.log_id.index q in
        (k, omega (arith, h.0), (h.0, h.1, all_stay committed (k + 1) es (omega (arith, h.0)) h.2))

pub missing_stand : (s : StoredGroup) (low k : ℕ) (es : List Entry) → low ≤ k → StandFrom k es → StandAbove low (missing_entries s es)
missing_stand s low k [] l h = (k, l, tt)
missing_stand s low k (e ∷ es) l h =
    go (has_id_in_log s e.log_id) (missing_stand s low (k + 1) es (omega arith) h.2)
  where
    go : (b : Bool) → StandAbove low (missing_entries s es) → StandAbove low (cond b (missing_entries s es) (e ∷ es))
    go true rest = rest
    go false rest = (k, l, h)
