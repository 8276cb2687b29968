-- Lists: their last entry, and what stands before a leader's first own one.
use Rattle.std.specs.Prelude.{◌≡◌, ℕ, zero, suc, ◌<◌, if◌then◌else◌, Bool, true, false, List, [], ◌∷◌, ◌++◌, drop, length, slice_get, take, Some, refl}
use Rattle.std.proofs.Common.{sym, ap, subst, arith, append-nil, append_assoc}
use Rattle.std.proofs.lemmas.Option.{none-some}
use Rattle.raft_values.specs.declared.vote.LeaderId.{LeaderId}
use Rattle.raft_known_state.specs.KnownState.{entry_ids}
use Rattle.raft_group_step.specs.Values.{Entry, is_written_by, leader_eq}
use Rattle.raft_laws.proofs.BallotAgreement.{same_some}
use Rattle.raft_list_facts.specs.Leads.{before_own as told_before_own}
use Rattle.raft_list_facts.specs.declared.leading.Base.{Base}
use Rattle.raft_list_facts.specs.declared.leading.Base.TheVariants.{UpTo}
use Rattle.raft_list_laws.specs.Bases.{before_own}
use Rattle.raft_group_lists.specs.Notes.{EndsWith}
use Rattle.raft_list_steps.specs.Reports.{IsBase}

-- ---- the last entry

split_last : (xs : List Entry) (k : ℕ) (e : Entry) → slice_get xs k ≡ Some e → length xs ≡ suc k → xs ≡ take k xs ++ e ∷ []
split_last [] k e at size = absurd (none-some _ at)
split_last (x ∷ []) zero e at size = ap (λ (y : Entry). y ∷ []) (same_some at)
split_last (x ∷ y ∷ ys) zero e at size = absurd (omega arith)
split_last (x ∷ xs) (suc k) e at size = ap (λ (ys : List Entry). x ∷ ys) (split_last xs k e at (omega arith))

pub ends_at : (xs : List Entry) (k : ℕ) (e : Entry) → slice_get xs k ≡ Some e → length xs ≡ suc k → EndsWith xs e.log_id
ends_at xs k e at size = record { before = take k xs; last = e; is = split_last xs k e at size; of_id = refl }

-- ---- what stands before the first own entry

-- a list's base, behind another list of which this is told
pub base_behind : (leader : LeaderId ℕ) (front xs : List Entry) (b : Base) → IsBase front b → IsBase (front ++ before_own leader xs) (told_before_own leader b (entry_ids xs))
base_behind leader front [] b is = subst (λ (ys : List Entry). IsBase ys b) (sym (append-nil front)) is
base_behind leader front (e ∷ es) b is =
    go (leader_eq e.log_id.leader_id leader)
    (base_behind leader (front ++ e ∷ []) es (UpTo e.log_id) (record { before = front; last = e; is = refl; of_id = refl }))
  where
    go : (own : Bool) → IsBase ((front ++ e ∷ []) ++ before_own leader es) (told_before_own leader (UpTo e.log_id) (entry_ids es))
        → IsBase (front ++ (if own then [] else e ∷ before_own leader es)) (if own then b else told_before_own leader (UpTo e.log_id) (entry_ids es))
    go true rest = subst (λ (ys : List Entry). IsBase ys b) (sym (append-nil front)) is
    go false rest =
        subst (λ (ys : List Entry). IsBase ys (told_before_own leader (UpTo e.log_id) (entry_ids es)))
        (append_assoc front (e ∷ []) (before_own leader es)) rest

-- entries of others are before the first own one
pub past_others : (leader : LeaderId ℕ) (k : ℕ) (xs : List Entry) → ((i : ℕ) (e : Entry) → i < k → slice_get xs i ≡ Some e → is_written_by leader e ≡ false) → before_own leader xs ≡ take k xs ++ before_own leader (drop k xs)
past_others leader zero xs others = refl
past_others leader (suc k) [] others = refl
past_others leader (suc k) (e ∷ es) others =
    go (is_written_by leader e) (others 0 e (omega arith) refl) (past_others leader k es (λ i x less at. others (suc i) x (omega arith) at))
  where
    go : (own : Bool) → own ≡ false → before_own leader es ≡ take k es ++ before_own leader (drop k es) → (if own then [] else e ∷ before_own leader es) ≡ e ∷ (take k es ++ before_own leader (drop k es))
    go true other rest = absurd (let wrong : true ≡ false = other in cc)
    go false other rest = ap (λ (ys : List Entry). e ∷ ys) rest
