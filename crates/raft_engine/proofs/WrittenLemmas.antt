-- What a leader wrote, as its log grows or is purged.
use Rattle.std.specs.Prelude.{◌≡◌, ℕ, zero, suc, ◌+◌, ◌-◌, ◌≤◌, ◌||◌, nat_eq, nat_lt, true, false, if◌then◌else◌, refl, List, [], ◌∷◌, ◌++◌, drop, length, Option, Some, None}
use Rattle.std.specs.List.{AllByRecursion, list_any, slice_get}
use Rattle.std.proofs.Common.{subst, arith}
use Rattle.raft_values.specs.declared.vote.LeaderId.{LeaderId}
use Rattle.raft_values.specs.declared.log_id.LogId.{LogId}
use Rattle.raft_values.specs.LogId.{next_place}
use Rattle.raft_group_step.specs.Values.{Entry, is_written_by}
use Rattle.raft_group_step.specs.StoredGroup.{StoredGroup, RemoveUpTo, after_storing, end_place, first_place}
use Rattle.raft_known_state.specs.KnownState.{ArePlaced, IsPlaced, entry_ids, purged_ids}
use Rattle.raft_leaders.specs.Leader.{is_of_leader}
use Rattle.raft_leaders.specs.Accepted.{WroteNoneBelow, WroteNoneWithin}

module _ (P : LogId ℕ → Type 0) where
  abbrev AllIds : List (LogId ℕ) → Type 0
  AllIds ids = AllByRecursion P ids

  of_rest : (n : ℕ) (es : List Entry) → AllIds (entry_ids es) → AllIds (entry_ids (drop n es))
  of_rest zero es h = h
  of_rest (suc n) [] h = h
  of_rest (suc n) (x ∷ xs) h = of_rest n xs h.1

  of_more : (es : List Entry) (e : Entry) → AllIds (entry_ids es) → P e.log_id → AllIds (entry_ids (es ++ e ∷ []))
  of_more [] e h p = (p, tt)
  of_more (x ∷ xs) e h p = (h.0, of_more xs e h.1 p)

-- what it wrote none of with the purge point, it wrote none of without
pub wrote_above : (leader : LeaderId ℕ) (place : ℕ) (purged : Option (LogId ℕ)) (ids : List (LogId ℕ)) → WroteNoneBelow leader place (purged_ids purged ++ ids)
    → WroteNoneBelow leader place ids
wrote_above leader place None ids h = h
wrote_above leader place (Some id) ids h = h.1

-- and whose the purge point is, matters not for what stands behind it
within_all : (leader : LeaderId ℕ) (from place : ℕ) (ids : List (LogId ℕ)) → WroteNoneBelow leader place ids → WroteNoneWithin leader from place ids
within_all leader from place [] h = tt
within_all leader from place (id ∷ ids) h = ((λ mine at. h.0 mine), within_all leader from place ids h.1)

pub wrote_within : (leader : LeaderId ℕ) (from place : ℕ) (purged : Option (LogId ℕ)) (ids : List (LogId ℕ)) → next_place purged ≤ from → WroteNoneBelow leader place ids
    → WroteNoneWithin leader from place (purged_ids purged ++ ids)
wrote_within leader from place None ids l h = within_all leader from place ids h
wrote_within leader from place (Some id) ids l h =
    let below : id.index + 1 ≤ from = l in
    ((λ mine at. absurd (omega (arith, below, at))), within_all leader from place ids h)

-- of entries that stand below its first one the leader wrote none
none_in : (leader : LeaderId ℕ) (first : ℕ) (es : List Entry) (place : ℕ) → ArePlaced place es → place + length es ≤ first → WroteNoneBelow leader first (entry_ids es)
    → list_any (is_written_by leader) es ≡ false
none_in leader first [] place p l h = refl
none_in leader first (x ∷ xs) place p l h =
    elim (is_written_by leader x) as (λ b. is_written_by leader x ≡ b → (b || list_any (is_written_by leader) xs) ≡ false) [
      | true ↦ λ mine.
          let above : first ≤ x.log_id.index = h.0 mine in
          let at : x.log_id.index ≡ place = p.0 in absurd (omega arith)
      | false ↦ λ other. none_in leader first xs (suc place) p.1 (omega arith) h.1
    ] refl

module _ (leader : LeaderId ℕ) (place : ℕ) (s : StoredGroup) where
  abbrev StandsAbove : LogId ℕ → Type 0
  StandsAbove id = is_of_leader nat_eq leader id ≡ true → place ≤ id.index

  -- the entries that a purge leaves
  pub wrote_left : (id : LogId ℕ) → WroteNoneBelow leader place (entry_ids s.log) → WroteNoneBelow leader place (entry_ids (after_storing (RemoveUpTo id) s).log)
  wrote_left id h = of_rest StandsAbove (id.index + 1 - first_place s) s.log h

  -- an entry behind the log, at a place that isn't below
  pub wrote_more : (e : Entry) → place ≤ e.log_id.index → WroteNoneBelow leader place (entry_ids s.log) → WroteNoneBelow leader place (entry_ids (s.log ++ e ∷ []))
  wrote_more e above h = of_more StandsAbove s.log e h (λ mine. above)

  -- where the place isn't in the log, the log has none of it
  pub none_written : IsPlaced s → end_place s ≤ place → WroteNoneBelow leader place (entry_ids s.log) → list_any (is_written_by leader) s.log ≡ false
  none_written placed behind h = none_in leader place s.log (first_place s) placed behind h
