-- Where so much isn't to be cleaned.
use Rattle.std.proofs.Common.{◌≡◌, inl, inr, Bool, true, false, refl, sym, ◌∙◌}
use Rattle.std.proofs.lemmas.Bool.{false≢true}
use Rattle.raft_log_cleaning.specs.declared.cleaning.Extent.{Extent}
use Rattle.raft_log_cleaning.specs.declared.cleaning.Extent.TheVariants.{All, Expired, Rewrites, Stale}
use Rattle.raft_log_cleaning.specs.declared.due.Due.{Due}
use Rattle.raft_log_cleaning.specs.Extents.{MayClean}
use Rattle.raft_log_traced.specs.declared.traced.TracedTables.{TracedTables}
use Rattle.raft_log_engine.specs.Barred.{HasFoundAny, IsBarred}
use Rattle.raft_log_engine.specs.Parts.{Parts}

module _ {F : Type 0} (e : Parts F) (log : TracedTables) (marked : e.has_marked ≡ log.has_marked) (parted : e.is_parted ≡ log.is_parted) where
  all_barred : (m : Bool) → log.has_marked ≡ m → (MayClean All log → ⊥) → IsBarred All e
  all_barred true is bar = marked ∙ is
  all_barred false is bar = absurd (bar (record { unmarked = is; together = λ anew. absurd (false≢true anew) }))

  any_found : (m p : Bool) → log.has_marked ≡ m → log.is_parted ≡ p → ((log.has_marked ≡ false) × (log.is_parted ≡ false) → ⊥) → HasFoundAny e
  any_found true p is other bar = inl (marked ∙ is)
  any_found false true is other bar = inr (parted ∙ other)
  any_found false false is other bar = absurd (bar (is, other))

  due_barred : (due : Due) (m p r : Bool) → log.has_marked ≡ m → log.is_parted ≡ p → due.rewrites ≡ r → (MayClean (Expired due) log → ⊥) → IsBarred (Expired due) e
  due_barred due true p r is other rewrites bar = inl (marked ∙ is)
  due_barred due false true true is other rewrites bar = inr (rewrites, parted ∙ other)
  due_barred due false true false is other rewrites bar = absurd (bar (record { unmarked = is; together = λ anew. absurd (false≢true (sym rewrites ∙ anew)) }))
  due_barred due false false r is other rewrites bar = absurd (bar (record { unmarked = is; together = λ anew. other }))

  pub barred : (extent : Extent) → (MayClean extent log → ⊥) → IsBarred extent e
  barred All bar = all_barred log.has_marked refl bar
  barred (Expired due) bar = due_barred due log.has_marked log.is_parted due.rewrites refl refl refl bar
  barred Rewrites bar = any_found log.has_marked log.is_parted refl refl (λ both. bar (record { unmarked = both.0; together = λ anew. both.1 }))
  barred Stale bar = any_found log.has_marked log.is_parted refl refl (λ both. bar (record { unmarked = both.0; together = λ anew. both.1 }))
