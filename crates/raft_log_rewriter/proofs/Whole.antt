-- All groups were written anew.
use Rattle.std.proofs.Common.{◌≡◌, ◌⊎◌, inl, inr, ℕ, Bool, true, false, ◌||◌, List, [], ◌∷◌, ◌++◌, Option, None, refl, sym, ap, subst, ◌∙◌, append-nil}
use Rattle.std.specs.Prelude.{IsSome, nat_eq}
use Rattle.std.specs.Cmp.{unsigned_tied}
use Rattle.std.specs.Ordering.{eq_by_cmp, nat_cmp}
use Rattle.std.specs.Set.{is_member}
use Rattle.std.proofs.lemmas.Bool.{eqb-true}
use Rattle.raft_log_disk.specs.Disk.{Disk}
use Rattle.raft_log_file.specs.Laws.{Batch}
use Rattle.raft_log_pipes.specs.declared.pipes.DualPipes.{DualPipes}
use Rattle.raft_log_memtables.specs.Content.{Content, no_group}
use Rattle.raft_log_memtables.specs.Laws.{all_of}
use Rattle.raft_log_covers.specs.Cells.Cell.{presence}
use Rattle.raft_log_covers.specs.Kept.{Traces}
use Rattle.raft_log_covers.proofs.CellLemmas.{same_there}
use Rattle.raft_log_covers.specs.Written.{Written, all_records}
use Rattle.raft_log_traces.specs.GroupTraces.{traces_in}
use Rattle.raft_log_marks.specs.MarkLaws.{IsThere}
use Rattle.raft_log_purge.specs.Anew.{Names}
use Rattle.raft_log_purge.specs.AnewLaws.{HasEach}
use Rattle.raft_log_traced.specs.declared.traced.TracedTables.{TracedTables}
use Rattle.raft_log_cleaner.specs.Written.{written_at}
use Rattle.raft_log_rewriter.specs.declared.writer.Writer.{Writer}
use Rattle.raft_log_rewriter.specs.Parts.{AreAmong, AreEnded, HasId, IsAmong, Open, unended_of}
use Rattle.raft_log_rewriter.specs.Parts.Open.{begun, closed}
use Rattle.raft_log_rewriter.specs.Parts.Stage.{between}
use Rattle.raft_log_rewriter.specs.Rewriting.{IsRewriting, at}
use Rattle.raft_log_rewriter.proofs.Stages.{ended_names}

-- a group that is named is among the items
among_has : (content : Content (List ℕ)) (traces : Traces) (items : Batch) (groups : List ℕ) (group : ℕ) → AreAmong content traces items groups → is_member (eq_by_cmp nat_cmp) groups group ≡ true → (content group).there ≡ true
    → IsAmong (content group) (traces group) group items
among_has content traces items [] group are named there = absurd cc
among_has content traces items (x ∷ groups) group are named there = by_test (among_has content traces items groups group are.1) (nat_eq group x) refl
  where
    by_test : (is_member (eq_by_cmp nat_cmp) groups group ≡ true → (content group).there ≡ true → IsAmong (content group) (traces group) group items) → (b : Bool) → nat_eq group x ≡ b
        → IsAmong (content group) (traces group) group items
    by_test rest true e =
        let same : group ≡ x = eqb-true group x e in
        subst (λ (n : ℕ). IsAmong (content n) (traces n) n items) (sym same) (are.0 (ap (λ (n : ℕ). (content n).there) (sym same) ∙ there))
    by_test rest false e = rest ((λ j. sym (unsigned_tied group x ∙ e) j || is_member (eq_by_cmp nat_cmp) groups group) ∙ named) there

-- what is known then
pub record AreWhole (content : Content (List ℕ)) (traces : Traces) (ws : List (Written (List ℕ))) : Type 0 where
  pub each : HasEach content ws
  pub entries : (group i : ℕ) → (content group).there ≡ true → IsSome ((content group).entry i) → (traces group).entry_file i ≡ None → IsSome (written_at (all_of (all_records ws)) group i)

pub are_whole : (content : Content (List ℕ)) (traces : Traces) (ws : List (Written (List ℕ))) (groups : List ℕ) (there : ℕ → Bool) → AreEnded ws → AreAmong content traces (all_of (all_records ws)) groups
    → ((group : ℕ) → IsThere (there group) (content group)) → ((group : ℕ) → there group ≡ is_member (eq_by_cmp nat_cmp) groups group) → AreWhole content traces ws
are_whole content traces ws groups there ended among flags exactly = record {
  each = λ group. by_flag group (there group) refl (flags group);
  entries = λ group i is some none. (among_has content traces (all_of (all_records ws)) groups group among (named group is) is).entries i some none;
}
  where
    by_flag : (group : ℕ) (b : Bool) → there group ≡ b → IsThere b (content group) → Names ws group ⊎ IsThere false (content group)
    by_flag group true e is = inl (ended_names ws group ended (among_has content traces (all_of (all_records ws)) groups group among (sym (exactly group) ∙ e) is).named)
    by_flag group false e is = inr is

    named : (group : ℕ) → (content group).there ≡ true → is_member (eq_by_cmp nat_cmp) groups group ≡ true
    named group is = sym (exactly group) ∙ by_other (there group) (flags group)
      where
        by_other : (b : Bool) → IsThere b (content group) → b ≡ true
        by_other true h = refl
        by_other false h = absurd (let none : (content group).there ≡ false = same_there (content group) no_group (h presence) in let both : true ≡ false = sym is ∙ none in cc)

-- the last state, with an empty batch and no atomic group under way
pub ended_whole : (d : Disk) (p : DualPipes) (log : TracedTables) (w : Writer) (next : ℕ) (groups : List ℕ) (content : Content (List ℕ)) (there : ℕ → Bool) → (s : IsRewriting d p log w next (at between groups) content) → w.batch.items ≡ []
    → w.group ≡ None → ((group : ℕ) → IsThere (there group) (content group)) → ((group : ℕ) → there group ≡ is_member (eq_by_cmp nat_cmp) groups group)
    → AreWhole content (traces_in log.traces) (s.ws ++ unended_of s.open_group)
ended_whole d p log w next groups content there s none closed_so flags exactly = by_open s.open_group (subst (λ (o : Option ℕ). HasId s.open_group o) closed_so s.id) (among_all s.open_group s.among)
  where
    among_all : (o : Open) → AreAmong content (traces_in log.traces) (all_of (all_records (s.ws ++ unended_of o)) ++ w.batch.items) groups → AreAmong content (traces_in log.traces) (all_of (all_records (s.ws ++ unended_of o))) groups
    among_all o are =
        subst (λ (l : Batch). AreAmong content (traces_in log.traces) l groups) (ap (λ (l : Batch). all_of (all_records (s.ws ++ unended_of o)) ++ l) none ∙ append-nil (all_of (all_records (s.ws ++ unended_of o)))) are

    by_open : (o : Open) → HasId o None → AreAmong content (traces_in log.traces) (all_of (all_records (s.ws ++ unended_of o))) groups → AreWhole content (traces_in log.traces) (s.ws ++ unended_of o)
    by_open closed has are =
        are_whole content (traces_in log.traces) (s.ws ++ []) groups there (subst (λ (l : List (Written (List ℕ))). AreEnded l) (sym (append-nil s.ws)) s.parts.ended) are flags exactly
    by_open (begun id first middles) has are = absurd has
