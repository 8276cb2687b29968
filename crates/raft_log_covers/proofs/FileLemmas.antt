-- What memtables keep names the very files of the entries and keys that are there.
use Rattle.std.proofs.Common.{◌≡◌, ◌≤◌, ◌<◌, ◌+◌, ℕ, Bool, true, false, cond, ◌&&◌, ◌||◌, List, length, Option, Some, None, refl, sym, ap, ◌∙◌, subst, le_trans, arith, ltb-true, ltb-false}
use Rattle.std.specs.Prelude.{nat_le, nat_lt, bytes_eq, is_some, IsSome}
use Rattle.std.proofs.lemmas.Bool.{le-ltb, lt-leb, leb-true}
use Rattle.raft_log_records.specs.Item.{Change}
use Rattle.raft_log_records.specs.Item.Change.{entries, clean, compact, put, delete, mark}
use Rattle.raft_log_records.specs.Spelling.{first_index}
use Rattle.raft_log_memtables.specs.Content.{GroupContent, entry_at, after_change}
use Rattle.raft_log_covers.specs.Cells.Cell.{index, key}
use Rattle.raft_log_covers.specs.Marks.{Names}
use Rattle.raft_log_covers.specs.Trace.{Trace, entered, greater, cut, trace_after, names_after, Knows, TellsFiles, KeepsFilesRewritten}
use Rattle.raft_log_covers.proofs.TraceLemmas.{in_greater}
use Rattle.raft_log_covers.proofs.KnownLemmas.{no_entries}

pub not_there : {X P : Type 0} (o : Option X) → o ≡ None → IsSome o → P
not_there None e s = absurd cc
not_there (Some x) e s = absurd cc

under_both : (m n i : ℕ) → m ≤ i → n ≤ i → greater m n ≤ i
under_both m n i h k = by_test (nat_lt m n)
  where
    by_test : (b : Bool) → cond b n m ≤ i
    by_test true = k
    by_test false = h

module _ {E : Type 0} where
  -- an entry that is there lies between the ends
  pub within_ends : (t : Trace) (older g : GroupContent E) (names : Names) → Knows t older g names → (i : ℕ) → IsSome (g.entry i) → (t.low ≤ i) × (i < t.next)
  within_ends t older g names k i s = by_low (nat_lt i t.low) refl (nat_lt i t.next) refl
    where
      by_low : (b : Bool) → nat_lt i t.low ≡ b → (d : Bool) → nat_lt i t.next ≡ d → (t.low ≤ i) × (i < t.next)
      by_low true e d f = not_there (g.entry i) (k.below i (ltb-true i t.low e)) s
      by_low false e true f = (ltb-false i t.low e, ltb-true i t.next f)
      by_low false e false f = not_there (g.entry i) (k.above i (ltb-false i t.low e) (ltb-false i t.next f)) s

  entries_told : (file : ℕ) (es : List (ℕ × E)) (t : Trace) (older g : GroupContent E) (names : Names) → Knows t older g names → TellsFiles t g names → (b : Bool) → nat_lt t.low t.next ≡ b
      → TellsFiles (entered file (first_index es) (first_index es + length es) t b) (after_change (entries es) g) (names_after file (entries es) names)
  entries_told file es t older g names k h true e = record { entries_named = λ i s. named i (nat_le (first_index es) i) s; keys_named = h.keys_named }
    where
      named : (i : ℕ) (b : Bool) → IsSome (cond b (entry_at es i) (g.entry i)) → cond b (Some file) (names (index i)) ≡ cond b (Some file) (t.entry_file i)
      named i true s = refl
      named i false s = h.entries_named i s
  entries_told file es t older g names k h false e = record { entries_named = λ i s. named i (nat_le (first_index es) i) s; keys_named = h.keys_named }
    where
      named : (i : ℕ) (b : Bool) → IsSome (cond b (entry_at es i) (g.entry i)) → cond b (Some file) (names (index i)) ≡ cond b (Some file) None
      named i true s = refl
      named i false s = not_there (g.entry i) (no_entries t older g names k (ltb-false t.low t.next e) i) s

  compact_told : (file limit : ℕ) (t : Trace) (older g : GroupContent E) (names : Names) → Knows t older g names → TellsFiles t g names → (b : Bool) → nat_lt (greater t.low limit) t.next ≡ b
      → TellsFiles (cut file (greater t.low limit) t b) (after_change (compact limit) g) (names_after {E = E} file (compact limit) names)
  compact_told file limit t older g names k h true e = record { entries_named = λ i s. named i (nat_lt i limit) refl (nat_lt i (greater t.low limit)) refl s; keys_named = h.keys_named }
    where
      named : (i : ℕ) (b : Bool) → nat_lt i limit ≡ b → (d : Bool) → nat_lt i (greater t.low limit) ≡ d → IsSome (cond b None (g.entry i)) → cond b (Some file) (names (index i)) ≡ cond d None (t.entry_file i)
      named i true x d y s = absurd cc
      named i false x true y s = not_there (g.entry i) (k.below i (in_greater t.low limit i (ltb-true i (greater t.low limit) y) (ltb-false i limit x))) s
      named i false x false y s = h.entries_named i s
  compact_told file limit t older g names k h false e = record { entries_named = λ i s. named i (nat_lt i limit) refl s; keys_named = h.keys_named }
    where
      named : (i : ℕ) (b : Bool) → nat_lt i limit ≡ b → IsSome (cond b None (g.entry i)) → cond b (Some file) (names (index i)) ≡ None
      named i true x s = absurd cc
      named i false x s =
          let place = within_ends t older g names k i s in
          let none : t.next ≤ greater t.low limit = ltb-false (greater t.low limit) t.next e in
          let under : greater t.low limit ≤ i = under_both t.low limit i place.0 (ltb-false i limit x) in
          absurd (beyond place.1 (le_trans none under))
        where
          beyond : {a b : ℕ} → a < b → b ≤ a → ⊥
          beyond p q = omega (arith, p, q)

  pub changes_keep_files : (file : ℕ) (change : Change E) (t : Trace) (older g : GroupContent E) (names : Names) → Knows t older g names → TellsFiles t g names
      → TellsFiles (trace_after file change t) (after_change change g) (names_after file change names)
  changes_keep_files file (entries es) t older g names k h = entries_told file es t older g names k h (nat_lt t.low t.next) refl
  changes_keep_files file clean t older g names k h = record { entries_named = λ i s. absurd cc; keys_named = λ q s. absurd cc }
  changes_keep_files file (compact limit) t older g names k h = compact_told file limit t older g names k h (nat_lt (greater t.low limit) t.next) refl
  changes_keep_files file (put name value) t older g names k h = record { entries_named = h.entries_named; keys_named = λ q s. named q (bytes_eq name q) s }
    where
      named : (q : List ℕ) (b : Bool) → IsSome (cond b (Some value) (g.value q)) → cond b (Some file) (names (key q)) ≡ cond b (Some file) (t.key_file q)
      named q true s = refl
      named q false s = h.keys_named q s
  changes_keep_files file (delete name) t older g names k h = record { entries_named = h.entries_named; keys_named = λ q s. named q (bytes_eq name q) s }
    where
      named : (q : List ℕ) (b : Bool) → IsSome (cond b None (g.value q)) → cond b (Some file) (names (key q)) ≡ cond b None (t.key_file q)
      named q true s = absurd cc
      named q false s = h.keys_named q s
  changes_keep_files file (mark id status) t older g names k h = record { entries_named = h.entries_named; keys_named = h.keys_named }

  -- ---- what cleaning writes

  pub rewrites_keep_files : (t : Trace) (older g : GroupContent E) (names : Names) → Knows t older g names → TellsFiles t g names → KeepsFilesRewritten t g names
  rewrites_keep_files t older g names k h = record {
    marked = record { entries_named = marked_entry; keys_named = λ q s. marked_key q (g.value q) refl s };
    entries_too = λ es stop. record { entries_named = rewritten_entry es stop; keys_named = h.keys_named };
    keys_too = λ name. record { entries_named = h.entries_named; keys_named = λ q s. put_key name q (bytes_eq name q) s };
  }
    where
      marked_entry : (i : ℕ) → IsSome (g.entry i) → cond (nat_le t.next t.low || nat_lt i t.low) None (names (index i)) ≡ t.entry_file i
      marked_entry i s =
          let place = within_ends t older g names k i s in
          let some : t.low < t.next = omega (arith, place.0, place.1) in
          ap (λ (b : Bool). cond (b || nat_lt i t.low) None (names (index i))) (lt-leb t.next t.low some)
          ∙ ap (λ (b : Bool). cond b None (names (index i))) (le-ltb i t.low place.0)
          ∙ h.entries_named i s

      marked_key : (q : List ℕ) (v : Option (List ℕ)) → g.value q ≡ v → IsSome v → cond (is_some v) (names (key q)) None ≡ t.key_file q
      marked_key q None e s = absurd cc
      marked_key q (Some v) e s = h.keys_named q (subst (λ (o : Option (List ℕ)). IsSome o) (sym e) refl)

      rewritten_entry : (es : List (ℕ × E)) (stop i : ℕ) → IsSome (g.entry i) → cond (nat_le (first_index es) i && (nat_le t.next stop || nat_lt i stop)) None (names (index i)) ≡ cond (nat_le (first_index es) i && nat_lt i stop) None (t.entry_file i)
      rewritten_entry es stop i s = by_test (nat_le (first_index es) i) (nat_le t.next stop) refl (nat_lt i stop) refl
        where
          by_test : (a b : Bool) → nat_le t.next stop ≡ b → (d : Bool) → nat_lt i stop ≡ d → cond (a && (b || d)) None (names (index i)) ≡ cond (a && d) None (t.entry_file i)
          by_test false b e d f = h.entries_named i s
          by_test true b e true f = either b
            where
              either : (b : Bool) → cond (b || true) None (names (index i)) ≡ None
              either true = refl
              either false = refl
          by_test true true e false f =
              let place = within_ends t older g names k i s in
              let all : t.next ≤ stop = leb-true t.next stop e in
              let far : stop ≤ i = ltb-false i stop f in
              absurd (omega (arith, place.1, all, far))
          by_test true false e false f = h.entries_named i s

      put_key : (name q : List ℕ) (b : Bool) → IsSome (g.value q) → cond b None (names (key q)) ≡ cond b None (t.key_file q)
      put_key name q true s = refl
      put_key name q false s = h.keys_named q s
