-- One more entry is spelled, or read.
use Rattle.std.proofs.Common.{◌≡◌, ◌<◌, ◌+◌, ℕ, List, [], ◌∷◌, ◌++◌, length, map, take, get_or, Vec, Global, ap, sym, subst, ◌∙◌}
use Rattle.std.specs.List.{AllByRecursion}
use Rattle.std.proofs.lemmas.List.{map-append, take_more}
use Rattle.raft_group_step.specs.Values.{Entry}
use Rattle.raft_log_records.specs.Batch.{payloads}
use Rattle.raft_log_records.proofs.Sound.{each_push}
use Rattle.raft_wire.specs.Entries.{FitsEntry, spelled_entry}

module _ (es : List Entry) (i : ℕ) (e : Entry) (inside : i < length es) (is : e ≡ get_or es i e) where
  front : take (i + 1) es ≡ take i es ++ e ∷ []
  front = take_more es i e inside ∙ ap (λ (x : Entry). take i es ++ x ∷ []) (sym is)

  pub fits_more : AllByRecursion FitsEntry (take i es) → FitsEntry e → AllByRecursion FitsEntry (take (i + 1) es)
  fits_more fits fit = subst (AllByRecursion FitsEntry) (sym front) (each_push FitsEntry (take i es) e fits fit)

  pub spelled_more : (all new : List (Vec ℕ Global)) (v : Vec ℕ Global) → payloads all ≡ map spelled_entry (take i es) → new ≡ all ++ v ∷ [] → v.items ≡ spelled_entry e
      → payloads new ≡ map spelled_entry (take (i + 1) es)
  spelled_more all new v sofar pushed written =
      ap payloads pushed
      ∙ map-append (λ (x : Vec ℕ Global). x.items) all (v ∷ [])
      ∙ ap (λ (l : List (List ℕ)). l ++ v.items ∷ []) sofar
      ∙ ap (λ (bytes : List ℕ). map spelled_entry (take i es) ++ bytes ∷ []) written
      ∙ sym (map-append spelled_entry (take i es) (e ∷ []))
      ∙ ap (map spelled_entry) (sym front)

-- ---- one more entry is read

pub read_more : (all : List (Vec ℕ Global)) (i : ℕ) (v : Vec ℕ Global) (es new : List Entry) (e : Entry) → i < length all → v ≡ get_or all i v
    → payloads (take i all) ≡ map spelled_entry es → new ≡ es ++ e ∷ [] → v.items ≡ spelled_entry e → payloads (take (i + 1) all) ≡ map spelled_entry new
read_more all i v es new e inside is sofar pushed written =
    ap (λ (l : List (Vec ℕ Global)). payloads l) (take_more all i v inside ∙ ap (λ (x : Vec ℕ Global). take i all ++ x ∷ []) (sym is))
    ∙ map-append (λ (x : Vec ℕ Global). x.items) (take i all) (v ∷ [])
    ∙ ap (λ (l : List (List ℕ)). l ++ v.items ∷ []) sofar
    ∙ ap (λ (bytes : List ℕ). map spelled_entry es ++ bytes ∷ []) written
    ∙ sym (map-append spelled_entry es (e ∷ []))
    ∙ ap (map spelled_entry) (sym pushed)
