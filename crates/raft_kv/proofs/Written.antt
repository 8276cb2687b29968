-- Pairs that are written one behind the other.
use Rattle.std.proofs.Common.{◌≡◌, ℕ, List, ◌∷◌, ◌++◌, map, sym, ap, ◌∙◌, append_assoc}
use Rattle.std.specs.Prelude.{Vec}
use Rattle.std.specs.declared.alloc.Global.{Global}
use Rattle.std.specs.List.{flat_map}
use Rattle.std.proofs.lemmas.List.Concat.{flat_map-cons}
use Rattle.raft_wire.specs.Entries.{spelled_text}
use Rattle.raft_kv.specs.Map.{plain, spelled_pair}

abbrev Owned : Type 0
Owned = Vec ℕ Global

abbrev pub rest_of : List (Owned × Owned) → List ℕ
rest_of es = flat_map spelled_pair (map plain es)

-- one pair more is written, and one less is left
pub written_more : (out key_out pair_out all : List ℕ) (left es : List (Owned × Owned)) (e : Owned × Owned) → left ≡ e ∷ es → out ++ rest_of left ≡ all
    → key_out ≡ out ++ spelled_text e.0.items → pair_out ≡ key_out ++ spelled_text e.1.items → pair_out ++ rest_of es ≡ all
written_more out key_out pair_out all left es e is so_far k v =
    let key = spelled_text e.0.items in
    let value = spelled_text e.1.items in
    ap (λ (l : List ℕ). l ++ rest_of es) (v ∙ ap (λ (l : List ℕ). l ++ value) k ∙ append_assoc out key value) ∙ append_assoc out (key ++ value) (rest_of es)
    ∙ ap (λ (l : List ℕ). out ++ l) (sym (flat_map-cons spelled_pair (plain e) (map plain es)) ∙ sym (ap rest_of is)) ∙ so_far
