-- Values that take all of the bytes.
use Rattle.std.proofs.Common.{◌≡◌, ℕ, cond, eqb, List, [], ◌++◌, length, Result, Ok, Err, refl, sym, ap, subst, ◌∙◌}
use Rattle.std.specs.Prelude.{IfOk}
use Rattle.std.proofs.lemmas.Bool.{eqb-true}
use Rattle.std.proofs.lemmas.List.{append-nil, nil_from_length}
use Rattle.raft_wire.specs.declared.error.FrameFault.{FrameFault}
use Rattle.raft_wire.specs.declared.error.FrameFault.TheVariants as fault
use Rattle.raft_wire.specs.declared.error.FrameError.{FrameError}
use Rattle.raft_wire.specs.Reader.{Reader, Gives, all_of}
use Rattle.raft_bytes.specs.Bytes.{AreBytes}
use Rattle.raft_bytes.proofs.Bytes.{bind_ok, passed_ok}
use Rattle.raft_wire.proofs.Fitting.{Reads}

module _ {A : Type 0} (reader : Reader A) (spelled : A → List ℕ) (Fits : A → Type 0) (r : Reads reader spelled Fits) where
  pub whole_takes : (bytes : List ℕ) (a : A) → AreBytes bytes → all_of reader bytes ≡ Ok a → Fits a × (bytes ≡ spelled a)
  unfolding all_of
  whole_takes bytes a fits e =
      let x = bind_ok (reader bytes) (λ x. cond (eqb (length x.1) 0) (Ok x.0) (Err fault.TrailingBytes)) a e in
      let g = passed_ok (eqb (length x.0.1) 0) fault.TrailingBytes x.0.0 a x.2 in
      let t = r.takes bytes x.0.0 x.0.1 fits x.1 in
      let nothing : x.0.1 ≡ [] = nil_from_length x.0.1 (eqb-true _ _ g.0) in
      let is_spelled : bytes ≡ spelled x.0.0 = t.0.parts ∙ ap (λ (l : List ℕ). spelled x.0.0 ++ l) nothing ∙ append-nil (spelled x.0.0) in
      subst (λ (b : A). Fits b × (bytes ≡ spelled b)) g.1 (t.1, is_spelled)

  pub whole_again : (a : A) → Fits a → all_of reader (spelled a) ≡ Ok a
  unfolding all_of
  whole_again a h =
      let alone : reader (spelled a) ≡ Ok (a, []) = ap reader (sym (append-nil (spelled a))) ∙ r.again a [] h in
      rw alone refl

  -- what a reader of the code found, and what it finds
  pub is_found : (bytes : List ℕ) (found : Result A FrameError) → AreBytes bytes → Gives (λ a. a) found (all_of reader bytes) → IfOk found (λ a. Fits a × (bytes ≡ spelled a))
  is_found bytes (Ok a) fits given = whole_takes bytes a fits given
  is_found bytes (Err e) fits given = tt

  pub is_only : (bytes : List ℕ) (found : Result A FrameError) (a : A) → Gives (λ a. a) found (all_of reader bytes) → Fits a → bytes ≡ spelled a → Gives (λ a. a) found (Ok a)
  is_only bytes found a given fits e = subst (λ (read : Result A FrameFault). Gives (λ a. a) found read) (ap (all_of reader) e ∙ whole_again a fits) given
