-- Calls of a callback, one after the other.
use Rattle.std.proofs.Common.{◌≡◌, inl, inr, ℕ, ◌+◌, ◌<◌, Bool, true, false, List, length, map, drop, get_or, refl, sym, ap, subst, ◌∙◌, Bor}
use Rattle.std.proofs.lemmas.List.{at_drop_more}
use Rattle.std.proofs.Math.Seq.{drop-length}
use Rattle.std.specs.Prelude.{Option, Some, IfSome}
use Rattle.std.specs.Fn.{Mut, Called, CalledAtTwo}
use Rattle.std.specs.Map.Iter.{deref_pair}
use Rattle.raft_log_engine.specs.Scanning.{CalledUntilFalse, CalledWith, Pair, ReadsUntilFalse}

abbrev Shown : Type 0
Shown = Bor (List ℕ) × Bor (List ℕ)

module _ {F : Type 0} (g : Mut F (Bor (List ℕ) × (Bor (List ℕ) × Unit {0})) Bool) where
  abbrev pub Until : F → List Pair → F → Type 0
  Until f ps last = CalledUntilFalse (λ f p r f'. CalledAtTwo g f p.0 p.1 r f') f ps last

  abbrev CalledFor : F → Shown → Bool → F → Type 0
  CalledFor f item r f' = Called g f (item.0, (item.1, tt)) r f'

  called_two : (f f' : F) (item : Shown) (r s : Bool) → CalledFor f item r f' → r ≡ s → CalledAtTwo g f item.0.now item.1.now s f'
  called_two f f' item r s called is = record { first = item.0; second = item.1; shows = (refl, refl); called = subst (λ (x : Bool). CalledFor f item x f') is called }

  -- the callback goes on behind a call
  pub goes_on : (ps : List Shown) (i : ℕ) (d : Shown) → i < length ps → (f f' : F) (r : Bool) → CalledFor f (get_or ps i d) r f' → r ≡ true → (last : F) → Until f' (map deref_pair (drop (i + 1) ps)) last
      → Until f (map deref_pair (drop i ps)) last
  goes_on ps i d lt f f' r called is last rest =
      subst (λ (l : List Pair). Until f l last) (sym (at_drop_more (map deref_pair) ps i d lt)) (inr (f', called_two f f' (get_or ps i d) r true called is, rest))

  -- it ends with a call that answers false
  pub ends : (ps : List Shown) (i : ℕ) (d : Shown) → i < length ps → (f f' : F) (r : Bool) → CalledFor f (get_or ps i d) r f' → r ≡ false → Until f (map deref_pair (drop i ps)) f'
  ends ps i d lt f f' r called is =
      subst (λ (l : List Pair). Until f l f') (sym (at_drop_more (map deref_pair) ps i d lt)) (inl (called_two f f' (get_or ps i d) r false called is))

  -- or behind the last item
  pub runs_out : (ps : List Shown) (i : ℕ) → i ≡ length ps → (f : F) → Until f (map deref_pair (drop i ps)) f
  runs_out ps i all f = subst (λ (l : List Shown). Until f (map deref_pair l) f) (sym (ap (λ (n : ℕ). drop n ps) all ∙ drop-length ps)) refl

module _ {F S : Type 0} (g : Mut F (Bor (List ℕ) × (S × Unit {0})) Bool) (is : List ℕ → S → Type 0) where
  abbrev pub Reads : F → List Pair → F → Type 0
  Reads f ps last = ReadsUntilFalse is (CalledWith g) f ps last

  abbrev CalledOn : F → Shown → S → Bool → F → Type 0
  CalledOn f item m r f' = Called g f (item.0, (m, tt)) r f'

  called_on : (f f' : F) (item : Shown) (m : S) (r s : Bool) → CalledOn f item m r f' → r ≡ s → CalledWith g f item.0.now m s f'
  called_on f f' item m r s called is = record { shown = item.0; shows = refl; called = subst (λ (x : Bool). CalledOn f item m x f') is called }

  -- a value that is no message is passed over
  pub passes_over : (ps : List Shown) (i : ℕ) (d : Shown) → i < length ps → (f : F) → ((m : S) → is (get_or ps i d).1.now m → ⊥) → (last : F) → Reads f (map deref_pair (drop (i + 1) ps)) last → Reads f (map deref_pair (drop i ps)) last
  passes_over ps i d lt f none last rest = subst (λ (l : List Pair). Reads f l last) (sym (at_drop_more (map deref_pair) ps i d lt)) (inl (none, rest))

  -- the callback goes on behind a message
  pub reads_on : (ps : List Shown) (i : ℕ) (d : Shown) → i < length ps → (f f' : F) (m : S) (r : Bool) → is (get_or ps i d).1.now m → CalledOn f (get_or ps i d) m r f' → r ≡ true → (last : F)
      → Reads f' (map deref_pair (drop (i + 1) ps)) last → Reads f (map deref_pair (drop i ps)) last
  reads_on ps i d lt f f' m r same called on last rest =
      subst (λ (l : List Pair). Reads f l last) (sym (at_drop_more (map deref_pair) ps i d lt)) (inr (m, same, inr (f', called_on f f' (get_or ps i d) m r true called on, rest)))

  -- it ends with one
  pub reads_last : (ps : List Shown) (i : ℕ) (d : Shown) → i < length ps → (f f' : F) (m : S) (r : Bool) → is (get_or ps i d).1.now m → CalledOn f (get_or ps i d) m r f' → r ≡ false → Reads f (map deref_pair (drop i ps)) f'
  reads_last ps i d lt f f' m r same called off =
      subst (λ (l : List Pair). Reads f l f') (sym (at_drop_more (map deref_pair) ps i d lt)) (inr (m, same, inl (called_on f f' (get_or ps i d) m r false called off)))

-- what is said of a value that may be there, where it is
pub of_some : {X : Type 0} (P : X → Type 0) (o : Option X) (x : X) → IfSome o P → o ≡ Some x → P x
of_some P o x known is = subst (λ (v : Option _). IfSome v P) is known
