-- Maps and sets by names.
use Rattle.std.proofs.Common.{◌≡◌, ℕ, Bool, true, false, cond, List, [], ◌∷◌, ◌++◌, map, Option, refl, sym, ap, subst, ◌∙◌, ⊎_elim}
use Rattle.std.specs.Prelude.{◌||◌, Vec, bytes_eq}
use Rattle.std.specs.declared.alloc.Global.{Global}
use Rattle.std.specs.BTreeMap.{BTreeMap}
use Rattle.std.specs.BTreeMap as tree
use Rattle.std.specs.BTreeSet.{BTreeSet}
use Rattle.std.specs.BTreeSet as sorted
use Rattle.std.specs.Map.{lookup, KeepsOthers}
use Rattle.std.specs.Map as pairs
use Rattle.std.specs.Set as set
use Rattle.std.specs.List.{list_any}
use Rattle.std.specs.Ordering.{nat_cmp, is_eq}
use Rattle.std.specs.Cmp.Lexicographic.{slice_cmp, bytes_decides, nat_list_cmp_total, nat_list_eq_equiv}
use Rattle.std.proofs.lemmas.Cmp.{eq_by_cmp_equiv}
use Rattle.std.proofs.lemmas.Bool.{cases_Bool, cond-true, cond-false}
use Rattle.std.proofs.lemmas.Map.Text.{is_eq-slice_cmp}
use Rattle.raft_log_covers.specs.Marks.{is_in}
use Rattle.raft_log_covers.specs.Trace.{without}
use Rattle.raft_log_traces.specs.Traces.{key_file_in, names_in}

apart : (bs cs ks : List ℕ) → bytes_eq bs cs ≡ false → bytes_eq bs ks ≡ true → bytes_eq cs ks ≡ false
apart bs cs ks n y = nat_list_eq_equiv.symm cs ks ∙ sym (nat_list_eq_equiv.congr bs ks cs y) ∙ n

apart_in_order : (bs cs ks : List ℕ) → bytes_eq bs cs ≡ false → is_eq (slice_cmp nat_cmp bs ks) ≡ true → is_eq (slice_cmp nat_cmp cs ks) ≡ false
apart_in_order bs cs ks n y = is_eq-slice_cmp cs ks ∙ apart bs cs ks n (sym (is_eq-slice_cmp bs ks) ∙ y)

-- ---- a map after a change at one name

other_entries : {X K : Type 0} (eq : K → K → Bool) (test : K → Bool) (old new : List (K × X)) → pairs.KeepsOthers eq test old new → (other : K → Bool) → pairs.IsKeyTest eq other → pairs.AreApart test other → lookup other new ≡ lookup other old
unfolding pairs.KeepsOthers
other_entries eq test old new h = h

pub key_updated : (bs : List ℕ) (m n : BTreeMap (Vec ℕ Global) ℕ) (w : Option ℕ) → tree.UpdatesBy (λ (x y : Vec ℕ Global). slice_cmp nat_cmp x.items y.items) (λ (k : Vec ℕ Global). slice_cmp nat_cmp bs k.items) m n w
    → (q : List ℕ) → key_file_in n q ≡ cond (bytes_eq bs q) w (key_file_in m q)
key_updated bs m n w h q =
    ⊎_elim
    (λ y. subst (λ (l : List ℕ). key_file_in n l ≡ w) ((bytes_decides bs q).0 y) h.1 ∙ sym (cond-true (bytes_eq bs q) w (key_file_in m q) y))
    (λ e. other_entries _ _ _ _ h.3 _ (λ x y. (eq_by_cmp_equiv nat_list_cmp_total).congr q x.items y.items) (λ k. apart_in_order bs q k.items e) ∙ sym (cond-false (bytes_eq bs q) w (key_file_in m q) e))
    (cases_Bool (bytes_eq bs q))

-- ---- a set after a change at one name

abbrev has_name : BTreeSet (Vec ℕ Global) → List ℕ → Bool
has_name s q = sorted.contains_by (λ (k : Vec ℕ Global). slice_cmp nat_cmp q k.items) s

other_names : {K : Type 0} (eq : K → K → Bool) (test : K → Bool) (old new : List K) → set.KeepsOthers eq test old new → (other : K → Bool) → pairs.IsKeyTest eq other → pairs.AreApart test other → list_any other new ≡ list_any other old
unfolding set.KeepsOthers
other_names eq test old new h = h

has_updated : (bs : List ℕ) (s n : BTreeSet (Vec ℕ Global)) (b : Bool) → sorted.UpdatesBy (λ (x y : Vec ℕ Global). slice_cmp nat_cmp x.items y.items) (λ (k : Vec ℕ Global). slice_cmp nat_cmp bs k.items) s n b
    → (q : List ℕ) → has_name n q ≡ cond (bytes_eq bs q) b (has_name s q)
has_updated bs s n b h q =
    ⊎_elim
    (λ y. subst (λ (l : List ℕ). has_name n l ≡ b) ((bytes_decides bs q).0 y) h.1 ∙ sym (cond-true (bytes_eq bs q) b (has_name s q) y))
    (λ e. other_names _ _ _ _ h.3 _ (λ x y. (eq_by_cmp_equiv nat_list_cmp_total).congr q x.items y.items) (λ k. apart_in_order bs q k.items e) ∙ sym (cond-false (bytes_eq bs q) b (has_name s q) e))
    (cases_Bool (bytes_eq bs q))

named_in : (q : List ℕ) (vs : List (Vec ℕ Global)) → list_any (λ v. is_eq (slice_cmp nat_cmp q v.items)) vs ≡ is_in q (map (λ v. v.items) vs)
named_in q [] = refl
named_in q (v ∷ vs) = λ i. (is_eq-slice_cmp q v.items ∙ nat_list_eq_equiv.symm q v.items) i || named_in q vs i

pub name_updated : (bs : List ℕ) (s n : BTreeSet (Vec ℕ Global)) (b : Bool) → sorted.UpdatesBy (λ (x y : Vec ℕ Global). slice_cmp nat_cmp x.items y.items) (λ (k : Vec ℕ Global). slice_cmp nat_cmp bs k.items) s n b
    → (q : List ℕ) → is_in q (names_in n) ≡ cond (bytes_eq bs q) b (is_in q (names_in s))
name_updated bs s n b h q = sym (named_in q n.keys) ∙ has_updated bs s n b h q ∙ ap (λ (c : Bool). cond (bytes_eq bs q) b c) (named_in q s.keys)

-- ---- a list of names

same_name : (name k q : List ℕ) → bytes_eq name k ≡ true → bytes_eq name q ≡ bytes_eq k q
same_name name k q h = ap (λ (l : List ℕ). bytes_eq l q) ((bytes_decides name k).0 h)

pub is_in_without : (name q : List ℕ) (ks : List (List ℕ)) → is_in q (without name ks) ≡ cond (bytes_eq name q) false (is_in q ks)
is_in_without name q [] = by_test (bytes_eq name q)
  where
    by_test : (b : Bool) → false ≡ cond b false false
    by_test true = refl
    by_test false = refl
is_in_without name q (k ∷ ks) = by_tests (is_in_without name q ks) (bytes_eq name k) refl (bytes_eq name q) refl (bytes_eq k q) refl
  where
    by_tests : is_in q (without name ks) ≡ cond (bytes_eq name q) false (is_in q ks) → (a : Bool) → bytes_eq name k ≡ a → (b : Bool) → bytes_eq name q ≡ b → (c : Bool) → bytes_eq k q ≡ c
        → is_in q (cond a (without name ks) (k ∷ without name ks)) ≡ cond b false (c || is_in q ks)
    by_tests h true ea true eb c ec = h ∙ ap (λ (x : Bool). cond x false (is_in q ks)) eb
    by_tests h true ea false eb true ec = absurd (let e = same_name name k q ea in cc)
    by_tests h true ea false eb false ec = h ∙ ap (λ (x : Bool). cond x false (is_in q ks)) eb
    by_tests h false ea true eb true ec = absurd (let e = same_name q k name (nat_list_eq_equiv.symm q k ∙ ec) in let f = nat_list_eq_equiv.symm name q in let g = nat_list_eq_equiv.symm name k in cc)
    by_tests h false ea true eb false ec = ap (λ (x : Bool). x || is_in q (without name ks)) ec ∙ h ∙ ap (λ (x : Bool). cond x false (is_in q ks)) eb
    by_tests h false ea false eb true ec = ap (λ (x : Bool). x || is_in q (without name ks)) ec
    by_tests h false ea false eb false ec = ap (λ (x : Bool). x || is_in q (without name ks)) ec ∙ h ∙ ap (λ (x : Bool). cond x false (is_in q ks)) eb

pub is_in_more : (name q : List ℕ) (ks : List (List ℕ)) → is_in q (ks ++ name ∷ []) ≡ cond (bytes_eq name q) true (is_in q ks)
is_in_more name q [] = by_test (bytes_eq name q)
  where
    by_test : (b : Bool) → (b || false) ≡ cond b true false
    by_test true = refl
    by_test false = refl
is_in_more name q (k ∷ ks) = ap (λ (x : Bool). bytes_eq k q || x) (is_in_more name q ks) ∙ by_tests (bytes_eq name q) (bytes_eq k q)
  where
    by_tests : (a b : Bool) → (b || cond a true (is_in q ks)) ≡ cond a true (b || is_in q ks)
    by_tests true true = refl
    by_tests true false = refl
    by_tests false b = refl

either_way : (b x : Bool) → cond b true (cond b false x) ≡ cond b true x
either_way true x = refl
either_way false x = refl

-- a deleted name goes to the end
pub is_in_last : (name q : List ℕ) (ks : List (List ℕ)) → is_in q (without name ks ++ name ∷ []) ≡ cond (bytes_eq name q) true (is_in q ks)
is_in_last name q ks = is_in_more name q (without name ks) ∙ ap (λ (x : Bool). cond (bytes_eq name q) true x) (is_in_without name q ks) ∙ either_way (bytes_eq name q) (is_in q ks)
