-- Tests over lists, the count up to the last that passes, and the longest of some lists.
use Rattle.std.specs.Prelude.{◌≡◌, ◌⊎◌, ℕ, zero, suc, ◌+◌, ◌<◌, ◌≤◌, nat_lt, if◌then◌else◌, Bool, true, false, List, [], ◌∷◌, ◌++◌, length, map, fold, slice_get, Some, None, Contains, refl}
use Rattle.std.specs.List.{list_any}
use Rattle.std.proofs.Common.{inl, inr, sym, ap, ◌∙◌, arith, ⊎_elim, ltb-true, ltb-false}
use Rattle.std.proofs.lemmas.Bool.{or_cases, or_left, or_right}
use Rattle.raft_group_step.specs.Values.{Entry}
use Rattle.raft_laws.specs.Settled.{count_to_last, longer}
use Rattle.raft_laws.proofs.BallotAgreement.{same_some}
use Rattle.raft_laws.proofs.BallotSafe.{Among, among_at}

-- one of them passes
pub any_among : {A : Type 0} (p : A → Bool) (xs : List A) → list_any p xs ≡ true → (x : A) × Among x xs × (p x ≡ true)
any_among p [] h = absurd (let f : false ≡ true = h in cc)
any_among p (x ∷ xs) h =
    ⊎_elim
    (λ t. (x, inl refl, t))
    (λ t. let r = any_among p xs t in (r.0, inr r.1, r.2))
    (or_cases (p x) (list_any p xs) h)

pub among_any : {A : Type 0} (p : A → Bool) (xs : List A) (x : A) → Among x xs → p x ≡ true → list_any p xs ≡ true
among_any p [] x h t = absurd h
among_any p (y ∷ ys) x h t =
    ⊎_elim
    (λ e. or_left (p y) (list_any p ys) (ap p (sym e) ∙ t))
    (λ a. or_right (p y) (list_any p ys) (among_any p ys x a t))
    h

pub among_map : {A B : Type 0} (f : A → B) (xs : List A) (y : B) → Among y (map f xs) → (x : A) × Among x xs × (y ≡ f x)
among_map f [] y h = absurd h
among_map f (x ∷ xs) y h =
    ⊎_elim
    (λ e. (x, inl refl, e))
    (λ a. let r = among_map f xs y a in (r.0, inr r.1, r.2))
    h

pub map_among : {A B : Type 0} (f : A → B) (xs : List A) (x : A) → Among x xs → Among (f x) (map f xs)
map_among f [] x h = absurd h
map_among f (y ∷ ys) x h = ⊎_elim (λ e. inl (ap f e)) (λ a. inr (map_among f ys x a)) h

-- what is among one of two lists is among both of them together
pub among_front : {A : Type 0} (x : A) (xs ys : List A) → Among x xs → Among x (xs ++ ys)
among_front x [] ys h = absurd h
among_front x (z ∷ xs) ys h = ⊎_elim (λ e. inl e) (λ a. inr (among_front x xs ys a)) h

pub among_behind : {A : Type 0} (x : A) (xs ys : List A) → Among x ys → Among x (xs ++ ys)
among_behind x [] ys a = a
among_behind x (z ∷ xs) ys a = inr (among_behind x xs ys a)

-- an entry is contained where it stands at some place
pub contains_at : {A : Type 0} (xs : List A) (x : A) → Contains xs x → (k : ℕ) × (slice_get xs k ≡ Some x)
contains_at [] x h = absurd (let l = h.1 in omega arith)
contains_at (y ∷ ys) x (zero, l, e) = (0, ap Some e)
contains_at (y ∷ ys) x (suc k, l, e) = let r = contains_at ys x (k, omega arith, e) in (suc r.0, r.1)

pub at_contains : {A : Type 0} (xs : List A) (x : A) (k : ℕ) → slice_get xs k ≡ Some x → Contains xs x
at_contains [] x k e = absurd (let f : None ≡ Some x = e in cc)
at_contains (y ∷ ys) x zero e = (0, omega arith, same_some e)
at_contains (y ∷ ys) x (suc k) e = let r = at_contains ys x k e in (suc r.0, omega (arith, r.1), r.2)

pub contains_among : {A : Type 0} (xs : List A) (x : A) → Contains xs x → Among x xs
contains_among xs x c = let k = contains_at xs x c in among_at xs k.0 x k.1

pub among_contains : {A : Type 0} (xs : List A) (x : A) → Among x xs → Contains xs x
among_contains [] x h = absurd h
among_contains (y ∷ ys) x h =
    ⊎_elim
    (λ e. (0, omega arith, sym e))
    (λ a. let r = among_contains ys x a in (suc r.0, omega (arith, r.1), r.2))
    h

-- ---- the count up to the last entry that passes

pub record CountsFrom (p : Entry → Bool) (found at : ℕ) (es : List Entry) (c : ℕ) : Type 0 where
  pub low : found ≤ c
  pub within : c ≤ at + length es
  pub last : (c ≡ found) ⊎ ((i : ℕ) × (e : Entry) × (slice_get es i ≡ Some e) × (p e ≡ true) × (c ≡ suc (at + i)))
  pub all : (i : ℕ) (e : Entry) → slice_get es i ≡ Some e → p e ≡ true → at + i < c

pub count_from : (p : Entry → Bool) (found at : ℕ) (es : List Entry) → found ≤ at → CountsFrom p found at es (count_to_last p found at es)
count_from p found at [] le =
    record {
      low = omega arith;
      within = omega arith;
      last = inl refl;
      all = λ i e h. absurd (let f : None ≡ Some e = h in cc);
    }
count_from p found at (e ∷ es) le = go (p e) refl (λ n l. count_from p n (at + 1) es l)
  where
    go : (b : Bool) → p e ≡ b → ((n : ℕ) → n ≤ at + 1 → CountsFrom p n (at + 1) es (count_to_last p n (at + 1) es)) → CountsFrom p found at (e ∷ es) (count_to_last p (if b then at + 1 else found) (at + 1) es)
    go true q rest =
        let r = rest (at + 1) (omega arith) in
        record {
          low = omega (arith, r.low);
          within = omega (arith, r.within);
          last =
              ⊎_elim
              (λ same. inr (0, e, refl, q, omega arith))
              (λ x. inr (suc x.0, x.1, x.2, x.3, omega (arith, x.4)))
              r.last;
          all = all_true r.low r.all;
        }
      where
        all_true : at + 1 ≤ count_to_last p (at + 1) (at + 1) es → ((i : ℕ) (x : Entry) → slice_get es i ≡ Some x → p x ≡ true → at + 1 + i < count_to_last p (at + 1) (at + 1) es) → (i : ℕ) (x : Entry) → slice_get (e ∷ es) i ≡ Some x → p x ≡ true → at + i < count_to_last p (at + 1) (at + 1) es
        all_true low all zero x h t = omega arith
        all_true low all (suc i) x h t = let l = all i x h t in omega arith
    go false q rest =
        let r = rest found (omega arith) in
        record {
          low = r.low;
          within = omega (arith, r.within);
          last =
              ⊎_elim
              (λ same. inl same)
              (λ x. inr (suc x.0, x.1, x.2, x.3, omega (arith, x.4)))
              r.last;
          all = all_false r.all;
        }
      where
        all_false : ((i : ℕ) (x : Entry) → slice_get es i ≡ Some x → p x ≡ true → at + 1 + i < count_to_last p found (at + 1) es) → (i : ℕ) (x : Entry) → slice_get (e ∷ es) i ≡ Some x → p x ≡ true → at + i < count_to_last p found (at + 1) es
        all_false all zero x h t = absurd (let f : true ≡ false = sym t ∙ ap p (sym (same_some h)) ∙ q in cc)
        all_false all (suc i) x h t = let l = all i x h t in omega arith

-- ---- the longest

pub record IsLongest (first : List Entry) (xss : List (List Entry)) (best : List Entry) : Type 0 where
  pub one : (best ≡ first) ⊎ Among best xss
  pub past_first : length first ≤ length best
  pub past : (xs : List Entry) → Among xs xss → length xs ≤ length best

pub longest : (first : List Entry) (xss : List (List Entry)) → IsLongest first xss (fold longer first xss)
longest first [] = record { one = inl refl; past_first = omega arith; past = λ xs a. absurd a }
longest first (ys ∷ xss) = go (nat_lt (length first) (length ys)) refl (λ best. longest best xss)
  where
    go : (b : Bool) → nat_lt (length first) (length ys) ≡ b → ((best : List Entry) → IsLongest best xss (fold longer best xss)) → IsLongest first (ys ∷ xss) (fold longer (if b then ys else first) xss)
    go true q rest =
        let r = rest ys in
        let less = ltb-true (length first) (length ys) q in
        record {
          one = ⊎_elim (λ e. inr (inl e)) (λ a. inr (inr a)) r.one;
          past_first = omega (arith, r.past_first);
          past = λ xs a.
              ⊎_elim
              (λ e. let same = ap length e in omega (arith, r.past_first))
              (λ b. r.past xs b)
              a;
        }
    go false q rest =
        let r = rest first in
        let more = ltb-false (length first) (length ys) q in
        record {
          one = ⊎_elim (λ e. inl e) (λ a. inr (inr a)) r.one;
          past_first = r.past_first;
          past = λ xs a.
              ⊎_elim
              (λ e. let same = ap length e in omega (arith, r.past_first))
              (λ b. r.past xs b)
              a;
        }
