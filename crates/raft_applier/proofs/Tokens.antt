-- Tokens that wait by rising place: those up to a place come first.
use Rattle.std.specs.Prelude.{◌≡◌, ℕ, zero, suc, ◌+◌, ◌-◌, ◌≤◌, cond, not, Bool, true, false, count_by, filter, List, [], ◌∷◌, ◌++◌, length, take, drop, map, Option, Some, None, Result, Ok, Err, OnErr, refl}
use Rattle.std.proofs.Common.{◌<◌, get_or, sym, ap, ap₂, ◌∙◌, arith}
use Rattle.std.specs.List.Sorted.{IsPartitionedBy}
use Rattle.std.proofs.lemmas.Bool.Decides.{nat_tests}
use Rattle.std.proofs.lemmas.List.{length-append, length-map, map-append, take-append-le, take-map, take_all}
use Rattle.std.proofs.lemmas.List.Sums.{length-filter}
use Rattle.raft_values.specs.declared.log_id.LogId.{LogId}
use Rattle.raft_values.specs.LogId.{place_of, reaches}
use Rattle.raft_group_step.specs.GroupState.{Untold}
use Rattle.raft_group_step.specs.StepResult.{is_within, tokens_of}
use Rattle.raft_group_step.specs.SnapshotRequest.{place_above}
use Rattle.raft_machines.specs.declared.telling.Untold.{Untold as AnUntold}
use Rattle.raft_machines.specs.Telling.{WaitFrom, untold_of}
use Rattle.raft_step_laws.specs.Tokens.{RiseFrom}
use Rattle.raft_step_laws.proofs.TokenLists.{rise_lower}
use Rattle.raft_applier.specs.Running.{due_at, later_than}

within_above : (place : ℕ) (end : Option ℕ) → is_within place end ≡ true → place + 1 ≤ place_above end
within_above place None t = absurd (let f : false ≡ true = t in cc)
within_above place (Some b) t = let l : place ≤ b = grind (arith, nat_tests, t) in omega arith

past_above : (place : ℕ) (end : Option ℕ) → is_within place end ≡ false → (higher : ℕ) → place ≤ higher → is_within higher end ≡ false
past_above place None t higher l = refl
past_above place (Some b) t higher l =
    let past : b + 1 ≤ place = grind (arith, nat_tests, t) in
    let far : b + 1 ≤ higher = omega arith in grind (arith, nat_tests, far)

module _ (end : Option ℕ) where
  abbrev is_due : Untold → Bool
  is_due x = is_within x.place end

  -- how many wait up to the place
  abbrev pub due : List Untold → ℕ
  due xs = length (due_at end xs)

  -- behind one that waits for a later place all do
  record NoneDue (xs : List Untold) : Type 0 where
    first : due_at end xs ≡ []
    rest : later_than end xs ≡ xs

  none_due : (place : ℕ) (xs : List Untold) → is_within place end ≡ false → RiseFrom place xs → NoneDue xs
  none_due place [] past h = record { first = refl; rest = refl }
  none_due place (x ∷ xs) past h =
      let here : is_due x ≡ false = past_above place end past x.place h.0 in
      let all = none_due place xs past (rise_lower place (x.place + 1) xs (omega (arith, h.0)) h.1) in
      record {
        first = ap (λ b. cond b (x ∷ due_at end xs) (due_at end xs)) here ∙ all.first;
        rest = ap (λ b. cond (not b) (x ∷ later_than end xs) (later_than end xs)) here ∙ ap (λ ys. x ∷ ys) all.rest;
      }

  pub record AreParted (xs : List Untold) : Type 0 where
    pub first : take (due xs) xs ≡ due_at end xs
    pub rest : drop (due xs) xs ≡ later_than end xs

  parted_here : (x : Untold) (xs : List Untold) → RiseFrom (x.place + 1) xs → AreParted xs → (b : Bool) → is_due x ≡ b → AreParted (x ∷ xs)
  parted_here x xs h all true here =
      let one : due (x ∷ xs) ≡ suc (due xs) = ap (λ b. length (cond b (x ∷ due_at end xs) (due_at end xs))) here in
      record {
        first = ap (λ n. take n (x ∷ xs)) one ∙ ap (λ ys. x ∷ ys) all.first ∙ sym (ap (λ b. cond b (x ∷ due_at end xs) (due_at end xs)) here);
        rest = ap (λ n. drop n (x ∷ xs)) one ∙ all.rest ∙ sym (ap (λ b. cond (not b) (x ∷ later_than end xs) (later_than end xs)) here);
      }
  parted_here x xs h all false here =
      let none = none_due x.place (x ∷ xs) here (omega arith, h) in
      record {
        first = ap (λ ys. take (length ys) (x ∷ xs)) none.first ∙ sym none.first;
        rest = ap (λ ys. drop (length ys) (x ∷ xs)) none.first ∙ sym none.rest;
      }

  -- so many of the first ones are those up to the place
  pub are_parted : (from : ℕ) (xs : List Untold) → RiseFrom from xs → AreParted xs
  are_parted from [] h = record { first = refl; rest = refl }
  are_parted from (x ∷ xs) h = parted_here x xs h.1 (are_parted (x.place + 1) xs h.1) (is_due x) refl

  -- they wait from there on, up to the place
  pub due_wait : (from : ℕ) (xs : List Untold) → RiseFrom from xs → WaitFrom from (place_above end) (due_at end xs)
  due_wait from [] h = tt
  due_wait from (x ∷ xs) h = go (is_due x) refl (due_wait (x.place + 1) xs h.1)
    where
      lower : (j k : ℕ) (ys : List Untold) → j ≤ k → WaitFrom k (place_above end) ys → WaitFrom j (place_above end) ys
      lower j k [] l w = tt
      lower j k (y ∷ ys) l w = (omega (arith, w.0), w.1, w.2)

      go : (b : Bool) → is_due x ≡ b → WaitFrom (x.place + 1) (place_above end) (due_at end xs) → WaitFrom from (place_above end) (cond b (x ∷ due_at end xs) (due_at end xs))
      go true here rest = (h.0, within_above x.place end here, rest)
      go false here rest = lower from (x.place + 1) (due_at end xs) (omega (arith, h.0)) rest

-- ---- the same of what the code counts

reaches_within : (upto : Option (LogId ℕ)) (place : ℕ) → reaches upto place ≡ is_within place (place_of upto)
reaches_within None place = refl
reaches_within (Some id) place = refl

same_length : {X Y : Type 0} (b c : Bool) (x : X) (y : Y) (xs : List X) (ys : List Y) → b ≡ c → length xs ≡ length ys → length (cond b (x ∷ xs) xs) ≡ length (cond c (y ∷ ys) ys)
same_length b c x y xs ys same e = ap (λ t. length (cond t (x ∷ xs) xs)) same ∙ go c
  where
    go : (t : Bool) → length (cond t (x ∷ xs) xs) ≡ length (cond t (y ∷ ys) ys)
    go true = ap suc e
    go false = e

kept_counted : (upto : Option (LogId ℕ)) (ws : List AnUntold) → length (filter (λ (w : AnUntold). reaches upto w.place) ws) ≡ due (place_of upto) (untold_of ws)
kept_counted upto [] = refl
kept_counted upto (w ∷ ws) = same_length _ _ _ _ _ _ (reaches_within upto w.place) (kept_counted upto ws)

pub due_counted : (upto : Option (LogId ℕ)) (ws : List AnUntold) → count_by (λ (w : AnUntold). reaches upto w.place) ws ≡ due (place_of upto) (untold_of ws)
due_counted upto ws = sym (length-filter (λ (w : AnUntold). reaches upto w.place) ws) ∙ kept_counted upto ws

pub first_waiting : (n : ℕ) (ws : List AnUntold) → untold_of (take n ws) ≡ take n (untold_of ws)
first_waiting n ws = sym (take-map (λ (w : AnUntold). record { token = w.token; place = w.place }) n ws)

pub rest_waiting : (n : ℕ) (ws : List AnUntold) → untold_of (drop n ws) ≡ drop n (untold_of ws)
rest_waiting zero ws = refl
rest_waiting (suc n) [] = refl
rest_waiting (suc n) (w ∷ ws) = rest_waiting n ws

-- of those that wait by rising place so many are the first ones
module _ (upto : Option (LogId ℕ)) (from : ℕ) (ws vs : List AnUntold) (n : ℕ) (rises : RiseFrom from (untold_of ws)) (same : vs ≡ ws) (count : n ≡ count_by (λ (w : AnUntold). reaches upto w.place) vs) where
  number : n ≡ due (place_of upto) (untold_of ws)
  number = count ∙ ap (count_by (λ (w : AnUntold). reaches upto w.place)) same ∙ due_counted upto ws

  pub first_due : untold_of (take n vs) ≡ due_at (place_of upto) (untold_of ws)
  first_due =
      ap₂ (λ k zs. untold_of (take k zs)) number same
      ∙ first_waiting (due (place_of upto) (untold_of ws)) ws
      ∙ (are_parted (place_of upto) from (untold_of ws) rises).first

  pub rest_due : untold_of (drop n ws) ≡ later_than (place_of upto) (untold_of ws)
  rest_due =
      ap (λ k. untold_of (drop k ws)) number
      ∙ rest_waiting (due (place_of upto) (untold_of ws)) ws
      ∙ (are_parted (place_of upto) from (untold_of ws) rises).rest

-- ---- found by halving

-- each waits for this place or a later one
none_below : (place : ℕ) (ws : List AnUntold) → RiseFrom place (untold_of ws) → (k : ℕ) (d : AnUntold) → k < length ws → place ≤ (get_or ws k d).place
none_below place [] h k d l = absurd (omega arith)
none_below place (w ∷ ws) h zero d l = h.0
none_below place (w ∷ ws) h (suc k) d l =
    let first : place ≤ w.place = h.0 in
    let more : w.place + 1 ≤ (get_or ws k d).place = none_below (w.place + 1) ws h.1 k d (omega arith) in
    omega arith

lower_too : (upto : Option (LogId ℕ)) (low high : ℕ) → low ≤ high → reaches upto high ≡ true → reaches upto low ≡ true
lower_too None low high l e = absurd (let f : false ≡ true = e in cc)
lower_too (Some id) low high l e = grind (arith, nat_tests, l, e)

-- behind one that isn't due none is
pub due_first : (upto : Option (LogId ℕ)) (place : ℕ) (ws : List AnUntold) → RiseFrom place (untold_of ws) → IsPartitionedBy (λ (w : AnUntold). reaches upto w.place) ws
due_first upto place [] h i j d l m e = absurd (omega arith)
due_first upto place (w ∷ ws) h zero zero d l m e = e
due_first upto place (w ∷ ws) h zero (suc j) d l m e =
    let later : w.place + 1 ≤ (get_or ws j d).place = none_below (w.place + 1) ws h.1 j d (omega arith) in
    lower_too upto w.place (get_or ws j d).place (omega arith) e
due_first upto place (w ∷ ws) h (suc i) zero d l m e = absurd (omega arith)
due_first upto place (w ∷ ws) h (suc i) (suc j) d l m e = due_first upto (w.place + 1) ws h.1 i j d (omega arith) (omega arith) e

-- so many pass as stand in front of the first that doesn't
module _ (p : AnUntold → Bool) where
  pub passing : (ws : List AnUntold) (n : ℕ) → n ≤ length ws
      → ((k : ℕ) (d : AnUntold) → k < n → p (get_or ws k d) ≡ true)
      → ((k : ℕ) (d : AnUntold) → n ≤ k → k < length ws → p (get_or ws k d) ≡ false)
      → n ≡ length (filter p ws)
  passing [] n l t f = omega arith
  passing (w ∷ ws) zero l t f =
      passing ws zero (omega arith) (λ k d b. absurd (omega arith)) (λ k d a b. f (suc k) d (omega arith) (omega arith))
      ∙ ap (λ b. length (cond b (w ∷ filter p ws) (filter p ws))) (sym (f 0 w (omega arith) (omega arith)))
  passing (w ∷ ws) (suc n) l t f =
      ap suc (passing ws n (omega arith) (λ k d b. t (suc k) d (omega arith)) (λ k d a b. f (suc k) d (omega arith) (omega arith)))
      ∙ ap (λ b. length (cond b (w ∷ filter p ws) (filter p ws))) (sym (t 0 w (omega arith)))

-- where the last one goes, the others wait on
pub without_last : (ws : List AnUntold) (xs : List Untold) (x : Untold) (n : ℕ) → n ≡ length ws - 1 → untold_of ws ≡ xs ++ x ∷ [] → untold_of (take n ws) ≡ xs
without_last ws xs x n last are =
    let count : length ws ≡ length xs + 1 = sym (length-map ws (λ (w : AnUntold). record { token = w.token; place = w.place })) ∙ ap length are ∙ length-append xs (x ∷ []) in
    let one_less : n ≡ length xs = omega arith in
    first_waiting n ws ∙ ap₂ (λ k ys. take k ys) one_less are ∙ take-append-le (length xs) xs (x ∷ []) (omega arith) ∙ take_all (length xs) xs (omega arith)

-- the tokens of those that wait
pub their_tokens : (ws : List AnUntold) → map (λ (w : AnUntold). w.token) ws ≡ tokens_of (untold_of ws)
their_tokens [] = refl
their_tokens (w ∷ ws) = ap (λ ts. w.token ∷ ts) (their_tokens ws)

-- one more waits behind the others
pub one_more : (ws : List AnUntold) (xs : List Untold) (token place end : ℕ) → untold_of ws ≡ xs → place ≡ end
    → untold_of (ws ++ record { token = token; place = place } ∷ []) ≡ xs ++ record { token = token; place = end } ∷ []
one_more ws xs token place end are at =
    map-append (λ (w : AnUntold). record { token = w.token; place = w.place }) ws (record { token = token; place = place } ∷ [])
    ∙ ap₂ (λ ys p. ys ++ record { token = token; place = p } ∷ []) are at
