-- Lists seen element by element, the count up to the last entry that passes, and worlds that tell the same.
use Rattle.std.proofs.Common.{◌≡◌, ℕ, ◌+◌, ◌-◌, ◌<◌, ◌≤◌, Bool, true, false, List, [], ◌∷◌, ◌++◌, map, length, take, get_or, refl, ap, sym, ◌∙◌, arith, length-take}
use Rattle.std.specs.Prelude.{◌||◌, if◌then◌else◌, max, Option}
use Rattle.std.specs.List.{list_any}
use Rattle.std.proofs.lemmas.List.{take_more}
use Rattle.raft_group_step.specs.Values.{Entry, Membership}
use Rattle.raft_group_step.specs.Message.{Message}
use Rattle.raft_laws.specs.GroupWorld.{GroupWorld, Led}
use Rattle.raft_laws.specs.Settled.{count_to_last, group_list}

-- some element of a mapped list passes where some element passes once it is mapped
pub list_any-map : {X Y : Type 0} (p : Y → Bool) (f : X → Y) (xs : List X) → list_any p (map f xs) ≡ list_any (λ x. p (f x)) xs
list_any-map p f [] = refl
list_any-map p f (x ∷ xs) = ap (λ b. p (f x) || b) (list_any-map p f xs)

-- one more entry at the end counts where it passes
count-last : (p : Entry → Bool) (found at : ℕ) (xs : List Entry) (e : Entry)
    → count_to_last p found at (xs ++ e ∷ []) ≡ (if p e then at + length xs + 1 else count_to_last p found at xs)
count-last p found at [] e = let none : at + 0 ≡ at = omega arith in ap (λ (k : ℕ). if p e then k + 1 else found) (sym none)
count-last p found at (x ∷ xs) e =
    let further : at + 1 + length xs ≡ at + length (x ∷ xs) = omega arith in
    count-last p (if p x then at + 1 else found) (at + 1) xs e
    ∙ ap (λ (k : ℕ). if p e then k + 1 else count_to_last p (if p x then at + 1 else found) (at + 1) xs) further

-- of the entries up to one that passes, all count
pub count_at : (p : Entry → Bool) (xs : List Entry) (i : ℕ) (d : Entry) → i < length xs → p (get_or xs i d) ≡ true
    → count_to_last p 0 0 (take (i + 1) xs) ≡ i + 1
count_at p xs i d l h =
    ap (λ (ys : List Entry). count_to_last p 0 0 ys) (take_more xs i d l)
    ∙ (count-last p 0 0 (take i xs) (get_or xs i d)
    ∙ (ap (λ (b : Bool). if b then 0 + length (take i xs) + 1 else count_to_last p 0 0 (take i xs)) h
    ∙ omega (arith, length-take i xs)))

-- an entry at the end that doesn't pass makes no difference
pub count_past : (p : Entry → Bool) (xs : List Entry) (i : ℕ) (d : Entry) → i < length xs → p (get_or xs i d) ≡ false
    → count_to_last p 0 0 (take (i + 1) xs) ≡ count_to_last p 0 0 (take i xs)
count_past p xs i d l h =
    ap (λ (ys : List Entry). count_to_last p 0 0 ys) (take_more xs i d l)
    ∙ (count-last p 0 0 (take i xs) (get_or xs i d)
    ∙ ap (λ (b : Bool). if b then 0 + length (take i xs) + 1 else count_to_last p 0 0 (take i xs)) h)

-- no more count than there are
at_most_next : (b : Bool) (found at : ℕ) → found ≤ at → (if b then at + 1 else found) ≤ at + 1
at_most_next true found at h = omega arith
at_most_next false found at h = omega arith

count_bound : (p : Entry → Bool) (found at : ℕ) (xs : List Entry) → found ≤ at → count_to_last p found at xs ≤ at + length xs
count_bound p found at [] h = omega arith
count_bound p found at (x ∷ xs) h =
    let rest : count_to_last p (if p x then at + 1 else found) (at + 1) xs ≤ at + 1 + length xs
    = count_bound p (if p x then at + 1 else found) (at + 1) xs (at_most_next (p x) found at h) in
    omega arith

-- the entries behind this one don't pass, and it is read from the list that is lent
pub record IsLookedAt (p : Entry → Bool) (xs shown : List Entry) (back : ℕ) (e : Entry) : Type 0 where
  pub same : shown ≡ xs
  pub within : back < length shown
  pub read : e ≡ get_or shown (length shown - 1 - back) e
  pub rest : count_to_last p 0 0 (take (length xs - back) xs) ≡ count_to_last p 0 0 xs

-- where it passes, it is the last one that does
pub found_last : (p : Entry → Bool) (xs shown : List Entry) (back : ℕ) (e : Entry) → IsLookedAt p xs shown back e → p e ≡ true
    → length shown - 1 - back + 1 ≡ count_to_last p 0 0 xs
found_last p xs shown back e h t =
    let at : length shown - 1 - back + 1 ≡ length xs - 1 - back + 1 = ap (λ (ys : List Entry). length ys - 1 - back + 1) h.same in
    let inside : length xs - 1 - back < length xs = omega (arith, ap length h.same, h.within) in
    let next : length xs - 1 - back + 1 ≡ length xs - back = omega (arith, ap length h.same, h.within) in
    let here : e ≡ get_or xs (length xs - 1 - back) e = h.read ∙ ap (λ (ys : List Entry). get_or ys (length ys - 1 - back) e) h.same in
    at
    ∙ (sym (count_at p xs (length xs - 1 - back) e inside (ap p (sym here) ∙ t))
    ∙ (ap (λ (k : ℕ). count_to_last p 0 0 (take k xs)) next ∙ h.rest))

-- where it doesn't pass, those before it are left
pub not_found : (p : Entry → Bool) (xs shown : List Entry) (back : ℕ) (e : Entry) → IsLookedAt p xs shown back e → p e ≡ false
    → count_to_last p 0 0 (take (length xs - (back + 1)) xs) ≡ count_to_last p 0 0 xs
not_found p xs shown back e h f =
    let before : length xs - (back + 1) ≡ length xs - 1 - back = omega arith in
    let inside : length xs - 1 - back < length xs = omega (arith, ap length h.same, h.within) in
    let next : length xs - 1 - back + 1 ≡ length xs - back = omega (arith, ap length h.same, h.within) in
    let here : e ≡ get_or xs (length xs - 1 - back) e = h.read ∙ ap (λ (ys : List Entry). get_or ys (length ys - 1 - back) e) h.same in
    ap (λ (k : ℕ). count_to_last p 0 0 (take k xs)) before
    ∙ (sym (count_past p xs (length xs - 1 - back) e inside (ap p (sym here) ∙ f))
    ∙ (ap (λ (k : ℕ). count_to_last p 0 0 (take k xs)) next ∙ h.rest))

-- where only as many are left as are known, no more count
pub known_remain : (p : Entry → Bool) (xs : List Entry) (back known : ℕ) → length xs - known ≤ back
    → count_to_last p 0 0 (take (length xs - back) xs) ≡ count_to_last p 0 0 xs → known ≡ max known (count_to_last p 0 0 xs)
known_remain p xs back known h rest =
    let few : count_to_last p 0 0 (take (length xs - back) xs) ≤ 0 + length (take (length xs - back) xs) = count_bound p 0 0 (take (length xs - back) xs) (omega arith) in
    omega (arith, length-take (length xs - back) xs)

-- the first of two tests passes, so that one of them does
pub first_passes : {X Y U V : Type 0} (p : Y → Bool) (f : X → Y) (xs : List X) (q : V → Bool) (g : U → V) (us : List U) (a : Bool)
    → a ≡ list_any (λ x. p (f x)) xs → a ≡ true → a ≡ (list_any p (map f xs) || list_any q (map g us))
first_passes p f xs q g us a is passed =
    let there : list_any p (map f xs) ≡ true = list_any-map p f xs ∙ (sym is ∙ passed) in
    passed ∙ ap (λ b. b || list_any q (map g us)) (sym there)

-- the first of two tests doesn't pass, so that the second one tells
pub second_tells : {X Y U V : Type 0} (p : Y → Bool) (f : X → Y) (xs : List X) (q : V → Bool) (g : U → V) (us : List U) (a b : Bool)
    → a ≡ list_any (λ x. p (f x)) xs → a ≡ false → b ≡ list_any (λ u. q (g u)) us → b ≡ (list_any p (map f xs) || list_any q (map g us))
second_tells p f xs q g us a b is failed tells =
    let there : list_any p (map f xs) ≡ false = list_any-map p f xs ∙ (sym is ∙ failed) in
    tells ∙ (sym (list_any-map q g us) ∙ ap (λ c. c || list_any q (map g us)) (sym there))

-- the list depends on what was sent, on the set-up and on who led, and on nothing else
pub group_list-same : (w v : GroupWorld) → w.messages ≡ v.messages → w.setup ≡ v.setup → w.led ≡ v.led → group_list v ≡ group_list w
group_list-same w v sent set led =
    let build = λ (ms : List Message) (m : Option Membership) (ls : List Led). group_list (record { nodes = v.nodes; messages = ms; setup = m; led = ls }) in
    ap (λ (ms : List Message). build ms v.setup v.led) (sym sent)
    ∙ (ap (λ (m : Option Membership). build w.messages m v.led) (sym set)
    ∙ ap (λ (ls : List Led). build w.messages w.setup ls) (sym led))
