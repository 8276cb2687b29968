-- What a stop names of a group, in a node's words and in a history's.
use Rattle.std.specs.Prelude.{◌≡◌, ℕ, ◌==◌, Bool, true, false, if◌then◌else◌, List, [], ◌∷◌, ◌++◌, map, refl}
use Rattle.std.proofs.Common.{sym, ap, ap₂, ◌∙◌, eq-eqb, ne_eqb}
use Rattle.std.proofs.lemmas.List.{map-append}
use Rattle.std.proofs.lemmas.List.Elements.{filter-append}
use Rattle.raft_group_step.specs.GroupState.{Untold}
use Rattle.raft_group_step.specs.StepResult.{tokens_of}
use Rattle.raft_headline.specs.ClusterEvent.{Unknown}
use Rattle.raft_headline.specs.Seen.{own_tokens, own_unknown}
use Rattle.raft_machines.specs.declared.telling.UnknownTokens.{UnknownTokens}
use Rattle.raft_node.specs.Waiting.{named_of}
use Rattle.raft_machines.specs.declared.telling.Told.{Told}
use Rattle.raft_node.specs.declared.outcome.Outcome.{Outcome}
use Rattle.raft_headline.specs.Naming.{names_in, unknown_in}
use Rattle.raft_machines.specs.Telling.{untold_of}
use Rattle.raft_node_joint.specs.Saying.{names_behind}

abbrev tokens : List Unknown → List ℕ
tokens us = map (λ (u : Unknown). u.token) us

-- all tokens of a group are the group's, and none is another one's
own_in : (h g : ℕ) (b : Bool) → (g == h) ≡ b → (ts : List ℕ) → own_unknown h (unknown_in g ts) ≡ (if b then unknown_in g ts else [])
own_in h g true is [] = refl
own_in h g false is [] = refl
own_in h g true is (t ∷ ts) =
    let this : Unknown = record { group = g; token = t } in
    ap (λ c. if c then this ∷ own_unknown h (unknown_in g ts) else own_unknown h (unknown_in g ts)) is
    ∙ ap (λ us. this ∷ us) (own_in h g true is ts)
own_in h g false is (t ∷ ts) =
    let this : Unknown = record { group = g; token = t } in
    ap (λ c. if c then this ∷ own_unknown h (unknown_in g ts) else own_unknown h (unknown_in g ts)) is
    ∙ own_in h g false is ts

same_tokens : (g : ℕ) (ts : List ℕ) → tokens (unknown_in g ts) ≡ ts
same_tokens g [] = refl
same_tokens g (t ∷ ts) = ap (λ xs. t ∷ xs) (same_tokens g ts)

-- those of one group come before the others
pub one_more : (h g : ℕ) (b : Bool) → (g == h) ≡ b → (ts more : List ℕ) (us : List Unknown) → own_tokens h us ≡ more
    → own_tokens h (unknown_in g ts ++ us) ≡ (if b then ts ++ more else more)
one_more h g b is ts more us rest =
    ap tokens (filter-append (λ (u : Unknown). u.group == h) (unknown_in g ts) us)
    ∙ map-append (λ (u : Unknown). u.token) (own_unknown h (unknown_in g ts)) (own_unknown h us)
    ∙ ap₂ (λ xs ys. xs ++ ys) (ap tokens (own_in h g b is ts)) rest
    ∙ joined b
  where
    joined : (c : Bool) → tokens (if c then unknown_in g ts else []) ++ more ≡ (if c then ts ++ more else more)
    joined true = ap (λ xs. xs ++ more) (same_tokens g ts)
    joined false = refl

-- the tokens that are named of the group
pub names_own : (h : ℕ) (unknown : List UnknownTokens) → own_tokens h (names_in unknown) ≡ tokens_of (named_of unknown h)
names_own h [] = refl
names_own h (x ∷ xs) =
    one_more h x.group (x.group == h) refl (tokens_of (untold_of x.tokens.items)) (tokens_of (named_of xs h)) (names_in xs) (names_own h xs)
    ∙ joined (x.group == h)
  where
    own : List Untold
    own = untold_of x.tokens.items

    joined : (c : Bool) → (if c then tokens_of own ++ tokens_of (named_of xs h) else tokens_of (named_of xs h)) ≡ tokens_of (if c then own ++ named_of xs h else named_of xs h)
    joined true = sym (map-append (λ (y : Untold). y.token) own (named_of xs h))
    joined false = refl

-- behind an event of the group, and of another one
pub behind_own : (h : ℕ) (o : Outcome) (unknown : List UnknownTokens) → o.group ≡ h
    → own_tokens h (names_behind o unknown) ≡ (map (λ (t : Told). t.token) o.told.items ++ o.unknown.items) ++ tokens_of (named_of unknown h)
behind_own h o unknown same =
    one_more h o.group true (eq-eqb o.group h same) (map (λ (t : Told). t.token) o.told.items ++ o.unknown.items) (tokens_of (named_of unknown h)) (names_in unknown) (names_own h unknown)

pub behind_other : (h : ℕ) (o : Outcome) (unknown : List UnknownTokens) → (o.group ≡ h → ⊥) → own_tokens h (names_behind o unknown) ≡ tokens_of (named_of unknown h)
behind_other h o unknown other =
    one_more h o.group false (ne_eqb o.group h other) (map (λ (t : Told). t.token) o.told.items ++ o.unknown.items) (tokens_of (named_of unknown h)) (names_in unknown) (names_own h unknown)
