-- What stands before a leader's first log id, among the log ids that keys tell.
use Rattle.std.specs.Prelude.{◌≡◌, ℕ, zero, suc, ◌+◌, ◌-◌, ◌<◌, ◌≤◌, if◌then◌else◌, Bool, true, false, List, [], ◌∷◌, ◌++◌, map, length, drop, Option, Some, None, refl}
use Rattle.std.specs.List.{slice_get, range_with_len}
use Rattle.std.proofs.Common.{sym, ap, ◌∙◌, arith, get_or}
use Rattle.std.proofs.lemmas.Option.{slice_get_past}
use Rattle.raft_values.specs.declared.vote.LeaderId.{LeaderId}
use Rattle.raft_values.specs.declared.log_id.LogId.{LogId}
use Rattle.raft_log_ids.proofs.KeyEndLemmas.{end_above}
use Rattle.raft_log_ids.specs.LogIdList.{leader_ids, end_of_key, ids_of, IsBelowNext, PlacesRise}
use Rattle.raft_group_step.specs.Values.{leader_eq}
use Rattle.raft_list_facts.specs.Leads.{before_own}
use Rattle.raft_list_facts.specs.declared.leading.Base.{Base}
use Rattle.raft_list_facts.specs.declared.leading.Base.TheVariants.{UpTo}

-- so many log ids of one leader, from a place on
abbrev run : LeaderId ℕ → ℕ → ℕ → List (LogId ℕ)
run own start n = map (λ index. record { leader_id = own; index = index }) (range_with_len start n)

-- a run of log ids of this one or of another leader
run_of : (leader own : LeaderId ℕ) (b : Base) (start n : ℕ) (rest : List (LogId ℕ)) (is : Bool) → leader_eq own leader ≡ is
    → before_own leader b (run own start (suc n) ++ rest) ≡ (if is then b else before_own leader (UpTo (record { leader_id = own; index = start + n })) rest)
run_of leader own b start n rest true e =
    ap (λ (is : Bool). if is then b else before_own leader (UpTo (record { leader_id = own; index = start })) (run own (start + 1) n ++ rest)) e
run_of leader own b start zero rest false e =
    let at : start + 0 ≡ start = omega arith in
    ap (λ (is : Bool). if is then b else before_own leader (UpTo (record { leader_id = own; index = start })) rest) e
    ∙ ap (λ k. before_own leader (UpTo (record { leader_id = own; index = k })) rest) (sym at)
run_of leader own b start (suc n) rest false e =
    let at : start + 1 + n ≡ start + suc n = omega arith in
    ap (λ (is : Bool). if is then b else before_own leader (UpTo (record { leader_id = own; index = start })) (run own (start + 1) (suc n) ++ rest)) e
    ∙ run_of leader own (UpTo (record { leader_id = own; index = start })) (start + 1) n rest false e
    ∙ ap (λ k. before_own leader (UpTo (record { leader_id = own; index = k })) rest) at

run_up_to : (leader own : LeaderId ℕ) (b : Base) (start end : ℕ) (rest : List (LogId ℕ)) → start < end
    → before_own leader b (leader_ids own start end ++ rest)
    ≡ (if leader_eq own leader then b else before_own leader (UpTo (record { leader_id = own; index = end - 1 })) rest)
run_up_to leader own b start end rest l =
    let n : end - start ≡ suc (end - start - 1) = omega arith in
    let at : start + (end - start - 1) ≡ end - 1 = omega arith in
    ap (λ k. before_own leader b (run own start k ++ rest)) n
    ∙ run_of leader own b start (end - start - 1) rest (leader_eq own leader) refl
    ∙ ap (λ k. if leader_eq own leader then b else before_own leader (UpTo (record { leader_id = own; index = k })) rest) at

-- the last place of another leader's key: before the next key, or its own
abbrev pub last_of_key : LogId ℕ → Option (LogId ℕ) → ℕ
last_of_key key None = key.index
last_of_key key (Some next) = next.index - 1

-- what stands before the next key, behind another leader's one
abbrev pub behind_key : LogId ℕ → Option (LogId ℕ) → Base
behind_key key next = UpTo (record { leader_id = key.leader_id; index = last_of_key key next })

last_place : (key : LogId ℕ) (rest : List (LogId ℕ)) → end_of_key key rest - 1 ≡ last_of_key key (slice_get rest 0)
last_place key [] = omega arith
last_place key (next ∷ rest) = refl

up_to_next : (leader : LeaderId ℕ) (key : LogId ℕ) (rest : List (LogId ℕ))
    → before_own leader (UpTo (record { leader_id = key.leader_id; index = end_of_key key rest - 1 })) (ids_of rest)
    ≡ before_own leader (behind_key key (slice_get rest 0)) (ids_of rest)
up_to_next leader key rest =
    ap (λ k. before_own leader (UpTo (record { leader_id = key.leader_id; index = k })) (ids_of rest)) (last_place key rest)

first_key : (leader : LeaderId ℕ) (b : Base) (key : LogId ℕ) (rest : List (LogId ℕ)) → IsBelowNext key rest
    → before_own leader b (ids_of (key ∷ rest))
    ≡ (if leader_eq key.leader_id leader then b else before_own leader (behind_key key (slice_get rest 0)) (ids_of rest))
first_key leader b key rest l =
    run_up_to leader key.leader_id b key.index (end_of_key key rest) (ids_of rest) (end_above key rest l)
    ∙ ap (λ x. if leader_eq key.leader_id leader then b else x) (up_to_next leader key rest)

-- one key more
pub next_key : (leader : LeaderId ℕ) (b : Base) (keys : List (LogId ℕ)) (at : ℕ) (d : LogId ℕ) → PlacesRise keys → at < length keys
    → before_own leader b (ids_of (drop at keys))
    ≡ (if leader_eq (get_or keys at d).leader_id leader then b else before_own leader (behind_key (get_or keys at d) (slice_get keys (at + 1))) (ids_of (drop (at + 1) keys)))
next_key leader b [] at d r l = absurd (omega arith)
next_key leader b (x ∷ keys) zero d r l = first_key leader b x keys r.0
next_key leader b (x ∷ keys) (suc at) d r l =
    let more : suc at + 1 ≡ suc (at + 1) = omega arith in
    rw more (next_key leader b keys at d r.1 (omega arith))

-- each key stands below the one behind it
pub keys_rise : (keys : List (LogId ℕ)) (at : ℕ) (d e : LogId ℕ) → PlacesRise keys → at + 1 < length keys → (get_or keys at d).index < (get_or keys (at + 1) e).index
keys_rise [] at d e r l = absurd (omega arith)
keys_rise (x ∷ []) at d e r l = absurd (omega arith)
keys_rise (x ∷ y ∷ keys) zero d e r l = r.0
keys_rise (x ∷ y ∷ keys) (suc at) d e r l =
    let more : suc at + 1 ≡ suc (at + 1) = omega arith in
    rw more (keys_rise (y ∷ keys) at d e r.1 (omega arith))

-- the first key is the leader's own, or isn't
pub if_own : (is : Bool) (b x : Base) → true ≡ is → (if is then b else x) ≡ b
if_own true b x e = refl
if_own false b x e = cc

pub if_another : (is : Bool) (b x : Base) → false ≡ is → (if is then b else x) ≡ x
if_another true b x e = cc
if_another false b x e = refl

-- what stands before the next key, if there is one
key_there : (keys : List (LogId ℕ)) (i : ℕ) (d : LogId ℕ) → i < length keys → slice_get keys i ≡ Some (get_or keys i d)
key_there [] i d l = absurd (omega arith)
key_there (x ∷ keys) zero d l = refl
key_there (x ∷ keys) (suc i) d l = key_there keys i d (omega arith)

pub last_within : (key : LogId ℕ) (keys : List (LogId ℕ)) (i : ℕ) (d : LogId ℕ) → i < length keys → last_of_key key (slice_get keys i) ≡ (get_or keys i d).index - 1
last_within key keys i d l = ap (last_of_key key) (key_there keys i d l)

pub last_past : (key : LogId ℕ) (keys : List (LogId ℕ)) (i : ℕ) → length keys ≤ i → last_of_key key (slice_get keys i) ≡ key.index
last_past key keys i past = ap (last_of_key key) (slice_get_past keys i past)

-- the key's leader at a place
abbrev pub at_place : LogId ℕ → ℕ → LogId ℕ
at_place key place = record { leader_id = key.leader_id; index = place }

pub key_up_to : (key : LogId ℕ) {place last : ℕ} → place ≡ last → at_place key place ≡ at_place key last
key_up_to key same = ap (at_place key) same
