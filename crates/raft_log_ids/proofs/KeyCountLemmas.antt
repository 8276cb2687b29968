-- What a count of the keys up to a place tells of the full list.
use Rattle.std.proofs.Common.{◌≡◌, ℕ, zero, suc, ◌+◌, ◌-◌, ◌<◌, ◌≤◌, List, [], ◌∷◌, length, set, get_or, take, drop, refl, ap, sym, subst, ◌∙◌, arith}
use Rattle.std.specs.Prelude.{Some, None}
use Rattle.raft_values.specs.declared.log_id.LogId.{LogId}
use Rattle.raft_log_ids.specs.LogIdList.{ids_of, id_at, last_id, truncated, purged, or_alone, PlacesRise, Reaches}
use Rattle.raft_log_ids.proofs.LogIdListLemmas.{final, last_id-cons, ids_of-first}
use Rattle.raft_log_ids.proofs.KeyCutLemmas.{id_by, id_at-before, id_at-behind, id_at-inside, id_at-last, truncated-behind, truncated-pair, truncated-front, from_place-before, from_place-behind, from_place-inside}

module _ {K : Type 0} where
  pub get_or-final : (key : LogId K) (keys : List (LogId K)) (d : LogId K) → get_or (key ∷ keys) (length keys) d ≡ final key keys
  get_or-final key [] d = refl
  get_or-final key (next ∷ keys) d = get_or-final next keys d

  pub last_key : (first : LogId K) (keys : List (LogId K)) (key : LogId K) → key ≡ get_or (first ∷ keys) (length (first ∷ keys) - 1) key → key ≡ final first keys
  last_key first keys key e =
      let at : length (first ∷ keys) - 1 ≡ length keys = omega arith in
      e ∙ ap (λ n. get_or (first ∷ keys) n key) at ∙ get_or-final first keys key

  pub id_at-none_counted : (keys : List (LogId K)) (index : ℕ) → PlacesRise keys → ((d : LogId K) → 0 < length keys → index < (get_or keys 0 d).index) → id_at (ids_of keys) index ≡ None
  id_at-none_counted [] index h l = refl
  id_at-none_counted (key ∷ keys) index h l = id_at-before (key ∷ keys) index h (l key (omega arith))

  pub id_at-some_counted : (keys : List (LogId K)) (count : ℕ) (key : LogId K) (index : ℕ) → PlacesRise keys → 0 < count → count < length keys
      → key ≡ get_or keys (count - 1) key → key.index ≤ index → ((d : LogId K) → index < (get_or keys count d).index) → id_at (ids_of keys) index ≡ Some (id_by key.leader_id index)
  id_at-some_counted keys zero key index h l m e n o = absurd (omega arith)
  id_at-some_counted keys (suc i) key index h l m e n o =
      let at : suc i - 1 ≡ i = omega arith in
      id_at-inside keys i key index h (e ∙ ap (λ n. get_or keys n key) at) n m o

  pub id_at-last_counted : (keys : List (LogId K)) (key : LogId K) (index : ℕ) → PlacesRise keys → 0 < length keys → key ≡ get_or keys (length keys - 1) key → key.index ≡ index → id_at (ids_of keys) index ≡ Some key
  id_at-last_counted [] key index h l e f = absurd (omega arith)
  id_at-last_counted (first ∷ keys) key index h l e f =
      let last = last_key first keys key e in
      ap (id_at (ids_of (first ∷ keys))) (sym f ∙ ap (λ (x : LogId K). x.index) last) ∙ id_at-last first keys h ∙ ap Some (sym last)

  pub id_at-past_counted : (keys : List (LogId K)) (key : LogId K) (index : ℕ) → PlacesRise keys → 0 < length keys → key ≡ get_or keys (length keys - 1) key → key.index < index → id_at (ids_of keys) index ≡ None
  id_at-past_counted [] key index h l e f = absurd (omega arith)
  id_at-past_counted (first ∷ keys) key index h l e f =
      id_at-behind first keys index h (subst (λ (x : LogId K). x.index < index) (last_key first keys key e) f)

  pub truncated-all_counted : (keys : List (LogId K)) (at : ℕ) → PlacesRise keys → 0 < length keys → ((k : ℕ) (d : LogId K) → k < length keys → (get_or keys k d).index < at) → truncated (ids_of keys) at ≡ ids_of keys
  truncated-all_counted [] at h l b = absurd (omega arith)
  truncated-all_counted (key ∷ keys) at h l b =
      truncated-behind key keys at h (subst (λ (x : LogId K). x.index < at) (get_or-final key keys key) (b (length keys) key (omega arith)))

  pub truncated-pair_counted : (keys : List (LogId K)) (count : ℕ) (key : LogId K) (at : ℕ) → PlacesRise keys → 0 < count → count < length keys
      → key ≡ get_or keys (count - 1) key → key.index + 1 < at → ((d : LogId K) → at ≤ (get_or keys count d).index)
      → ids_of (take (count + 1) (set keys count (id_by key.leader_id (at - 1)))) ≡ truncated (ids_of keys) at
  truncated-pair_counted keys zero key at h l m e n o = absurd (omega arith)
  truncated-pair_counted keys (suc i) key at h l m e n o =
      let back : suc i - 1 ≡ i = omega arith in
      let more : suc i + 1 ≡ suc (suc i) = omega arith in
      rw more (truncated-pair keys i key at h (e ∙ ap (λ n. get_or keys n key) back) n m o)

  pub truncated-front_counted : (keys : List (LogId K)) (count : ℕ) (key : LogId K) (at : ℕ) → PlacesRise keys → 0 < count → count < length keys
      → key ≡ get_or keys (count - 1) key → key.index + 1 ≡ at → ((d : LogId K) → at ≤ (get_or keys count d).index)
      → ids_of (take count keys) ≡ truncated (ids_of keys) at
  truncated-front_counted keys zero key at h l m e n o = absurd (omega arith)
  truncated-front_counted keys (suc i) key at h l m e n o =
      let back : suc i - 1 ≡ i = omega arith in
      truncated-front keys i key at h (e ∙ ap (λ n. get_or keys n key) back) n m o

  final-drop : (first : LogId K) (keys : List (LogId K)) (i : ℕ) (key : LogId K) → i < length (first ∷ keys) → key ≡ get_or (first ∷ keys) i key → final key (drop (suc i) (first ∷ keys)) ≡ final first keys
  final-drop first keys zero key h e = ap (λ x. final x keys) e
  final-drop first [] (suc i) key h e = absurd (omega arith)
  final-drop first (next ∷ keys) (suc i) key h e = final-drop next keys i key (omega arith) e

  reached : (first : LogId K) (keys : List (LogId K)) (at : ℕ) → Reaches (last_id (first ∷ keys)) at → at ≤ (final first keys).index
  reached first keys at h = let last : Reaches (Some (final first keys)) at = subst (λ found. Reaches found at) (last_id-cons first keys) h in last

  or_alone-some : (ids : List (LogId K)) (key : LogId K) (more : List (LogId K)) (upto : LogId K) → ids ≡ key ∷ more → or_alone ids upto ≡ ids
  or_alone-some ids key more upto e = rw e refl

  -- below the first key a purge changes nothing
  pub purged-none_counted : (keys : List (LogId K)) (upto : LogId K) → PlacesRise keys → Reaches (last_id keys) upto.index
      → ((d : LogId K) → 0 < length keys → upto.index < (get_or keys 0 d).index) → purged (ids_of keys) upto ≡ ids_of keys
  purged-none_counted [] upto h r l = absurd r
  purged-none_counted (key ∷ keys) upto h r l =
      let low : upto.index < key.index = l key (omega arith) in
      ap (λ ids. or_alone ids upto) (from_place-before (key ∷ keys) upto.index h (λ d m. omega arith))
      ∙ or_alone-some (ids_of (key ∷ keys)) key _ upto (ids_of-first key keys h)

  -- the last key up to the place moves there, and the keys before it go
  pub purged-inside_counted : (keys : List (LogId K)) (count : ℕ) (key upto : LogId K) → PlacesRise keys → Reaches (last_id keys) upto.index → 0 < count → count ≤ length keys
      → key ≡ get_or keys (count - 1) key → key.index ≤ upto.index → ((d : LogId K) → count < length keys → upto.index < (get_or keys count d).index)
      → PlacesRise (id_by key.leader_id upto.index ∷ drop count keys)
      → purged (ids_of keys) upto ≡ ids_of (id_by key.leader_id upto.index ∷ drop count keys)
  purged-inside_counted keys zero key upto h r l m e n o p = absurd (omega arith)
  purged-inside_counted [] (suc i) key upto h r l m e n o p = absurd r
  purged-inside_counted (first ∷ keys) (suc i) key upto h r l m e n o p =
      let back : suc i - 1 ≡ i = omega arith in
      let here : key ≡ get_or (first ∷ keys) i key = e ∙ ap (λ n. get_or (first ∷ keys) n key) back in
      let far : upto.index ≤ (final key (drop (suc i) (first ∷ keys))).index =
      subst (λ (x : LogId K). upto.index ≤ x.index) (sym (final-drop first keys i key (omega arith) here)) (reached first keys upto.index r) in
      ap (λ ids. or_alone ids upto) (from_place-inside (first ∷ keys) i key upto.index h here n (omega arith) o far)
      ∙ or_alone-some (ids_of (id_by key.leader_id upto.index ∷ drop (suc i) (first ∷ keys))) (id_by key.leader_id upto.index) _ upto (ids_of-first _ _ p)

  -- past the last key only `upto` is left
  pub purged-past : (keys : List (LogId K)) (last upto : LogId K) → PlacesRise keys → last_id keys ≡ Some last → last.index < upto.index → purged (ids_of keys) upto ≡ upto ∷ []
  purged-past [] last upto h e l = refl
  purged-past (key ∷ keys) last upto h e l =
      let same : Some last ≡ Some (final key keys) = sym e ∙ last_id-cons key keys in
      let at : last ≡ final key keys = cc in
      ap (λ ids. or_alone ids upto) (from_place-behind key keys upto.index h (subst (λ (x : LogId K). x.index < upto.index) at l))
