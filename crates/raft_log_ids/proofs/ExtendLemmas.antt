-- Log ids put behind others one after the other.
use Rattle.std.proofs.Common.{◌≡◌, ℕ, ◌+◌, ◌-◌, ◌<◌, List, [], ◌∷◌, ◌++◌, map, length, get_or, take, drop, refl, ap, sym, subst, ◌∙◌, arith, append_assoc}
use Rattle.std.specs.Prelude.{Option, Some}
use Rattle.std.proofs.lemmas.List.{drop_more, get_or-map}
use Rattle.std.proofs.lemmas.List.Sums.{fold_more}
use Rattle.raft_values.specs.declared.log_id.LogId.{LogId}
use Rattle.raft_log_ids.specs.LogIdList.{leader_ids, last_id, ids_between, appended, extended, AllGoOn, GoesOn, AreOfLeader, HaveOneLeader, PlacesRise, ids_of}
use Rattle.raft_log_ids.proofs.LogIdLemmas.{leader_ids-join, leader_ids-first}
use Rattle.raft_log_ids.proofs.LogIdListLemmas.{final, last_id-cons, last_id-ids_of}
use Rattle.raft_log_ids.proofs.KeyCountLemmas.{get_or-final}

module _ {K : Type 0} where
  final_push : (x : LogId K) (ids : List (LogId K)) (id : LogId K) → final x (ids ++ id ∷ []) ≡ id
  final_push x [] id = refl
  final_push x (y ∷ ids) id = final_push y ids id

  last_push : (ids : List (LogId K)) (id : LogId K) → last_id (ids ++ id ∷ []) ≡ Some id
  last_push [] id = refl
  last_push (x ∷ ids) id = last_id-cons x (ids ++ id ∷ []) ∙ ap Some (final_push x ids id)

  -- the log id put behind is the last one
  pub last_id-appended : (ids : List (LogId K)) (id : LogId K) → last_id (appended ids id) ≡ Some id
  last_id-appended ids id = last_push (ids ++ ids_between (last_id ids) id.index) id

  -- one log id more
  pub extended_more : (ids more : List (LogId K)) (i : ℕ) (d : LogId K) → i < length more → extended ids (take (i + 1) more) ≡ appended (extended ids (take i more)) (get_or more i d)
  extended_more ids more i d h = fold_more appended ids more i d h

  regroup : (ids a b : List (LogId K)) (y : LogId K) → ((ids ++ a) ++ y ∷ []) ++ b ≡ ids ++ (a ++ y ∷ b)
  regroup ids a b y = simp append_assoc

  -- between two log ids of one leader, one more of that leader changes nothing
  skipped : (ids : List (LogId K)) (x y z : LogId K) → last_id ids ≡ Some x → y.leader_id ≡ x.leader_id
      → x.index < y.index → y.index < z.index → appended (appended ids y) z ≡ appended ids z
  skipped ids x y z e same h k =
      let below : List (LogId K) = leader_ids x.leader_id (x.index + 1) y.index in
      let above : List (LogId K) = leader_ids x.leader_id (y.index + 1) z.index in
      let parts : below ++ y ∷ above ≡ leader_ids x.leader_id (x.index + 1) z.index =
      ap (λ l. below ++ (record { leader_id = l; index = y.index }) ∷ above) same
      ∙ ap (λ l. below ++ l) (sym (leader_ids-first x.leader_id y.index z.index k))
      ∙ leader_ids-join x.leader_id (x.index + 1) y.index z.index (omega arith) (omega arith) in
      let once : appended ids y ≡ (ids ++ below) ++ y ∷ [] = ap (λ found. ids ++ ids_between found y.index ++ y ∷ []) e in
      let twice : appended (appended ids y) z ≡ (appended ids y ++ leader_ids y.leader_id (y.index + 1) z.index) ++ z ∷ [] =
      ap (λ found. appended ids y ++ ids_between found z.index ++ z ∷ []) (last_id-appended ids y) in
      let direct : appended ids z ≡ (ids ++ leader_ids x.leader_id (x.index + 1) z.index) ++ z ∷ [] =
      ap (λ found. ids ++ ids_between found z.index ++ z ∷ []) e in
      twice ∙ ap (λ l. (l ++ leader_ids y.leader_id (y.index + 1) z.index) ++ z ∷ []) once
      ∙ ap (λ l. (((ids ++ below) ++ y ∷ []) ++ leader_ids l (y.index + 1) z.index) ++ z ∷ []) same
      ∙ ap (λ l. l ++ z ∷ []) (regroup ids below above y ∙ ap (λ l. ids ++ l) parts) ∙ sym direct

  -- the last one of what goes on stands behind
  rises : (x y : LogId K) (ys : List (LogId K)) → AllGoOn (Some x) (y ∷ ys) → x.index < (final y ys).index
  rises x y [] h = h.0
  rises x y (z ∷ ys) h = let later = rises y z ys h.1 in let here = h.0 in omega arith

  one_leader : (ids : List (LogId K)) (x y : LogId K) (ys : List (LogId K)) → last_id ids ≡ Some x
      → AreOfLeader x.leader_id (y ∷ ys) → AllGoOn (Some x) (y ∷ ys) → extended ids (y ∷ ys) ≡ appended ids (final y ys)
  one_leader ids x y [] e same h = refl
  one_leader ids x y (z ∷ ys) e same h =
      one_leader (appended ids y) y z ys (last_id-appended ids y) (subst (λ l. AreOfLeader l (z ∷ ys)) (sym same.0) same.1) h.1
      ∙ skipped ids x y (final z ys) e same.0 h.0 (rises y z ys h.1)

  -- of log ids of one leader the first and the last one tell all
  pub extended-ends : (ids : List (LogId K)) (x y : LogId K) (ys : List (LogId K)) → AreOfLeader x.leader_id (y ∷ ys)
      → AllGoOn (Some x) (y ∷ ys) → extended ids (x ∷ y ∷ ys) ≡ appended (appended ids x) (final y ys)
  extended-ends ids x y ys same h = one_leader (appended ids x) x y ys (last_id-appended ids x) same h

  -- the next log id goes on from the last one, and the rest from it
  pub next_goes_on : (last : Option (LogId K)) (more : List (LogId K)) (i : ℕ) (d : LogId K) → i < length more → AllGoOn last (drop i more)
      → GoesOn last (get_or more i d) × AllGoOn (Some (get_or more i d)) (drop (i + 1) more)
  next_goes_on last more i d h on = subst (AllGoOn last) (drop_more more i d h) on

  -- the first and the last of log ids of one leader tell all, and the last one goes on from the first
  pub ends-extend : (ids : List (LogId K)) (last : Option (LogId K)) (more : List (LogId K)) (x z : LogId K) → 1 < length more
      → x ≡ get_or more 0 x → z ≡ get_or more (length more - 1) z → HaveOneLeader more → AllGoOn last more
      → (extended ids more ≡ appended (appended ids x) z) × GoesOn (Some x) z
  ends-extend ids last [] x z h e f same on = absurd (omega arith)
  ends-extend ids last (a ∷ []) x z h e f same on = absurd (omega arith)
  ends-extend ids last (a ∷ b ∷ bs) x z h e f same on =
      let at : length (a ∷ b ∷ bs) - 1 ≡ length (b ∷ bs) = omega arith in
      let end : z ≡ final b bs = f ∙ ap (λ n. get_or (a ∷ b ∷ bs) n z) at ∙ get_or-final a (b ∷ bs) z in
      rw (e, end) (extended-ends ids a b bs same on.1, rises a b bs on.1)

  -- the last key of grown ones
  pub last-grown : (keys new : List (LogId K)) (id : LogId K) → PlacesRise new → ids_of new ≡ appended (ids_of keys) id → last_id new ≡ Some id
  last-grown keys new id rise e = sym (last_id-ids_of new rise) ∙ ap last_id e ∙ last_id-appended (ids_of keys) id

-- the log id of an item is that at its place
pub item_id : {X Y : Type 0} (f : X → Y) (xs : List X) (i : ℕ) (x : X) (y : Y) → i < length xs → x ≡ get_or xs i x → y ≡ f x → y ≡ get_or (map f xs) i y
item_id f xs i x y h e k = k ∙ ap f e ∙ sym (get_or-map f xs i x y h)
