-- Records of atomic groups that stand together: they do so still in part and with more, and old ones may go from the front.
use Rattle.std.proofs.Common.{◌≡◌, ◌⊎◌, inl, inr, ⊎_elim, ℕ, zero, suc, List, [], ◌∷◌, ◌++◌, take, drop, Option, Some, None, refl, sym, ap, ◌∙◌, subst, append_assoc, append-nil}
use Rattle.raft_log_records.specs.declared.item.AtomicGroupStatus.{AtomicGroupStatus}
use Rattle.raft_log_records.specs.declared.item.AtomicGroupStatus.TheVariants.{Begin, Middle, End}
use Rattle.raft_log_records.specs.Item.{Item}
use Rattle.raft_log_memtables.specs.Content.{Content, nothing, after_batch}
use Rattle.raft_log_memtables.specs.Laws.{AreMiddles}
use Rattle.raft_log_memtables.specs.Replay.{Replay, mark_of, after_status, after_marked, after_records, content_of}
use Rattle.raft_log_covers.specs.Account.{Account}
use Rattle.raft_log_covers.specs.Kept.{Traces, IsKept, GivesAll}
use Rattle.raft_log_covers.specs.Queues.{Filed}
use Rattle.raft_log_covers.specs.Written.{Written, IsWritten, AreWritten, records_of, all_records}
use Rattle.raft_log_covers.specs.Written.Written.{alone, grouped, unended}
use Rattle.raft_log_covers.proofs.JoinedLemmas.{same_content_keeps}
use Rattle.raft_log_covers.proofs.KeptLemmas.{old_records_may_go}
use Rattle.raft_log_purge.specs.Anew.{open_by, left_open, MayStandIn, MayStand, StandBehind, StandTogether}

none_some : {P : Type 0} (id : ℕ) → None ≡ Some id → P
none_some id h = absurd cc

anywhere_in : (begun : Option ℕ) (id : ℕ) (status : AtomicGroupStatus) → MayStandIn None id status → MayStandIn begun id status
anywhere_in begun id Begin h = tt
anywhere_in begun id Middle h = none_some id h
anywhere_in begun id End h = none_some id h

-- what may stand behind a record that leaves nothing open may stand behind any
anywhere : (begun : Option ℕ) (m : Option (ℕ × AtomicGroupStatus)) → MayStand None m → MayStand begun m
anywhere begun None h = tt
anywhere begun (Some m) h = anywhere_in begun m.0 m.1 h

-- a record that goes on with an atomic group or ends it
abbrev IsStrayIn : AtomicGroupStatus → Type 0
IsStrayIn Begin = ⊥
IsStrayIn Middle = Unit {0}
IsStrayIn End = Unit {0}

abbrev IsStray : Option (ℕ × AtomicGroupStatus) → Type 0
IsStray None = ⊥
IsStray (Some m) = IsStrayIn m.1

module _ {E : Type 0} where
  -- ---- parts of records, and more records

  behind_any : (begun : Option ℕ) (records : List (List (Item E))) → StandBehind None records → StandBehind begun records
  behind_any begun [] h = tt
  behind_any begun (items ∷ records) h = (anywhere begun (mark_of items) h.0, h.1)

  behind_more : (begun : Option ℕ) (records more : List (List (Item E))) → StandBehind begun records → StandBehind None more → StandBehind begun (records ++ more)
  behind_more begun [] more h m = behind_any begun more m
  behind_more begun (items ∷ records) more h m = (h.0, behind_more (left_open (mark_of items)) records more h.1 m)

  behind_front : (begun : Option ℕ) (records : List (List (Item E))) → StandBehind begun records → (n : ℕ) → StandBehind begun (take n records)
  behind_front begun records h zero = tt
  behind_front begun [] h (suc n) = tt
  behind_front begun (items ∷ records) h (suc n) = (h.0, behind_front (left_open (mark_of items)) records h.1 n)

  from_behind : (begun : Option ℕ) (records : List (List (Item E))) → StandBehind begun records → StandTogether records
  from_behind begun [] h = tt
  from_behind begun (items ∷ records) h = h.1

  pub fronts_together : (records : List (List (Item E))) → StandTogether records → (n : ℕ) → StandTogether (take n records)
  fronts_together records h zero = tt
  fronts_together [] h (suc n) = tt
  fronts_together (items ∷ records) h (suc n) = behind_front (left_open (mark_of items)) records h n

  pub behinds_together : (records : List (List (Item E))) → StandTogether records → (n : ℕ) → StandTogether (drop n records)
  behinds_together records h zero = h
  behinds_together [] h (suc n) = tt
  behinds_together (items ∷ records) h (suc n) = behinds_together records (from_behind (left_open (mark_of items)) records h) n

  -- a record with this mark, and what comes behind it
  marked_behind : (begun : Option ℕ) (items : List (Item E)) (records : List (List (Item E))) (m : Option (ℕ × AtomicGroupStatus)) → mark_of items ≡ m → MayStand begun m → StandBehind (left_open m) records
      → StandBehind begun (items ∷ records)
  marked_behind begun items records m e s h = subst (λ (o : Option (ℕ × AtomicGroupStatus)). MayStand begun o × StandBehind (left_open o) records) (sym e) (s, h)

  middles_behind : (id : ℕ) (middles records : List (List (Item E))) → AreMiddles id middles → StandBehind (Some id) records → StandBehind (Some id) (middles ++ records)
  middles_behind id [] records a h = h
  middles_behind id (items ∷ middles) records a h = marked_behind (Some id) items (middles ++ records) (Some (id, Middle)) a.0 refl (middles_behind id middles records a.1 h)

  written_behind : (w : Written E) (records : List (List (Item E))) → IsWritten w → StandBehind None records → StandBehind None (records_of w ++ records)
  written_behind (alone items) records w h = marked_behind None items records None w tt h
  written_behind (grouped id first middles last) records w h =
      marked_behind None first ((middles ++ last ∷ []) ++ records) (Some (id, Begin)) w.0 tt
      (subst (λ (rs : List (List (Item E))). StandBehind (Some id) rs) (sym (append_assoc middles (last ∷ []) records))
      (middles_behind id middles (last ∷ records) w.1 (marked_behind (Some id) last records (Some (id, End)) w.2 refl h)))
  written_behind (unended id first middles) records w h =
      marked_behind None first (middles ++ records) (Some (id, Begin)) w.0 tt (middles_behind id middles records w.1 (behind_any (Some id) records h))

  all_behind : (ws : List (Written E)) → AreWritten ws → StandBehind None (all_records ws)
  all_behind [] a = tt
  all_behind (w ∷ ws) a = written_behind w (all_records ws) a.0 (all_behind ws a.1)

  pub more_together : (records : List (List (Item E))) (ws : List (Written E)) → StandTogether records → AreWritten ws → StandTogether (records ++ all_records ws)
  more_together [] ws h a = from_behind None (all_records ws) (all_behind ws a)
  more_together (items ∷ records) ws h a = behind_more (left_open (mark_of items)) records (all_records ws) h (all_behind ws a)

  -- ---- what stands together was written as records and atomic groups, but for what is left of a first one

  abbrev Closed : List (List (Item E)) → Type 0
  Closed records = (ws : List (Written E)) × AreWritten ws × (records ≡ all_records ws)

  -- the rest of an atomic group without its first record, and with its last one or without
  abbrev Rest : ℕ → List (List (Item E)) → Type 0
  Rest id records = Closed records ⊎ ((last : List (Item E)) × (more : List (List (Item E))) × (mark_of last ≡ Some (id, End)) × Closed more × (records ≡ last ∷ more))

  abbrev Opened : ℕ → List (List (Item E)) → Type 0
  Opened id records = (middles : List (List (Item E))) × (more : List (List (Item E))) × AreMiddles id middles × Rest id more × (records ≡ middles ++ more)

  abbrev Behind : Option ℕ → List (List (Item E)) → Type 0
  Behind None records = Closed records
  Behind (Some id) records = Opened id records

  as_behind : (begun : Option ℕ) (records : List (List (Item E))) → Closed records → Behind begun records
  as_behind None records c = c
  as_behind (Some id) records c = ([], records, tt, inl c, refl)

  first_of_group : (id : ℕ) (items : List (Item E)) (records : List (List (Item E))) → mark_of items ≡ Some (id, Begin) → Opened id records → Closed (items ∷ records)
  first_of_group id items records e o = ⊎_elim
      (λ (c : Closed o.1). (unended id items o.0 ∷ c.0, ((e, o.2), c.1), ap (λ l. items ∷ l) (o.4 ∙ ap (λ l. o.0 ++ l) c.2)))
      (λ (r : (last : List (Item E)) × (more : List (List (Item E))) × (mark_of last ≡ Some (id, End)) × Closed more × (o.1 ≡ last ∷ more)). (
        grouped id items o.0 r.0 ∷ r.3.0,
        ((e, o.2, r.2), r.3.1),
        ap (λ l. items ∷ l) (o.4 ∙ ap (λ l. o.0 ++ l) (r.4 ∙ ap (λ l. r.0 ∷ l) r.3.2) ∙ sym (append_assoc o.0 (r.0 ∷ []) (all_records r.3.0))),
      ))
      o.3

  one_more : (begun : Option ℕ) (items : List (Item E)) (records : List (List (Item E))) (id : ℕ) (status : AtomicGroupStatus) → mark_of items ≡ Some (id, status) → MayStandIn begun id status
      → Behind (open_by id status) records → Behind begun (items ∷ records)
  one_more begun items records id Begin e s b = as_behind begun (items ∷ records) (first_of_group id items records e b)
  one_more begun items records id Middle e s b = subst (λ (o : Option ℕ). Behind o (items ∷ records)) (sym s) (items ∷ b.0, b.1, (e, b.2), b.3, ap (λ l. items ∷ l) b.4)
  one_more begun items records id End e s b = subst (λ (o : Option ℕ). Behind o (items ∷ records)) (sym s) ([], items ∷ records, tt, inr (items, records, e, b, refl), refl)

  alone_first : (items : List (Item E)) (records : List (List (Item E))) → mark_of items ≡ None → Closed records → Closed (items ∷ records)
  alone_first items records e c = (alone items ∷ c.0, (e, c.1), ap (λ l. items ∷ l) c.2)

  by_mark : (begun : Option ℕ) (items : List (Item E)) (records : List (List (Item E))) (m : Option (ℕ × AtomicGroupStatus)) → mark_of items ≡ m → MayStand begun m
      → Behind (left_open m) records → Behind begun (items ∷ records)
  by_mark begun items records None e s b = as_behind begun (items ∷ records) (alone_first items records e b)
  by_mark begun items records (Some m) e s b = one_more begun items records m.0 m.1 e s b

  were_written : (begun : Option ℕ) (records : List (List (Item E))) → StandBehind begun records → Behind begun records
  were_written begun [] h = as_behind begun [] ([], tt, refl)
  were_written begun (items ∷ records) h = by_mark begun items records (mark_of items) refl h.0 (were_written (left_open (mark_of items)) records h.1)

  -- ---- what is left of a first atomic group counts nothing

  abbrev AreStrays : List (List (Item E)) → Type 0
  AreStrays [] = Unit {0}
  AreStrays (items ∷ records) = IsStray (mark_of items) × AreStrays records

  abbrev start : Replay E (Content E)
  start = record { state = nothing; begun = None }

  stray_counts : (items : List (Item E)) (m : Option (ℕ × AtomicGroupStatus)) → IsStray m → after_marked after_batch items m start ≡ start
  stray_counts items None h = absurd h
  stray_counts items (Some m) h = by_status m.0 m.1 h
    where
      by_status : (id : ℕ) (status : AtomicGroupStatus) → IsStrayIn status → after_status after_batch id status items start ≡ start
      by_status id Begin h = absurd h
      by_status id Middle h = refl
      by_status id End h = refl

  strays_count : (strays rest : List (List (Item E))) → AreStrays strays → content_of (strays ++ rest) ≡ content_of rest
  strays_count [] rest h = refl
  strays_count (items ∷ strays) rest h = ap (λ (r : Replay E (Content E)). (after_records after_batch (strays ++ rest) r).state) (stray_counts items (mark_of items) h.0) ∙ strays_count strays rest h.1

  is_stray : (items : List (Item E)) (id : ℕ) (status : AtomicGroupStatus) → mark_of items ≡ Some (id, status) → IsStrayIn status → IsStray (mark_of items)
  is_stray items id status e h = subst (λ (m : Option (ℕ × AtomicGroupStatus)). IsStray m) (sym e) h

  strays_of_middles : (id : ℕ) (middles more : List (List (Item E))) → AreMiddles id middles → AreStrays more → AreStrays (middles ++ more)
  strays_of_middles id [] more a h = h
  strays_of_middles id (items ∷ middles) more a h = (is_stray items id Middle a.0 tt, strays_of_middles id middles more a.1 h)

  abbrev Split : List (List (Item E)) → Type 0
  Split records = (strays : List (List (Item E))) × (ws : List (Written E)) × AreStrays strays × AreWritten ws × (records ≡ strays ++ all_records ws)

  split_opened : (id : ℕ) (records : List (List (Item E))) → Opened id records → Split records
  split_opened id records o = ⊎_elim
      (λ (c : Closed o.1). (o.0 ++ [], c.0, strays_of_middles id o.0 [] o.2 tt, c.1, o.4 ∙ ap (λ l. o.0 ++ l) c.2 ∙ ap (λ l. l ++ all_records c.0) (sym (append-nil o.0))))
      (λ (r : (last : List (Item E)) × (more : List (List (Item E))) × (mark_of last ≡ Some (id, End)) × Closed more × (o.1 ≡ last ∷ more)). (
        o.0 ++ r.0 ∷ [],
        r.3.0,
        strays_of_middles id o.0 (r.0 ∷ []) o.2 (is_stray r.0 id End r.2 tt, tt),
        r.3.1,
        o.4 ∙ ap (λ l. o.0 ++ l) (r.4 ∙ ap (λ l. r.0 ∷ l) r.3.2) ∙ sym (append_assoc o.0 (r.0 ∷ []) (all_records r.3.0)),
      ))
      o.3

  split_closed : (records : List (List (Item E))) → Closed records → Split records
  split_closed records c = ([], c.0, tt, c.1, c.2)

  split_first : (items : List (Item E)) (records : List (List (Item E))) (m : Option (ℕ × AtomicGroupStatus)) → mark_of items ≡ m → Behind (left_open m) records → Split (items ∷ records)
  split_first items records None e b = split_closed (items ∷ records) (alone_first items records e b)
  split_first items records (Some m) e b = by_status m.0 m.1 e b
    where
      by_status : (id : ℕ) (status : AtomicGroupStatus) → mark_of items ≡ Some (id, status) → Behind (open_by id status) records → Split (items ∷ records)
      by_status id Begin e b = split_closed (items ∷ records) (first_of_group id items records e b)
      by_status id Middle e b = split_opened id (items ∷ records) (one_more (Some id) items records id Middle e refl b)
      by_status id End e b = split_opened id (items ∷ records) (one_more (Some id) items records id End e refl b)

  split_of : (records : List (List (Item E))) → StandTogether records → Split records
  split_of [] h = ([], [], tt, tt, refl)
  split_of (items ∷ records) h = split_first items records (mark_of items) refl (were_written (left_open (mark_of items)) records h)

  -- ---- old records go

  left_of : (strays rest : List (List (Item E))) → AreStrays strays → (n : ℕ) → (k : ℕ) × ((more : List (List (Item E))) → content_of (drop n (strays ++ rest) ++ more) ≡ content_of (drop k rest ++ more))
  left_of [] rest h n = (n, λ more. refl)
  left_of (items ∷ strays) rest h zero = (0, λ more. ap content_of (append_assoc (items ∷ strays) rest more) ∙ strays_count (items ∷ strays) (rest ++ more) h)
  left_of (items ∷ strays) rest h (suc n) = left_of strays rest h.1 n

  pub old_go : (traces : Traces) (account : Account) (old : List (List (Item E))) (ws : List (Written E)) (content : Content E) (bs : List (Filed E)) → StandTogether old → AreWritten ws
      → IsKept traces account (old ++ all_records ws) content bs → GivesAll traces account content (content_of (all_records ws))
      → (n : ℕ) → IsKept traces account (drop n old ++ all_records ws) content bs
  old_go traces account old ws content bs together written k gives n =
      let new = all_records ws in
      let split = split_of old together in
      let rest = all_records split.1 in
      let cut = left_of split.0 rest split.2 n in
      let whole : content_of (old ++ new) ≡ content_of (rest ++ new) = ap (λ (l : List (List (Item E))). content_of (l ++ new)) split.4 ∙ ap content_of (append_assoc split.0 rest new) ∙ strays_count split.0 (rest ++ new) split.2 in
      let left : content_of (drop n old ++ new) ≡ content_of (drop cut.0 rest ++ new) = ap (λ (l : List (List (Item E))). content_of (drop n l ++ new)) split.4 ∙ cut.1 new in
      same_content_keeps traces account (drop cut.0 rest ++ new) (drop n old ++ new) content bs (sym left)
      (old_records_may_go traces account split.1 ws content bs split.3 written (same_content_keeps traces account (old ++ new) (rest ++ new) content bs whole k) gives cut.0)
