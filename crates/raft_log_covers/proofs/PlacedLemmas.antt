-- Which file an account names of what is there, after a replay.
use Rattle.std.proofs.Common.{◌≡◌, ℕ, Bool, true, false, cond, List, [], ◌∷◌, Option, Some, None, refl, sym, ap, ◌∙◌, subst}
use Rattle.std.specs.Prelude.{nat_eq, nat_le, nat_lt, bytes_eq, IsSome}
use Rattle.raft_log_records.specs.Item.{Change, Item}
use Rattle.raft_log_records.specs.Item.Change.{entries, clean, compact, put, delete, mark}
use Rattle.raft_log_records.specs.Spelling.{first_index}
use Rattle.raft_log_memtables.specs.Content.{GroupContent, Content, after_batch, after_change, after_item, entry_at}
use Rattle.raft_log_covers.specs.Cells.{after_batches}
use Rattle.raft_log_covers.specs.Cells.Cell.{index, key}
use Rattle.raft_log_covers.specs.Queues.{Filed, batches_of}
use Rattle.raft_log_covers.specs.Account.{Account, account_after, account_after_all, no_account}
use Rattle.raft_log_covers.specs.Kept.{Traces, traces_after, traces_after_all, traces_after_item}
use Rattle.raft_log_covers.specs.Marks.{Names}
use Rattle.raft_log_covers.specs.Placed.{EachIn, ChangeIn, ItemsIn, AreFiled, PlacesTellFiles, TracesTellKeys}
use Rattle.raft_log_covers.specs.Trace.{Trace, cut, entered, greater, names_after, trace_after}
use Rattle.raft_log_covers.proofs.KeptLemmas.{account_after_item, account_after_items, same_account}

entered_keys : (file first next : ℕ) (t : Trace) (b : Bool) (k : List ℕ) → (entered file first next t b).key_file k ≡ t.key_file k
entered_keys file first next t true k = refl
entered_keys file first next t false k = refl

cut_keys : (file low : ℕ) (t : Trace) (b : Bool) (k : List ℕ) → (cut file low t b).key_file k ≡ t.key_file k
cut_keys file low t true k = refl
cut_keys file low t false k = refl

module _ {E : Type 0} where
  -- ---- entries, by their places

  abbrev TellsPlaces : (E → Option ℕ) → GroupContent E → Names → Type 0
  TellsPlaces at g names = (i : ℕ) (e : E) → g.entry i ≡ Some e → names (index i) ≡ at e

  each_in : (at : E → Option ℕ) (file : ℕ) (es : List (ℕ × E)) (i : ℕ) (e : E) → EachIn at file es → entry_at es i ≡ Some e → Some file ≡ at e
  each_in at file [] i e all is = absurd cc
  each_in at file (x ∷ es) i e all is = by_test (λ found. each_in at file es i e all.1 found) (nat_eq x.0 i) is
    where
      by_test : (entry_at es i ≡ Some e → Some file ≡ at e) → (b : Bool) → cond b (Some x.1) (entry_at es i) ≡ Some e → Some file ≡ at e
      by_test rest true found =
          let same : x.1 ≡ e = cc in
          sym all.0 ∙ ap at same
      by_test rest false found = rest found

  change_places : (at : E → Option ℕ) (file : ℕ) (change : Change E) (g : GroupContent E) (names : Names) → ChangeIn at file change → TellsPlaces at g names → TellsPlaces at (after_change change g) (names_after file change names)
  change_places at file (entries es) g names all tells i e is = by_test (nat_le (first_index es) i) is
    where
      by_test : (b : Bool) → cond b (entry_at es i) (g.entry i) ≡ Some e → cond b (Some file) (names (index i)) ≡ at e
      by_test true found = each_in at file es i e all found
      by_test false found = tells i e found
  change_places at file clean g names all tells i e is = absurd cc
  change_places at file (compact limit) g names all tells i e is = by_test (nat_lt i limit) is
    where
      by_test : (b : Bool) → cond b None (g.entry i) ≡ Some e → cond b (Some file) (names (index i)) ≡ at e
      by_test true found = absurd cc
      by_test false found = tells i e found
  change_places at file (put name value) g names all tells i e is = tells i e is
  change_places at file (delete name) g names all tells i e is = tells i e is
  change_places at file (mark id status) g names all tells i e is = tells i e is

  abbrev GroupsTellPlaces : (E → Option ℕ) → Content E → Account → Type 0
  GroupsTellPlaces at content account = (group : ℕ) → TellsPlaces at (content group) (account group)

  item_places : (at : E → Option ℕ) (file : ℕ) (item : Item E) (content : Content E) (account : Account) → ChangeIn at file item.change → GroupsTellPlaces at content account
      → GroupsTellPlaces at (after_item item content) (account_after_item file item account)
  item_places at file item content account all tells group = by_group (nat_eq item.group group)
    where
      by_group : (b : Bool) → TellsPlaces at (cond b (after_change item.change (content group)) (content group)) (cond b (names_after file item.change (account group)) (account group))
      by_group true = change_places at file item.change (content group) (account group) all (tells group)
      by_group false = tells group

  items_places : (at : E → Option ℕ) (file : ℕ) (items : List (Item E)) (content : Content E) (account : Account) → ItemsIn at file items → GroupsTellPlaces at content account
      → GroupsTellPlaces at (after_batch items content) (account_after_items file items account)
  items_places at file [] content account all tells = tells
  items_places at file (item ∷ items) content account all tells =
      items_places at file items (after_item item content) (account_after_item file item account) all.1 (item_places at file item content account all.0 tells)

  batch_places : (at : E → Option ℕ) (file : ℕ) (items : List (Item E)) (content : Content E) (account : Account) → ItemsIn at file items → GroupsTellPlaces at content account
      → GroupsTellPlaces at (after_batch items content) (account_after file items account)
  batch_places at file items content account all tells =
      subst (λ (a : Account). GroupsTellPlaces at (after_batch items content) a) (λ i. λ group c. same_account file items account group c i) (items_places at file items content account all tells)

  all_places : (at : E → Option ℕ) (bs : List (Filed E)) (content : Content E) (account : Account) → AreFiled at bs → GroupsTellPlaces at content account
      → GroupsTellPlaces at (after_batches (batches_of bs) content) (account_after_all bs account)
  all_places at [] content account all tells = tells
  all_places at (b ∷ bs) content account all tells =
      all_places at bs (after_batch b.items content) (account_after b.file b.items account) all.1 (batch_places at b.file b.items content account all.0 tells)

  pub places_tell_files : PlacesTellFiles E
  places_tell_files at older bs none all = all_places at bs older no_account all (λ group i e is. sym (none group i e is))

  -- ---- keys, by traces

  abbrev TellsKeys : Trace → GroupContent E → Names → Type 0
  TellsKeys t g names = (k : List ℕ) → IsSome (g.value k) → names (key k) ≡ t.key_file k

  change_keys : (file : ℕ) (change : Change E) (t : Trace) (g : GroupContent E) (names : Names) → TellsKeys t g names → TellsKeys (trace_after file change t) (after_change change g) (names_after file change names)
  change_keys file (entries es) t g names tells k is = tells k is ∙ sym (entered_keys file _ _ t (nat_lt t.low t.next) k)
  change_keys file clean t g names tells k is = absurd cc
  change_keys file (compact limit) t g names tells k is = tells k is ∙ sym (cut_keys file _ t (nat_lt (greater t.low limit) t.next) k)
  change_keys file (put name value) t g names tells k is = by_test (bytes_eq name k) is
    where
      by_test : (b : Bool) → IsSome (cond b (Some value) (g.value k)) → cond b (Some file) (names (key k)) ≡ cond b (Some file) (t.key_file k)
      by_test true found = refl
      by_test false found = tells k found
  change_keys file (delete name) t g names tells k is = by_test (bytes_eq name k) is
    where
      by_test : (b : Bool) → IsSome (cond b None (g.value k)) → cond b (Some file) (names (key k)) ≡ cond b None (t.key_file k)
      by_test true found = absurd cc
      by_test false found = tells k found
  change_keys file (mark id status) t g names tells k is = tells k is

  abbrev GroupsTellKeys : Traces → Content E → Account → Type 0
  GroupsTellKeys traces content account = (group : ℕ) → TellsKeys (traces group) (content group) (account group)

  item_keys : (file : ℕ) (item : Item E) (traces : Traces) (content : Content E) (account : Account) → GroupsTellKeys traces content account
      → GroupsTellKeys (traces_after_item file item traces) (after_item item content) (account_after_item file item account)
  item_keys file item traces content account tells group = by_group (nat_eq item.group group)
    where
      by_group : (b : Bool)
          → TellsKeys (cond b (trace_after file item.change (traces group)) (traces group)) (cond b (after_change item.change (content group)) (content group)) (cond b (names_after file item.change (account group)) (account group))
      by_group true = change_keys file item.change (traces group) (content group) (account group) (tells group)
      by_group false = tells group

  items_keys : (file : ℕ) (items : List (Item E)) (traces : Traces) (content : Content E) (account : Account) → GroupsTellKeys traces content account
      → GroupsTellKeys (traces_after file items traces) (after_batch items content) (account_after_items file items account)
  items_keys file [] traces content account tells = tells
  items_keys file (item ∷ items) traces content account tells =
      items_keys file items (traces_after_item file item traces) (after_item item content) (account_after_item file item account) (item_keys file item traces content account tells)

  batch_keys : (file : ℕ) (items : List (Item E)) (traces : Traces) (content : Content E) (account : Account) → GroupsTellKeys traces content account
      → GroupsTellKeys (traces_after file items traces) (after_batch items content) (account_after file items account)
  batch_keys file items traces content account tells =
      subst (λ (a : Account). GroupsTellKeys (traces_after file items traces) (after_batch items content) a) (λ i. λ group c. same_account file items account group c i) (items_keys file items traces content account tells)

  all_keys : (bs : List (Filed E)) (traces : Traces) (content : Content E) (account : Account) → GroupsTellKeys traces content account
      → GroupsTellKeys (traces_after_all bs traces) (after_batches (batches_of bs) content) (account_after_all bs account)
  all_keys [] traces content account tells = tells
  all_keys (b ∷ bs) traces content account tells =
      all_keys bs (traces_after b.file b.items traces) (after_batch b.items content) (account_after b.file b.items account) (batch_keys b.file b.items traces content account tells)

  pub traces_tell_keys : TracesTellKeys E
  traces_tell_keys older bs traces none = all_keys bs traces older no_account (λ group k is. sym (none group k))
