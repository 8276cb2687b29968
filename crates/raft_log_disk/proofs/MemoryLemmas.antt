-- What the changes of a file in memory stand for.
use Rattle.std.proofs.Common.{◌≡◌, ℕ, ◌+◌, ◌-◌, ◌<◌, ◌≤◌, min, max, List, [], ◌∷◌, ◌++◌, length, get_or, take, refl, sym, ap, ◌∙◌, arith, append_assoc}
use Rattle.std.proofs.lemmas.List.{map-append, take_more}
use Rattle.raft_log_disk.specs.declared.memory_file.MemoryFile.{MemoryFile}
use Rattle.raft_log_disk.specs.declared.memory_file.Change.{Change}
use Rattle.raft_log_disk.specs.declared.memory_file.Written.{Written}
use Rattle.raft_log_disk.specs.Disk.{after_write, after_truncate, after_allocate, renamed}
use Rattle.raft_log_disk.specs.Memory.{state_of}
use Rattle.raft_log_disk.specs.Changes.{spans_of, ranges_of, undo, undone, noted_file}

undone_more : (cs : List Change) (c : Change) (bytes : List ℕ) → undone (cs ++ c ∷ []) bytes ≡ undone cs (undo c bytes)
undone_more [] c bytes = refl
undone_more (d ∷ cs) c bytes = ap (undo d) (undone_more cs c bytes)

pub kept_by : (cs ds : List Change) (c : Change) (bytes old : List ℕ) → ds ≡ cs ++ c ∷ [] → undo c bytes ≡ old → undone ds bytes ≡ undone cs old
kept_by cs ds c bytes old is back = ap (λ l. undone l bytes) is ∙ undone_more cs c bytes ∙ ap (undone cs) back

pub ranges_more : (cs ds : List Change) (c : Change) (from to : ℕ) → ds ≡ cs ++ c ∷ [] → c.from ≡ from → c.to ≡ to → ranges_of ds ≡ ranges_of cs ++ (from, to) ∷ []
ranges_more cs ds c from to is f t = ap ranges_of is ∙ map-append (λ (c : Change). (c.from, c.to)) cs (c ∷ []) ∙ (λ i. ranges_of cs ++ (f i, t i) ∷ [])

pub spans_more : (ws vs : List Written) (w : Written) (at : ℕ) (bytes : List ℕ) → vs ≡ ws ++ w ∷ [] → w.at ≡ at → w.bytes.items ≡ bytes → spans_of vs ≡ spans_of ws ++ (at, bytes) ∷ []
spans_more ws vs w at bytes is a b = ap spans_of is ∙ map-append (λ (w : Written). (w.at, w.bytes.items)) ws (w ∷ []) ∙ (λ i. spans_of ws ++ (a i, b i) ∷ [])

-- writes that are copied one by one
pub spans_copied : (from to after : List Written) (first : List (ℕ × List ℕ)) (at : ℕ) (w v : Written) → spans_of to ≡ first ++ spans_of (take at from) → at < length from → w ≡ get_or from at w → v.at ≡ w.at → v.bytes.items ≡ w.bytes.items → after ≡ to ++ v ∷ []
    → spans_of after ≡ first ++ spans_of (take (at + 1) from)
spans_copied from to after first at w v was lt is place bytes pushed =
    spans_more to after v w.at w.bytes.items pushed place bytes
    ∙ ap (λ l. l ++ (w.at, w.bytes.items) ∷ []) was
    ∙ append_assoc first (spans_of (take at from)) ((w.at, w.bytes.items) ∷ [])
    ∙ ap (λ l. first ++ l) (sym (spans_more (take at from) (take (at + 1) from) w w.at w.bytes.items (take_more from at w lt ∙ ap (λ (x : Written). take at from ++ x ∷ []) (sym is)) refl refl))

-- nothing was noted
pub unnoted : (old : MemoryFile) (ds : List Change) (ws : List Written) → ds ≡ old.changes.items → ws ≡ old.later.items → noted_file old.bytes.items ds old.least old.greatest old.earlier.items ws old.brought.items ≡ state_of old
unnoted old ds ws cs written = λ i. noted_file old.bytes.items (cs i) old.least old.greatest old.earlier.items (written i) old.brought.items

-- a write that was noted
pub write_noted : (old : MemoryFile) (ds : List Change) (ws : List Written) (c : Change) (w : Written) (at greatest : ℕ) (seen target bytes : List ℕ)
    → ds ≡ old.changes.items ++ c ∷ [] → ws ≡ old.later.items ++ w ∷ [] → c.from ≡ at → c.to ≡ at + length bytes → undo c target ≡ old.bytes.items
    → w.at ≡ at → w.bytes.items ≡ bytes → greatest ≡ max old.greatest (at + length bytes) → seen ≡ target
    → noted_file seen ds old.least greatest old.earlier.items ws old.brought.items ≡ after_write (state_of old) at bytes target
write_noted old ds ws c w at greatest seen target bytes cs written from to back place is_bytes grew is =
    let kept : undone ds seen ≡ undone old.changes.items old.bytes.items = ap (undone ds) is ∙ kept_by old.changes.items ds c target old.bytes.items cs back in
    let changed = ranges_more old.changes.items ds c at (at + length bytes) cs from to in
    let later = spans_more old.later.items ws w at bytes written place is_bytes in
    λ i. record {
      bytes = is i;
      kept = kept i;
      changed = changed i;
      least = old.least;
      greatest = grew i;
      earlier = spans_of old.earlier.items;
      later = later i;
      brought = old.brought.items;
    }

-- a cut or a lengthening that was noted
pub truncate_noted : (old : MemoryFile) (ds : List Change) (c : Change) (len least greatest : ℕ) (seen target : List ℕ)
    → ds ≡ old.changes.items ++ c ∷ [] → c.from ≡ min len (length old.bytes.items) → c.to ≡ max len (length old.bytes.items) → undo c target ≡ old.bytes.items
    → least ≡ min old.least len → greatest ≡ max old.greatest len → seen ≡ target
    → noted_file seen ds least greatest old.earlier.items old.later.items old.brought.items
    ≡ after_truncate (state_of old) len target
truncate_noted old ds c len least greatest seen target cs from to back fell grew is =
    let kept : undone ds seen ≡ undone old.changes.items old.bytes.items = ap (undone ds) is ∙ kept_by old.changes.items ds c target old.bytes.items cs back in
    let changed = ranges_more old.changes.items ds c (min len (length old.bytes.items)) (max len (length old.bytes.items)) cs from to in
    λ i. record {
      bytes = is i;
      kept = kept i;
      changed = changed i;
      least = fell i;
      greatest = grew i;
      earlier = spans_of old.earlier.items;
      later = spans_of old.later.items;
      brought = old.brought.items;
    }

-- room that was noted
pub allocate_noted : (old : MemoryFile) (ds : List Change) (c : Change) (at len greatest : ℕ) (seen target : List ℕ)
    → ds ≡ old.changes.items ++ c ∷ [] → c.from ≡ at → c.to ≡ at + len → undo c target ≡ old.bytes.items → greatest ≡ max old.greatest (at + len) → seen ≡ target
    → noted_file seen ds old.least greatest old.earlier.items old.later.items old.brought.items
    ≡ after_allocate (state_of old) at len target
allocate_noted old ds c at len greatest seen target cs from to back grew is =
    let kept : undone ds seen ≡ undone old.changes.items old.bytes.items = ap (undone ds) is ∙ kept_by old.changes.items ds c target old.bytes.items cs back in
    let changed = ranges_more old.changes.items ds c at (at + len) cs from to in
    λ i. record {
      bytes = is i;
      kept = kept i;
      changed = changed i;
      least = old.least;
      greatest = grew i;
      earlier = spans_of old.earlier.items;
      later = spans_of old.later.items;
      brought = old.brought.items;
    }

-- a file under another name
pub renamed_state : (old : MemoryFile) (earlier later : List Written) (brought : List ℕ) → earlier ≡ [] → later ≡ [] → brought ≡ take 69 old.bytes.items
    → noted_file old.bytes.items old.changes.items old.least old.greatest earlier later brought
    ≡ renamed (state_of old)
renamed_state old earlier later brought none nothing front = λ i. record {
  bytes = old.bytes.items;
  kept = undone old.changes.items old.bytes.items;
  changed = ranges_of old.changes.items;
  least = old.least;
  greatest = old.greatest;
  earlier = spans_of (none i);
  later = spans_of (nothing i);
  brought = front i;
}

-- one change fewer
pub undone_less : (cs : List Change) (left : ℕ) (c : Change) (bytes new was : List ℕ) → 0 < left → left ≤ length cs → c ≡ get_or cs (left - 1) c → new ≡ undo c bytes → undone (take left cs) bytes ≡ was → undone (take (left - 1) cs) new ≡ was
undone_less cs left c bytes new was some le is undid back =
    let lt : left - 1 < length cs = omega arith in
    let more : left - 1 + 1 ≡ left = omega arith in
    ap (undone (take (left - 1) cs)) (undid ∙ ap (λ d. undo d bytes) is)
    ∙ sym (undone_more (take (left - 1) cs) (get_or cs (left - 1) c) bytes)
    ∙ ap (λ l. undone l bytes) (sym (take_more cs (left - 1) c lt) ∙ ap (λ n. take n cs) more)
    ∙ back
