-- A record of which one byte behind the first eight was changed is refused by one of its checksums.
use Rattle.std.proofs.Common.{◌≡◌, ◌≢◌, ◌⊎◌, inl, inr, ℕ, ◌+◌, ◌-◌, ◌^◌, ◌<◌, ◌≤◌, Bool, true, false, cond, eqb, List, [], ◌∷◌, ◌++◌, length, take, drop, Option, None, Result, Ok, Err, refl, sym, ap, subst, ◌∙◌, append_assoc, arith, length-append}
use Rattle.std.specs.Prelude.{IfSome, IsErrAnd}
use Rattle.std.specs.List.{list_any, flat_map}
use Rattle.std.specs.Int.{w32, to_be_bytes}
use Rattle.std.proofs.lemmas.Bool.{ne_eqb}
use Rattle.raft_log_records.specs.declared.error.RecordFault.{RecordFault}
use Rattle.raft_log_records.specs.declared.error.RecordFault.TheVariants as fault
use Rattle.raft_log_records.specs.Checksum.{crc32_of}
use Rattle.raft_log_records.specs.declared.error.RecordError.{RecordError}
use Rattle.raft_log_records.specs.declared.error.RecordError.TheVariants as error
use Rattle.raft_log_records.specs.declared.item.EntryIndex.{EntryIndex}
use Rattle.raft_log_records.specs.declared.record.Record.{Record}
use Rattle.raft_log_records.specs.Item.{Item, items_of}
use Rattle.raft_log_records.specs.Batch.{IsRecordChanged}
use Rattle.raft_log_records.specs.Spelling.{holds_entries, block_of, block_part, signed, sealed, lengths, spell_block, spell_item, spell_items, spell_record, record_len, AreItems}
use Rattle.raft_log_records.specs.Reading.{Gives, FailsByChecksum, unsealed, block_at, record_at}
use Rattle.raft_bytes.specs.Bytes.{AreBytes}
use Rattle.raft_log_records.proofs.Again.{body_again}
use Rattle.raft_log_records.proofs.Changed.{joint, changed_seal}
use Rattle.raft_log_records.proofs.RecordAgain.{Parts, head_of, header_again, block_lies, body_lies, agreed_again, limit_is, unsealed_again, count_small, block_place, front_bytes, back_bytes}
use Rattle.raft_log_records.proofs.Fields.{eight}

length_kept : (f g : List ℕ) (x y : ℕ) → length (f ++ y ∷ g) ≡ length (f ++ x ∷ g)
length_kept f g x y = omega (arith, length-append f (y ∷ g), length-append f (x ∷ g))

regroup_items : (head block f back rest : List ℕ) (y : ℕ) → ((head ++ (block ++ f)) ++ y ∷ back) ++ rest ≡ head ++ (block ++ ((f ++ y ∷ back) ++ rest))
regroup_items head block f back rest y = simp append_assoc

regroup_block : (head f g body rest : List ℕ) (y : ℕ) → ((head ++ f) ++ y ∷ (g ++ body)) ++ rest ≡ head ++ ((f ++ y ∷ g) ++ (body ++ rest))
regroup_block head f g body rest y = simp append_assoc

-- the items, or their checksum
items_changed : (signature : Option ℕ) (body f back : List ℕ) (x y len offset : ℕ) (block rest bytes : List ℕ) → IfSome signature (λ s. s < 2 ^ 32) → AreBytes bytes → x < 256 → y ≢ x
    → sealed signature body ≡ f ++ x ∷ back → Parts len offset block (f ++ y ∷ back) rest bytes → record_at signature bytes ≡ Err fault.ItemsChecksum
unfolding record_at
items_changed signature body f back x y len offset block rest bytes s fits byte other e p =
    let behind = back_bytes (head_of len offset) (block ++ ((f ++ y ∷ back) ++ rest)) (subst AreBytes p.whole fits) in
    let new_bytes : AreBytes (f ++ y ∷ back) = front_bytes (f ++ y ∷ back) rest (back_bytes block ((f ++ y ∷ back) ++ rest) behind) in
    let r1 = header_again len offset block (f ++ y ∷ back) rest bytes p in
    let lies = body_lies len offset block (f ++ y ∷ back) rest bytes p in
    let r2 = changed_seal fault.ItemsChecksum signature body f back x y s new_bytes byte other e in
    rw (r1, lies, r2) refl

-- the entries, or their checksum
changed_block : (offset : ℕ) (items : List (Item (List ℕ))) (f g bytes : List ℕ) (x y : ℕ) → AreBytes (f ++ y ∷ g) → x < 256 → y ≢ x → spell_block items ≡ f ++ x ∷ g → offset ≡ 8 + length (f ++ y ∷ g)
    → take (offset - 8) (drop 8 bytes) ≡ f ++ y ∷ g → block_at offset bytes ≡ Err fault.EntriesChecksum
unfolding block_at
changed_block offset items f g bytes x y fits byte other e is lies = by_test (list_any holds_entries items) refl
  where
    by_test : (b : Bool) → list_any holds_entries items ≡ b → cond (eqb offset 8) (Ok []) (unsealed fault.EntriesChecksum None (take (offset - 8) (drop 8 bytes))) ≡ Err fault.EntriesChecksum
    by_test true h =
        let part : sealed None (block_of items) ≡ f ++ x ∷ g = sym (ap (λ (b : Bool). block_part b (block_of items)) h) ∙ e in
        let far : eqb offset 8 ≡ false = ne_eqb _ _ (λ k. omega (arith, length-append f (y ∷ g))) in
        rw (far, lies, changed_seal fault.EntriesChecksum None (block_of items) f g x y tt fits byte other part) refl
    by_test false h =
        let none : [] ≡ f ++ x ∷ g = sym (ap (λ (b : Bool). block_part b (block_of items)) h) ∙ e in
        absurd (omega (arith, ap length none, length-append f (x ∷ g)))

entries_changed : (signature : Option ℕ) (items : List (Item (List ℕ))) (f g : List ℕ) (x y : ℕ) (rest bytes : List ℕ) → IfSome signature (λ s. s < 2 ^ 32) → AreBytes bytes → x < 256 → y ≢ x → AreItems items
    → spell_block items ≡ f ++ x ∷ g → Parts (12 + length (spell_block items) + length (spell_items (lengths items))) (8 + length (spell_block items)) (f ++ y ∷ g) (sealed signature (spell_items (lengths items))) rest bytes
    → record_at signature bytes ≡ Err fault.EntriesChecksum
unfolding record_at record_len
entries_changed signature items f g x y rest bytes h fits byte other are e p =
    let block = f ++ y ∷ g in
    let body = spell_items (lengths items) in
    let sealed_body = sealed signature body in
    let len = 12 + length (spell_block items) + length body in
    let offset = 8 + length (spell_block items) in
    let behind = back_bytes (head_of len offset) (block ++ (sealed_body ++ rest)) (subst AreBytes p.whole fits) in
    let new_bytes = front_bytes block (sealed_body ++ rest) behind in
    let body_fits = front_bytes body (to_be_bytes w32 (signed signature (crc32_of body))) (front_bytes sealed_body rest (back_bytes block (sealed_body ++ rest) behind)) in
    let counted : length (lengths items) < 2 ^ 32 = omega (arith, count_small (lengths items), are.short, length-append (to_be_bytes w32 (length (lengths items))) (flat_map spell_item (lengths items))) in
    let r1 = header_again len offset block sealed_body rest bytes p in
    let r2 = unsealed_again fault.ItemsChecksum signature body h body_fits in
    let r3 = body_again items (offset - 12) are.each counted (limit_is items) in
    let r4 = agreed_again offset items refl in
    let r5 = changed_block offset items f g bytes x y new_bytes byte other e p.offset_is (block_lies len offset block sealed_body rest bytes p) in
    let lies = body_lies len offset block sealed_body rest bytes p in
    rw (r1, lies, r2, r3, r4, r5) refl

pub change_noticed : (signature : Option ℕ) (items : List (Item (List ℕ))) (front back rest bytes : List ℕ) (x y : ℕ) → IfSome signature (λ s. s < 2 ^ 32) → AreBytes bytes → AreItems items
    → spell_record signature items ≡ front ++ x ∷ back → 8 ≤ length front → x < 256 → y ≢ x → bytes ≡ (front ++ y ∷ back) ++ rest
    → (record_at signature bytes ≡ Err fault.ItemsChecksum) ⊎ (record_at signature bytes ≡ Err fault.EntriesChecksum)
unfolding record_len spell_record
change_noticed signature items front back rest bytes x y h fits are spelled behind byte other now = elim (joint head (block ++ sealed_body) front back x (append_assoc (to_be_bytes w32 len) (to_be_bytes w32 offset) (block ++ sealed_body) ∙ spelled)) [
  | inl p ↦ after_head p.0 p.1 p.2
  | inr p ↦ absurd (omega (arith, eight (to_be_bytes w32 len) (to_be_bytes w32 offset) refl refl, ap length p.1, length-append front (x ∷ p.0)))
]
  where
    block : List ℕ
    block = spell_block items

    body : List ℕ
    body = spell_items (lengths items)

    sealed_body : List ℕ
    sealed_body = sealed signature body

    len : ℕ
    len = 12 + length block + length body

    offset : ℕ
    offset = 8 + length block

    head : List ℕ
    head = head_of len offset

    body_len : length sealed_body ≡ length body + 4
    body_len = omega (arith, length-append body (to_be_bytes w32 (signed signature (crc32_of body))))

    body_long : 4 ≤ length body
    body_long = omega (arith, length-append (to_be_bytes w32 (length (lengths items))) (flat_map spell_item (lengths items)))

    after_head : (f : List ℕ) → front ≡ head ++ f → block ++ sealed_body ≡ f ++ x ∷ back → (record_at signature bytes ≡ Err fault.ItemsChecksum) ⊎ (record_at signature bytes ≡ Err fault.EntriesChecksum)
    after_head f is e = elim (joint block sealed_body f back x e) [
      | inl p ↦ inl (items_changed signature body p.0 back x y len offset block rest bytes h fits byte other p.2 (record {
        whole = now ∙ ap (λ l. (l ++ y ∷ back) ++ rest) (is ∙ ap (λ l. head ++ l) p.1) ∙ regroup_items head block p.0 back rest y;
        offset_is = refl;
        len_is = omega (arith, body_len, length_kept p.0 back x y, ap length p.2);
        short = are.short;
        four = omega (arith, body_len, body_long, length_kept p.0 back x y, ap length p.2);
        place = block_place items;
      }))
      | inr p ↦ inr (entries_changed signature items f p.0 x y rest bytes h fits byte other are p.1 (record {
        whole = now ∙ ap (λ l. (l ++ y ∷ back) ++ rest) is ∙ ap (λ l. ((head ++ f) ++ y ∷ l) ++ rest) p.2 ∙ regroup_block head f p.0 sealed_body rest y;
        offset_is = omega (arith, length_kept f p.0 x y, ap length p.1);
        len_is = omega (arith, body_len);
        short = are.short;
        four = omega (arith, body_len, body_long);
        place = subst (λ (n : ℕ). (n ≡ 0) ⊎ (4 ≤ n)) (ap length p.1 ∙ sym (length_kept f p.0 x y)) (block_place items);
      }))
    ]

abbrev Read : Type 0
Read = List (Item EntryIndex) × List ℕ × ℕ

pub is_noticed : (signature : Option ℕ) (bytes : List ℕ) (r : Result Record RecordError) (items : List (Item (List ℕ))) → IfSome signature (λ s. s < 2 ^ 32) → AreBytes bytes
    → Gives (λ r. (items_of r.batch.items.items, r.entries.now, r.len)) r (record_at signature bytes) → AreItems items → IsRecordChanged signature items bytes → IsErrAnd r FailsByChecksum
is_noticed signature bytes r items h fits given are k =
    by_result r given (change_noticed signature items k.front k.back k.rest bytes k.byte k.other h fits are k.spelled k.behind k.is_byte k.changed k.bytes_are)
  where
    failed : RecordFault → Result Read RecordFault
    failed f = Err f

    by_result : (r : Result Record RecordError) → Gives (λ r. (items_of r.batch.items.items, r.entries.now, r.len)) r (record_at signature bytes)
        → (record_at signature bytes ≡ failed fault.ItemsChecksum) ⊎ (record_at signature bytes ≡ failed fault.EntriesChecksum) → IsErrAnd r FailsByChecksum
    by_result (Ok r) given n = elim n [ inl e ↦ never (sym given ∙ e) | inr e ↦ never (sym given ∙ e) ]
      where
        never : {x : Read} {f : RecordFault} → Ok x ≡ failed f → ⊥
        never e = cc
    by_result (Err error.Memory) given n = tt
    by_result (Err error.TooLong) given n = given
    by_result (Err (error.Corruption f)) given n = elim n [ inl e ↦ inl (same f fault.ItemsChecksum (sym given ∙ e)) | inr e ↦ inr (same f fault.EntriesChecksum (sym given ∙ e)) ]
      where
        same : (f g : RecordFault) → failed f ≡ failed g → f ≡ g
        same f g e = cc
