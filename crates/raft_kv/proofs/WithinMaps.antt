-- Maps within their limits: their spelling is read again, and commands leave them so.
use Rattle.std.proofs.Common.{◌≡◌, ℕ, ◌+◌, ◌-◌, ◌≤◌, Bool, true, false, cond, not, List, [], ◌∷◌, Some, None, Result, Ok, Err, refl, sym, ap, subst, ◌∙◌, arith}
use Rattle.std.specs.Prelude.{◌&&◌, nat_le, T}
use Rattle.std.specs.declared.cmp.Ordering.{Ordering}
use Rattle.std.specs.declared.cmp.Ordering.TheVariants.{Less, Equal, Greater}
use Rattle.std.specs.FinMap as finite
use Rattle.std.specs.FinMap.Entries.{below_all}
use Rattle.std.specs.Ordering.{eq_by_cmp, is_eq, is_lt, ordering_reverse}
use Rattle.std.specs.Cmp.{tied_itself}
use Rattle.std.specs.Cmp.Lexicographic.{nat_list_cmp_total}
use Rattle.std.proofs.lemmas.Bool.Decides.{nat_tests}
use Rattle.raft_bytes.specs.Bytes.{AreBytes}
use Rattle.raft_wire.specs.declared.error.FrameFault.{FrameFault}
use Rattle.raft_wire.specs.Reader.{all_of}
use Rattle.raft_wire.specs.Memberships.{Chained, spelled_list}
use Rattle.raft_wire.proofs.Whole.{whole_again, whole_takes}
use Rattle.raft_wire.specs.declared.kv.KvCommand.{KvCommand}
use Rattle.raft_wire.specs.declared.kv.KvCommand.TheVariants.{Put, Get, Drop}
use Rattle.raft_wire.specs.Kv.{IsKey, IsValue, FitsCommand, command_at, spelled_command}
use Rattle.raft_wire.proofs.KvReading.{command_reads}
use Rattle.raft_kv.specs.Map.{key_count_limit, Map, Pair, are_rising, in_order, is_map_read, map_in, map_read, nothing_left, pairs_at, restored, spelled_map, spelled_pair, IsWithin}
use Rattle.raft_kv.specs.Machine.{after_command, answer_in, answer_to, is_full_for, state_after}
use Rattle.raft_kv.proofs.Reading.{FitsPair, FitsPairs, pairs_reads}
use Rattle.raft_kv.proofs.Maps.{from_rising, passes, same_key}

-- ---- the entries of a map, and what its keys have

pub first_of : (a b : Bool) → T (a && b) → T a
first_of true b p = tt
first_of false b p = absurd p

pub second_of : (a b : Bool) → T (a && b) → T b
second_of true b p = p
second_of false b p = absurd p

less : (o : Ordering) → T (is_lt o) → o ≡ Less
less Less p = refl
less Equal p = absurd p
less Greater p = absurd p

apart : (key x : List ℕ) → in_order x key ≡ Less → is_eq (in_order key x) ≡ false
apart key x l = ap is_eq (nat_list_cmp_total.antisymm key x ∙ ap ordering_reverse l)

-- a key that later pairs have is above the one before them
not_below : (x key value : List ℕ) (pairs : List Pair) → T (below_all in_order x pairs) → finite.find in_order key pairs ≡ Some value → is_eq (in_order key x) ≡ false
not_below x key value [] b h = absurd cc
not_below x key value (pair ∷ pairs) b h = by (is_eq (in_order key pair.0)) refl h (not_below x key value pairs (second_of _ _ b)) where
  by : (t : Bool) → is_eq (in_order key pair.0) ≡ t → cond t (Some pair.1) (finite.find in_order key pairs) ≡ Some value → (finite.find in_order key pairs ≡ Some value → is_eq (in_order key x) ≡ false)
      → is_eq (in_order key x) ≡ false
  by true at f later = apart key x (subst (λ (l : List ℕ). in_order x l ≡ Less) (sym (same_key key pair.0 at)) (less (in_order x pair.0) (first_of _ _ b)))
  by false at f later = later f

pub itself : (key : List ℕ) → is_eq (in_order key key) ≡ true
itself key = ap is_eq (tied_itself nat_list_cmp_total key)

chained : (pairs : List Pair) → T (finite.is_sorted in_order pairs) → ((key value : List ℕ) → finite.find in_order key pairs ≡ Some value → IsKey key × IsValue value)
    → Chained (λ _ pair. FitsPair pair) nothing_left None pairs
chained [] s h = tt
chained (pair ∷ pairs) s h =
    let first : finite.find in_order pair.0 (pair ∷ pairs) ≡ Some pair.1 = ap (λ (b : Bool). cond b (Some pair.1) (finite.find in_order pair.0 pairs)) (itself pair.0) in (
      h pair.0 pair.1 first,
      chained pairs (second_of _ _ s) (λ key value f.
          let other : is_eq (in_order key pair.0) ≡ false = not_below pair.0 key value pairs (first_of _ _ s) f in
          h key value (ap (λ (b : Bool). cond b (Some pair.1) (finite.find in_order key pairs)) other ∙ f)),
    )

pub entries_fit : (m : Map) → IsWithin m → FitsPairs (finite.entries m)
entries_fit m h = (
  subst (λ (n : ℕ). n ≤ key_count_limit) (finite.len-entries m) h.count,
  chained (finite.entries m) (finite.entries_sorted m) (λ key value f. h.each key value (finite.get-entries m key ∙ f)),
)

read_again : (m : Map) → IsWithin m → all_of pairs_at (spelled_map m) ≡ Ok (finite.entries m)
read_again m h = whole_again pairs_at (spelled_list spelled_pair) FitsPairs pairs_reads (finite.entries m) (entries_fit m h)

rises : (m : Map) → are_rising (finite.entries m) ≡ true
rises m = passes _ (finite.entries_sorted m)

-- the spelling of a map spells that map
pub map_again : (m : Map) → IsWithin m → map_in (spelled_map m) ≡ m
map_again m h =
    let sorted = finite.entries_sorted m in
    ap map_read (read_again m h) ∙ ap (λ (b : Bool). cond b (finite.from_entries {R = in_order} (finite.entries m)) finite.empty) (rises m)
    ∙ from_rising (finite.entries m) sorted ∙ finite.same_entries_map (finite.from_sorted (finite.entries m)) m (finite.entries-from_sorted in_order (finite.entries m) sorted)

pub restored_again : (m : Map) → IsWithin m → restored (spelled_map m) ≡ spelled_map m
restored_again m h = ap (λ (b : Bool). cond b (spelled_map m) (spelled_map finite.empty)) (ap is_map_read (read_again m h) ∙ rises m)

pub one_map : (m n : Map) → IsWithin m → IsWithin n → spelled_map m ≡ spelled_map n → m ≡ n
one_map m n h k e = sym (map_again m h) ∙ ap map_in e ∙ map_again n k

pub one_command : (c d : KvCommand) → FitsCommand c → FitsCommand d → spelled_command c ≡ spelled_command d → c ≡ d
one_command c d h k e =
    let same : Ok c ≡ Ok d =
    sym (whole_again command_at spelled_command FitsCommand command_reads c h) ∙ ap (all_of command_at) e ∙ whole_again command_at spelled_command FitsCommand command_reads d k in
    cc

-- ---- commands leave a map within its limits

pub empty_within : IsWithin finite.empty
empty_within = record {
  count = subst (λ (n : ℕ). n ≤ key_count_limit) (sym (finite.len-empty in_order (List ℕ))) (omega arith);
  each = λ key value f. absurd (let e : None ≡ Some value = sym (finite.get-empty in_order key) ∙ f in cc);
}

same_value : (x y : List ℕ) → Some x ≡ Some y → x ≡ y
same_value x y e = cc

pub insert_within : (m : Map) (key value : List ℕ) → is_full_for m key ≡ false → IsKey key → IsValue value → IsWithin m → IsWithin (finite.insert m key value)
insert_within m key value full fits_key fits_value h = record {
  count = room (finite.contains_key m key) full (finite.len-insert nat_list_cmp_total m key value);
  each = λ q w f. by q w (eq_by_cmp in_order q key) refl (sym (finite.get-insert nat_list_cmp_total m key value q) ∙ f);
}
  where
    room : (there : Bool) → (nat_le key_count_limit (finite.len m) && not there) ≡ false → finite.len (finite.insert m key value) ≡ cond there (finite.len m) (finite.len m + 1) → finite.len (finite.insert m key value) ≤ key_count_limit
    room true full is = omega (arith, h.count, is)
    room false full is = grind (arith, nat_tests, h.count, full, is)

    by : (q w : List ℕ) (b : Bool) → eq_by_cmp in_order q key ≡ b → cond b (Some value) (finite.get m q) ≡ Some w → IsKey q × IsValue w
    by q w true at f = (subst IsKey (sym (same_key q key at)) fits_key, subst IsValue (same_value value w f) fits_value)
    by q w false at f = h.each q w f

remove_within : (m : Map) (key : List ℕ) → IsWithin m → IsWithin (finite.remove m key)
remove_within m key h = record {
  count = fewer (finite.contains_key m key) (finite.len-remove nat_list_cmp_total m key);
  each = λ q w f. by q w (eq_by_cmp in_order q key) (sym (finite.get-remove nat_list_cmp_total m key q) ∙ f);
}
  where
    fewer : (there : Bool) → finite.len (finite.remove m key) ≡ cond there (finite.len m - 1) (finite.len m) → finite.len (finite.remove m key) ≤ key_count_limit
    fewer true is = omega (arith, h.count, is)
    fewer false is = omega (arith, h.count, is)

    by : (q w : List ℕ) (b : Bool) → cond b None (finite.get m q) ≡ Some w → IsKey q × IsValue w
    by q w true f = absurd (let e : None ≡ Some w = f in cc)
    by q w false f = h.each q w f

pub command_within : (m : Map) (command : KvCommand) → IsWithin m → FitsCommand command → IsWithin (after_command m command)
command_within m (Put key value) h fits = by (is_full_for m key) refl where
  by : (b : Bool) → is_full_for m key ≡ b → IsWithin (cond b m (finite.insert m key value))
  by true full = h
  by false full = insert_within m key value full fits.0 fits.1 h
command_within m (Get key) h fits = h
command_within m (Drop key) h fits = remove_within m key h

-- ---- steps on bytes

pub step_of : (m : Map) (command : KvCommand) → IsWithin m → FitsCommand command → state_after (spelled_map m) (all_of command_at (spelled_command command)) ≡ spelled_map (after_command m command)
step_of m command h fits =
    ap (state_after (spelled_map m)) (whole_again command_at spelled_command FitsCommand command_reads command fits)
    ∙ ap (λ (n : Map). spelled_map (after_command n command)) (map_again m h)

pub answer_given : (m : Map) (command : KvCommand) → IsWithin m → FitsCommand command → answer_in (spelled_map m) (all_of command_at (spelled_command command)) ≡ answer_to m command
answer_given m command h fits =
    ap (answer_in (spelled_map m)) (whole_again command_at spelled_command FitsCommand command_reads command fits)
    ∙ ap (λ (n : Map). answer_to n command) (map_again m h)

module _ (state bytes : List ℕ) (fits : AreBytes bytes) (none : (command : KvCommand) → FitsCommand command → bytes ≡ spelled_command command → ⊥) where
  pub other_step : state_after state (all_of command_at bytes) ≡ state
  other_step = by (all_of command_at bytes) refl where
    by : (read : Result KvCommand FrameFault) → all_of command_at bytes ≡ read → state_after state read ≡ state
    by (Ok command) e = let t = whole_takes command_at spelled_command FitsCommand command_reads bytes command fits e in absurd (none command t.0 t.1)
    by (Err f) e = refl

  pub other_answer : answer_in state (all_of command_at bytes) ≡ []
  other_answer = by (all_of command_at bytes) refl where
    by : (read : Result KvCommand FrameFault) → all_of command_at bytes ≡ read → answer_in state read ≡ []
    by (Ok command) e = let t = whole_takes command_at spelled_command FitsCommand command_reads bytes command fits e in absurd (none command t.0 t.1)
    by (Err f) e = refl
