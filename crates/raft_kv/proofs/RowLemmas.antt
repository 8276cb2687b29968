-- The states and answers of the rows.
use Rattle.std.proofs.Common.{◌≡◌, ℕ, Bool, false, cond, not, List, [], ◌∷◌, ◌++◌, length, Some, refl, sym, ap, ◌∙◌, arith}
use Rattle.std.specs.Prelude.{◌&&◌, codes, nat_le}
use Rattle.std.specs.FinMap as finite
use Rattle.std.specs.FinMap.Entries.{put}
use Rattle.std.specs.Cmp.Lexicographic.{nat_list_cmp_total}
use Rattle.std.proofs.lemmas.List.{nil_from_length}
use Rattle.raft_wire.specs.Memberships.{spelled_list}
use Rattle.raft_wire.specs.declared.kv.KvCommand.TheVariants.{Put, Get, Drop}
use Rattle.raft_wire.specs.Kv.{IsKey, IsValue}
use Rattle.raft_kv.specs.Map.{key_count_limit, Map, in_order, spelled_map, spelled_pair, IsWithin}
use Rattle.raft_kv.specs.Machine.{after_command, answer_of, is_full_for, kv}
use Rattle.raft_kv.specs.Rows.{after_drop, after_get, after_put, drop_apple, get_apple, no_pairs, pair_a, pair_b, put_a, put_apple, put_b}
use Rattle.raft_kv.proofs.WithinMaps.{answer_given, command_within, empty_within, step_of}
use Rattle.raft_kv.proofs.KeyLaws.{got_drop, got_put}

no_entries : finite.entries (finite.empty {X = List ℕ} {R = in_order}) ≡ []
no_entries = nil_from_length _ (sym (finite.len-entries finite.empty) ∙ finite.len-empty in_order (List ℕ))

pub no_pairs_spelled : spelled_map finite.empty ≡ no_pairs
no_pairs_spelled = ap (spelled_list spelled_pair) no_entries

-- a map of so few keys has a place
place : (m : Map) (key : List ℕ) (len : ℕ) → finite.len m ≡ len → nat_le key_count_limit len ≡ false → is_full_for m key ≡ false
place m key len is few = ap (λ (n : ℕ). nat_le key_count_limit n && not (finite.contains_key m key)) is ∙ ap (λ (b : Bool). b && not (finite.contains_key m key)) few

empty_place : (key : List ℕ) → is_full_for finite.empty key ≡ false
empty_place key = place finite.empty key 0 (finite.len-empty in_order (List ℕ)) refl

-- ---- one key

pub put_fits : IsKey (codes "apple") × IsValue (codes "red")
put_fits = (record { some = omega arith; few = omega arith }, record { some = omega arith; few = omega arith })

one : Map
one = after_command finite.empty (Put (codes "apple") (codes "red"))

one_within : IsWithin one
unfolding one
one_within = command_within finite.empty (Put (codes "apple") (codes "red")) empty_within put_fits

put_is : after_put ≡ spelled_map one
unfolding one
put_is = step_of finite.empty (Put (codes "apple") (codes "red")) empty_within put_fits

get_is : after_get ≡ spelled_map one
get_is = ap (λ (state : List ℕ). kv.step state 1 get_apple) put_is ∙ step_of one (Get (codes "apple")) one_within put_fits.0

drop_is : after_drop ≡ spelled_map (finite.remove one (codes "apple"))
drop_is = ap (λ (state : List ℕ). kv.step state 2 drop_apple) get_is ∙ step_of one (Drop (codes "apple")) one_within put_fits.0

has_red : finite.get one (codes "apple") ≡ Some (codes "red")
unfolding one
has_red = got_put finite.empty (codes "apple") (codes "red") (empty_place (codes "apple"))

pub put_answer : kv.answer kv.first 0 put_apple ≡ 0 ∷ []
put_answer =
    answer_given finite.empty (Put (codes "apple") (codes "red")) empty_within put_fits
    ∙ ap (λ (b : Bool). cond b (2 ∷ []) (answer_of (finite.get {R = in_order} finite.empty (codes "apple")))) (empty_place (codes "apple")) ∙ ap answer_of (finite.get-empty in_order (codes "apple"))

pub get_answer : kv.answer after_put 1 get_apple ≡ 1 ∷ codes "red"
get_answer =
    ap (λ (state : List ℕ). kv.answer state 1 get_apple) put_is ∙ answer_given one (Get (codes "apple")) one_within put_fits.0 ∙ ap answer_of has_red

pub drop_answer : kv.answer after_get 2 drop_apple ≡ 1 ∷ codes "red"
drop_answer =
    ap (λ (state : List ℕ). kv.answer state 2 drop_apple) get_is ∙ answer_given one (Drop (codes "apple")) one_within put_fits.0 ∙ ap answer_of has_red

pub again_answer : kv.answer after_drop 3 get_apple ≡ 0 ∷ []
again_answer =
    ap (λ (state : List ℕ). kv.answer state 3 get_apple) drop_is
    ∙ answer_given (finite.remove one (codes "apple")) (Get (codes "apple")) (command_within one (Drop (codes "apple")) one_within put_fits.0) put_fits.0
    ∙ ap answer_of (got_drop one (codes "apple"))

-- ---- two keys

letter_fits : (letter digit : ℕ) → IsKey (letter ∷ []) × IsValue (digit ∷ [])
letter_fits letter digit = (record { some = omega arith; few = omega arith }, record { some = omega arith; few = omega arith })

abbrev with_b : Map
with_b = finite.insert finite.empty (codes "b") (codes "2")

abbrev with_both : Map
with_both = finite.insert with_b (codes "a") (codes "1")

b_within : IsWithin (after_command finite.empty (Put (codes "b") (codes "2")))
b_within = command_within finite.empty (Put (codes "b") (codes "2")) empty_within (letter_fits 98 50)

b_is : after_command finite.empty (Put (codes "b") (codes "2")) ≡ with_b
b_is = ap (λ (full : Bool). cond full finite.empty with_b) (empty_place (codes "b"))

b_len : finite.len with_b ≡ 1
b_len = finite.len-entries with_b ∙ ap length (finite.entries-insert nat_list_cmp_total finite.empty (codes "b") (codes "2") ∙ ap (put in_order (codes "b") (codes "2")) no_entries)

both_are : after_command with_b (Put (codes "a") (codes "1")) ≡ with_both
both_are = ap (λ (full : Bool). cond full with_b with_both) (place with_b (codes "a") 1 b_len refl)

both_entries : finite.entries with_both ≡ (codes "a", codes "1") ∷ (codes "b", codes "2") ∷ []
both_entries =
    finite.entries-insert nat_list_cmp_total with_b (codes "a") (codes "1")
    ∙ ap (put in_order (codes "a") (codes "1")) (finite.entries-insert nat_list_cmp_total finite.empty (codes "b") (codes "2") ∙ ap (put in_order (codes "b") (codes "2")) no_entries)

pub two_pairs : kv.snapshot (kv.step (kv.step kv.first 0 put_b) 1 put_a) ≡ 0 ∷ 0 ∷ 0 ∷ 2 ∷ (pair_a ++ pair_b)
two_pairs =
    ap (λ (state : List ℕ). kv.step state 1 put_a) (step_of finite.empty (Put (codes "b") (codes "2")) empty_within (letter_fits 98 50))
    ∙ step_of (after_command finite.empty (Put (codes "b") (codes "2"))) (Put (codes "a") (codes "1")) b_within (letter_fits 97 49)
    ∙ ap (λ (m : Map). spelled_map (after_command m (Put (codes "a") (codes "1")))) b_is
    ∙ ap spelled_map both_are ∙ ap (spelled_list spelled_pair) both_entries
