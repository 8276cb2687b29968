-- How far entries reach, and that they may be written on.
use Rattle.std.proofs.Common.{◌≡◌, ◌⊎◌, inl, inr, ◌<◌, ◌≤◌, ◌+◌, ◌-◌, ℕ, Bool, cond, List, length, Option, None, ap, sym, subst, ◌∙◌, arith}
use Rattle.std.specs.Prelude.{nat_le, nat_lt, IsSome}
use Rattle.std.specs.Cmp.Derive.{both_true}
use Rattle.std.proofs.lemmas.Bool.{cases_lt, le-leb, lt-leb, le-ltb}
use Rattle.std.proofs.lemmas.Bool.{lt-ltb}
use Rattle.raft_log_records.specs.Batch.{numbered}
use Rattle.raft_log_memtables.specs.Content.{entry_at}
use Rattle.raft_log_memtables.specs.Taken.{TakesFrom}
use Rattle.raft_store.specs.Reading.{Reaches}
use Rattle.raft_store.proofs.Logs.{Cells, numbered_none, numbered_there}

module _ (entry : Cells) (first end place : ℕ) (reach : Reaches entry first end) (low : first ≤ place) (high : place ≤ end) where
  none_at_all : reach.top ≤ first → (i : ℕ) → entry i ≡ None
  none_at_all none i = elim (cases_lt i first) [ inl lt ↦ reach.none_before i lt | inr ge ↦ reach.none_behind i (omega arith) ]

  pub takes_on : TakesFrom entry place
  takes_on = elim (cases_lt first reach.top) [
    | inl some ↦ inr (
      (first, both_true (le-leb 0 first (omega arith)) (le-leb first place low), reach.there first (omega arith) some),
      (reach.top - 1, le-leb (place - 1) (reach.top - 1) (let past = reach.past_end in omega arith), reach.there (reach.top - 1) (omega arith) (omega arith)),
    )
    | inr none ↦ inl (λ i is. none_at_all none i)
  ]

  -- ---- entries from the place on

  abbrev put_on : List (List ℕ) → Cells
  put_on parts i = cond (nat_le place i) (entry_at (numbered place parts) i) (entry i)

  pub stays_below : (parts : List (List ℕ)) (i : ℕ) → i < place → put_on parts i ≡ entry i
  stays_below parts i lt = ap (λ (b : Bool). cond b (entry_at (numbered place parts) i) (entry i)) (lt-leb place i lt)

  pub put_there : (parts : List (List ℕ)) (i : ℕ) → place ≤ i → put_on parts i ≡ entry_at (numbered place parts) i
  put_there parts i ge = ap (λ (b : Bool). cond b (entry_at (numbered place parts) i) (entry i)) (le-leb place i ge)

  some_as : (x y : Option (List ℕ)) → x ≡ y → IsSome y → IsSome x
  some_as x y same h = subst IsSome (sym same) h

  pub reaches_on : (parts : List (List ℕ)) (after : ℕ) → after ≡ place + length parts → Reaches (put_on parts) first after
  reaches_on parts after same = record {
    top = after;
    past_end = omega arith;
    there = λ i ge lt. elim (cases_lt i place) [
      | inl below ↦ some_as (put_on parts i) (entry i) (stays_below parts i below) (reach.there i ge (let past = reach.past_end in omega arith))
      | inr above ↦ some_as (put_on parts i) (entry_at (numbered place parts) i) (put_there parts i above) (numbered_there place parts i above (omega arith))
    ];
    none_before = λ i lt. stays_below parts i (omega arith) ∙ reach.none_before i lt;
    none_behind = λ i past. put_there parts i (omega arith) ∙ numbered_none place parts i (omega arith);
  }

-- an end that isn't past the one before
pub reaches_less : (entry : Cells) (first end less : ℕ) → less ≤ end → Reaches entry first end → Reaches entry first less
reaches_less entry first end less le reach = record {
  top = reach.top;
  past_end = let past = reach.past_end in omega arith;
  there = reach.there;
  none_before = reach.none_before;
  none_behind = reach.none_behind;
}

-- ---- entries before a place go

abbrev pub compacted : Cells → ℕ → Cells
compacted entry limit i = cond (nat_lt i limit) None (entry i)

pub gone : (entry : Cells) (limit i : ℕ) → i < limit → compacted entry limit i ≡ None
gone entry limit i lt = ap (λ (b : Bool). cond b None (entry i)) (lt-ltb i limit lt)

pub stays_above : (entry : Cells) (limit i : ℕ) → limit ≤ i → compacted entry limit i ≡ entry i
stays_above entry limit i ge = ap (λ (b : Bool). cond b None (entry i)) (le-ltb i limit ge)

pub reaches_compacted : (entry : Cells) (first end limit after : ℕ) → first ≤ limit → Reaches entry first end → ((after ≤ end) ⊎ (after ≡ limit)) → Reaches (compacted entry limit) limit after
reaches_compacted entry first end limit after le reach which =
    let past = reach.past_end in
    elim (cases_lt limit reach.top) [
      | inl some ↦ record {
        top = reach.top;
        past_end = elim which [ inl less ↦ omega arith | inr same ↦ omega arith ];
        there = λ i ge lt. subst IsSome (sym (stays_above entry limit i ge)) (reach.there i (omega arith) lt);
        none_before = λ i lt. gone entry limit i lt;
        none_behind = λ i behind. stays_above entry limit i (omega arith) ∙ reach.none_behind i behind;
      }
      | inr none ↦ record {
        top = limit;
        past_end = elim which [ inl less ↦ omega arith | inr same ↦ omega arith ];
        there = λ i ge lt. absurd (omega arith);
        none_before = λ i lt. gone entry limit i lt;
        none_behind = λ i behind. stays_above entry limit i behind ∙ reach.none_behind i (omega arith);
      }
    ]
