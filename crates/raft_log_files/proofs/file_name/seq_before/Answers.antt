use Rattle.std.proofs.Common.{◌≡◌, Bool, true, false, not, take, drop, length, Some, refl, sym, ap, ◌∙◌, arith}
use lib.Pointwise.{bytes_decides}
use Rattle.std.specs.List.{list_all}
use Rattle.raft_log_disk.specs.Name.{is_digit, value_of}
use Rattle.raft_log_files.proofs.DigitLemmas.{IsSplit, name_split, name_found, read_value}
use Rattle.raft_log_files.proofs.file_name.seq_before.Goals.{then-ne-via-then-ne, then-ne-via-else-ne+then-not-are_digits}
use Rattle.raft_log_files.proofs.file_name.seq_before.Goals as goal

unless : (x : Bool) → not x ≡ false → x ≡ true
unless true h = refl
unless false h = absurd cc

pub returns-then-bytes-lt-LOG_SEQ_WIDTH-clause-none : goal.returns-then-bytes-lt-LOG_SEQ_WIDTH-clause-none
returns-then-bytes-lt-LOG_SEQ_WIDTH-clause-none c = λ _ n below same.
    let s = (name_split n c.args.suffix.now c.args.name.now below same).0 in
    omega (arith, s.long, ap length c.as_bytes-bytes.ensures.value, c.if-bytes-lt-LOG_SEQ_WIDTH.true)

pub returns-then-ne-clause-none : goal.returns-then-ne-clause-none
returns-then-ne-clause-none c = λ _ n below same.
    let name = c.args.name.now in
    let s = (name_split n c.args.suffix.now name below same).0 in
    let bytes = c.as_bytes-bytes.ensures.value in
    elim c.then-ne.branch [
      | then-ne-via-then-ne w ↦
          let equal : c.split_at.result.1.now ≡ c.as_bytes.result.now = c.split_at.ensures.back ∙ ap (drop 16) bytes ∙ s.behind ∙ sym c.as_bytes.ensures.value in
          let e : true ≡ false = sym w.if-ne.true ∙ c.ne.ensures ∙ ap not ((bytes_decides c.split_at.result.1.now c.as_bytes.result.now).1 equal) in
          cc
      | then-ne-via-else-ne+then-not-are_digits w ↦
          let digits : list_all is_digit c.split_at.result.0.now ≡ true = ap (list_all is_digit) (c.split_at.ensures.front ∙ ap (take 16) bytes) ∙ s.front in
          let e : true ≡ false = sym digits ∙ sym w.are_digits.ensures ∙ w.if-not-are_digits.true in
          cc
    ]

split_here : (c : goal.After-digits_value) → IsSplit 16 c.args.name.now c.args.suffix.now
split_here c =
    let bytes = c.as_bytes-bytes.ensures.value in
    let tied = unless _ (sym c.ne.ensures ∙ c.if-ne.false) in
    record {
      long = omega (arith, ap length bytes, c.if-bytes-lt-LOG_SEQ_WIDTH.false);
      behind = ap (drop 16) (sym bytes) ∙ sym c.split_at.ensures.back
          ∙ (bytes_decides c.split_at.result.1.now c.as_bytes.result.now).0 tied ∙ c.as_bytes.ensures.value;
      front = ap (list_all is_digit) (ap (take 16) (sym bytes) ∙ sym c.split_at.ensures.front) ∙ sym c.are_digits.ensures ∙ c.if-not-are_digits.false;
    }

read_here : (c : goal.After-digits_value) → c.digits_value.result ≡ Some (value_of (take 16 c.args.name.now))
read_here c =
    read_value c.digits_value.result c.split_at.result.0.now c.args.name.now c.args.suffix.now
    (c.split_at.ensures.front ∙ ap (take 16) c.as_bytes-bytes.ensures.value) (split_here c) c.digits_value.ensures

pub returns-clause-found : goal.returns-clause-found
returns-clause-found c = rw (read_here c) (name_found c.args.name.now c.args.suffix.now (split_here c))

pub returns-clause-none : goal.returns-clause-none
returns-clause-none c = rw (read_here c) (λ none. absurd cc)
