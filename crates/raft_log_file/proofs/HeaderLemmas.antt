-- The header of a file is told by as many bytes as the longest one has.
use Rattle.std.proofs.Common.{◌≡◌, ◌⊎◌, inl, inr, ℕ, ◌<◌, ◌≤◌, cond, not, nat_lt, eqb, List, length, take, drop, Result, Ok, Err, refl, sym, ap, ◌∙◌, arith, length-drop}
use Rattle.std.proofs.lemmas.Bool.{le-ltb, cases_lt}
use Rattle.std.proofs.lemmas.List.{take-take, drop-take, take_all, length-take-le}
use Rattle.std.specs.Int.{w64, from_be_bytes}
use Rattle.raft_log_records.specs.declared.version.Version.{Version}
use Rattle.raft_log_records.specs.declared.version.Version.TheVariants.{V1, V2}
use Rattle.raft_log_disk.specs.declared.format.LogFileFormat.{LogFileFormat}
use Rattle.raft_log_disk.specs.declared.format.HeaderFault.{HeaderFault}
use Rattle.raft_log_disk.specs.declared.format.HeaderFault.TheVariants.{CutShort, NoHeader, BadVersion}
use Rattle.raft_log_disk.specs.Text.{same_text}
use Rattle.raft_log_disk.specs.Format.{magic, header_at, header_len, spelled_header, versioned}

-- with eight bytes at least behind the version, the first eight of them tell
versioned_front : (v : ℕ) (rest : List ℕ) → 8 ≤ length rest → versioned v (take 8 rest) ≡ versioned v rest
versioned_front v rest long =
    let eight : length (take 8 rest) ≡ 8 = length-take-le 8 rest long in
    let short : nat_lt (length (take 8 rest)) 8 ≡ nat_lt (length rest) 8 = le-ltb (length (take 8 rest)) 8 (omega (arith, eight)) ∙ sym (le-ltb (length rest) 8 long) in
    let same : take 8 (take 8 rest) ≡ take 8 rest = take-take 8 8 rest (omega arith) in
    λ i. cond (eqb v 1) (Ok (record { version = V1; alignment = 0 })) (cond (not (eqb v 2)) (Err BadVersion) (cond (short i) (Err CutShort) (Ok (record { version = V2; alignment = from_be_bytes w64 (same i) }))))

long_front : (bytes : List ℕ) → 69 ≤ length bytes → header_at (take 69 bytes) ≡ header_at bytes
long_front bytes long =
    let whole : length (take 69 bytes) ≡ 69 = length-take-le 69 bytes long in
    let short : nat_lt (length (take 69 bytes)) 61 ≡ nat_lt (length bytes) 61 = le-ltb (length (take 69 bytes)) 61 (omega (arith, whole)) ∙ sym (le-ltb (length bytes) 61 (omega (arith, long))) in
    let text : take 53 (take 69 bytes) ≡ take 53 bytes = take-take 53 69 bytes (omega arith) in
    let number : take 8 (drop 53 (take 69 bytes)) ≡ take 8 (drop 53 bytes) = ap (take 8) (drop-take 53 16 bytes) ∙ take-take 8 16 (drop 53 bytes) (omega arith) in
    let behind : drop 61 (take 69 bytes) ≡ take 8 (drop 61 bytes) = drop-take 61 8 bytes in
    let tells : versioned (from_be_bytes w64 (take 8 (drop 53 (take 69 bytes)))) (drop 61 (take 69 bytes)) ≡ versioned (from_be_bytes w64 (take 8 (drop 53 bytes))) (drop 61 bytes)
    = (λ i. versioned (from_be_bytes w64 (number i)) (behind i)) ∙ versioned_front (from_be_bytes w64 (take 8 (drop 53 bytes))) (drop 61 bytes) (omega (arith, length-drop 61 bytes)) in
    λ i. cond (short i) (Err CutShort) (cond (not (same_text (text i) magic)) (Err NoHeader) (tells i))

by_length : (bytes : List ℕ) → (69 < length bytes) ⊎ (length bytes ≤ 69) → header_at (take 69 bytes) ≡ header_at bytes
by_length bytes (inl long) = long_front bytes (omega (arith, long))
by_length bytes (inr short) = ap header_at (take_all 69 bytes short)

pub header_front : (bytes : List ℕ) → header_at (take 69 bytes) ≡ header_at bytes
header_front bytes = by_length bytes (cases_lt 69 (length bytes))

-- what is told of the bytes that were read is told of the file
pub told_front : (bytes front held : List ℕ) (len : ℕ) (r : Result LogFileFormat HeaderFault) → len ≡ 69 → held ≡ take len (drop 0 bytes) → front ≡ held → r ≡ header_at front → header_at bytes ≡ r
told_front bytes front held len r is read same told =
    sym (header_front bytes) ∙ ap header_at (ap (λ n. take n bytes) (sym is) ∙ sym read ∙ sym same) ∙ sym told

length_of : (v : Version) (a : ℕ) → length (spelled_header (record { version = v; alignment = a })) ≡ header_len v
length_of V1 a = refl
length_of V2 a = refl

pub length-header : (f : LogFileFormat) → length (spelled_header f) ≡ header_len f.version
length-header f = length_of f.version f.alignment
