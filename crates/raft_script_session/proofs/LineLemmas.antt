-- Lines of bytes.
use Rattle.std.proofs.Common.{◌≡◌, ◌≢◌, ℕ, ◌<◌, List, [], ◌∷◌, ◌++◌, length, refl, ap, ◌∙◌, arith, cond, eqb, Bool, true, false}
use Rattle.std.specs.List.{onto_first}
use Rattle.raft_script_session.specs.Lines.{lines_of}
use Rattle.raft_script_session.specs.Reading.{IsOpen}

newline_ends : (t : Bool) (x y : List (List ℕ)) → t ≡ false → cond t x y ≡ y
newline_ends true x y e = let no : true ≡ false = e in cc
newline_ends false x y e = refl

no_newline : (byte : ℕ) → byte ≢ 10 → eqb byte 10 ≡ false
no_newline byte h = grind (arith)

-- a newline ends the line that was open
pub lines_cut : (line rest : List ℕ) → IsOpen line → lines_of (line ++ 10 ∷ rest) ≡ line ∷ lines_of rest
lines_cut [] rest h = refl
lines_cut (byte ∷ line) rest h =
    newline_ends (eqb byte 10) ([] ∷ lines_of (line ++ 10 ∷ rest)) (onto_first byte (lines_of (line ++ 10 ∷ rest))) (no_newline byte h.0)
    ∙ ap (onto_first byte) (lines_cut line rest h.1)

-- what is open at the end of the input is a line, if it isn't empty
pub lines_last : (byte : ℕ) (line : List ℕ) → IsOpen (byte ∷ line) → lines_of (byte ∷ line) ≡ (byte ∷ line) ∷ []
lines_last byte [] h = newline_ends (eqb byte 10) ([] ∷ []) ((byte ∷ []) ∷ []) (no_newline byte h.0)
lines_last byte (next ∷ line) h =
    newline_ends (eqb byte 10) ([] ∷ lines_of (next ∷ line)) (onto_first byte (lines_of (next ∷ line))) (no_newline byte h.0)
    ∙ ap (onto_first byte) (lines_last next line h.1)

onto_some : (byte : ℕ) (parts : List (List ℕ)) → (first : List ℕ) × (others : List (List ℕ)) × (onto_first byte parts ≡ (byte ∷ first) ∷ others)
onto_some byte [] = ([], [], refl)
onto_some byte (part ∷ parts) = (part, parts, refl)

-- bytes without a newline are the front of the first line
pub lines_open : (byte : ℕ) (line rest : List ℕ) → IsOpen (byte ∷ line) → (first : List ℕ) × (others : List (List ℕ)) × (lines_of ((byte ∷ line) ++ rest) ≡ ((byte ∷ line) ++ first) ∷ others)
lines_open byte [] rest h =
    let (first, others, e) = onto_some byte (lines_of rest) in
    (first, others, newline_ends (eqb byte 10) ([] ∷ lines_of rest) (onto_first byte (lines_of rest)) (no_newline byte h.0) ∙ e)
lines_open byte (next ∷ line) rest h =
    let (first, others, e) = lines_open next line rest h.1 in
    let after = lines_of ((next ∷ line) ++ rest) in
    (first, others, newline_ends (eqb byte 10) ([] ∷ after) (onto_first byte after) (no_newline byte h.0) ∙ ap (onto_first byte) e)

pub open_more : (line : List ℕ) (byte : ℕ) → IsOpen line → byte ≢ 10 → IsOpen (line ++ byte ∷ [])
open_more [] byte h other = (other, tt)
open_more (first ∷ line) byte h other = (h.0, open_more line byte h.1 other)

pub open_first : (pending rest : List ℕ) → IsOpen pending → 0 < length pending → (first : List ℕ) × (others : List (List ℕ)) × (lines_of (pending ++ rest) ≡ (pending ++ first) ∷ others)
open_first [] rest h some = absurd (omega arith)
open_first (byte ∷ line) rest h some = lines_open byte line rest h

pub last_line : (pending : List ℕ) → IsOpen pending → 0 < length pending → lines_of pending ≡ pending ∷ []
last_line [] h some = absurd (omega arith)
last_line (byte ∷ line) h some = lines_last byte line h
