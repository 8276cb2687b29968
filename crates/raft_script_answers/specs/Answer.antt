-- The text of an answer.
use Rattle.std.specs.Prelude.{ℕ, List, [], ◌∷◌, ◌++◌, Option, Some, None, codes}
use Rattle.std.specs.List.{flat_map}
use Rattle.std.specs.Fmt.{decimal}
use Rattle.raft_script_answers.specs.declared.refusal.Refusal.{Refusal}
use Rattle.raft_script_answers.specs.declared.refusal.Refusal.TheVariants.{NotLeader}
use Rattle.raft_script_answers.specs.declared.shown.AppliedTotal.{AppliedTotal}
use Rattle.raft_script_answers.specs.declared.shown.SentNumber.{SentNumber}
use Rattle.raft_script_answers.specs.Refusal.{label_of}

abbrev pub newline : List ℕ
newline = 10 ∷ []

-- a number, or `-` where there is none
abbrev pub number_or_dash : Option ℕ → List ℕ
number_or_dash None = codes "-"
number_or_dash (Some number) = decimal number

-- a frame: whom it is for, and its number
abbrev pub sent_text : SentNumber → List ℕ
sent_text sent = codes " >" ++ (decimal sent.peer ++ (codes "#" ++ decimal sent.number))

-- a token and its place
abbrev pub place_text : ℕ → ℕ → List ℕ
place_text token place = decimal token ++ (codes "@" ++ decimal place)

-- a told answer: its token, its place and the text of the answer
abbrev pub value_text : ℕ → ℕ → List ℕ → List ℕ
value_text token place value = codes " told " ++ (place_text token place ++ (codes "=" ++ value))

-- a command of this token found no room
abbrev pub full_text : ℕ → ℕ → List ℕ
full_text token place = codes " full " ++ place_text token place

abbrev pub unknown_text : ℕ → List ℕ
unknown_text token = codes " unknown " ++ decimal token

abbrev pub compact_text : ℕ → List ℕ
compact_text group = codes " compact " ++ decimal group

-- frames first, then the text of what is told, then the unknown tokens, then the groups to compact
abbrev pub done_text : List SentNumber → List ℕ → List ℕ → List ℕ → List ℕ
done_text sent told unknown compact =
    codes "ok" ++ flat_map sent_text sent ++ told ++ flat_map unknown_text unknown ++ flat_map compact_text compact ++ newline

-- who leads, behind the refusal that says so
abbrev pub leader_text : Refusal → List ℕ
leader_text (NotLeader leader) = codes " " ++ number_or_dash leader
leader_text _ = []

abbrev pub refused_text : Refusal → List ℕ → List ℕ
refused_text why unknown = codes "refused " ++ (label_of why ++ leader_text why) ++ flat_map unknown_text unknown ++ newline

abbrev pub stopped_text : List ℕ
stopped_text = codes "stopped" ++ newline

abbrev pub total_text : Option AppliedTotal → List ℕ
total_text None = codes "none" ++ newline
total_text (Some total) =
    codes "total " ++ (decimal total.total ++ (codes " at " ++ (number_or_dash total.place ++ newline)))
