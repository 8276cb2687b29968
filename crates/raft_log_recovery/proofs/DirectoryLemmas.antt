-- Directories that are made one after the other.
use Rattle.std.proofs.Common.{◌≡◌, inl, inr, ◌+◌, ◌-◌, ◌^◌, ◌≤◌, min, length, get_or, take, drop, arith, List, [], ◌∷◌, ◌++◌, Result, Ok, Err, sym, ap, subst, ◌∙◌, append_assoc}
use Rattle.std.specs.Prelude.{IsErr, IfErr, OnOk, map}
use Rattle.std.proofs.lemmas.List.{append-nil, take_all}
use Rattle.raft_log_disk.specs.Text.{Text}
use Rattle.raft_log_disk.specs.Disk.{Disk, IsFile, IsIn}
use Rattle.raft_log_disk.specs.Cause.{Meter}
use Rattle.raft_log_files.specs.declared.error.Error.{Error}
use Rattle.raft_log_pipe.proofs.AloneLemmas.{in_either}
use Rattle.raft_log_recovery.specs.Scan.{AllMade, AnyFile, IsScanFault, OnlyMakes}

in_left : (x : Text) (xs ys : List Text) → IsIn x xs → IsIn x (xs ++ ys)
in_left x [] ys there = absurd there
in_left x (y ∷ xs) ys (inl is) = inl is
in_left x (y ∷ xs) ys (inr there) = inr (in_left x xs ys there)

-- no directory is made
pub makes_none : (ds : List Text) (d e : Disk) → e ≡ d → OnlyMakes ds d e
makes_none ds d e is = record {
  made = [];
  among = λ path none. absurd none;
  only = is ∙ (λ i. record { directories = sym (append-nil d.directories) i; names = d.names; file = d.file; next = d.next });
}

-- first one, then others
pub makes_both : (p : Text) (ps : List Text) (d e g : Disk) → OnlyMakes (p ∷ []) d e → OnlyMakes ps e g → OnlyMakes (p ∷ ps) d g
makes_both p ps d e g one two = record {
  made = one.made ++ two.made;
  among = λ path there. elim (in_either path one.made two.made there) [
    | inl a ↦ first path (one.among path a)
    | inr b ↦ inr (two.among path b)
  ];
  only = two.only ∙ ap (λ (x : Disk). let y : Disk = x in record y { directories = y.directories ++ two.made }) one.only
      ∙ (λ i. record { directories = append_assoc d.directories one.made two.made i; names = d.names; file = d.file; next = d.next });
}
  where
    first : (path : Text) → IsIn path (p ∷ []) → IsIn path (p ∷ ps)
    first path (inl is) = inl is
    first path (inr none) = absurd none

-- some, then others of them
pub makes_more : (ds : List Text) (d e g : Disk) → OnlyMakes ds d e → OnlyMakes ds e g → OnlyMakes ds d g
makes_more ds d e g one two = record {
  made = one.made ++ two.made;
  among = λ path there. elim (in_either path one.made two.made there) [
    | inl a ↦ one.among path a
    | inr b ↦ two.among path b
  ];
  only = two.only ∙ ap (λ (x : Disk). let y : Disk = x in record y { directories = y.directories ++ two.made }) one.only
      ∙ (λ i. record { directories = append_assoc d.directories one.made two.made i; names = d.names; file = d.file; next = d.next });
}

-- one alone
pub makes_first : (ds ps : List Text) (p : Text) (d e : Disk) → ds ≡ p ∷ ps → OnlyMakes (p ∷ []) d e → OnlyMakes ds d e
makes_first ds ps p d e is one = subst (λ (l : List Text). OnlyMakes l d e) (sym is) (record {
  made = one.made;
  among = λ path there. begin path (one.among path there);
  only = one.only;
})
  where
    begin : (path : Text) → IsIn path (p ∷ []) → IsIn path (p ∷ ps)
    begin path (inl here) = inl here
    begin path (inr none) = absurd none

-- a directory that is there stays
pub made_stays : (p : Text) (ps : List Text) (d e : Disk) → OnlyMakes ps d e → IsIn p d.directories → IsIn p e.directories
made_stays p ps d e only there = subst (λ (x : Disk). IsIn p x.directories) (sym only.only) (in_left p d.directories only.made there)

-- and so do files
file_stays : (path : Text) (ps : List Text) (d e : Disk) → OnlyMakes ps d e → IsFile d path → IsFile e path
file_stays path ps d e only there = subst (λ (x : Disk). IsFile x path) (sym only.only) there

pub any_stays : (paths ps : List Text) (d e : Disk) → OnlyMakes ps d e → AnyFile paths d → AnyFile paths e
any_stays [] ps d e only none = none
any_stays (path ∷ paths) ps d e only (inl here) = inl (file_stays path ps d e only here)
any_stays (path ∷ paths) ps d e only (inr there) = inr (any_stays paths ps d e only there)

file_was : (path : Text) (ps : List Text) (d e : Disk) → OnlyMakes ps d e → IsFile e path → IsFile d path
file_was path ps d e only there = subst (λ (x : Disk). IsFile x path) only.only there

pub any_was : (paths ps : List Text) (d e : Disk) → OnlyMakes ps d e → AnyFile paths e → AnyFile paths d
any_was [] ps d e only none = none
any_was (path ∷ paths) ps d e only (inl here) = inl (file_was path ps d e only here)
any_was (path ∷ paths) ps d e only (inr there) = inr (any_was paths ps d e only there)

-- a fault at the first directory
pub first_fault : (p : Text) (ps : List Text) (d : Disk) (old new : Meter) (e : Error) → IsScanFault (p ∷ []) d old new e → IsScanFault (p ∷ ps) d old new e
first_fault p ps d old new e (inl memory) = inl memory
first_fault p ps d old new e (inr (inl (is, inl here))) = inr (inl (is, inl here))
first_fault p ps d old new e (inr (inl (is, inr none))) = absurd none
first_fault p ps d old new e (inr (inr counted)) = inr (inr counted)

-- and at a later one
pub later_fault : (p : Text) (ps : List Text) (d e : Disk) (old between new : Meter) (x : Error) → OnlyMakes (p ∷ []) d e → between.refusals ≡ old.refusals → IsScanFault ps e between new x → IsScanFault (p ∷ ps) d old new x
later_fault p ps d e old between new x only same (inl memory) = inl memory
later_fault p ps d e old between new x only same (inr (inl (is, there))) = inr (inl (is, inr (any_was ps (p ∷ []) d e only there)))
later_fault p ps d e old between new x only same (inr (inr (is, counted))) = inr (inr (is, counted ∙ ap (λ n. min (n + 1) (2 ^ 64 - 1)) same))

-- ---- a list of directories, by its first

pub first_of : {X : Type 0} (text : X → Text) (xs : List X) (x : X) (said : Text) → 1 ≤ length xs → x ≡ get_or xs 0 x → said ≡ text x → map text xs ≡ said ∷ map text (take (length xs - 1) (drop 1 xs))
first_of text [] x said some is says = absurd (omega arith)
first_of text (y ∷ xs) x said some is says = (λ i. (ap text (sym is) ∙ sym says) i ∷ map text (sym (take_all (length (y ∷ xs) - 1) xs (omega arith)) i))

pub all_made : {E : Type 0} (r : Result (Unit {0}) E) (ds ps : List Text) (p : Text) (e g : Disk) → ds ≡ p ∷ ps → IsIn p e.directories → OnlyMakes ps e g → OnOk r (AllMade ps g) → OnOk r (AllMade ds g)
all_made (Ok u) ds ps p e g is there only others = subst (λ (l : List Text). AllMade l g) (sym is) (made_stays p ps e g only there, others)
all_made (Err x) ds ps p e g is there only others = tt

pub any_file : (r : Result (Unit {0}) Error) (ds ps : List Text) (p : Text) (d e : Disk) → ds ≡ p ∷ ps → OnlyMakes (p ∷ []) d e → (IsFile d p → ⊥) → (AnyFile ps e → IsErr r) → AnyFile ds d → IsErr r
any_file r ds ps p d e is only none others there = elim (subst (λ (l : List Text). AnyFile l d) is there) [
  | inl here ↦ absurd (none here)
  | inr behind ↦ others (any_stays ps (p ∷ []) d e only behind)
]

pub any_fault : (r : Result (Unit {0}) Error) (ds ps : List Text) (p : Text) (d e : Disk) (old between new : Meter) → ds ≡ p ∷ ps → OnlyMakes (p ∷ []) d e → between.refusals ≡ old.refusals → IfErr r (λ x. IsScanFault ps e between new x)
    → IfErr r (λ x. IsScanFault ds d old new x)
any_fault (Ok u) ds ps p d e old between new is only same fault = tt
any_fault (Err x) ds ps p d e old between new is only same fault = subst (λ (l : List Text). IsScanFault l d old new x) (sym is) (later_fault p ps d e old between new x only same fault)

pub first_faults : (ds ps : List Text) (p : Text) (d : Disk) (old new : Meter) (e : Error) → ds ≡ p ∷ ps → IsScanFault (p ∷ []) d old new e → IsScanFault ds d old new e
first_faults ds ps p d old new e is fault = subst (λ (l : List Text). IsScanFault l d old new e) (sym is) (first_fault p ps d old new e fault)

pub was_ok : (r : Result (Unit {0}) Error) (u : Unit {0}) (e : Error) → r ≡ Ok u → r ≡ Err e → ⊥
was_ok r u e ok err = let clash : Ok u ≡ Err e = sym ok ∙ err in cc

pub both_make : (ds ps : List Text) (p : Text) (d e g : Disk) → ds ≡ p ∷ ps → OnlyMakes (p ∷ []) d e → OnlyMakes ps e g → OnlyMakes ds d g
both_make ds ps p d e g is one two = subst (λ (l : List Text). OnlyMakes l d g) (sym is) (makes_both p ps d e g one two)
