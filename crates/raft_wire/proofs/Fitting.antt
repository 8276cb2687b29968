-- A reader that fits a spelling: what it reads was spelled so, and what is spelled so it reads again. How readers that
-- are put together fit spellings that are put together.
use Rattle.std.proofs.Common.{◌≡◌, ℕ, zero, suc, ◌^◌, ◌<◌, ◌≤◌, Bool, true, false, cond, ltb, List, [], ◌∷◌, ◌++◌, length, take, drop, Option, Some, None, Ok, Err, refl, sym, ap, subst, ◌∙◌, append_assoc, arith}
use Rattle.std.specs.Prelude.{IfSome}
use Rattle.std.specs.Int.{Width, w32, w64, to_be_bytes}
use Rattle.std.proofs.lemmas.Bool.{ltb-false, le-ltb}
use Rattle.std.proofs.lemmas.List.{take_at, drop_at, take-append-drop, length-append, length-take}
use Rattle.raft_wire.specs.declared.error.FrameFault.{FrameFault}
use Rattle.raft_wire.specs.declared.error.FrameFault.TheVariants as fault
use Rattle.raft_wire.specs.Reader.{Reader, ◌>>=◌, both, made, tested, number_at, piece_at, count_at, text_at}
use Rattle.raft_wire.specs.Fields.{spelled_flag, flag_at, spelled_option, option_at}
use Rattle.raft_wire.specs.Entries.{spelled_text}
use Rattle.raft_bytes.specs.Bytes.{AreBytes}
use Rattle.raft_bytes.proofs.Bytes.{AreBytes-drop, AreBytes-rest, bind_ok, guard_ok, passed_ok, ok_is, Takes, Takes-then, Takes-behind}
use Rattle.raft_bytes.proofs.Numbers.{IsWide, number_again, number_takes, wide32, wide64}

pub record Reads {A : Type 0} (reader : Reader A) (spelled : A → List ℕ) (Fits : A → Type 0) : Type 0 where
  pub takes : (bytes : List ℕ) (a : A) (rest : List ℕ) → AreBytes bytes → reader bytes ≡ Ok (a, rest) → Takes bytes (spelled a) rest × Fits a
  pub again : (a : A) (rest : List ℕ) → Fits a → reader (spelled a ++ rest) ≡ Ok (a, rest)

-- the same reader and spelling, with another word for what fits
pub fits_as : {A : Type 0} (reader : Reader A) (spelled : A → List ℕ) (F G : A → Type 0) → Reads reader spelled F → ((a : A) → F a → G a) → ((a : A) → G a → F a) → Reads reader spelled G
fits_as reader spelled F G r fg gf = record {
  takes = λ bytes a rest fits e. let t = r.takes bytes a rest fits e in (t.0, fg a t.1);
  again = λ a rest h. r.again a rest (gf a h);
}

pub both_reads : {A B : Type 0} (first : Reader A) (sa : A → List ℕ) (F : A → Type 0) (second : Reader B) (sb : B → List ℕ) (G : B → Type 0) → Reads first sa F → Reads second sb G
    → Reads (both first second) (λ (p : A × B). sa p.0 ++ sb p.1) (λ (p : A × B). F p.0 × G p.1)
both_reads {A} {B} first sa F second sb G ra rb = record {
  takes = λ bytes p rest fits e.
      let a = bind_ok (first bytes) (λ a. second a.1 >>= λ b. Ok ((a.0, b.0), b.1)) (p, rest) e in
      let b = bind_ok (second a.0.1) (λ b. Ok ((a.0.0, b.0), b.1)) (p, rest) a.2 in
      let t = ra.takes bytes a.0.0 a.0.1 fits a.1 in
      let u = rb.takes a.0.1 b.0.0 b.0.1 t.0.rest_fits b.1 in
      let made : (A × B) × List ℕ = ((a.0.0, b.0.0), b.0.1) in
      subst (λ (y : (A × B) × List ℕ). Takes bytes (sa y.0.0 ++ sb y.0.1) y.1 × (F y.0.0 × G y.0.1)) (ok_is made (p, rest) b.2) (Takes-then bytes (sa a.0.0) a.0.1 (sb b.0.0) b.0.1 t.0 u.0, (t.1, u.1));
  again = λ p rest h. ap (both first second) (append_assoc (sa p.0) (sb p.1) rest) ∙ rw (ra.again p.0 (sb p.1 ++ rest) h.0, rb.again p.1 rest h.1) refl;
}

pub made_reads : {A B : Type 0} (make : A → B) (back : B → A) (reader : Reader A) (spelled : A → List ℕ) (F : A → Type 0) → ((b : B) → make (back b) ≡ b) → ((a : A) → back (make a) ≡ a) → Reads reader spelled F
    → Reads (made make reader) (λ b. spelled (back b)) (λ b. F (back b))
made_reads {A} {B} make back reader spelled F there here r = record {
  takes = λ bytes b rest fits e.
      let a = bind_ok (reader bytes) (λ a. Ok (make a.0, a.1)) (b, rest) e in
      let t = r.takes bytes a.0.0 a.0.1 fits a.1 in
      let made : B × List ℕ = (make a.0.0, a.0.1) in
      subst (λ (y : B × List ℕ). Takes bytes (spelled (back y.0)) y.1 × F (back y.0)) (ok_is made (b, rest) a.2) (subst (λ (x : A). Takes bytes (spelled x) a.0.1 × F x) (sym (here a.0.0)) t);
  again = λ b rest h. rw (r.again (back b) rest h, there b) refl;
}

pub tested_reads : {A : Type 0} (wrong : FrameFault) (test : A → Bool) (reader : Reader A) (spelled : A → List ℕ) (F : A → Type 0) → Reads reader spelled F
    → Reads (tested wrong test reader) spelled (λ a. F a × (test a ≡ true))
tested_reads {A} wrong test reader spelled F r = record {
  takes = λ bytes x rest fits e.
      let a = bind_ok (reader bytes) (λ a. cond (test a.0) (Ok a) (Err wrong)) (x, rest) e in
      let g = passed_ok (test a.0.0) wrong a.0 (x, rest) a.2 in
      let t = r.takes bytes a.0.0 a.0.1 fits a.1 in
      subst (λ (y : A × List ℕ). Takes bytes (spelled y.0) y.1 × (F y.0 × (test y.0 ≡ true))) g.1 (t.0, (t.1, g.0));
  again = λ x rest h. rw (r.again x rest h.0, h.1) refl;
}

-- ---- numbers

pub number_reads : (w : Width) (limit : ℕ) → IsWide w limit → Reads (number_at w) (to_be_bytes w) (λ n. n < limit)
number_reads w limit wide = record {
  takes = λ bytes n rest fits e. number_takes fault.CutShort w limit wide bytes n rest fits e;
  again = λ n rest h. number_again fault.CutShort w limit wide n rest h;
}

pub u64_reads : Reads (number_at w64) (to_be_bytes w64) (λ n. n < 2 ^ 64)
u64_reads = number_reads w64 (2 ^ 64) wide64

-- ---- tags

flag_takes : (bytes : List ℕ) (x : Bool × List ℕ) → AreBytes bytes → flag_at bytes ≡ Ok x → Takes bytes (spelled_flag x.0) x.1
unfolding flag_at
flag_takes [] x fits e = absurd cc
flag_takes (zero ∷ bytes) x fits e = subst (λ (y : Bool × List ℕ). Takes (0 ∷ bytes) (spelled_flag y.0) y.1) (ok_is (false, bytes) x e) (record { parts = refl; rest_fits = AreBytes-rest 0 bytes fits })
flag_takes (suc zero ∷ bytes) x fits e = subst (λ (y : Bool × List ℕ). Takes (1 ∷ bytes) (spelled_flag y.0) y.1) (ok_is (true, bytes) x e) (record { parts = refl; rest_fits = AreBytes-rest 1 bytes fits })
flag_takes (suc (suc b) ∷ bytes) x fits e = absurd cc

flag_again : (flag : Bool) (rest : List ℕ) → flag_at (spelled_flag flag ++ rest) ≡ Ok (flag, rest)
unfolding flag_at
flag_again false rest = refl
flag_again true rest = refl

abbrev pub Anything : {A : Type 0} → A → Type 0
Anything a = Unit {0}

pub flag_reads : Reads flag_at spelled_flag Anything
flag_reads = record {
  takes = λ bytes flag rest fits e. (flag_takes bytes (flag, rest) fits e, tt);
  again = λ flag rest h. flag_again flag rest;
}

module _ {A : Type 0} (reader : Reader A) (spelled : A → List ℕ) (F : A → Type 0) (r : Reads reader spelled F) where
  option_takes : (bytes : List ℕ) (x : Option A × List ℕ) → AreBytes bytes → option_at reader bytes ≡ Ok x → Takes bytes (spelled_option spelled x.0) x.1 × IfSome x.0 F
  unfolding option_at
  option_takes [] x fits e = absurd cc
  option_takes (zero ∷ bytes) x fits e =
      subst (λ (y : Option A × List ℕ). Takes (0 ∷ bytes) (spelled_option spelled y.0) y.1 × IfSome y.0 F) (ok_is (None, bytes) x e) (record { parts = refl; rest_fits = AreBytes-rest 0 bytes fits }, tt)
  option_takes (suc zero ∷ bytes) x fits e =
      let a = bind_ok (reader bytes) (λ a. Ok (Some a.0, a.1)) x e in
      let t = r.takes bytes a.0.0 a.0.1 (AreBytes-rest 1 bytes fits) a.1 in
      subst (λ (y : Option A × List ℕ). Takes (1 ∷ bytes) (spelled_option spelled y.0) y.1 × IfSome y.0 F) (ok_is (Some a.0.0, a.0.1) x a.2) (Takes-behind 1 bytes (spelled a.0.0) a.0.1 t.0, t.1)
  option_takes (suc (suc b) ∷ bytes) x fits e = absurd cc

  option_again : (o : Option A) (rest : List ℕ) → IfSome o F → option_at reader (spelled_option spelled o ++ rest) ≡ Ok (o, rest)
  unfolding option_at
  option_again None rest h = refl
  option_again (Some a) rest h = rw (r.again a rest h) refl

  pub option_reads : Reads (option_at reader) (spelled_option spelled) (λ o. IfSome o F)
  option_reads = record {
    takes = λ bytes o rest fits e. option_takes bytes (o, rest) fits e;
    again = λ o rest h. option_again o rest h;
  }

-- ---- lengths

pub piece_takes : (n : ℕ) (bytes : List ℕ) (x : List ℕ × List ℕ) → AreBytes bytes → piece_at n bytes ≡ Ok x → Takes bytes x.0 x.1 × (length x.0 ≡ n)
unfolding piece_at
piece_takes n bytes x fits e =
    let g = guard_ok (ltb (length bytes) n) fault.CutShort (take n bytes, drop n bytes) x e in
    let long : n ≤ length bytes = ltb-false _ _ g.0 in
    subst (λ (y : List ℕ × List ℕ). Takes bytes y.0 y.1 × (length y.0 ≡ n)) g.1 (record { parts = sym (take-append-drop n bytes); rest_fits = AreBytes-drop n bytes fits }, omega (arith, length-take n bytes))

pub piece_again : (piece rest : List ℕ) → piece_at (length piece) (piece ++ rest) ≡ Ok (piece, rest)
unfolding piece_at
piece_again piece rest =
    let long : ltb (length (piece ++ rest)) (length piece) ≡ false = le-ltb _ _ (omega (arith, length-append piece rest)) in
    rw (long, take_at piece rest (length piece) refl, drop_at piece rest (length piece) refl) refl

pub count_takes : (limit : ℕ) (bytes : List ℕ) (x : ℕ × List ℕ) → AreBytes bytes → count_at limit bytes ≡ Ok x → Takes bytes (to_be_bytes w32 x.0) x.1 × (x.0 ≤ limit)
unfolding count_at
count_takes limit bytes x fits e =
    let a = bind_ok (number_at w32 bytes) (λ n. cond (ltb limit n.0) (Err fault.TooLong) (Ok n)) x e in
    let g = guard_ok (ltb limit a.0.0) fault.TooLong a.0 x a.2 in
    let t = number_takes fault.CutShort w32 (2 ^ 32) wide32 bytes a.0.0 a.0.1 fits a.1 in
    let short : a.0.0 ≤ limit = ltb-false _ _ g.0 in
    subst (λ (y : ℕ × List ℕ). Takes bytes (to_be_bytes w32 y.0) y.1 × (y.0 ≤ limit)) g.1 (t.0, short)

pub count_again : (limit n : ℕ) (rest : List ℕ) → limit < 2 ^ 32 → n ≤ limit → count_at limit (to_be_bytes w32 n ++ rest) ≡ Ok (n, rest)
unfolding count_at
count_again limit n rest small le =
    let short : ltb limit n ≡ false = le-ltb _ _ le in
    rw (number_again fault.CutShort w32 (2 ^ 32) wide32 n rest (omega arith), short) refl

text_takes : (limit : ℕ) (bytes : List ℕ) (x : List ℕ × List ℕ) → AreBytes bytes → text_at limit bytes ≡ Ok x → Takes bytes (spelled_text x.0) x.1 × (length x.0 ≤ limit)
unfolding text_at
text_takes limit bytes x fits e =
    let n = bind_ok (count_at limit bytes) (λ n. piece_at n.0 n.1) x e in
    let t = count_takes limit bytes n.0 fits n.1 in
    let u = piece_takes n.0.0 n.0.1 x t.0.rest_fits n.2 in
    let both = Takes-then bytes (to_be_bytes w32 n.0.0) n.0.1 x.0 x.1 t.0 u.0 in
    (subst (λ (k : ℕ). Takes bytes (to_be_bytes w32 k ++ x.0) x.1) (sym u.1) both, omega (arith, t.1, u.1))

text_again : (limit : ℕ) (text rest : List ℕ) → limit < 2 ^ 32 → length text ≤ limit → text_at limit (spelled_text text ++ rest) ≡ Ok (text, rest)
unfolding text_at
text_again limit text rest small le =
    ap (text_at limit) (append_assoc (to_be_bytes w32 (length text)) text rest) ∙ rw (count_again limit (length text) (text ++ rest) small le, piece_again text rest) refl

pub text_reads : (limit : ℕ) → limit < 2 ^ 32 → Reads (text_at limit) spelled_text (λ text. length text ≤ limit)
text_reads limit small = record {
  takes = λ bytes text rest fits e. text_takes limit bytes (text, rest) fits e;
  again = λ text rest h. text_again limit text rest small h;
}
