use Rattle.std.proofs.Common.{◌≡◌, ◌∙◌, ◌∷◌, ◌++◌, List, ℕ, length, ap, sym, subst, append-nil}
use Rattle.std.specs.Prelude.{Vec}
use Rattle.std.specs.declared.alloc.Global.{Global}
use Rattle.std.specs.Int.{w32, to_be_bytes}
use Rattle.std.specs.List.{All}
use Rattle.std.specs.Map.{keys_of, values_of}
use Rattle.std.proofs.lemmas.List.{length-map}
use Rattle.std.proofs.lemmas.List.Elements.{All-tail}
use Rattle.raft_wire.specs.Entries.{spelled_text}
use Rattle.raft_wire.specs.Memberships.{spelled_list}
use Rattle.raft_kv.specs.Map.{KeyFits, ValueFits, plain, spelled_pair}
use Rattle.raft_kv.proofs.Maps.{entries_of}
use Rattle.raft_kv.proofs.Written.{rest_of, written_more}
use Rattle.raft_kv.proofs.pairs.pairs_bytes.Goals as goal

pub loop-key-preserved : goal.loop-key-preserved
loop-key-preserved c =
    let at = c.loop-key in
    let rest = c.next.new.self in
    let here : Vec ℕ Global × Vec ℕ Global = (c.in-Some.key.now, c.in-Some.value.now) in
    let steps : at.key-iterator ≡ here ∷ rest = c.in-Some.ensures.steps in
    let entries = c.args.pairs.now.entries in
    record {
      keys = All-tail KeyFits here.0 (keys_of rest) (subst (λ (es : List (Vec ℕ Global × Vec ℕ Global)). All KeyFits (keys_of es)) steps at.invariant.keys);
      values = All-tail ValueFits here.1 (values_of rest) (subst (λ (es : List (Vec ℕ Global × Vec ℕ Global)). All ValueFits (values_of es)) steps at.invariant.values);
      written = written_more at.out.items c.put_text.new.out.items c.put_text-in-loop-key.new.out.items (to_be_bytes w32 (length entries) ++ rest_of entries) at.key-iterator rest here steps at.invariant.written
          (c.in_ok-put_text.ensures ∙ ap (λ (bytes : List ℕ). at.out.items ++ spelled_text bytes) c.as_slice.ensures.value)
          (c.in_ok-put_text-2.ensures ∙ ap (λ (bytes : List ℕ). c.put_text.new.out.items ++ spelled_text bytes) c.as_slice-in-loop-key.ensures.value);
    }

pub returns : goal.returns
returns c =
    let out = c.loop-key.out.items in
    let entries = c.args.pairs.now.entries in
    sym (append-nil out) ∙ ap (λ (es : List (Vec ℕ Global × Vec ℕ Global)). out ++ rest_of es) (sym c.in-None.ensures.steps.0) ∙ c.loop-key.invariant.written
    ∙ ap (λ (n : ℕ). to_be_bytes w32 n ++ rest_of entries) (sym (length-map entries plain)) ∙ ap (spelled_list spelled_pair) (sym (entries_of c.args.pairs.now c.requires.ordered))
