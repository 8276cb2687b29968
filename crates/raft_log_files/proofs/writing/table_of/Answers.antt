use Rattle.std.proofs.Common.{ℕ, List, Some, refl, ap, ◌∙◌}
use Rattle.toml.specs.Data.{string, get_member, members_depth}
use Rattle.toml.specs.View.{table_view, members_view}
use Rattle.raft_log_files.specs.Settings.{settings_of}
use Rattle.raft_log_files.specs.Toml.{number_data}
use Rattle.raft_log_files.proofs.TableLemmas.{Entry}
use Rattle.raft_log_files.proofs.RoundTrip.{Puts, written, found_in_turn, after_puts, same_value, given, flat_in_turn, written_flat}
use Rattle.raft_log_files.proofs.writing.table_of.Goals as goal

put_in_turn : (c : goal.In_ok-put_size-6) → Puts (table_view c.new-table.result) (written (settings_of c.args.config.now)) (table_view c.put_size-6.new.table)
put_in_turn c = (
  table_view c.put_text.new.table,
  same_value _ _ _ _ _ (ap (λ (t : List ℕ). Some (string t)) c.as_str.ensures.value) c.in_ok-put_text.ensures,
  (
    table_view c.put_text_if_any.new.table,
    c.in_ok-put_text_if_any.ensures,
    (
      table_view c.put_text-2.new.table,
      same_value _ _ _ _ _ (ap (λ (t : List ℕ). Some (string t)) c.mode_name.ensures) c.in_ok-put_text-2.ensures,
      (
        table_view c.put_size.new.table,
        c.in_ok-put_size.ensures.put,
        (
          table_view c.put_number.new.table,
          c.in_ok-put_number.ensures,
          (
            table_view c.put_size-2.new.table,
            c.in_ok-put_size-2.ensures.put,
            (
              table_view c.put_number-2.new.table,
              same_value _ _ _ _ _ (ap (λ (n : ℕ). Some (number_data n)) c.version_number.ensures) c.in_ok-put_number-2.ensures,
              (
                table_view c.put_size-3.new.table,
                c.in_ok-put_size-3.ensures.put,
                (
                  table_view c.put_size-4.new.table,
                  c.in_ok-put_size-4.ensures.put,
                  (
                    table_view c.put_size-5.new.table,
                    c.in_ok-put_size-5.ensures.put,
                    (
                      table_view c.put_number-3.new.table,
                      c.in_ok-put_number-3.ensures,
                      (
                        table_view c.put_flag.new.table,
                        c.in_ok-put_flag.ensures,
                        (
                          table_view c.put_flag-2.new.table,
                          c.in_ok-put_flag-2.ensures,
                          (
                            table_view c.put_size-6.new.table,
                            c.in_ok-put_size-6.ensures.put,
                            refl,
                          ),
                        ),
                      ),
                    ),
                  ),
                ),
              ),
            ),
          ),
        ),
      ),
    ),
  ),
)

pub returns-clause-given : goal.returns-clause-given
returns-clause-given c =
    let s = settings_of c.args.config.now in
    given (table_view c.put_size-6.new.table) s
    (λ k. found_in_turn (written s) (table_view c.new-table.result) (table_view c.put_size-6.new.table) k (put_in_turn c)
    ∙ ap (λ (es : List Entry). after_puts (written s) k (get_member k (members_view es))) c.new-table.ensures.empty)
    (record {
      block = c.put_size.ensures.says;
      sync = c.put_size-2.ensures.says;
      target = c.put_size-3.ensures.says;
      purge = c.put_size-4.ensures.says;
      rewrite = c.put_size-5.ensures.says;
      prefill = c.put_size-6.ensures.says;
    })

pub returns-clause-flat : goal.returns-clause-flat
returns-clause-flat c =
    let s = settings_of c.args.config.now in
    flat_in_turn (written s) (table_view c.new-table.result) (table_view c.put_size-6.new.table) (put_in_turn c) (written_flat s)
    (ap (λ (es : List Entry). members_depth (members_view es)) c.new-table.ensures.empty)
