-- Why an insertion under a new key is not refused.
use Rattle.std.proofs.Common.{◌≡◌, ℕ, ◌<◌, ◌^◌, ℤ, pos, negsuc, List, [], ◌∷◌, true, not, None, Option, Err, refl, ap, subst, ◌∙◌, arith}
use Rattle.std.specs.Prelude.{◌&&◌}
use Rattle.std.specs.List.{AllByRecursion}
use Rattle.std.specs.Float.Ieee
use Rattle.std.specs.FinMap.{get}
use Rattle.std.proofs.lemmas.Nat.Bits.{bit_at-zero}
use Rattle.std.proofs.lemmas.List.Elements.{All-from_recursion}
use Rattle.sqlite.specs.declared.types.Value.TheVariants.{Null, Int}
use Rattle.sqlite.specs.declared.error.Error.{Error}
use Rattle.std.specs.Float.{NotNan}
use Rattle.sqlite.specs.Order.{Row, number}
use Rattle.sqlite.specs.Tree.{Trees, with_tree}
use Rattle.sqlite.specs.View.{IsStorable}
use Rattle.sqlite.specs.Term.{lit, col}
use Rattle.sqlite.specs.Source.TheVariants.{Values}
use Rattle.sqlite.specs.Command.TheVariants.{Insert}
use Rattle.sqlite.specs.Rows.{Edited}
use Rattle.sqlite_rules.specs.Edit.{Edit, edit_of, edited, next_rowid}
use Rattle.sqlite.specs.Rowids.TheVariants.{Chosen}
use Rattle.sqlite_sql.specs.Ops.{fits_i64}
use Rattle.sqlite_schema.specs.declared.schema.Keys.TheVariants.{Enforced}
use Rattle.sqlite_schema.specs.declared.schema.Constraint.TheVariants.{Unique}
use Rattle.sqlite_schema.specs.Rules.{Keeps}
use Rattle.sqlite.specs.Schema.{Schema}
use Rattle.ee_store_tables.specs.Tables.{tickets, batches, answers, with_others, AreOthers}
use Rattle.ee_store_tables.specs.Keyed.{row_of, stored}
use Rattle.ee_store_tables.specs.Rows.{Rows, Holds, TicketRow, ticket_columns, BatchRow, batch_columns, ReplyRow, reply_columns, FitsRow, Rises}
use Rattle.ee_store_tables.proofs.WriteLemmas.{cast_int, cast_null}
use Rattle.ee_store_tables.proofs.TicketLemmas.{given_ticket}
use Rattle.ee_store_tables.proofs.BatchLemmas.{given_batch}
use Rattle.ee_store_tables.proofs.AnswerLemmas.{given_answer}
use Rattle.ee_store_tables.proofs.CauseLemmas.{NeverStops, never_false}
use Rattle.ee_store_tables.proofs.RefusalLemmas.{passed, no_stop, never_source, never_sourced, IsAllowed, never_edited, bare_storable, one_fits, never_concluded, all_unique, key_free, number_fits}
use Rattle.ee_store_tables.proofs.KeyLemmas.{IsOther, put_apart, same_rowid, answers_apart, answers_unique, other_key, all_alike, keys_differ}
use Rattle.ee_store_tables.proofs.RoomLemmas.{HasNext, has_next}
use Rattle.ee_store_tables.proofs.OtherLemmas.{no_acts, unindexed}

module _ (others : Schema) (them : AreOthers others) (db : Trees) (rows : Rows) (stands : Holds db rows) (unique : Keeps Unique (with_others others) db) (n : ℕ) (low : n < 2 ^ 63) where
  module _ (x : TicketRow) (none : get rows.tickets n ≡ None) where
    abbrev ticket_row : Row
    ticket_row = row_of ticket_columns (pos n, (n, x))

    abbrev ticket_edit : List Row → Edit
    ticket_edit news = record { table = tickets; gone = []; news = news }

    ticket_allowed : IsAllowed (with_others others) Enforced db (ticket_edit (ticket_row ∷ []))
    ticket_allowed = record {
      typed = refl;
      present = refl;
      checked = refl;
      fresh = ap (λ b. not b && true) (key_free ticket_columns n (db 5) rows.tickets stands.tickets (Null ∷ ticket_columns x) none);
      unique = all_unique others them db 5 (omega arith) (edited db (ticket_edit (ticket_row ∷ []))) unique unique.1.1.0 unique.1.1.1.1.0 unique.1.1.1.1.1.1.1.0;
      keyed = refl;
      fits = number_fits n low;
      referred = refl;
      acts = no_acts others them Enforced db (ticket_edit (ticket_row ∷ []));
      small = one_fits (with_others others) tickets ticket_row (bare_storable ticket_row refl (omega arith) (omega arith), omega arith)
          ((λ e. absurd (omega (arith, e))), ((λ e. absurd (omega (arith, e))), (λ e. bare_storable (Int (pos x.day) ∷ Int (pos n) ∷ Int (pos n) ∷ []) refl (omega arith) (omega arith), ((λ e. absurd (omega (arith, e))), ((λ e. absurd (omega (arith, e))), ((λ e. absurd (omega (arith, e))), unindexed others them 5 (omega arith) _))))));
    }

    ticket_edited : (sources : List Row) → sources ≡ (Int (pos n) ∷ Null ∷ ticket_columns x) ∷ [] → (stop : Option Error) → ¬ Edited (with_others others) Enforced db (edit_of db tickets [] Chosen 0 sources) (Err stop)
    ticket_edited sources is stop h =
        let same : edit_of db tickets [] Chosen 0 sources ≡ ticket_edit (ticket_row ∷ []) = ap (λ all. edit_of db tickets [] Chosen 0 all) is ∙ ap ticket_edit (rw (cast_null, cast_int n, cast_int x.day, cast_int x.payee, cast_int x.bonds, cast_int x.total) refl) in
        never_edited (with_others others) Enforced db (ticket_edit (ticket_row ∷ [])) ticket_allowed stop (subst (λ e. Edited (with_others others) Enforced db e (Err stop)) same h)

    pub add_ticket_stays : NeverStops others db (given_ticket n x) None (Insert 3 (Values (col 0 0 ∷ lit Null ∷ col 0 1 ∷ col 0 2 ∷ col 0 3 ∷ col 0 4 ∷ []) 6))
    add_ticket_stays text stop h =
        let written = passed h (λ s w.
        let given = passed w (never_sourced (record { schema = (with_others others); trees = db }) (given_ticket n x) (Values (col 0 0 ∷ lit Null ∷ col 0 1 ∷ col 0 2 ∷ col 0 3 ∷ col 0 4 ∷ []) 6) (λ e r. never_source never_false r)) in
        let counter = passed given.2 (λ s e. no_stop e) in
        let edited = passed counter.2 (ticket_edited given.0 given.1.1) in
        let counted = passed edited.2 (λ s e. no_stop e) in
        no_stop counted.2) in
        never_concluded others them tickets (given_ticket n x) written.0 stop written.2

  module _ (x : BatchRow) (none : get rows.batches n ≡ None) where
    abbrev batch_row : Row
    batch_row = row_of batch_columns (pos n, (n, x))

    abbrev batch_edit : List Row → Edit
    batch_edit news = record { table = batches; gone = []; news = news }

    batch_allowed : IsAllowed (with_others others) Enforced db (batch_edit (batch_row ∷ []))
    batch_allowed = record {
      typed = refl;
      present = refl;
      checked = refl;
      fresh = ap (λ b. not b && true) (key_free batch_columns n (db 10) rows.batches stands.batches (Null ∷ batch_columns x) none);
      unique = all_unique others them db 10 (omega arith) (edited db (batch_edit (batch_row ∷ []))) unique unique.1.1.0 unique.1.1.1.1.0 unique.1.1.1.1.1.1.1.0;
      keyed = refl;
      fits = number_fits n low;
      referred = refl;
      acts = no_acts others them Enforced db (batch_edit (batch_row ∷ []));
      small = one_fits (with_others others) batches batch_row (bare_storable batch_row refl (omega arith) (omega arith), omega arith)
          ((λ e. absurd (omega (arith, e))), ((λ e. absurd (omega (arith, e))), ((λ e. absurd (omega (arith, e))), ((λ e. absurd (omega (arith, e))), ((λ e. absurd (omega (arith, e))), ((λ e. absurd (omega (arith, e))), unindexed others them 10 (omega arith) _))))));
    }

    batch_edited : (sources : List Row) → sources ≡ (Int (pos n) ∷ Null ∷ batch_columns x) ∷ [] → (stop : Option Error) → ¬ Edited (with_others others) Enforced db (edit_of db batches [] Chosen 0 sources) (Err stop)
    batch_edited sources is stop h =
        let same : edit_of db batches [] Chosen 0 sources ≡ batch_edit (batch_row ∷ []) = ap (λ all. edit_of db batches [] Chosen 0 all) is ∙ ap batch_edit (rw (cast_null, cast_int n, cast_int x.tickets, cast_int x.bonds, cast_int x.total) refl) in
        never_edited (with_others others) Enforced db (batch_edit (batch_row ∷ [])) batch_allowed stop (subst (λ e. Edited (with_others others) Enforced db e (Err stop)) same h)

    pub add_batch_stays : NeverStops others db (given_batch n x) None (Insert 5 (Values (col 0 0 ∷ lit Null ∷ col 0 1 ∷ col 0 2 ∷ col 0 3 ∷ []) 5))
    add_batch_stays text stop h =
        let written = passed h (λ s w.
        let given = passed w (never_sourced (record { schema = (with_others others); trees = db }) (given_batch n x) (Values (col 0 0 ∷ lit Null ∷ col 0 1 ∷ col 0 2 ∷ col 0 3 ∷ []) 5) (λ e r. never_source never_false r)) in
        let counter = passed given.2 (λ s e. no_stop e) in
        let edited = passed counter.2 (batch_edited given.0 given.1.1) in
        let counted = passed edited.2 (λ s e. no_stop e) in
        no_stop counted.2) in
        never_concluded others them batches (given_batch n x) written.0 stop written.2

-- ---- an answer

module _ (others : Schema) (them : AreOthers others) (db : Trees) (rows : Rows) (stands : Holds db rows) (unique : Keeps Unique (with_others others) db) (room : Rises 1 1 (db 13)) (k : ℕ × ℕ) (x : ReplyRow) (none : get rows.answers k ≡ None) (fits : FitsRow x) where
  abbrev id : ℤ
  id = next_rowid (db 13)

  abbrev answer_row : Row
  answer_row = stored reply_columns (id, (k, x))

  answer_storable : IsStorable 0 answer_row
  unfolding Ieee.is_nan
  answer_storable = record {
    typed = λ c set. absurd (let z = bit_at-zero c in omega (arith, z, set));
    columns = (omega arith, omega arith);
    numbers = All-from_recursion (λ v. NotNan (number v)) answer_row (whole_number id, (tt, (tt, (tt, (tt, tt)))));
    short = omega (arith, fits);
  }
    where
      whole_number : (i : ℤ) → NotNan (number (Int i))
      whole_number (pos n) = tt
      whole_number (negsuc n) = tt

  abbrev answer_edit : List Row → Edit
  answer_edit news = record { table = answers; gone = []; news = news }

  next : HasNext 1 1 (db 13)
  next = has_next 1 1 (db 13) room

  other_keys : AllByRecursion (IsOther (1 ∷ 2 ∷ []) answer_row (db 13)) (db 13)
  other_keys = all_alike (stored reply_columns) (IsOther (1 ∷ 2 ∷ []) answer_row (db 13)) (λ p. ¬ ((p.1.0.0 ≡ k.0) × (p.1.0.1 ≡ k.1)))
      (λ r p alike apart. other_key 1 2 answer_row r p.1.0.0 p.1.0.1 k.0 k.1 refl refl (alike 1) (alike 2) apart) (db 13) stands.answers.numbered stands.answers.are (keys_differ reply_columns k (db 13) rows.answers stands.answers none)

  answer_unique : Keeps Unique (with_others others) (with_tree db 13 (edited db (answer_edit (answer_row ∷ []))))
  answer_unique = all_unique others them db 13 (omega arith) (edited db (answer_edit (answer_row ∷ []))) unique unique.1.1.0 unique.1.1.1.1.0
      (answers_unique others them (with_tree db 13 (edited db (answer_edit (answer_row ∷ [])))) (put_apart (1 ∷ 2 ∷ []) answer_row (db 13) (same_rowid id) other_keys (answers_apart others db unique.1.1.1.1.1.1.1.0)))

  answer_allowed : IsAllowed (with_others others) Enforced db (answer_edit (answer_row ∷ []))
  answer_allowed = record {
    typed = refl;
    present = refl;
    checked = refl;
    fresh = ap (λ b. not b && true) (next.fresh answer_row (ap Int next.next));
    unique = answer_unique;
    keyed = refl;
    fits = ap (λ i. fits_i64 i && true) next.next ∙ number_fits next.top (omega (arith, next.room));
    referred = refl;
    acts = no_acts others them Enforced db (answer_edit (answer_row ∷ []));
    small = one_fits (with_others others) answers answer_row (answer_storable, omega arith)
        ((λ e. absurd (omega (arith, e))), ((λ e. absurd (omega (arith, e))), ((λ e. absurd (omega (arith, e))), ((λ e. absurd (omega (arith, e))), ((λ e. absurd (omega (arith, e))), (λ e. bare_storable (Int (pos k.0) ∷ Int (pos k.1) ∷ Int id ∷ []) refl (omega arith) (omega arith), unindexed others them 13 (omega arith) _))))));
  }

  answer_edited : (sources : List Row) → sources ≡ (Null ∷ Int (pos k.0) ∷ Int (pos k.1) ∷ reply_columns x) ∷ [] → (stop : Option Error) → ¬ Edited (with_others others) Enforced db (edit_of db answers [] Chosen 0 sources) (Err stop)
  answer_edited sources is stop h =
      let same : edit_of db answers [] Chosen 0 sources ≡ answer_edit (answer_row ∷ []) = ap (λ all. edit_of db answers [] Chosen 0 all) is ∙ ap answer_edit (rw (cast_null, cast_int k.0, cast_int k.1) refl) in
      never_edited (with_others others) Enforced db (answer_edit (answer_row ∷ [])) answer_allowed stop (subst (λ e. Edited (with_others others) Enforced db e (Err stop)) same h)

  pub add_answer_stays : NeverStops others db (given_answer k x) None (Insert 7 (Values (lit Null ∷ col 0 0 ∷ col 0 1 ∷ col 0 2 ∷ col 0 3 ∷ []) 5))
  add_answer_stays text stop h =
      let written = passed h (λ s w.
      let given = passed w (never_sourced (record { schema = (with_others others); trees = db }) (given_answer k x) (Values (lit Null ∷ col 0 0 ∷ col 0 1 ∷ col 0 2 ∷ col 0 3 ∷ []) 5) (λ e r. never_source never_false r)) in
      let counter = passed given.2 (λ s e. no_stop e) in
      let edited = passed counter.2 (answer_edited given.0 given.1.1) in
      let counted = passed edited.2 (λ s e. no_stop e) in
      no_stop counted.2) in
      never_concluded others them answers (given_answer k x) written.0 stop written.2
