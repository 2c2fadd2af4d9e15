-- Where nothing speaks against a write, it is not refused.
use Rattle.std.proofs.Common.{◌≡◌, ◌≢◌, ◌⊎◌, inl, inr, ℕ, zero, suc, ◌<◌, ◌≤◌, ◌+◌, ℤ, pos, negsuc, List, [], ◌∷◌, length, Bool, true, false, Some, None, Option, Ok, Err, Result, refl, sym, ap, subst, ◌∙◌, arith, ◌^◌, nat_cmp, true≢false, mul-le-mul_right, length-append}
use Rattle.std.specs.Prelude.{◌&&◌, not, IsSome, if◌then◌else◌}
use Rattle.std.specs.List.{AllByRecursion, list_all}
use Rattle.std.specs.Float.{NotNan}
use Rattle.std.specs.Float.Ieee
use Rattle.std.proofs.lemmas.Nat.Bits.{bit_at-zero}
use Rattle.std.proofs.lemmas.List.Elements.{All-from_recursion}
use Rattle.std.proofs.lemmas.List.Sums.{sum_by-le}
use Rattle.sqlite.specs.declared.types.Value.{Value}
use Rattle.sqlite.specs.declared.types.Value.TheVariants.{Null, Int}
use Rattle.sqlite.specs.declared.error.Error.{Error}
use Rattle.sqlite.specs.Order.{Row, bytes, number, value_cmp}
use Rattle.sqlite.specs.Tree.{Trees, rowid, has_rowid, without_rowid, with_tree}
use Rattle.sqlite.specs.View.{IsStorable, IsStorableRow}
use Rattle.sqlite.specs.Schema.{Schema}
use Rattle.sqlite.specs.Table.{Table}
use Rattle.sqlite.specs.Rows.{Edited, Sourced, Queried, Task, Written}
use Rattle.sqlite.specs.Effect.{Database, RefusesSource, RefusesQuery}
use Rattle.sqlite_schema.specs.declared.program.Program.{Program}
use Rattle.sqlite.specs.Source.{Source}
use Rattle.sqlite_sql.specs.Ops.{fits_i64}
use Rattle.sqlite_sql.specs.Catalog.{entry_of}
use Rattle.sqlite_schema.specs.declared.schema.Keys.{Keys}
use Rattle.sqlite_schema.specs.declared.schema.Constraint.TheVariants.{Datatype, NotNull, Check, PrimaryKey, Unique, ForeignKey}
use Rattle.sqlite_schema.specs.Rules.{Keeps, passes, guards, clashes, table_reals, index_reals, Refers}
use Rattle.sqlite_rules.specs.declared.error.Refusal.{Refusal}
use Rattle.sqlite_rules.specs.declared.error.Refusal.TheVariants.{Violates, Mismatch, NoRowid, BadReference, TooDeep}
use Rattle.sqlite_rules.specs.Lists.{Has}
use Rattle.sqlite_rules.specs.Edit.{Edit, id_in, left_by, edited, taken_by, are_fresh, have_rowids, is_referred, IsRefused, IsOversized, is_taken}
use Rattle.sqlite_rules.specs.Action.{Goes, Settles, Leads, works}
use Rattle.sqlite.specs.Does.{Concludes}
use Rattle.sqlite_schema.specs.declared.schema.Among.{Among}
use Rattle.sqlite_schema.specs.declared.schema.Among.TheVariants as among
use Rattle.sqlite_schema.specs.declared.schema.Keys.TheVariants.{Enforced}
use Rattle.sqlite_keyed.proofs.RuleLemmas.{each_true}
use Rattle.sqlite_keyed.proofs.ListLemmas.{all_weaker, all_from_test}
use Rattle.std.proofs.lemmas.Bool.{cases_Bool, ne_eqb}
use Rattle.std.proofs.lemmas.Bool.Decides.{nat_tests}
use Rattle.std.proofs.lemmas.Cmp.{nat_cmp_total}
use Rattle.std.specs.Ordering.{is_eq}
use Rattle.std.specs.FinMap.{FinMap, get, nat_cmp-IsAntisymmetric}
use Rattle.ee_store_tables.specs.Rows.{optional}
use Rattle.ee_store_tables.specs.Tables.{bonds, paid, answers, with_others, AreOthers, desk, rates, tickets, batches, extensions}
use Rattle.ee_store_tables.specs.Keyed.{row_of, HoldsMap}
use Rattle.ee_store_tables.proofs.PairLemmas.{tied, any_alike}
use Rattle.ee_store_tables.proofs.HoldsLemmas.{never_tied}
use Rattle.ee_store_tables.proofs.ReadLemmas.{keyed_rows}
use Rattle.ee_store_tables.proofs.SelectLemmas.{cmp_pos, turned_test}
use Rattle.ee_store_tables.proofs.CauseLemmas.{changing}
use Rattle.ee_store_tables.proofs.OtherLemmas.{no_references, unguarded, still_unique}

-- a part that did not stop went on
pub passed : {B E R : Type 0} {b : Result B E} {Stops : E → Type 0} → ((stop : E) × Stops stop × (b ≡ Err stop)) ⊎ R → ((stop : E) → ¬ Stops stop) → R
passed (inl stopped) never = absurd (never stopped.0 stopped.1)
passed (inr on) never = on

-- a value is no stop
pub no_stop : {A E : Type 0} {a : A} {stop : E} → ◌≡◌ {A = Result A E} (Err stop) (Ok a) → ⊥
no_stop e = absurd cc

pub never_so : {b : Bool} → b ≡ true → b ≡ false → ⊥
never_so holds fails = true≢false (sym holds ∙ fails)

-- values that are accepted are a source
pub never_source : {M A I : Type 0} → ¬ A → (M × A) ⊎ (I × IsSome {T = ℕ} None) → ⊥
never_source accepted (inl wrong) = accepted wrong.1
never_source accepted (inr late) = absurd (let a = late.1 in cc)

pub never_sourced : (db : Database) (params : Row) (from : Source) → ((e : Error) → ¬ RefusesSource None db params from e) → (stop : Option Error) → ¬ Sourced None db params from (Err stop)
never_sourced db params from never None h = h
never_sourced db params from never (Some e) h = never e h

pub never_queried : (db : Database) (q : Program) (params : Row) → ((e : Error) → ¬ RefusesQuery None db q params e) → (stop : Option Error) → ¬ Queried None db q params (Err stop)
never_queried db q params never None h = h
never_queried db q params never (Some e) h = never e h

module _ (schema : Schema) (keys : Keys) (db : Trees) (edit : Edit) where
  pub record IsAllowed : Type 0 where
    pub typed : list_all (passes Datatype schema db edit.table) edit.news ≡ true
    pub present : list_all (passes NotNull schema db edit.table) edit.news ≡ true
    pub checked : list_all (passes Check schema db edit.table) edit.news ≡ true
    pub fresh : are_fresh (left_by db edit) edit.news ≡ true
    pub unique : Keeps Unique schema (with_tree db edit.table.tree (edited db edit))
    pub keyed : have_rowids edit.news ≡ true
    pub fits : list_all (λ r. fits_i64 (id_in (rowid r))) edit.news ≡ true
    pub referred : is_referred schema keys edit ≡ true
    pub acts : works schema keys 0 edit.table.tree (taken_by db edit) edit.news ≡ []
    pub small : (row : Row) → Has edit.news row → ¬ IsOversized schema edit.table row

  module _ (it : IsAllowed) where
    not_refused : (why : Refusal) → ¬ IsRefused schema keys db edit why
    not_refused (Violates Datatype) h = never_so it.typed h
    not_refused (Violates NotNull) h = never_so it.present h
    not_refused (Violates Check) h = never_so it.checked h
    not_refused (Violates PrimaryKey) h = never_so it.fresh h
    not_refused (Violates Unique) h = h it.unique
    not_refused (Violates ForeignKey) h = h
    not_refused Mismatch h = never_so it.keyed h
    not_refused NoRowid h = never_so it.fits h
    not_refused BadReference h = never_so it.referred h
    not_refused TooDeep h = h

    settled : (next : Trees) (why : Option Refusal) (n : ℕ) → ¬ Leads schema keys n next [] (Err why)
    settled next why zero h = no_stop h.1
    settled next why (suc n) h = absurd (omega (arith, ap length h.2, length-append h.0 (h.1 ∷ [])))

    goes : (why : Option Refusal) → ¬ Goes schema keys (Settles schema keys) db edit 0 [] (Err why)
    goes why (inl refused) = not_refused refused.0 refused.1
    goes why (inr (inl big)) = it.small big.0 big.1 big.2
    goes why (inr (inr went)) = settled went.0 why went.2.0 (rw it.acts at went.2.1)

    pub never_edited : (stop : Option Error) → ¬ Edited schema keys db edit (Err stop)
    never_edited stop h = goes h.0 h.1

-- ---- what a row may take

-- a whole number or NULL
abbrev pub is_bare : Value → Bool
is_bare Null = true
is_bare (Int n) = true
is_bare _ = false

pub bare_optional : (o : Option ℕ) → is_bare (optional o) ≡ true
bare_optional None = refl
bare_optional (Some n) = refl

bare_bytes : (v : Value) → is_bare v ≡ true → 18 + length (bytes v) ≤ 18
bare_bytes Null h = omega arith
bare_bytes (Int n) h = omega arith
bare_bytes _ h = absurd cc

bare_number : (v : Value) → is_bare v ≡ true → NotNan (number v)
unfolding Ieee.is_nan
bare_number Null h = tt
bare_number (Int (pos n)) h = tt
bare_number (Int (negsuc n)) h = tt
bare_number _ h = absurd cc

pub bare_storable : (row : Row) → list_all is_bare row ≡ true → 0 < length row → length row ≤ 2001 → IsStorable 0 row
bare_storable row bare some few =
    let each = all_from_test is_bare row bare in
    record {
      typed = λ c set. absurd (let z = bit_at-zero c in omega (arith, z, set));
      columns = (some, few);
      numbers = All-from_recursion (λ v. NotNan (number v)) row (all_weaker (λ v. is_bare v ≡ true) (λ v. NotNan (number v)) bare_number row each);
      short = omega (arith, sum_by-le (λ (v : Value). 18 + length (bytes v)) 18 row (All-from_recursion _ row (all_weaker (λ v. is_bare v ≡ true) (λ v. 18 + length (bytes v) ≤ 18) bare_bytes row each)), mul-le-mul_right 18 few);
    }

pub all_has : {X : Type 0} (P : X → Type 0) (xs : List X) (x : X) → AllByRecursion P xs → Has xs x → P x
all_has P [] x all h = absurd h
all_has P (y ∷ ys) x all (inl same) = subst P (sym same) all.0
all_has P (y ∷ ys) x all (inr later) = all_has P ys x all.1 later

-- the one new row may be stored, and so may its entry in each index of the table
pub one_fits : (schema : Schema) (table : Table) (row : Row) → IsStorableRow (table_reals table) row
    → AllByRecursion (λ i. i.table ≡ table.tree → IsStorable (index_reals (table_reals table) i.columns) (entry_of i.columns row)) schema.indexes
    → (r : Row) → Has (row ∷ []) r → ¬ IsOversized schema table r
one_fits schema table row fits entries r (inr h) big = h
one_fits schema table row fits entries r (inl same) (inl big) = big (subst (IsStorableRow (table_reals table)) (sym same) fits)
one_fits schema table row fits entries r (inl same) (inr big) =
    big.3 (subst (λ r. IsStorable (index_reals (table_reals table) big.0.columns) (entry_of big.0.columns r)) (sym same) (all_has _ schema.indexes big.0 entries big.1 big.2))

-- ---- after the write

abbrev pub task_on : Schema → Table → Row → Task
task_on others table params = record { limit = None; keys = Enforced; schema = with_others others; table = table; params = params }

pub never_concluded : (others : Schema) → AreOthers others → (table : Table) (params : Row) (w : Written) (stop : Option Error) → ¬ Concludes (task_on others table params) changing None w (Err stop)
never_concluded others them table params w stop h =
    let tested = passed h (λ s broken. broken.0 (no_references others them among.All w.trees)) in let shown = passed tested.2 (λ s e. no_stop e) in no_stop shown.2

-- ---- unique keys

module _ (others : Schema) (them : AreOthers others) (db : Trees) (tree : ℕ) (low : tree ≤ 14) (next : List Row) (unique : Keeps Unique (with_others others) db) where
  -- each row of this table passes
  free : (table : Table) → table.tree ≤ 14 → (now : Trees) → ((row : Row) → passes Unique (with_others others) now table row ≡ list_all (λ i. not (guards i table && clashes i.order i.columns (now table.tree) row)) others.indexes) → (rows : List Row)
      → AllByRecursion (λ row. passes Unique (with_others others) now table row ≡ true) rows
  free table here now is [] = tt
  free table here now is (row ∷ rows) = (is row ∙ unguarded others them table here now row, free table here now is rows)

  abbrev now : Trees
  now = with_tree db tree next

  -- of the counter's tables only bonds, lines and answers have unique keys
  pub all_unique : AllByRecursion (λ r. passes Unique (with_others others) now bonds r ≡ true) (now 2) → AllByRecursion (λ r. passes Unique (with_others others) now paid r ≡ true) (now 7)
      → AllByRecursion (λ r. passes Unique (with_others others) now answers r ≡ true) (now 13) → Keeps Unique (with_others others) now
  all_unique of_bonds of_lines of_answers = (
    free desk (omega arith) now (λ _. refl) (now 0),
    (
      free rates (omega arith) now (λ _. refl) (now 1),
      (
        of_bonds,
        (
          free tickets (omega arith) now (λ _. refl) (now 5),
          (
            of_lines,
            (free batches (omega arith) now (λ _. refl) (now 10), (free extensions (omega arith) now (λ _. refl) (now 12), (of_answers, still_unique others them db tree next low unique))),
          ),
        ),
      ),
    ),
  )

  -- so a write of another table leaves them
  pub unique_beside : 2 ≢ tree → 7 ≢ tree → 13 ≢ tree → Keeps Unique (with_others others) now
  unique_beside not_bonds not_lines not_answers =
      all_unique
      (subst (λ rows. AllByRecursion (λ r. passes Unique (with_others others) (λ _. rows) bonds r ≡ true) rows) (sym (kept 2 not_bonds)) unique.1.1.0)
      (subst (λ rows. AllByRecursion (λ r. passes Unique (with_others others) (λ _. rows) paid r ≡ true) rows) (sym (kept 7 not_lines)) unique.1.1.1.1.0)
      (subst (λ rows. AllByRecursion (λ r. passes Unique (with_others others) (λ _. rows) answers r ≡ true) rows) (sym (kept 13 not_answers)) unique.1.1.1.1.1.1.1.0)
    where
      kept : (t : ℕ) → t ≢ tree → with_tree db tree next t ≡ db t
      kept t apart = ap (λ b. if b then next else db t) (ne_eqb t tree apart)

-- a key without an entry is a rowid that no row has
pub key_free : {X : Type 0} (columns : X → Row) (n : ℕ) (rows : List Row) (m : FinMap nat_cmp X) (h : HoldsMap columns rows m) (new : Row) → get m n ≡ None → is_taken rows (Int (pos n) ∷ new) ≡ false
key_free columns n rows m h new none = elim (cases_Bool (is_taken rows (Int (pos n) ∷ new))) [
  | inl hit ↦
      absurd (never_tied nat_cmp_total nat_cmp-IsAntisymmetric (row_of columns) (λ _. refl) n rows m h.table none
      (sym (any_alike (λ e. row_of columns (pos e.0, e)) (λ r. is_eq (value_cmp (rowid r) (Int (pos n)))) (tied nat_cmp nat_cmp_total n) (λ r e one. rw (one 0) (ap is_eq (cmp_pos e.0 n) ∙ turned_test e.0 n))
      rows _ (keyed_rows columns rows h.table.numbered h.keyed h.table.are)) ∙ hit))
  | inr miss ↦ miss
]

pub number_fits : (n : ℕ) → n < 2 ^ 63 → (fits_i64 (pos n) && true) ≡ true
number_fits n low = grind (arith, nat_tests)

-- a rowid whose row is taken out is free
pub taken_out : (i : ℤ) (rows : List Row) (new : Row) → rowid new ≡ Int i → is_taken (without_rowid i rows) new ≡ false
taken_out i [] new is = refl
taken_out i (r ∷ rows) new is = elim (cases_Bool (has_rowid i r)) [
  | inl hit ↦ rw hit (taken_out i rows new is)
  | inr miss ↦ rw miss (rw (ap (λ v. is_eq (value_cmp (rowid r) v)) is ∙ miss) (taken_out i rows new is))
]
