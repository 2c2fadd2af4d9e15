-- What the parts of a write give.
use Rattle.std.proofs.Common.{◌≡◌, ◌≢◌, ◌⊎◌, inl, inr, ℕ, ℤ, pos, List, [], ◌∷◌, Bool, true, false, not, cond, Some, None, Option, Ok, Err, Result, refl, sym, ap, subst, arith, nat_cmp}
use Rattle.std.specs.Prelude.{◌&&◌}
use Rattle.sqlite.specs.declared.types.Value.{Value}
use Rattle.sqlite.specs.declared.types.Value.TheVariants.{Null, Int}
use Rattle.sqlite.specs.Order.{Row}
use Rattle.sqlite.specs.Ops.{unary}
use Rattle.sqlite.specs.Cast.{cast}
use Rattle.sqlite.specs.Kind.TheVariants.{Integer}
use Rattle.sqlite.specs.Values.{bound_value}
use Rattle.sqlite.specs.Tree.{Trees}
use Rattle.sqlite_schema.specs.declared.schema.Constraint.{Constraint}
use Rattle.sqlite_schema.specs.declared.schema.Constraint.TheVariants.{Unique, ForeignKey}
use Rattle.std.specs.FinMap.{FinMap}
use Rattle.ee_store_tables.specs.Keyed.{pair_cmp, HoldsPairs, HoldsMap}
use Rattle.ee_store_tables.specs.Rows.{Rows, Holds, DeskRow, BondRow, TicketRow, PaidRow, BatchRow, ReplyRow, desk_columns, rate_columns, bond_columns, ticket_columns, paid_columns, batch_columns, reply_columns, optional}
use Rattle.std.specs.List.{AllByRecursion}

either : (b : Bool) (x : Value) → cond b x x ≡ x
either true x = refl
either false x = refl

pub cast_int : (n : ℕ) → cast Integer (Int (pos n)) ≡ Int (pos n)
unfolding unary
cast_int n = either _ (Int (pos n))

pub cast_integer : (n : ℤ) → cast Integer (Int n) ≡ Int n
unfolding unary
cast_integer n = either _ (Int n)

pub cast_null : cast Integer Null ≡ Null
unfolding unary
cast_null = either _ Null

pub cast_optional : (o : Option ℕ) → cast Integer (optional o) ≡ optional o
cast_optional None = cast_null
cast_optional (Some n) = cast_int n

pub bound_optional : (o : Option ℕ) → bound_value (optional o) ≡ optional o
bound_optional None = refl
bound_optional (Some n) = refl

-- a part that gave a value did not stop on the way
pub went : {B E R : Type 0} {b : B} {Stops : E → Type 0} → ((stop : E) × Stops stop × (Ok b ≡ Err stop)) ⊎ R → R
went (inl stopped) = absurd (let e = stopped.2 in cc)
went (inr on) = on

pub same_value : {B E : Type 0} {a b : B} → ◌≡◌ {A = Result B E} (Ok a) (Ok b) → a ≡ b
same_value e = cc

pub fresh_one : (b : Bool) → (not b && true) ≡ true → b ≡ false
fresh_one true h = cc
fresh_one false h = refl

-- every table but this one has the rows that it had
abbrev pub Same : ℕ → Trees → Trees → Type 0
Same tree old new = AllByRecursion (λ t. (t ≢ tree) → new t ≡ old t) (0 ∷ 1 ∷ 2 ∷ 5 ∷ 7 ∷ 10 ∷ 12 ∷ 13 ∷ [])

pub unaltered : (tree : ℕ) (db : Trees) → Same tree db db
unaltered tree db = (λ _. refl, (λ _. refl, (λ _. refl, (λ _. refl, (λ _. refl, (λ _. refl, (λ _. refl, (λ _. refl, tt))))))))

pub not_so : (b : Bool) → not b ≡ true → b ≡ false
not_so true h = cc
not_so false h = refl

is_foreign : Constraint → Bool
is_foreign ForeignKey = true
is_foreign _ = false

pub not_foreign : Unique ≢ ForeignKey
unfolding is_foreign
not_foreign e = absurd (let a : false ≡ true = ap is_foreign e in cc)

pub moved : {X : Type 0} {columns : X → Row} {m : FinMap nat_cmp X} {old new : List Row} → new ≡ old → HoldsMap columns old m → HoldsMap columns new m
moved {columns} {m} same held = subst (λ rs. HoldsMap columns rs m) (sym same) held

pub moved_pairs : {X : Type 0} (columns : X → Row) {m : FinMap pair_cmp X} {old new : List Row} → new ≡ old → HoldsPairs columns old m → HoldsPairs columns new m
moved_pairs columns {m} same held = subst (λ rs. HoldsPairs columns rs m) (sym same) held

module _ (db new : Trees) (rows : Rows) (stands : Holds db rows) where
  pub with_desk : (next : FinMap nat_cmp DeskRow) → Same 0 db new → HoldsMap desk_columns (new 0) next → Holds new (record rows { desk = next })
  with_desk next same held = record {
    desk = held;
    rates = moved (same.1.0 (λ e. omega (arith, e))) stands.rates;
    bonds = moved_pairs bond_columns (same.1.1.0 (λ e. omega (arith, e))) stands.bonds;
    tickets = moved (same.1.1.1.0 (λ e. omega (arith, e))) stands.tickets;
    paid = moved_pairs paid_columns (same.1.1.1.1.0 (λ e. omega (arith, e))) stands.paid;
    batches = moved (same.1.1.1.1.1.0 (λ e. omega (arith, e))) stands.batches;
    extensions = moved (same.1.1.1.1.1.1.0 (λ e. omega (arith, e))) stands.extensions;
    answers = moved_pairs reply_columns (same.1.1.1.1.1.1.1.0 (λ e. omega (arith, e))) stands.answers;
  }

  pub with_rates : (next : FinMap nat_cmp ℕ) → Same 1 db new → HoldsMap rate_columns (new 1) next → Holds new (record rows { rates = next })
  with_rates next same held = record {
    desk = moved (same.0 (λ e. omega (arith, e))) stands.desk;
    rates = held;
    bonds = moved_pairs bond_columns (same.1.1.0 (λ e. omega (arith, e))) stands.bonds;
    tickets = moved (same.1.1.1.0 (λ e. omega (arith, e))) stands.tickets;
    paid = moved_pairs paid_columns (same.1.1.1.1.0 (λ e. omega (arith, e))) stands.paid;
    batches = moved (same.1.1.1.1.1.0 (λ e. omega (arith, e))) stands.batches;
    extensions = moved (same.1.1.1.1.1.1.0 (λ e. omega (arith, e))) stands.extensions;
    answers = moved_pairs reply_columns (same.1.1.1.1.1.1.1.0 (λ e. omega (arith, e))) stands.answers;
  }

  pub with_bonds : (next : FinMap pair_cmp BondRow) → Same 2 db new → HoldsPairs bond_columns (new 2) next → Holds new (record rows { bonds = next })
  with_bonds next same held = record {
    desk = moved (same.0 (λ e. omega (arith, e))) stands.desk;
    rates = moved (same.1.0 (λ e. omega (arith, e))) stands.rates;
    bonds = held;
    tickets = moved (same.1.1.1.0 (λ e. omega (arith, e))) stands.tickets;
    paid = moved_pairs paid_columns (same.1.1.1.1.0 (λ e. omega (arith, e))) stands.paid;
    batches = moved (same.1.1.1.1.1.0 (λ e. omega (arith, e))) stands.batches;
    extensions = moved (same.1.1.1.1.1.1.0 (λ e. omega (arith, e))) stands.extensions;
    answers = moved_pairs reply_columns (same.1.1.1.1.1.1.1.0 (λ e. omega (arith, e))) stands.answers;
  }

  pub with_tickets : (next : FinMap nat_cmp TicketRow) → Same 5 db new → HoldsMap ticket_columns (new 5) next → Holds new (record rows { tickets = next })
  with_tickets next same held = record {
    desk = moved (same.0 (λ e. omega (arith, e))) stands.desk;
    rates = moved (same.1.0 (λ e. omega (arith, e))) stands.rates;
    bonds = moved_pairs bond_columns (same.1.1.0 (λ e. omega (arith, e))) stands.bonds;
    tickets = held;
    paid = moved_pairs paid_columns (same.1.1.1.1.0 (λ e. omega (arith, e))) stands.paid;
    batches = moved (same.1.1.1.1.1.0 (λ e. omega (arith, e))) stands.batches;
    extensions = moved (same.1.1.1.1.1.1.0 (λ e. omega (arith, e))) stands.extensions;
    answers = moved_pairs reply_columns (same.1.1.1.1.1.1.1.0 (λ e. omega (arith, e))) stands.answers;
  }

  pub with_paid : (next : FinMap pair_cmp PaidRow) → Same 7 db new → HoldsPairs paid_columns (new 7) next → Holds new (record rows { paid = next })
  with_paid next same held = record {
    desk = moved (same.0 (λ e. omega (arith, e))) stands.desk;
    rates = moved (same.1.0 (λ e. omega (arith, e))) stands.rates;
    bonds = moved_pairs bond_columns (same.1.1.0 (λ e. omega (arith, e))) stands.bonds;
    tickets = moved (same.1.1.1.0 (λ e. omega (arith, e))) stands.tickets;
    paid = held;
    batches = moved (same.1.1.1.1.1.0 (λ e. omega (arith, e))) stands.batches;
    extensions = moved (same.1.1.1.1.1.1.0 (λ e. omega (arith, e))) stands.extensions;
    answers = moved_pairs reply_columns (same.1.1.1.1.1.1.1.0 (λ e. omega (arith, e))) stands.answers;
  }

  pub with_batches : (next : FinMap nat_cmp BatchRow) → Same 10 db new → HoldsMap batch_columns (new 10) next → Holds new (record rows { batches = next })
  with_batches next same held = record {
    desk = moved (same.0 (λ e. omega (arith, e))) stands.desk;
    rates = moved (same.1.0 (λ e. omega (arith, e))) stands.rates;
    bonds = moved_pairs bond_columns (same.1.1.0 (λ e. omega (arith, e))) stands.bonds;
    tickets = moved (same.1.1.1.0 (λ e. omega (arith, e))) stands.tickets;
    paid = moved_pairs paid_columns (same.1.1.1.1.0 (λ e. omega (arith, e))) stands.paid;
    batches = held;
    extensions = moved (same.1.1.1.1.1.1.0 (λ e. omega (arith, e))) stands.extensions;
    answers = moved_pairs reply_columns (same.1.1.1.1.1.1.1.0 (λ e. omega (arith, e))) stands.answers;
  }

  pub with_extensions : (next : FinMap nat_cmp ℕ) → Same 12 db new → HoldsMap rate_columns (new 12) next → Holds new (record rows { extensions = next })
  with_extensions next same held = record {
    desk = moved (same.0 (λ e. omega (arith, e))) stands.desk;
    rates = moved (same.1.0 (λ e. omega (arith, e))) stands.rates;
    bonds = moved_pairs bond_columns (same.1.1.0 (λ e. omega (arith, e))) stands.bonds;
    tickets = moved (same.1.1.1.0 (λ e. omega (arith, e))) stands.tickets;
    paid = moved_pairs paid_columns (same.1.1.1.1.0 (λ e. omega (arith, e))) stands.paid;
    batches = moved (same.1.1.1.1.1.0 (λ e. omega (arith, e))) stands.batches;
    extensions = held;
    answers = moved_pairs reply_columns (same.1.1.1.1.1.1.1.0 (λ e. omega (arith, e))) stands.answers;
  }

  pub with_answers : (next : FinMap pair_cmp ReplyRow) → Same 13 db new → HoldsPairs reply_columns (new 13) next → Holds new (record rows { answers = next })
  with_answers next same held = record {
    desk = moved (same.0 (λ e. omega (arith, e))) stands.desk;
    rates = moved (same.1.0 (λ e. omega (arith, e))) stands.rates;
    bonds = moved_pairs bond_columns (same.1.1.0 (λ e. omega (arith, e))) stands.bonds;
    tickets = moved (same.1.1.1.0 (λ e. omega (arith, e))) stands.tickets;
    paid = moved_pairs paid_columns (same.1.1.1.1.0 (λ e. omega (arith, e))) stands.paid;
    batches = moved (same.1.1.1.1.1.0 (λ e. omega (arith, e))) stands.batches;
    extensions = moved (same.1.1.1.1.1.1.0 (λ e. omega (arith, e))) stands.extensions;
    answers = held;
  }
