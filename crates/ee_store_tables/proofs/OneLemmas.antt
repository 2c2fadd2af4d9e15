-- Trees hold no two different rows.
use Rattle.std.proofs.Common.{◌≡◌, ℕ, zero, suc, ℤ, pos, List, [], ◌∷◌, map, filter, Some, None, Option, refl, sym, ap, subst, subst₂, ◌∙◌, Ordering, nat_cmp, slice_get}
use Rattle.std.specs.Prelude.{⊤, IsPermutation, option_map, drop}
use Rattle.std.specs.Option.{option_to_list}
use Rattle.std.specs.List.{AllByRecursion}
use Rattle.std.specs.Cmp.{IsTotalOrder}
use Rattle.std.proofs.lemmas.Cmp.{nat_cmp_total}
use Rattle.std.specs.FinMap.{FinMap, IsAntisymmetric, nat_cmp-IsAntisymmetric, entries, entries_sorted, get, get-entries, same_map}
use Rattle.std.proofs.lemmas.List.Sorted.{IsPermutation-sym, IsPermutation-trans}
use Rattle.sqlite.specs.declared.types.Value.{Value}
use Rattle.sqlite.specs.declared.types.Value.TheVariants.{Text}
use Rattle.sqlite.specs.Tree.{Trees}
use Rattle.sqlite_value.specs.Order.{Row, column}
use Rattle.sqlite_keyed.proofs.ListLemmas.{IsPermutation-filter}
use Rattle.ee_store_tables.specs.Keyed.{pair_cmp, row_of, stored, ReadAlike, AreRows, HoldsMap, HoldsPairs}
use Rattle.ee_store_tables.specs.Rows.{Rows, DeskRow, BondRow, TicketRow, PaidRow, BatchRow, ReplyRow, Holds, optional, desk_columns, rate_columns, bond_columns, ticket_columns, paid_columns, batch_columns, reply_columns}
use Rattle.ee_store_tables.proofs.HoldsLemmas.{pair_total, pair_same, at_most_one}
use Rattle.ee_store_tables.proofs.PairLemmas.{tied, tied_entry}
use Rattle.ee_store_tables.proofs.SameLemmas.{int_in, natural, number_in, optional_in, optional_back}

-- ---- rows that are read back from their columns

abbrev text_in : Value → List ℕ
text_in (Text t) = t
text_in _ = []

pub un_desk : Row → DeskRow
un_desk r = record { version = number_in (column r 0); day = optional_in (column r 1); last_day = optional_in (column r 2) }

pub back_desk : (x : DeskRow) → un_desk (desk_columns x) ≡ x
unfolding un_desk
back_desk x = ap (λ d. record { version = x.version; day = d; last_day = optional_in (optional x.last_day) }) (optional_back x.day) ∙ ap (λ l. record { version = x.version; day = x.day; last_day = l }) (optional_back x.last_day)

pub un_rates : Row → ℕ
un_rates r = number_in (column r 0)

pub back_rates : (x : ℕ) → un_rates (rate_columns x) ≡ x
unfolding un_rates
back_rates x = refl

pub un_bonds : Row → BondRow
un_bonds r = record { denom = number_in (column r 0); issued = number_in (column r 1); owner = number_in (column r 2); coowner = optional_in (column r 3); ticket = optional_in (column r 4) }

pub back_bonds : (x : BondRow) → un_bonds (bond_columns x) ≡ x
unfolding un_bonds
back_bonds x = ap (λ d. record { denom = x.denom; issued = x.issued; owner = x.owner; coowner = d; ticket = optional_in (optional x.ticket) }) (optional_back x.coowner) ∙ ap (λ l. record { denom = x.denom; issued = x.issued; owner = x.owner; coowner = x.coowner; ticket = l }) (optional_back x.ticket)

pub un_tickets : Row → TicketRow
un_tickets r = record { day = number_in (column r 0); payee = number_in (column r 1); bonds = number_in (column r 2); total = number_in (column r 3) }

pub back_tickets : (x : TicketRow) → un_tickets (ticket_columns x) ≡ x
unfolding un_tickets
back_tickets x = refl

pub un_lines : Row → PaidRow
un_lines r = record { letter = number_in (column r 0); number = number_in (column r 1); cents = number_in (column r 2) }

pub back_lines : (x : PaidRow) → un_lines (paid_columns x) ≡ x
unfolding un_lines
back_lines x = refl

pub un_batches : Row → BatchRow
un_batches r = record { tickets = number_in (column r 0); bonds = number_in (column r 1); total = number_in (column r 2) }

pub back_batches : (x : BatchRow) → un_batches (batch_columns x) ≡ x
unfolding un_batches
back_batches x = refl

pub un_replies : Row → ReplyRow
un_replies r = record { act = text_in (column r 0); reply = text_in (column r 1) }

pub back_replies : (x : ReplyRow) → un_replies (reply_columns x) ≡ x
unfolding un_replies
back_replies x = refl

-- ---- maps of the same entries

module _ {K X : Type 0} (R : K → K → Ordering) (o : IsTotalOrder R) (same : IsAntisymmetric R) where
  abbrev listed : K → Option X → List (K × X)
  listed k w = option_to_list {X = K × X} (option_map {U = K × X} (λ x. (k, x)) w)

  same_option : (k : K) (u v : Option X) → listed k u ≡ listed k v → u ≡ v
  same_option k u v e = sym (back u) ∙ ap (λ (l : List (K × X)). option_map (λ p. p.1) (slice_get l 0)) e ∙ back v
    where
      back : (w : Option X) → option_map (λ (p : K × X). p.1) (slice_get (listed k w) 0) ≡ w
      back None = refl
      back (Some x) = refl

  entry_at : (k : K) (m : FinMap R X) → filter (tied R o k) (entries m) ≡ listed k (get m k)
  entry_at k m = tied_entry R o k same (entries m) (entries_sorted m) ∙ ap (listed k) (sym (get-entries m k))

  one_get : (a b : FinMap R X) → IsPermutation (entries a) (entries b) → (k : K) → get a k ≡ get b k
  one_get a b h k =
      let kept = subst₂ IsPermutation (entry_at k a) (entry_at k b) (IsPermutation-filter (tied R o k) _ _ h) in
      same_option k (get a k) (get b k) (sym (at_most_one {X = K × X} (option_map {U = K × X} (λ x. (k, x)) (get a k)) (listed k (get b k)) kept))

  one_map : (a b : FinMap R X) → IsPermutation (entries a) (entries b) → a ≡ b
  one_map a b h = same_map o same a b (one_get a b h)

-- ---- rows that read alike

columns_from : Row → ℕ → ℕ → Row
columns_from r at zero = []
columns_from r at (suc n) = column r at ∷ columns_from r (suc at) n

alike_columns : (a b : Row) → ReadAlike a b → (at n : ℕ) → columns_from a at n ≡ columns_from b at n
unfolding columns_from
alike_columns a b same at zero = refl
alike_columns a b same at (suc n) = ap (λ v. v ∷ columns_from a (suc at) n) (same at) ∙ ap (λ vs. column b at ∷ vs) (alike_columns a b same (suc at) n)

module _ {P : Type 0} (row : P → Row) (Fits : P → Type 0) (apart : (p q : P) → Fits p → Fits q → ReadAlike (row p) (row q) → p ≡ q) where
  one_list : (rows : List Row) (ps qs : List P) → AllByRecursion Fits ps → AllByRecursion Fits qs → AreRows row rows ps → AreRows row rows qs → ps ≡ qs
  one_list [] [] [] f g h k = refl
  one_list [] [] (q ∷ qs) f g h k = absurd k
  one_list [] (p ∷ ps) qs f g h k = absurd h
  one_list (r ∷ rows) [] qs f g h k = absurd h
  one_list (r ∷ rows) (p ∷ ps) [] f g h k = absurd k
  one_list (r ∷ rows) (p ∷ ps) (q ∷ qs) f g h k =
      ap (λ x. x ∷ ps) (apart p q f.0 g.0 (λ at. sym (h.0 at) ∙ k.0 at)) ∙ ap (λ xs. q ∷ xs) (one_list rows ps qs f.1 g.1 h.1 k.1)

module _ {X : Type 0} (columns : X → Row) (uncolumns : Row → X) (back : (x : X) → uncolumns (columns x) ≡ x) (width : ℕ) where
  module _ (whole : (p : ℤ × (ℕ × X)) → columns_from (row_of columns p) 0 width ≡ row_of columns p) where
    keyed_apart : (p q : ℤ × (ℕ × X)) → p.0 ≡ pos p.1.0 → q.0 ≡ pos q.1.0 → ReadAlike (row_of columns p) (row_of columns q) → p ≡ q
    keyed_apart p q f g same =
        let rows : row_of columns p ≡ row_of columns q = sym (whole p) ∙ alike_columns _ _ same 0 width ∙ whole q in
        let id : p.0 ≡ q.0 = ap (λ r. int_in (column r 0)) rows in
        let key : p.1.0 ≡ q.1.0 = ap natural (sym f ∙ id ∙ g) in
        let value : p.1.1 ≡ q.1.1 = sym (back p.1.1) ∙ ap (λ r. uncolumns (drop 2 r)) rows ∙ back q.1.1 in
        ap (λ i. (i, p.1)) id ∙ ap (λ n. (q.0, (n, p.1.1))) key ∙ ap (λ x. (q.0, (q.1.0, x))) value

    one_keyed : (rows : List Row) (a b : FinMap nat_cmp X) → HoldsMap columns rows a → HoldsMap columns rows b → a ≡ b
    one_keyed rows a b h k =
        let same = one_list (row_of columns) (λ p. p.0 ≡ pos p.1.0) keyed_apart rows h.table.numbered k.table.numbered h.keyed k.keyed h.table.are k.table.are in
        one_map nat_cmp nat_cmp_total nat_cmp-IsAntisymmetric a b
        (IsPermutation-trans _ _ _ (IsPermutation-sym _ _ h.table.same) (subst (λ ps. IsPermutation (map (λ (p : ℤ × (ℕ × X)). p.1) ps) (entries b)) (sym same) k.table.same))

  module _ (whole : (p : ℤ × ((ℕ × ℕ) × X)) → columns_from (stored columns p) 0 width ≡ stored columns p) where
    pairs_apart : (p q : ℤ × ((ℕ × ℕ) × X)) → ⊤ → ⊤ → ReadAlike (stored columns p) (stored columns q) → p ≡ q
    pairs_apart p q f g same =
        let rows : stored columns p ≡ stored columns q = sym (whole p) ∙ alike_columns _ _ same 0 width ∙ whole q in
        let id : p.0 ≡ q.0 = ap (λ r. int_in (column r 0)) rows in
        let first : p.1.0.0 ≡ q.1.0.0 = ap (λ r. number_in (column r 1)) rows in
        let second : p.1.0.1 ≡ q.1.0.1 = ap (λ r. number_in (column r 2)) rows in
        let value : p.1.1 ≡ q.1.1 = sym (back p.1.1) ∙ ap (λ r. uncolumns (drop 3 r)) rows ∙ back q.1.1 in
        ap (λ i. (i, p.1)) id ∙ ap (λ m. (q.0, ((m, p.1.0.1), p.1.1))) first ∙ ap (λ n. (q.0, ((q.1.0.0, n), p.1.1))) second ∙ ap (λ x. (q.0, (q.1.0, x))) value

    each_fits : (ps : List (ℤ × ((ℕ × ℕ) × X))) → AllByRecursion (λ p. ⊤) ps
    each_fits [] = tt
    each_fits (p ∷ ps) = (tt, each_fits ps)

    one_pairs : (rows : List Row) (a b : FinMap pair_cmp X) → HoldsPairs columns rows a → HoldsPairs columns rows b → a ≡ b
    one_pairs rows a b h k =
        let same = one_list (stored columns) (λ p. ⊤) pairs_apart rows h.numbered k.numbered (each_fits h.numbered) (each_fits k.numbered) h.are k.are in
        one_map pair_cmp pair_total pair_same a b
        (IsPermutation-trans _ _ _ (IsPermutation-sym _ _ h.same) (subst (λ ps. IsPermutation (map (λ (p : ℤ × ((ℕ × ℕ) × X)). p.1) ps) (entries b)) (sym same) k.same))

-- ---- each table

pub one_desk : (rows : List Row) (a b : FinMap nat_cmp DeskRow) → HoldsMap desk_columns rows a → HoldsMap desk_columns rows b → a ≡ b
unfolding columns_from
one_desk = one_keyed desk_columns un_desk back_desk 5 (λ _. refl)

pub one_rates : (rows : List Row) (a b : FinMap nat_cmp ℕ) → HoldsMap rate_columns rows a → HoldsMap rate_columns rows b → a ≡ b
unfolding columns_from
one_rates = one_keyed rate_columns un_rates back_rates 3 (λ _. refl)

pub one_tickets : (rows : List Row) (a b : FinMap nat_cmp TicketRow) → HoldsMap ticket_columns rows a → HoldsMap ticket_columns rows b → a ≡ b
unfolding columns_from
one_tickets = one_keyed ticket_columns un_tickets back_tickets 6 (λ _. refl)

pub one_batches : (rows : List Row) (a b : FinMap nat_cmp BatchRow) → HoldsMap batch_columns rows a → HoldsMap batch_columns rows b → a ≡ b
unfolding columns_from
one_batches = one_keyed batch_columns un_batches back_batches 5 (λ _. refl)

pub one_replies : (rows : List Row) (a b : FinMap nat_cmp ReplyRow) → HoldsMap reply_columns rows a → HoldsMap reply_columns rows b → a ≡ b
unfolding columns_from
one_replies = one_keyed reply_columns un_replies back_replies 4 (λ _. refl)

pub one_bonds : (rows : List Row) (a b : FinMap pair_cmp BondRow) → HoldsPairs bond_columns rows a → HoldsPairs bond_columns rows b → a ≡ b
unfolding columns_from
one_bonds = one_pairs bond_columns un_bonds back_bonds 8 (λ _. refl)

pub one_lines : (rows : List Row) (a b : FinMap pair_cmp PaidRow) → HoldsPairs paid_columns rows a → HoldsPairs paid_columns rows b → a ≡ b
unfolding columns_from
one_lines = one_pairs paid_columns un_lines back_lines 6 (λ _. refl)

pub one_answers : (rows : List Row) (a b : FinMap pair_cmp ReplyRow) → HoldsPairs reply_columns rows a → HoldsPairs reply_columns rows b → a ≡ b
unfolding columns_from
one_answers = one_pairs reply_columns un_replies back_replies 5 (λ _. refl)

-- ---- all tables

pub one_held : (db : Trees) (a b : Rows) → Holds db a → Holds db b → a ≡ b
one_held db a b h k =
    let desk = one_desk (db 0) a.desk b.desk h.desk k.desk in
    let rates = one_rates (db 1) a.rates b.rates h.rates k.rates in
    let bonds = one_bonds (db 2) a.bonds b.bonds h.bonds k.bonds in
    let tickets = one_tickets (db 5) a.tickets b.tickets h.tickets k.tickets in
    let paid = one_lines (db 7) a.paid b.paid h.paid k.paid in
    let batches = one_batches (db 10) a.batches b.batches h.batches k.batches in
    let extensions = one_rates (db 12) a.extensions b.extensions h.extensions k.extensions in
    let answers = one_answers (db 13) a.answers b.answers h.answers k.answers in
    λ i. record { desk = desk i; rates = rates i; bonds = bonds i; tickets = tickets i; paid = paid i; batches = batches i; extensions = extensions i; answers = answers i }
