-- A table that holds a map can be read.
use Rattle.std.proofs.Common.{◌≡◌, ◌≢◌, ℕ, suc, ℤ, pos, add-one, ap₂, subst₂, List, [], ◌∷◌, map, Bool, true, false, T, Some, All, refl, sym, ap, subst, ◌∙◌, arith, nat_cmp, int_cmp, Less, Equal, Greater, Ordering}
use Rattle.std.specs.Prelude.{◌&&◌, nat_lt, int_lt, drop, cond, flat_map, IsPermutation, IsSorted}
use Rattle.std.specs.List.{AllByRecursion}
use Rattle.std.specs.Ordering.{is_lt, is_eq, ordering_then, ordering_reverse}
use Rattle.std.specs.Cmp.{IsTotalOrder, tied_itself}
use Rattle.std.proofs.lemmas.Cmp.{nat_cmp_total}
use Rattle.std.proofs.lemmas.List.Sorted.{IsPermutation-map}
use Rattle.std.specs.FinMap.{FinMap, entries, entries_sorted, get-entries, find}
use Rattle.std.specs.FinMap.Entries.{is_sorted, below_all}
use Rattle.std.proofs.lemmas.Int.{ints}
use Rattle.std.proofs.lemmas.List.Elements.{All-from_recursion}
use Rattle.std.proofs.Math.Facts.{and_yes}
use Rattle.sqlite.specs.declared.types.Value.TheVariants.{Int}
use Rattle.sqlite.specs.Term.{Term}
use Rattle.sqlite_value.specs.Order.{Row, column}
use Rattle.sqlite.specs.Query.{Query, IsAnswer, Output, output, output_cmp}
use Rattle.sqlite.specs.Program.{overlay}
use Rattle.sqlite.specs.Tree.{Trees}
use Rattle.sqlite_trees.specs.Tree.{IsAscending}
use Rattle.sqlite_value.proofs.OrderLemmas.{value_cmp-Int, then-Equal}
use Rattle.sqlite_keyed.proofs.ListLemmas.{map-map, map_same, map_back, all_weaker, ascending-map, ascending_weaker, filter_all, all_of}
use Rattle.ee_store_tables.specs.Keyed.{pair_cmp, row_of, stored, ReadAlike, HoldsMap, HoldsPairs}
use Rattle.ee_store_tables.specs.Rows.{ReplyRow, reply_columns, BondRow, bond_columns}
use Rattle.ee_store_tables.proofs.Lemmas.Rows.{pair_total, no_limit, by_column, cmp_pos, rows_that_match, keyed_same, keys_rise, rows_in_order, int_in, number_in}
use Rattle.ee_store_load.specs.Reading.{rises}
use Rattle.ee_store_load.specs.Inner.Reading.{whole_table, CanBeRead}
use Rattle.ee_store_load.specs.Shown.{pair_lt, keyed_shown, pair_shown, IsKeyed, IsPaired, IsReply, IsWritten, AreWritten, IsBond, AreBonds}
use Rattle.ee_store_load.specs.Inner.Shown.{IsAnswerRow, IsRowid, IsBondRow}
use Rattle.ee_store_schema.specs.Forms.{at_first_desk}
use Rattle.ee_store_schema.proofs.Lemmas.Desks.{first_desk_get}
use Rattle.ee_store_load.specs.declared.entries.Rowid.{Rowid}
use Rattle.ee_store_load.proofs.FoundLemmas.{alls, AllApart, apart_permuted}
use Rattle.ee_store_load.proofs.QuestionLemmas.{rowid_terms}
use Rattle.ee_store_load.proofs.TableLemmas.{rises_same, number_below, pair_below}

-- ---- lists in order

truth : (b : Bool) → T b → b ≡ true
truth true h = refl
truth false h = absurd h

join : (a b : Bool) → T a → b ≡ true → (a && b) ≡ true
join true b h e = e
join false b h e = absurd h

module _ {A K X : Type 0} (R : K → K → Ordering) (entry : A → K × X) where
  rises_if_sorted : (list : List A) → T (is_sorted R (map entry list)) → rises (λ a b. is_lt (R (entry a).0 (entry b).0)) list ≡ true
  rises_if_sorted [] h = refl
  rises_if_sorted (a ∷ []) h = refl
  rises_if_sorted (a ∷ b ∷ rest) h = let two = and_yes _ _ h in join _ _ (and_yes _ _ two.0).0 (rises_if_sorted (b ∷ rest) two.1)

-- ---- tables whose key is a number

module _ {X : Type 0} (columns : X → Row) (uncolumns : Row → X) (back : (x : X) → uncolumns (columns x) ≡ x) (tree : ℕ) (terms : List Term) where
  abbrev keyed_query : Query
  keyed_query = whole_table tree terms (by_column 0 ∷ [])

  abbrev keyed_out : ℕ × X → Output
  keyed_out e = (Int (pos e.0) ∷ [], keyed_shown columns e)

  keyed_up : (e f : ℕ × X) → nat_cmp e.0 f.0 ≡ Less → output_cmp keyed_query (keyed_out e) (keyed_out f) ≡ Less
  keyed_up e f less = then-Equal _ ∙ cmp_pos e.0 f.0 ∙ less

  abbrev keyed_back : Row → ℕ × X
  keyed_back r = (number_in (column r 0), uncolumns (drop 1 r))

  is_back : (e : ℕ × X) → keyed_back (keyed_shown columns e) ≡ e
  is_back e = ap (λ x. (e.0, x)) (back e.1)

  module _ (shows : (r : Row) (p : ℤ × (ℕ × X)) → ReadAlike r (row_of columns (pos p.1.0, p.1)) → output keyed_query ([] ∷ r ∷ []) ≡ keyed_out p.1) (db : Trees) (m : FinMap nat_cmp X) (read : overlay db [] tree ≡ db tree)
      (holds : HoldsMap columns (db tree) m) where
    shows_keyed : (rows : List Row) → IsAnswer keyed_query (overlay db []) [] rows → rows ≡ map (keyed_shown columns) (entries m)
    shows_keyed rows a =
        let every = filter_all (λ (e : ℕ × X). true) (entries m) (all_of _ (λ e. refl) (entries m)) in
        rows_in_order (λ p. row_of columns (pos p.1.0, p.1)) (λ p. p.1) tree [] terms (by_column 0 ∷ []) no_limit [] (λ e. true) keyed_out (λ r p one. refl) shows db rows holds.table.numbered (entries m) read
        (keyed_same columns (db tree) holds.table.numbered holds.keyed holds.table.are) holds.table.same
        (subst (IsAscending _) (sym every) (ascending_weaker _ _ keyed_up _ (keys_rise nat_cmp (entries m) (entries_sorted m)))) a
        ∙ ap (λ es. map (λ (o : Output). o.1) (map keyed_out es)) every ∙ map-map (λ (o : Output). o.1) keyed_out (entries m)

    keyed_rise : {A : Type 0} (entry : A → ℕ × X) (found : List A) → map (keyed_shown columns) (entries m) ≡ map (λ a. keyed_shown columns (entry a)) found → rises (λ a b. nat_lt (entry a).0 (entry b).0) found ≡ true
    keyed_rise entry found same =
        let es : entries m ≡ map entry found = sym (map_back (keyed_shown columns) keyed_back is_back (entries m)) ∙ ap (map keyed_back) same ∙ map-map keyed_back (λ a. keyed_shown columns (entry a)) found
        ∙ map_same _ _ (λ a. is_back (entry a)) found in
        rises_same _ _ (λ a b. number_below (entry a).0 (entry b).0) found ∙ rises_if_sorted nat_cmp entry found (subst (λ es. T (is_sorted nat_cmp es)) es (entries_sorted m))

    pub can_read_keyed : {A : Type 0} (entry : A → ℕ × X) (IsReadable : Row → Type 0) → All IsReadable (map (keyed_shown columns) (entries m))
        → CanBeRead IsReadable (λ a. keyed_shown columns (entry a)) (λ a b. nat_lt (entry a).0 (entry b).0) db keyed_query
    can_read_keyed entry IsReadable all rows a =
        let is = shows_keyed rows a in
        (subst (All IsReadable) (sym is) all, λ found same. keyed_rise entry found (sym is ∙ same))

are_keyed : {X : Type 0} (columns : X → Row) (es : List (ℕ × X)) → AllByRecursion (IsKeyed columns) (map (keyed_shown columns) es)
are_keyed columns [] = tt
are_keyed columns (e ∷ es) = ((e, refl), are_keyed columns es)

pub all_keyed : {X : Type 0} (columns : X → Row) (es : List (ℕ × X)) → All (IsKeyed columns) (map (keyed_shown columns) es)
all_keyed columns es = All-from_recursion _ _ (are_keyed columns es)

are_paired : {X : Type 0} (columns : X → Row) (es : List ((ℕ × ℕ) × X)) → AllByRecursion (IsPaired columns) (map (pair_shown columns) es)
are_paired columns [] = tt
are_paired columns (e ∷ es) = ((e, refl), are_paired columns es)

pub all_paired : {X : Type 0} (columns : X → Row) (es : List ((ℕ × ℕ) × X)) → All (IsPaired columns) (map (pair_shown columns) es)
all_paired columns es = All-from_recursion _ _ (are_paired columns es)

-- ---- the kept texts

module _ (K : Type 0) (R : K → K → Ordering) (total : IsTotalOrder R) where
  itself : (k : K) → is_eq (R k k) ≡ true
  itself k = ap is_eq (tied_itself total k)

  apart : (j k : K) → is_lt (R j k) ≡ true → is_eq (R k j) ≡ false
  apart j k low = ap is_eq (total.antisymm k j) ∙ turned (R j k) low
    where
      turned : (o : Ordering) → is_lt o ≡ true → is_eq (ordering_reverse o) ≡ false
      turned Less low = refl
      turned Equal low = absurd cc
      turned Greater low = absurd cc

module _ {K X : Type 0} (R : K → K → Ordering) (total : IsTotalOrder R) where
  entry_found : (es : List (K × X)) → T (is_sorted R es) → AllByRecursion (λ e. find R e.0 es ≡ Some e.1) es
  entry_found [] h = tt
  entry_found (e ∷ es) h = let two = and_yes _ _ h in (ap (λ b. cond b (Some e.1) (find R e.0 es)) (itself K R total e.0), later es two.0 (entry_found es two.1))
    where
      later : (fs : List (K × X)) → T (below_all R e.0 fs) → AllByRecursion (λ f. find R f.0 es ≡ Some f.1) fs → AllByRecursion (λ f. find R f.0 (e ∷ es) ≡ Some f.1) fs
      later [] below all = tt
      later (f ∷ fs) below all = let two = and_yes _ _ below in (ap (λ b. cond b (Some e.1) (find R f.0 es)) (apart K R total e.0 f.0 (truth _ two.0)) ∙ all.0, later fs two.1 all.1)

are_replies : (es : List (ℕ × ReplyRow)) → AllByRecursion (λ e. IsWritten e.1) es → AllByRecursion IsReply (map (keyed_shown reply_columns) es)
are_replies [] all = tt
are_replies (e ∷ es) all = ((e, refl, all.0), are_replies es all.1)

pub all_replies : (m : FinMap nat_cmp ReplyRow) → AreWritten (at_first_desk m) → All IsReply (map (keyed_shown reply_columns) (entries m))
all_replies m written =
    let found = entry_found nat_cmp nat_cmp_total (entries m) (entries_sorted m) in
    All-from_recursion _ _ (are_replies (entries m) (all_weaker _ _ (λ e is. written (0, e.0) e.1 (first_desk_get m e.0 ∙ get-entries m e.0 ∙ is)) (entries m) found))

are_bonds : (es : List ((ℕ × ℕ) × BondRow)) → AllByRecursion IsBond es → AllByRecursion IsBondRow (map (pair_shown bond_columns) es)
are_bonds [] all = tt
are_bonds (e ∷ es) all = ((e, refl, all.0), are_bonds es all.1)

pub all_bonds : (m : FinMap pair_cmp BondRow) → AreBonds m → All IsBondRow (map (pair_shown bond_columns) (entries m))
all_bonds m are =
    let found = entry_found pair_cmp pair_total (entries m) (entries_sorted m) in
    All-from_recursion _ _ (are_bonds (entries m) (all_weaker _ _ (λ e is. are e.0 e.1 (get-entries m e.0 ∙ is)) (entries m) found))

are_answers : (es : List ((ℕ × ℕ) × ReplyRow)) → AllByRecursion (λ e. IsWritten e.1) es → AllByRecursion IsAnswerRow (map (pair_shown reply_columns) es)
are_answers [] all = tt
are_answers (e ∷ es) all = ((e, refl, all.0), are_answers es all.1)

pub all_answers : (m : FinMap pair_cmp ReplyRow) → AreWritten m → All IsAnswerRow (map (pair_shown reply_columns) (entries m))
all_answers m written =
    let found = entry_found pair_cmp pair_total (entries m) (entries_sorted m) in
    All-from_recursion _ _ (are_answers (entries m) (all_weaker _ _ (λ e is. written e.0 e.1 (get-entries m e.0 ∙ is)) (entries m) found))

-- ---- tables whose key is a pair of numbers

module _ {X : Type 0} (columns : X → Row) (uncolumns : Row → X) (back : (x : X) → uncolumns (columns x) ≡ x) (tree : ℕ) (terms : List Term) where
  abbrev pair_query : Query
  pair_query = whole_table tree terms (by_column 1 ∷ by_column 2 ∷ [])

  abbrev pair_out : (ℕ × ℕ) × X → Output
  pair_out e = (Int (pos e.0.0) ∷ Int (pos e.0.1) ∷ [], pair_shown columns e)

  pair_up : (e f : (ℕ × ℕ) × X) → pair_cmp e.0 f.0 ≡ Less → output_cmp pair_query (pair_out e) (pair_out f) ≡ Less
  pair_up e f less = ap₂ ordering_then (cmp_pos e.0.0 f.0.0) (then-Equal _ ∙ cmp_pos e.0.1 f.0.1) ∙ less

  abbrev pair_back : Row → (ℕ × ℕ) × X
  pair_back r = ((number_in (column r 0), number_in (column r 1)), uncolumns (drop 2 r))

  is_pair_back : (e : (ℕ × ℕ) × X) → pair_back (pair_shown columns e) ≡ e
  is_pair_back e = ap (λ x. (e.0, x)) (back e.1)

  module _ (shows : (r : Row) (p : ℤ × ((ℕ × ℕ) × X)) → ReadAlike r (stored columns p) → output pair_query ([] ∷ r ∷ []) ≡ pair_out p.1) (db : Trees) (m : FinMap pair_cmp X) (read : overlay db [] tree ≡ db tree)
      (holds : HoldsPairs columns (db tree) m) where
    shows_pairs : (rows : List Row) → IsAnswer pair_query (overlay db []) [] rows → rows ≡ map (pair_shown columns) (entries m)
    shows_pairs rows a =
        let every = filter_all (λ (e : (ℕ × ℕ) × X). true) (entries m) (all_of _ (λ e. refl) (entries m)) in
        rows_in_order (stored columns) (λ p. p.1) tree [] terms (by_column 1 ∷ by_column 2 ∷ []) no_limit [] (λ e. true) pair_out (λ r p one. refl) shows db rows holds.numbered (entries m) read holds.are holds.same
        (subst (IsAscending _) (sym every) (ascending_weaker _ _ pair_up _ (keys_rise pair_cmp (entries m) (entries_sorted m)))) a
        ∙ ap (λ es. map (λ (o : Output). o.1) (map pair_out es)) every ∙ map-map (λ (o : Output). o.1) pair_out (entries m)

    pairs_rise : {A : Type 0} (entry : A → (ℕ × ℕ) × X) (found : List A) → map (pair_shown columns) (entries m) ≡ map (λ a. pair_shown columns (entry a)) found → rises (λ a b. pair_lt (entry a).0 (entry b).0) found ≡ true
    pairs_rise entry found same =
        let es : entries m ≡ map entry found = sym (map_back (pair_shown columns) pair_back is_pair_back (entries m)) ∙ ap (map pair_back) same ∙ map-map pair_back (λ a. pair_shown columns (entry a)) found
        ∙ map_same _ _ (λ a. is_pair_back (entry a)) found in
        rises_same _ _ (λ a b. pair_below (entry a).0 (entry b).0) found ∙ rises_if_sorted pair_cmp entry found (subst (λ es. T (is_sorted pair_cmp es)) es (entries_sorted m))

    pub can_read_pairs : {A : Type 0} (entry : A → (ℕ × ℕ) × X) (IsReadable : Row → Type 0) → All IsReadable (map (pair_shown columns) (entries m))
        → CanBeRead IsReadable (λ a. pair_shown columns (entry a)) (λ a b. pair_lt (entry a).0 (entry b).0) db pair_query
    can_read_pairs entry IsReadable all rows a =
        let is = shows_pairs rows a in
        (subst (All IsReadable) (sym is) all, λ found same. pairs_rise entry found (sym is ∙ same))

-- ---- their rowids

rises_map : {A B : Type 0} (p : B → B → Bool) (f : A → B) (xs : List A) → rises p (map f xs) ≡ rises (λ a b. p (f a) (f b)) xs
rises_map p f [] = refl
rises_map p f (x ∷ []) = refl
rises_map p f (x ∷ y ∷ ys) = ap (λ b. p (f x) (f y) && b) (rises_map p f (y ∷ ys))

below : (i j : ℤ) → is_lt (int_cmp j i) ≡ false → i ≢ j → int_lt i j ≡ true
below i j low apart = grind (arith, ints)

both_true : (a b : Bool) → a ≡ true → b ≡ true → (a && b) ≡ true
both_true true b p q = q
both_true false b p q = absurd cc

abbrev number_of : Output → ℤ
number_of o = int_in (column o.1 0)

abbrev rowid_out : ℤ → Output
rowid_out i = (Int i ∷ [], Int i ∷ [])

they_are : (ids : List ℤ) → AllByRecursion (λ o. (i : ℤ) × (o ≡ rowid_out i)) (map rowid_out ids)
they_are [] = tt
they_are (i ∷ ids) = ((i, refl), they_are ids)

each_rowid : (os : List Output) → AllByRecursion (λ o. (i : ℤ) × (o ≡ rowid_out i)) os → AllByRecursion IsRowid (map (λ (o : Output). o.1) os)
each_rowid [] all = tt
each_rowid (o ∷ os) all = ((all.0.0, ap (λ (o : Output). o.1) all.0.1), each_rowid os all.1)

module _ (tree : ℕ) where
  abbrev rowid_query : Query
  rowid_query = whole_table tree rowid_terms (by_column 0 ∷ [])

  rowids_rise : (os : List Output) → AllByRecursion (λ o. (i : ℤ) × (o ≡ rowid_out i)) os → IsSorted (output_cmp rowid_query) os → AllApart (map number_of os) → rises (λ a b. int_lt (number_of a) (number_of b)) os ≡ true
  rowids_rise [] all sorted apart = refl
  rowids_rise (o ∷ []) all sorted apart = refl
  rowids_rise (o ∷ n ∷ os) all sorted apart =
      let i = all.0.0 in
      let j = all.1.0.0 in
      let low : is_lt (output_cmp rowid_query n o) ≡ false = sorted 0 o (omega arith) (omega arith) in
      let outs : is_lt (output_cmp rowid_query (rowid_out j) (rowid_out i)) ≡ false = subst₂ (λ a b. is_lt (output_cmp rowid_query a b) ≡ false) all.1.0.1 all.0.1 low in
      let ints_low : is_lt (int_cmp j i) ≡ false = sym (ap is_lt (then-Equal _ ∙ value_cmp-Int j i)) ∙ outs in
      let differ : i ≢ j = λ same. apart.0.0 (ap number_of all.0.1 ∙ same ∙ sym (ap number_of all.1.0.1)) in
      let here : int_lt (number_of o) (number_of n) ≡ true = subst₂ (λ a b. int_lt a b ≡ true) (sym (ap number_of all.0.1)) (sym (ap number_of all.1.0.1)) (below i j ints_low differ) in
      let tail : IsSorted (output_cmp rowid_query) (n ∷ os) = λ k d p q. rw add-one (rw add-one at (sorted (suc k) d (omega arith) (omega arith))) in
      both_true _ _ here (rowids_rise (n ∷ os) all.1 tail apart.1)

  module _ {X : Type 0} (columns : X → Row) (db : Trees) (m : FinMap pair_cmp X) (read : overlay db [] tree ≡ db tree) (holds : HoldsPairs columns (db tree) m) where
    abbrev ids : List ℤ
    ids = map (λ p. p.0) holds.numbered

    shows_rowid : (r : Row) (p : ℤ × ((ℕ × ℕ) × X)) → ReadAlike r (stored columns p) → output rowid_query ([] ∷ r ∷ []) ≡ rowid_out p.0
    shows_rowid r p one = rw (one 0) refl

    pub can_read_rowids : CanBeRead IsRowid (λ (it : Rowid). Int it.rowid ∷ []) (λ (a b : Rowid). int_lt a.rowid b.rowid) db rowid_query
    can_read_rowids rows a =
        let every = filter_all (λ (p : ℤ × ((ℕ × ℕ) × X)). true) holds.numbered (all_of _ (λ p. refl) holds.numbered) in
        let kept : a.kept ≡ map rowid_out ids = a.distinct ∙ ap (map (output rowid_query)) (a.grouped ∙ ap (flat_map (λ (r : Row). ([] ∷ r ∷ []) ∷ [])) read)
        ∙ rows_that_match (stored columns) [] [] (λ p. true) (output rowid_query) (λ p. rowid_out p.0) (λ r p one. refl) shows_rowid (db tree) holds.numbered holds.are
        ∙ ap (map (λ (p : ℤ × ((ℕ × ℕ) × X)). rowid_out p.0)) every ∙ sym (map-map rowid_out (λ p. p.0) holds.numbered) in
        let same = subst (λ os. IsPermutation os a.ordered) kept a.same in
        let each = alls _ (map rowid_out ids) a.ordered same (they_are ids) in
        let apart_ids : AllApart ids = ascending-map (λ x y. x ≢ y) (λ p. p.0) holds.numbered holds.apart in
        let apart = apart_permuted _ _ (IsPermutation-map number_of _ _ same) (subst AllApart (sym (map_back rowid_out number_of (λ _. refl) ids)) apart_ids) in
        let up = rowids_rise a.ordered each a.sorted apart in
        let test : Row → Row → Bool = λ r s. int_lt (int_in (column r 0)) (int_in (column s 0)) in (
          subst (All IsRowid) (sym a.shown) (All-from_recursion _ _ (each_rowid a.ordered each)),
          λ found is. sym (rises_map test (λ (it : Rowid). Int it.rowid ∷ []) found) ∙ ap (rises test) (sym is ∙ a.shown) ∙ rises_map test (λ (o : Output). o.1) a.ordered ∙ up,
        )
