-- What a store represents, by what is read of its rows.
use Rattle.std.proofs.Common.{◌≡◌, true, false, ℕ, List, map, refl, sym, ap, ◌∙◌, subst}
use Rattle.std.proofs.lemmas.Bool.{false≢true}
use Rattle.std.specs.Prelude.{Some, None}
use Rattle.std.proofs.lemmas.Option.{same_Some}
use Rattle.ee_value.specs.declared.rates.Rates.{Rates}
use Rattle.ee_desk_model.specs.PlainBooks.{PlainBooks}
use Rattle.ee_desk_model.specs.Sound.{IsSound}
use Rattle.ee_desk_model.specs.Repeats.{Content}
use Rattle.ee_desk_model.specs.UnitTables.{tables_in}
use Rattle.ee_desk_soundness.specs.Parts.{Parts, parts_of, AreUnsound}
use Rattle.ee_desk_soundness.specs.Marks.{AreMarked}
use Rattle.ee_desk_soundness.specs.Checks.{books_of, entry_of_row, AreSound}
use Rattle.ee_desk_soundness.proofs.Lemmas.{parts_of-books_of}
use Rattle.ee_store_tables.specs.Rows.{Rows}
use Rattle.ee_store_load.specs.declared.whole.AllRows.{AllRows}
use Rattle.ee_store_books.specs.Standing.{StandAt}
use Rattle.ee_store_schema.specs.Forms.{version_of}
use Rattle.ee_store_load.specs.Shown.{answer_map}
use Rattle.ee_store_load.specs.Whole.{AreInOrder, AreRead, rows_with}
use Rattle.ee_store_contents.specs.Contents.{KeepsAnswer, tables_for}
use Rattle.ee_store_contents.specs.Inner.Contents.{PartsFit}
use Rattle.ee_store_contents.specs.Inner.Reading.{parts_in}
use Rattle.ee_store_contents.proofs.KeptTables.{own, tables_made}
use Rattle.ee_store_contents.proofs.RowsOfBooks.{rows_of_parts, parts_in_range, parts_read, rows_marked, parts_are, answers_kept, content_stands}

-- the kept replies are no part of the books
pub same_parts : (stored rest : AllRows) → rest ≡ record stored { replies = rest.replies } → parts_in rest ≡ parts_in stored
unfolding parts_in
same_parts stored rest is = ap parts_in is ∙ refl

module _ (stored : AllRows) (rows : Rows) (order : AreInOrder stored) (read : AreRead KeepsAnswer stored rows) where
  -- the rows that were read represent what the rows of the store represent
  these_stand : (content : Content) → StandAt (version_of stored.form) rows content → StandAt (version_of stored.form) (rows_with (answer_map read.kept) stored) content
  these_stand content = subst (λ rows. StandAt (version_of stored.form) rows content) read.are

  -- rows that represent a content are read as its parts
  read_as : (content : Content) → StandAt (version_of stored.form) rows content → parts_in stored ≡ Some (parts_of content.books)
  read_as content stands =
      parts_read (parts_of content.books) stored (rows_of_parts stored (answer_map read.kept) content order (these_stand content stands)) (parts_in_range content stands.right) order.rates

  pub no_parts : None ≡ parts_in stored → (content : Content) → StandAt (version_of stored.form) rows content → ⊥
  no_parts none content stands =
      let read = none ∙ read_as content stands in
      cc

  pub not_kept : stored.replies.pass ≡ false → (content : Content) → StandAt (version_of stored.form) rows content → ⊥
  not_kept failed content stands =
      false≢true (sym failed ∙ read.tested.pass.1 (answers_kept stored read.kept content read.tested.in_order (these_stand content stands)))

  -- the rows of the bonds of a content name the tickets that pay them
  marked_as : (content : Content) → StandAt (version_of stored.form) rows content → AreMarked content.books.tickets stored.bonds.items
  marked_as content stands =
      subst (AreMarked content.books.tickets) (sym (rows_of_parts stored (answer_map read.kept) content order (these_stand content stands)).bonds)
      (rows_marked content.books.tickets (parts_of content.books).bonds)

  pub not_sound : (parts : Parts) → Some parts ≡ parts_in stored → (AreMarked parts.tickets stored.bonds.items → AreUnsound parts) → (content : Content) → StandAt (version_of stored.form) rows content → ⊥
  not_sound parts found unsound content stands =
      let same = same_Some parts (parts_of content.books) (found ∙ read_as content stands) in
      unsound (subst (λ (p : Parts). AreMarked p.tickets stored.bonds.items) (sym same) (marked_as content stands)) content.books stands.right.sound (sym same)

  founded : (parts : Parts) (books : PlainBooks) → Some parts ≡ parts_in stored → PartsFit parts → AreMarked parts.tickets stored.bonds.items → parts_of books ≡ parts → IsSound books
      → stored.replies.pass ≡ true → (content : Content) × (content.books ≡ books) × StandAt (version_of stored.form) rows content
  founded parts books found fit marked is sound pass =
      let it = content_stands stored read.kept books order read.tested.in_order (parts_are (parts_of books) stored (sym found ∙ ap Some (sym is)) (subst (λ (p : Parts). AreMarked p.tickets stored.bonds.items) (sym is) marked)) (subst PartsFit (sym is) fit) sound (read.tested.pass.0 pass) in
      (it.0, it.1, subst (λ rows. StandAt (version_of stored.form) rows it.0) (sym read.are) it.2)

  pub tables_founded : (parts : Parts) (terms : List (ℕ × Rates)) → Some parts ≡ parts_in stored → PartsFit parts → AreMarked parts.tickets stored.bonds.items
      → stored.replies.pass ≡ true → AreSound parts → terms ≡ map entry_of_row parts.rates
      → (content : Content) × (tables_in (map own (map (λ e. e.1) terms)) ≡ tables_for content.books.rates) × StandAt (version_of stored.form) rows content
  tables_founded parts terms found fit marked pass sound made =
      let is = parts_of-books_of parts sound.months sound.serials in
      let it = founded parts (books_of parts) found fit marked is sound.books pass in
      (it.0, tables_made parts it.0.books terms (ap parts_of it.1 ∙ is) made, it.2)
