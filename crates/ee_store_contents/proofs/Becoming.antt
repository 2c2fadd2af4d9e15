-- The rows of a content in version 1 become its rows in version 2.
use Rattle.std.proofs.Common.{◌≡◌, ℕ, Bool, true, false, cond, Option, Some, refl, sym, ap, ◌∙◌}
use Rattle.std.specs.Cmp.{nat_cmp_total}
use Rattle.std.specs.Ordering.{nat_cmp, eq_by_cmp}
use Rattle.std.specs.FinMap.{FinMap, nat_cmp-IsAntisymmetric, empty, get, insert, get-insert, same_map}
use Rattle.ee_desk_model.specs.Repeats.{Content}
use Rattle.ee_store_tables.specs.Rows.{DeskRow}
use Rattle.ee_store_schema.specs.declared.forms.Form.{Form}
use Rattle.ee_store_schema.specs.declared.forms.Form.TheVariants.{Current, First, Earliest}
use Rattle.ee_store_schema.specs.Forms.{version_of}
use Rattle.ee_store_schema.specs.Migrating.{become, with_version, with_version_of}
use Rattle.ee_store_load.specs.Opening.{IsOfForm}
use Rattle.ee_store_books.specs.Standing.{desk_rows, rows_at, rows_of}
use Rattle.ee_store_books.proofs.Lemmas.Contents.{get_desk_row}

twice : (b : Bool) (x y : DeskRow) (o : Option DeskRow) → cond b (Some x) (cond b (Some y) o) ≡ cond b (Some x) o
twice true x y o = refl
twice false x y o = refl

-- what is put last under a key stands there
put_again : (m : FinMap nat_cmp DeskRow) (x y : DeskRow) → insert (insert m 1 y) 1 x ≡ insert m 1 x
put_again m x y = same_map nat_cmp_total nat_cmp-IsAntisymmetric _ _ (λ q.
    get-insert nat_cmp_total (insert m 1 y) 1 x q ∙ ap (cond (eq_by_cmp nat_cmp q 1) (Some x)) (get-insert nat_cmp_total m 1 y q)
    ∙ twice (eq_by_cmp nat_cmp q 1) x y (get m q) ∙ sym (get-insert nat_cmp_total m 1 x q))

versions : (old new : ℕ) (day last_day : Option ℕ) → with_version (desk_rows old day last_day) new ≡ desk_rows new day last_day
versions old new day last_day =
    ap (with_version_of (desk_rows old day last_day) new) (get_desk_row old day last_day)
    ∙ put_again empty (record { version = new; day = day; last_day = last_day }) (record { version = old; day = day; last_day = last_day })

pub becomes : (form : Form) (content : Content) → become form (rows_at (version_of form) content) ≡ rows_of content
becomes Current content = refl
becomes First content = ap (λ desk. record (rows_of content) { desk = desk }) (versions 1 2 content.books.day content.books.last_day)
becomes Earliest content = ap (λ desk. record (rows_of content) { desk = desk }) (versions 1 2 content.books.day content.books.last_day)

pub is_at : (form : Form) (content : Content) → IsOfForm form (rows_at (version_of form) content)
is_at form content = (record { version = version_of form; day = content.books.day; last_day = content.books.last_day }, get_desk_row (version_of form) content.books.day content.books.last_day, refl)
