-- Lemmas that the proofs of crates above use: the rows of contents, in each form.
use Rattle.std.proofs.Common.{◌≡◌}
use Rattle.ee_desk_model.specs.Repeats.{Content}
use Rattle.ee_store_schema.specs.declared.forms.Form.{Form}
use Rattle.ee_store_schema.specs.Forms.{version_of}
use Rattle.ee_store_schema.specs.Migrating.{become}
use Rattle.ee_store_load.specs.Opening.{AreReadable, IsOfForm}
use Rattle.ee_store_books.specs.Standing.{IsRight, rows_at, rows_of}
use Rattle.ee_store_contents.proofs.Becoming
use Rattle.ee_store_contents.proofs.Readable

-- the rows of a content can be read
pub readable : (form : Form) (content : Content) → IsRight content → AreReadable form (rows_at (version_of form) content)
readable = Readable.readable

-- the rows of a content in some form become its rows of version 2
pub becomes : (form : Form) (content : Content) → become form (rows_at (version_of form) content) ≡ rows_of content
becomes = Becoming.becomes

-- rows of a form that become those of a content are its rows in that form
pub is_at : (form : Form) (content : Content) → IsOfForm form (rows_at (version_of form) content)
is_at = Becoming.is_at
