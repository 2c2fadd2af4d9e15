-- Trees hold no two different rows, in any form.
use Rattle.std.proofs.Common.{◌≡◌, sym, ap, ◌∙◌}
use Rattle.std.specs.FinMap.{FinMap}
use Rattle.sqlite.specs.Tree.{Trees}
use Rattle.ee_store_tables.specs.Keyed.{pair_cmp}
use Rattle.ee_store_tables.specs.Rows.{Rows, ReplyRow}
use Rattle.ee_store_tables.proofs.Lemmas.OneRows.{one_desk, one_rates, one_bonds, one_tickets, one_lines, one_batches, one_replies, one_held}
use Rattle.ee_store_schema.specs.declared.forms.Form.{Form}
use Rattle.ee_store_schema.specs.declared.forms.Form.TheVariants.{Current, First, Earliest}
use Rattle.ee_store_schema.specs.Forms.{at_first_desk, HoldsIn, HoldsReplies}
use Rattle.ee_store_schema.proofs.Lemmas.Forms.{HoldsCommon, common}

one_kept : (db : Trees) (a b : FinMap pair_cmp ReplyRow) → HoldsReplies db a → HoldsReplies db b → a ≡ b
one_kept db a b h k = h.first ∙ ap at_first_desk (one_replies (db 11) h.kept k.kept h.held k.held) ∙ sym k.first

same_rows : (db : Trees) (a b : Rows) → HoldsCommon db a → HoldsCommon db b → a.extensions ≡ b.extensions → a.answers ≡ b.answers → a ≡ b
same_rows db a b h k extensions answers =
    let desk = one_desk (db 0) a.desk b.desk h.desk k.desk in
    let rates = one_rates (db 1) a.rates b.rates h.rates k.rates in
    let bonds = one_bonds (db 2) a.bonds b.bonds h.bonds k.bonds in
    let tickets = one_tickets (db 5) a.tickets b.tickets h.tickets k.tickets in
    let paid = one_lines (db 7) a.paid b.paid h.paid k.paid in
    let batches = one_batches (db 10) a.batches b.batches h.batches k.batches in
    λ i. record { desk = desk i; rates = rates i; bonds = bonds i; tickets = tickets i; paid = paid i; batches = batches i; extensions = extensions i; answers = answers i }

pub one_rows : (form : Form) (db : Trees) (a b : Rows) → HoldsIn form db a → HoldsIn form db b → a ≡ b
one_rows Current db a b h k = one_held db a b h k
one_rows First db a b h k =
    same_rows db a b (common First db a h) (common First db b k) (one_rates (db 12) a.extensions b.extensions h.extensions k.extensions) (one_kept db a.answers b.answers h.answers k.answers)
one_rows Earliest db a b h k = same_rows db a b (common Earliest db a h) (common Earliest db b k) (h.none ∙ sym k.none) (one_kept db a.answers b.answers h.answers k.answers)
