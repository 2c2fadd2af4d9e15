-- The day that was closed last is read for each act that changes something.
use Rattle.std.proofs.Common.{◌≡◌, ◌≢◌, [], Option, Some, None, refl, ap}
use Rattle.ee_desk_model.specs.declared.acts.Act.{Act}
use Rattle.ee_desk_model.specs.declared.refusals.Refusal.{Refusal}
use Rattle.ee_desk_model.specs.declared.changes.Effects.{Effects}
use Rattle.ee_desk_model.specs.PlainBooks.{PlainBooks}
use Rattle.ee_desk_model.specs.Seen.{shown}
use Rattle.ee_desk_model.specs.Refusals.{length_refusal}
use Rattle.ee_desk_model.specs.Effects.{effects_of}
use Rattle.ee_desk_model.specs.Views.{needed_of, needed_unless}
use Rattle.ee_desk_model.proofs.Lemmas.Books.{refused_by_length}

unless_changed : (books : PlainBooks) (asked : Act) (o : Option Refusal) → length_refusal asked ≡ o → (effects_of (shown books) asked).changes ≢ []
    → (needed_unless books asked o).last_day ≡ books.last_day
unless_changed books asked None is some = refl
unless_changed books asked (Some refusal) is some = absurd (some (ap (λ (e : Effects). e.changes) (refused_by_length (shown books) asked refusal is)))

pub needed_day : (books : PlainBooks) (asked : Act) → (effects_of (shown books) asked).changes ≢ [] → (needed_of books asked).last_day ≡ books.last_day
needed_day books asked some = unless_changed books asked (length_refusal asked) refl some
