-- The room of a store that was opened.
use Rattle.std.proofs.Common.{◌≡◌, ◌≢◌, ◌+◌, ◌≤◌, ◌^◌, ℕ, inl, inr, IsTrue, List, [], ◌∷◌, length, refl, sym, ap, ◌∙◌, subst, arith}
use Rattle.std.proofs.lemmas.List.{length-map}
use Rattle.std.proofs.lemmas.List.Sorted.{length_permutation}
use Rattle.std.specs.FinMap.{FinMap, entries}
use Rattle.sqlite.specs.Order.{Row}
use Rattle.sqlite.specs.Effect.{Database}
use Rattle.sqlite.specs.State.{State, IsLive, KeepsCommit}
use Rattle.ee_store_tables.specs.Keyed.{pair_cmp, stored, AreRows, HoldsPairs}
use Rattle.ee_store_tables.specs.Rows.{Rows, Has, Rises, HasRoom, HasRoomIn, bond_columns, paid_columns, reply_columns}
use Rattle.ee_store_schema.specs.Making.{IsBlank, first_rows}
use Rattle.ee_store_schema.specs.Migrating.{BondsAndLinesHaveRoom, Lists, answer_entry}
use Rattle.ee_store_schema.specs.Forms.{HadIn, HoldsIn}
use Rattle.ee_store_schema.specs.declared.answers.StoredAnswer.{StoredAnswer}
use Rattle.ee_store_schema.specs.declared.forms.Form.{Form}
use Rattle.ee_store_schema.specs.declared.forms.Form.TheVariants.{Current, First, Earliest}
use Rattle.ee_store_schema.proofs.Lemmas.Forms.{no_entries, one_form}
use Rattle.ee_store_load.proofs.Lemmas.{one_rows}
use Rattle.ee_store.specs.Adopted.{HadRoom, HasRoomFirst, HasRoomFor, OpensWithRoom}
use Rattle.ee_store.proofs.Opened.{had_before}

no_rows_of : {A : Type 0} (row : A → Row) (rows : List Row) (xs : List A) → AreRows row rows xs → length xs ≡ 0 → rows ≡ []
no_rows_of row [] xs are none = refl
no_rows_of row (r ∷ rows) [] are none = absurd are
no_rows_of row (r ∷ rows) (x ∷ xs) are none = absurd (omega (arith, none))

-- a table of no entries has no rows
no_rows : {X : Type 0} (columns : X → Row) (rows : List Row) (m : FinMap pair_cmp X) → HoldsPairs columns rows m → entries m ≡ [] → rows ≡ []
no_rows columns rows m h none =
    let same = length_permutation _ _ h.same in
    let mapped = length-map h.numbered (λ p. p.1) in
    no_rows_of (stored columns) rows h.numbered h.are (sym mapped ∙ sym same ∙ ap length none)

pub opened_room : (old new : State) → (IsTrue new.is_open → new.now ≡ new.committed) → IsLive new → (IsBlank old → Has new first_rows) → ((n : ℕ) → HadRoom n old → HasRoom n new) → OpensWithRoom old new
opened_room old new settled live made before n (inl room) is_open = ((live is_open).0, subst (λ (d : Database). HasRoomIn n d.trees) (sym (settled is_open)) room)
opened_room old new settled live made before n (inr (inl had)) is_open = before n had is_open
opened_room old new settled live made before n (inr (inr (blank, few))) is_open =
    let holds = (made blank is_open).1 in
    let bonds = no_rows bond_columns (new.committed.trees 2) first_rows.bonds holds.bonds (no_entries pair_cmp) in
    let paid = no_rows paid_columns (new.committed.trees 7) first_rows.paid holds.paid (no_entries pair_cmp) in
    let answers = no_rows reply_columns (new.committed.trees 13) first_rows.answers holds.answers (no_entries pair_cmp) in
    let room : HasRoomIn n new.committed.trees = (subst (Rises 1 n) (sym bonds) few, subst (Rises 1 n) (sym paid) few, subst (Rises 1 n) (sym answers) few) in
    ((live is_open).0, subst (λ (d : Database). HasRoomIn n d.trees) (sym (settled is_open)) room)

-- The rows of an open store were read outside a transaction; then it was migrated if it was of version 1.
module _ (old middle new : State) (rows : Rows) (given : List StoredAnswer) (keeps : KeepsCommit old middle) (settled : IsTrue middle.is_open → middle.now ≡ middle.committed)
    (live : IsLive middle) (is_open : IsTrue middle.is_open) where
  abbrev Made : Form → Type 0
  Made form = form ≢ Current → (n : ℕ) → BondsAndLinesHaveRoom (n + length given) middle.committed.trees → 1 + (n + length given) ≤ 2 ^ 63 → HasRoom n new

  -- the bonds and the lines of version 1
  earlier_room : (form : Form) → form ≢ Current → (form ≢ Current → Lists given rows) → Made form → (n : ℕ) → HasRoomFirst (n + length (entries rows.answers)) old.committed.trees → HasRoom n new
  earlier_room form earlier lists made n room =
      let count = ap length (lists earlier) in
      let mapped = length-map given answer_entry in
      let same : n + length (entries rows.answers) ≡ n + length given = omega (arith, count, mapped) in
      let both : HasRoomFirst (n + length given) middle.committed.trees
      = subst (λ (d : Database). HasRoomFirst (n + length given) d.trees) (sym (keeps.committed is_open)) (subst (λ k. HasRoomFirst k old.committed.trees) same room) in
      made earlier n both.0 both.1

  of_form : (form : Form) → (form ≢ Current → Lists given rows) → (form ≡ Current → new ≡ middle) → Made form → (n : ℕ) → HasRoomFor form n old.committed.trees rows → HasRoom n new
  of_form Current lists same made n room =
      subst (HasRoom n) (sym (same refl)) (λ still. ((live still).0, subst (λ (d : Database). HasRoomIn n d.trees) (sym (settled still ∙ keeps.committed still)) room))
  of_form First lists same made n room = earlier_room First (λ e. absurd cc) lists made n room
  of_form Earliest lists same made n room = earlier_room Earliest (λ e. absurd cc) lists made n room

  -- it has the room that it had
  pub room_before : (form : Form) → HadIn form middle rows → (form ≢ Current → Lists given rows) → (form ≡ Current → new ≡ middle) → Made form → (n : ℕ) → HadRoom n old → HasRoom n new
  room_before form had lists same made n (other, others, was, room) =
      let before = had_before old middle form rows keeps is_open had (keeps.was_open is_open) in
      let then = was (keeps.was_open is_open) in
      let one = one_form other form old.committed.schema then.0 before.0 in
      let held = subst (λ f. HoldsIn f old.committed.trees others) one then.1 in
      of_form form lists same made n (subst (HasRoomFor form n old.committed.trees) (one_rows form old.committed.trees others rows held before.1) (subst (λ f. HasRoomFor f n old.committed.trees others) one room))
