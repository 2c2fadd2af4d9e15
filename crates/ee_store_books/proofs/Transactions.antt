-- A transaction that is begun, seen and ended.
use Rattle.std.proofs.Common.{◌≡◌, ◌⊎◌, inl, inr, false, IsTrue, refl, sym, subst}
use Rattle.sqlite.specs.Effect.{IsDatabase}
use Rattle.sqlite.specs.Tree.{Trees}
use Rattle.sqlite.specs.State.{State, HasCleanDisk, Survives, KeepsCommit, Shows}
use Rattle.ee_desk_model.specs.Repeats.{Content}
use Rattle.ee_store_tables.proofs.Lemmas.Transactions.{begun, begun_inside, begun_sees, still_has, committed_has}
use Rattle.ee_store_tables.specs.Rows.{IsInside, Stores}
use Rattle.ee_store_tables.proofs.Lemmas.Meeting.{stored_has, stored_sees}
use Rattle.ee_store_tables.proofs.Lemmas.OneRows.{one_held}
use Rattle.ee_store_books.specs.Standing.{rows_of}
use Rattle.ee_store_books.proofs.Lemmas.Contents as contents
use Rattle.ee_store_books.specs.Seen.{StandsFor, HasContent, SeesContent}

module _ (old start : State) (is : start ≡ begun old) (settled : IsTrue old.is_open → old.now ≡ old.committed) where
  pub inside_content : (S : Content) → HasContent old S → IsInside start
  inside_content S has = begun_inside old start is settled (rows_of S) has.rows

  pub sees_content : (S : Content) → HasContent old S → SeesContent start S
  sees_content S has = record { right = has.right; rows = begun_sees old start is settled (rows_of S) has.rows }

module _ (old start : State) (is : start ≡ begun old) (middle new : State) where
  pub still_content : (S : Content) → HasContent old S → KeepsCommit start middle → KeepsCommit middle new → HasContent new S
  still_content S has one two = record { right = has.right; rows = still_has old start is middle new (rows_of S) has.rows one two }

  pub committed_content : (S : Content) → SeesContent middle S → Shows middle new middle.now middle.now false → HasContent new S
  committed_content S sees shows = record { right = sees.right; rows = committed_has old start is middle new (rows_of S) sees.rows shows }

  -- what a crash may leave was there before
  pub leaves_less : Survives start middle (λ _. ⊥) → Survives middle new (λ _. ⊥) → HasCleanDisk middle → HasCleanDisk new → (db : Trees) → new.may_leave db → old.may_leave db
  leaves_less one two clean_middle clean db may = first (two.crash clean db may)
    where
      began : start.may_leave db → old.may_leave db
      began h = subst (λ (s : State). s.may_leave db) is h

      second : start.may_leave db ⊎ ⊥ → old.may_leave db
      second (inl h) = began h
      second (inr h) = absurd h

      first : middle.may_leave db ⊎ ⊥ → old.may_leave db
      first (inl h) = second (one.crash clean_middle db h)
      first (inr h) = absurd h

-- what a commit makes represents the content
pub stands_when_open : (s : State) (S : Content) → SeesContent s S → IsTrue s.is_open → IsDatabase s.now → StandsFor s.now.trees S
stands_when_open s S sees is_open sound = record { right = sees.right; stores = stored_sees s (rows_of S) is_open sound sees.rows }

-- what the last commit left represents the content
pub stands_committed : (s : State) (S : Content) → HasContent s S → IsTrue s.is_open → IsDatabase s.committed → (db : Trees) → db ≡ s.committed.trees → StandsFor db S
stands_committed s S has is_open sound db is = record { right = has.right; stores = subst (λ d. Stores d (rows_of S)) (sym is) (stored_has s (rows_of S) is_open sound has.rows) }

-- a store that is open has one content at most
pub one_content : (s : State) (one other : Content) → IsTrue s.is_open → HasContent s one → HasContent s other → one ≡ other
one_content s one other is_open h k =
    let same = one_held s.committed.trees (rows_of one) (rows_of other) (h.rows is_open).1 (k.rows is_open).1 in
    contents.one_content 2 (rows_of one) one other (record { are = refl; right = h.right }) (record { are = same; right = k.right })
