-- What is known as a delivery begins, and as it ends.
use Rattle.std.proofs.Common.{◌≡◌, Bool, true, false, inr, IsTrue, refl, sym, subst}
use Rattle.sqlite.specs.State.{State, HasCleanDisk, KeepsCommit}
use Rattle.ee_desk_model.specs.Repeats.{Content}
use Rattle.ee_store_tables.specs.Rows.{IsInside}
use Rattle.ee_store_tables.specs.Statements.{LeavesNoMore, IsExcused}
use Rattle.ee_store_tables.specs.declared.failures.Failure.{Failure}
use Rattle.ee_store_tables.specs.declared.failures.Failure.TheVariants.{NoMemory, StoreFailed}
use Rattle.ee_store_tables.proofs.Lemmas.Transactions.{begun, clean_before}
use Rattle.ee_store_books.specs.Seen.{HasContent}
use Rattle.ee_store_books.proofs.Lemmas.Lookups.{one_content, inside_content}
use Rattle.ee_store_delivery.specs.declared.known.Known.{Known}
use Rattle.ee_store_delivery.specs.Known.{AreKnown, IsInformed}

-- what is known is so in the content of a store that is open
known_of : (s : State) (known : Known) (S : Content) → HasCleanDisk s → IsTrue s.is_open → IsInformed s known → HasContent s S → AreKnown known S.books
known_of s known S clean is_open informed has =
    let it = informed clean in
    subst (λ (T : Content). AreKnown known T.books) (one_content s it.0 S is_open it.1 has) it.2

shut : (old new : State) (e : Failure) → old.is_open ≡ false → IsExcused old new e
shut old new NoMemory is = tt
shut old new StoreFailed is = inr is

-- a call fails for a cause if it does so by what is known
pub excused_by_known : (old new : State) (known : Known) (S : Content) (e : Failure) → HasCleanDisk old → IsInformed old known → HasContent old S
    → (AreKnown known S.books → IsExcused old new e) → IsExcused old new e
excused_by_known old new known S e clean informed has excused = by_case old.is_open refl
  where
    by_case : (b : Bool) → old.is_open ≡ b → IsExcused old new e
    by_case true is = excused (known_of old known S clean is informed has)
    by_case false is = shut old new e is

module _ (old start : State) (is : start ≡ begun old) where
  pub began_clean : (middle : State) → LeavesNoMore start middle → HasCleanDisk middle → HasCleanDisk old
  began_clean middle crash clean = subst HasCleanDisk is (clean_before start middle crash clean)

  -- what is known is so in each content of a store by which a request was served
  pub known_in : (settled : IsTrue old.is_open → old.now ≡ old.committed) (middle : State) (known own : Known) → own ≡ known → LeavesNoMore start middle → HasCleanDisk middle
      → (IsInside start → KeepsCommit start middle) → IsTrue middle.is_open → IsInformed old known → (S : Content) → HasContent old S → AreKnown own S.books
  known_in settled middle known own same crash clean keeps is_open informed S has =
      let was_open = (keeps (inside_content old start is settled S has)).was_open is_open in
      subst (λ k. AreKnown k S.books) (sym same) (known_of old known S (began_clean middle crash clean) (subst (λ (s : State). IsTrue s.is_open) is was_open) informed has)
