-- A file's rows, so far and still to come.
use Rattle.std.proofs.Common.{◌≡◌, ◌∙◌, ℕ, zero, suc, ◌+◌, Bool, true, false, List, [], ◌∷◌, ◌++◌, Result, Ok, Err, refl, sym, ap, subst, append_assoc, length, true≢false}
use Rattle.std.proofs.lemmas.List.{append-nil}
use Rattle.ee_files.specs.Answers.{Fails, Gives}
use Rattle.ee_files.specs.Fields.{Bytes, ◌>>=◌}
use Rattle.ee_files.specs.Inner.Left.{HasLeft, TakesNext, TextReader}
use Rattle.ee_files.specs.Rows.{is_header, rows_from, rows_of_records}
use Rattle.ee_files.specs.declared.columns.FileColumn.{FileColumn}
use Rattle.ee_files.specs.declared.faults.FileCode.{FileCode}
use Rattle.ee_files.specs.declared.faults.FileCode.TheVariants as code
use Rattle.ee_files.specs.declared.faults.FileFault.{FileFault}

-- how a record is read
abbrev pub Entry : Type 0 → Type 0
Entry A = ℕ → List Bytes → Result A FileFault

-- the rows of what is left, after those so far
abbrev pub with_front : {A : Type 0} → List A → Result (List A) FileFault → Result (List A) FileFault
with_front front read = read >>= λ rest. Ok (front ++ rest)

with_front-more : {A : Type 0} (front : List A) (e : A) (read : Result (List A) FileFault) → with_front front (read >>= λ rest. Ok (e ∷ rest)) ≡ with_front (front ++ e ∷ []) read
with_front-more front e (Ok xs) = ap Ok (sym (append_assoc front (e ∷ []) xs))
with_front-more front e (Err f) = refl

-- one more record
pub one_more : {A : Type 0} (entry : Entry A) (row most : ℕ) (front : List A) (fields : List Bytes) (rest : List (List Bytes)) (e : A) → entry row fields ≡ Ok e
    → with_front front (rows_from entry row (suc most) (fields ∷ rest)) ≡ with_front (front ++ e ∷ []) (rows_from entry (row + 1) most rest)
unfolding rows_from
one_more entry row most front fields rest e is = rw is (with_front-more front e (rows_from entry (row + 1) most rest))

-- a record at fault
pub fault_here : {A : Type 0} (entry : Entry A) (row most : ℕ) (front : List A) (fields : List Bytes) (rest : List (List Bytes)) (at : ℕ) (why : FileCode) → Fails at why (entry row fields)
    → Fails at why (with_front front (rows_from entry row (suc most) (fields ∷ rest)))
unfolding rows_from
fault_here entry row most front fields rest at code.NoMemory h = h
fault_here entry row most front fields rest at code.ReadFailed h = h
fault_here entry row most front fields rest at code.BadHeader h = rw h refl
fault_here entry row most front fields rest at code.WrongFieldCount h = rw h refl
fault_here entry row most front fields rest at (code.BadValue column) h = rw h refl
fault_here entry row most front fields rest at code.FileTooLong h = rw h refl

-- the end of the records, and of the room
pub no_more : {A : Type 0} (entry : Entry A) (row most : ℕ) (front : List A) → with_front front (rows_from entry row most []) ≡ Ok front
unfolding rows_from
no_more entry row zero front = ap Ok (append-nil front)
no_more entry row (suc most) front = ap Ok (append-nil front)

pub no_room : {A : Type 0} (entry : Entry A) (row : ℕ) (front : List A) (rest : List (List Bytes)) → with_front front (rows_from entry row 0 rest) ≡ Ok front
unfolding rows_from
no_room entry row front rest = ap Ok (append-nil front)

-- a read that found none: none was left
pub at_end : (after : TextReader) (all : List (List (List ℕ))) (found : Bool) (fields : List (List ℕ)) → TakesNext after all found fields → found ≡ false → all ≡ []
at_end after [] found fields h e = refl
at_end after (x ∷ xs) found fields h e = cc (h.0, e)

-- a read that found one: it is the first that was left
pub record Took (after : TextReader) (all : List (List (List ℕ))) (fields : List (List ℕ)) : Type 0 where
  pub rest : List (List (List ℕ))
  pub is : all ≡ fields ∷ rest
  pub left : HasLeft after rest

pub took : (after : TextReader) (all : List (List (List ℕ))) (found : Bool) (fields : List (List ℕ)) → TakesNext after all found fields → found ≡ true → Took after all fields
took after [] found fields h e = absurd (true≢false (sym e ∙ h))
took after (x ∷ xs) found fields h e = record { rest = xs; is = ap (λ y. y ∷ xs) (sym h.1); left = h.2 }

-- the same read, by another name
pub fails_as : {A : Type 0} (row : ℕ) (why : FileCode) (a b : Result (List A) FileFault) → a ≡ b → Fails row why a → Fails row why b
fails_as row why a b is h = subst (Fails row why) is h

pub gives_as : {X A : Type 0} (view : X → List A) (r : Result X FileFault) (a b : Result (List A) FileFault) → a ≡ b → Gives view r b → Gives view r a
gives_as view r a b is h = subst (Gives view r) (sym is) h

-- a file with no record
pub none_read : {A : Type 0} (headers : List (List FileColumn)) (entry : ℕ → Entry A) (all : List (List Bytes)) (items : List A) → all ≡ [] → items ≡ [] → rows_of_records headers entry all ≡ Ok items
unfolding rows_of_records
none_read headers entry all items none empty = ap (rows_of_records headers entry) none ∙ ap Ok (sym empty)

-- under its header
pub good_header : {A : Type 0} (headers : List (List FileColumn)) (entry : ℕ → Entry A) (all : List (List Bytes)) (fields : List Bytes) (rest : List (List Bytes)) → all ≡ fields ∷ rest → is_header headers fields ≡ true → rows_of_records headers entry all ≡ rows_from (entry (length fields)) 2 501 rest
unfolding rows_of_records
good_header headers entry all fields rest is e = ap (rows_of_records headers entry) is ∙ rw e refl

-- under another
pub bad_header : {A : Type 0} (headers : List (List FileColumn)) (entry : ℕ → Entry A) (all : List (List Bytes)) (fields : List Bytes) (rest : List (List Bytes)) → all ≡ fields ∷ rest → is_header headers fields ≡ false → rows_of_records headers entry all ≡ Err (record { row = 1; code = code.BadHeader })
unfolding rows_of_records
bad_header headers entry all fields rest is e = ap (rows_of_records headers entry) is ∙ rw e refl
