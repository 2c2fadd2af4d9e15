-- The records that a reader over a text has left.
use Rattle.std.specs.Prelude.{◌≡◌, ℕ, List, [], ◌∷◌, Some, true, false, Bool}
use Rattle.std.specs.Borrow.{Bor}
use Rattle.csv.specs.Reading.{AreRecords, Ready, default_config, reader_config, reader_state, reader_trim, source_of}
use Rattle.csv.specs.declared.reader.Reader.{Reader}
use Rattle.csv.specs.declared.reader.Trim.TheVariants as trim

abbrev pub TextReader : Type 0
TextReader = Reader (Bor (List ℕ))

pub record HasLeft (reader : TextReader) (rest : List (List (List ℕ))) : Type 0 where
  pub plain : reader_trim reader ≡ trim.None
  pub ready : Ready reader
  pub config : reader_config reader ≡ default_config
  pub text : List ℕ
  pub source : source_of (λ s. Some s.now) reader ≡ Some text
  pub records : AreRecords default_config (reader_state reader) text rest

-- the result of reading the next of these records
abbrev pub TakesNext : TextReader → List (List (List ℕ)) → Bool → List (List ℕ) → Type 0
TakesNext after [] found fields = found ≡ false
TakesNext after (record_fields ∷ rest) found fields = (found ≡ true) × (fields ≡ record_fields) × HasLeft after rest
