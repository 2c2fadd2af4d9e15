-- What two files hold after command lines in a row, in the words of the mission.
use Rattle.std.specs.Prelude.{◌≡◌, ◌⊎◌, ℕ, Bool, List, [], ◌∷◌, ◌++◌, Option, Some, None, Ok, Contains, ⊤}
use Rattle.std.specs.List.{AllByRecursion}
use Rattle.std.specs.Io.KnownBytes.{Consumes}
use Rattle.clap.specs.Words.{Text}
use Rattle.sqlite.specs.Recovery.{Image}
use Rattle.ee_desk_model.specs.declared.acts.Act.{Act}
use Rattle.ee_desk_model.specs.declared.acts.Act.TheVariants as act
use Rattle.ee_desk_model.specs.declared.acts.Request.{Request}
use Rattle.ee_desk_model.specs.Numbers.{RequestKey, numbered}
use Rattle.ee_desk_model.specs.Repeats.{Content}
use Rattle.ee_desk_model.specs.Contents.{content_after}
use Rattle.ee_desk_model.specs.Conserved.{IsConserved}
use Rattle.ee_desk_model.specs.Paid.{paid_lines, NoneTwice, ArePaidRight}
use Rattle.ee_desk_laws.specs.Attempts.{Attempt}
use Rattle.ee_desk_laws.specs.Events.{Event, World, begun, Happens}
use Rattle.ee_desk_laws.specs.Stops.{StillTold, sent, acknowledged}
use Rattle.ee_wire_framing.specs.Framing.{BeginsMessages}
use Rattle.ee_files.specs.RateFile.{rates_of_file}
use Rattle.ee_files.specs.BondFile.{bonds_of_file}
use Rattle.ee_counter.specs.Filing.{Reading, Reads}
use Rattle.ee_counter.specs.Serving.{Told, attempts_by_all, messages}
use Rattle.ee_cli_actions.specs.Connections.{Comes}
use Rattle.ee_cli_commands.specs.Answer.{IsAsked}
use Rattle.ee_cli_commands.specs.declared.commands.FileKind.{FileKind}
use Rattle.ee_cli_commands.specs.declared.commands.FileKind.TheVariants as kind
use Rattle.ee_cli_commands.specs.CommandLine.{Asked, value, apply, imports, export, sheet, serve}
use Rattle.ee_cli_program.specs.Statuses.{HasRun, IsRun}
use Rattle.ee_store.specs.NextRun.{HoldsContent}
use Rattle.ee_cli_stores.specs.Lines.{AreEventsOfLines}
use Rattle.ee_cli_stores.specs.Running.{DoesInFiles}

-- ---- lines

-- a line: its words; the bytes of the file at each path, and those that each connection sends which comes to a port, if they are known;
-- the input before and after, the output before and after, and its status
pub record Line : Type 0 where
  pub words : List Text
  pub files : Text → Option (List ℕ)
  pub coming : ℕ → Option (List (List ℕ))
  pub input : Option (List ℕ)
  pub left : Option (List ℕ)
  pub old : Option (List ℕ)
  pub new : Option (List ℕ)
  pub status : ℕ

-- The line ran over two files which held what is first, and these are found afterwards (`run_line`; if it was cut off, `run_stopped`, by
-- which its files stopped): it did what its command is to do at the content that they held, whichever that is, or it opened no store.
-- Its status says how it ended.
abbrev pub RanLine : Image → Line → Image → Type 0
RanLine held line found = (c : Content) → HoldsContent held c
    → (HasRun line.words (DoesInFiles held found c line.files line.coming line.input line.left line.old line.new) line.status ⊎ (found ≡ held))
    × IsRun line.words (DoesInFiles held found c line.files line.coming line.input line.left line.old line.new) ((found ≡ held) × (line.new ≡ line.old)) line.status

-- lines in a row, each over what the one before it left
abbrev pub RanLines : Image → List Line → Image → Type 0
RanLines held [] found = held ≡ found
RanLines held (line ∷ lines) found = (next : Image) × RanLine held line next × RanLines next lines found

-- ---- what was sent

-- the attempts are the requests in the messages that these bytes begin with
abbrev pub AreOfMessages : List ℕ → List Attempt → Type 0
AreOfMessages bytes attempts = (told : List Told) × (rest : List ℕ) × BeginsMessages bytes (messages told) rest × (attempts ≡ attempts_by_all told)

-- these bytes were read from the first of the connections that come, in their order, and the attempts are those of all of them
abbrev pub AreOfConnections : Option (List (List ℕ)) → List (List ℕ) → List Attempt → Type 0
AreOfConnections coming [] attempts = attempts ≡ []
AreOfConnections coming (bytes ∷ streams) attempts =
    (next : Option (List (List ℕ))) × (sends left : Option (List ℕ)) × Comes coming next sends × Consumes sends left bytes
    × ((these those : List Attempt) × (attempts ≡ these ++ those) × AreOfMessages bytes these × AreOfConnections next streams those)

-- one request of the rows that these bytes have by this reading
abbrev pub IsOfRows : {A : Type 0} → Reading A → (List A → Act) → Option (List ℕ) → RequestKey → List Attempt → Type 0
IsOfRows {A} rows_of act_of file number attempts =
    (rows : List A) × (is_served : Bool) × Reads rows_of file (Ok rows) × (attempts ≡ record { request = numbered number (act_of rows); is_served = is_served } ∷ [])

-- that of a file of this kind
abbrev pub IsOfFile : FileKind → Option (List ℕ) → RequestKey → List Attempt → Type 0
IsOfFile kind.Rates file number attempts = IsOfRows rates_of_file act.AddRates file number attempts
IsOfFile kind.Inventory file number attempts = IsOfRows bonds_of_file act.AddBonds file number attempts

-- The attempts of a command: the requests in its input, one request of the file at its path under its number, or those in what was read
-- from the connections that came to its port.
abbrev pub Puts : Asked → (Text → Option (List ℕ)) → (ℕ → Option (List (List ℕ))) → Option (List ℕ) → Option (List ℕ) → List Attempt → Type 0
Puts (value denom issued month rate extension) files coming input left attempts = attempts ≡ []
Puts (apply db) files coming input left attempts = (bytes : List ℕ) × Consumes input left bytes × AreOfMessages bytes attempts
Puts (imports kind file db desk number) files coming input left attempts = (attempts ≡ []) ⊎ IsOfFile kind (files file) (desk, number) attempts
Puts (export customer db) files coming input left attempts = attempts ≡ []
Puts (sheet customer month db) files coming input left attempts = attempts ≡ []
Puts (serve db port connections) files coming input left attempts = (streams : List (List ℕ)) × AreOfConnections (coming port) streams attempts

abbrev pub AsksForValue : Asked → Type 0
AsksForValue (value denom issued month rate extension) = ⊤
AsksForValue (apply db) = ⊥
AsksForValue (imports kind file db desk number) = ⊥
AsksForValue (export customer db) = ⊥
AsksForValue (sheet customer month db) = ⊥
AsksForValue (serve db port connections) = ⊥

-- The attempts of a line. None if no store was opened: the line asked for no command over a store, or it failed.
abbrev pub PutBy : Line → Option (List Attempt) → Type 0
PutBy line (Some attempts) = (asked : Asked) × IsAsked line.words (Ok asked) × Puts asked line.files line.coming line.input line.left attempts
PutBy line None = (asked : Asked) → IsAsked line.words (Ok asked) → AsksForValue asked ⊎ (line.status ≡ 3)

abbrev pub ArePutBy : List Line → List (Option (List Attempt)) → Type 0
ArePutBy [] ran = ran ≡ []
ArePutBy (line ∷ lines) [] = ⊥
ArePutBy (line ∷ lines) (put ∷ ran) = PutBy line put × ArePutBy lines ran

-- ---- the law

-- the files hold what requests that were sent made of the first content, each acting once
pub record IsAccounted (start : Content) (events : List Event) (files : Image) : Type 0 where
  pub content : Content
  pub held : HoldsContent files content
  pub done : List Request
  pub is : content ≡ content_after start done
  pub were_sent : AllByRecursion (Contains (sent events)) done
  -- each request whose reply arrived is among them, and that reply is still the answer to it
  pub lost_none : AllByRecursion (Contains done) (acknowledged events)
  pub world : World
  pub happened : Happens (begun start) events world
  pub still : StillTold start done world.told
  -- no bond is paid twice, each is paid its value, and the batches and the open day add up to what was paid
  pub once : NoneTwice (paid_lines content.books.tickets)
  pub right : ArePaidRight content.books
  pub conserved : IsConserved content.books

-- For every sequence of command lines over one store in files, whatever these first held: each line put some attempts. Whichever of their
-- replies arrived, the files hold what was sent, once, and it is right.
abbrev pub AccountsForLines : Type 0
AccountsForLines = (first found : Image) (start : Content) (lines : List Line) → HoldsContent first start → RanLines first lines found
    → ∥ ((ran : List (Option (List Attempt))) × ArePutBy lines ran × ((events : List Event) → AreEventsOfLines ran events → ∥ IsAccounted start events found ∥₁)) ∥₁
