-- Files that command lines leave hold what was sent, once, and it is right.
use Rattle.std.proofs.Common.{◌≡◌, ◌⊎◌, ◌∙◌, inl, inr, ℕ, zero, suc, List, [], ◌∷◌, ◌++◌, ◌≤◌, arith, Option, Some, None, Result, Ok, Err, Bool, true, false, refl, sym, ap, subst, append_assoc, append-nil}
use Rattle.std.proofs.Math.Logic.{∥∥₁_elim, ∥∥₁_map}
use Rattle.std.specs.Io.KnownBytes.{Consumes}
use Rattle.std.specs.Result.{IsErr}
use Rattle.clap.specs.Words.{Text}
use Rattle.sqlite.specs.Recovery.{Image}
use Rattle.ee_desk_model.specs.declared.acts.Act.{Act}
use Rattle.ee_desk_model.specs.declared.acts.Request.{Request}
use Rattle.ee_calculator.specs.declared.sheets.Sheet.{Sheet}
use Rattle.ee_desk_model.specs.declared.acts.Act.TheVariants as act
use Rattle.ee_desk_model.specs.declared.replies.Reply.{Reply}
use Rattle.ee_desk_model.specs.declared.refusals.Unserved.{Unserved}
use Rattle.ee_desk_model.specs.Numbers.{RequestKey}
use Rattle.ee_desk_model.specs.Repeats.{Content}
use Rattle.ee_desk_model.specs.Sound.{IsSound}
use Rattle.ee_desk_model.proofs.Lemmas.Books.{sound_pays_right, sound_conserves, empty_is_sound}
use Rattle.ee_desk_laws.specs.Attempts.{Attempt, AreEventsOf, IsEventOf}
use Rattle.ee_desk_laws.specs.Events.{Event}
use Rattle.ee_desk_laws.specs.Events.Event.{Lose, Unserved as NotServed}
use Rattle.ee_desk_laws.specs.Stops.{HoldsAcknowledged}
use Rattle.ee_wire_framing.specs.Framing.{BeginsMessage, BeginsMessages}
use Rattle.ee_files.specs.RateFile.{rates_of_file}
use Rattle.ee_files.specs.BondFile.{bonds_of_file}
use Rattle.ee_cli_commands.specs.declared.commands.FileKind.{FileKind}
use Rattle.ee_cli_commands.specs.declared.commands.FileKind.TheVariants as kind
use Rattle.ee_cli_commands.specs.Answer.{IsAsked}
use Rattle.ee_cli_commands.proofs.Lemmas.{asks_for_one, asks_unrefused}
use Rattle.ee_cli_commands.specs.CommandLine.{Asked, value, apply, imports, export, sheet, serve}
use Rattle.ee_keeper.specs.Keeping.{Shows}
use Rattle.ee_counter.specs.Filing.{Imports, Exports, Reading}
use Rattle.ee_counter.specs.Serving.{Told, Serves, EndsBy, attempts_by, attempts_by_all, left_by, messages}
use Rattle.ee_counter.specs.declared.connections.Ended.{Ended}
use Rattle.ee_counter.specs.declared.connections.Why.{Why}
use Rattle.ee_counter.specs.declared.connections.Why.TheVariants.{Closed, Asked as AskedToClose, Limit, Fault, ReadFailed, WriteFailed, NoMemory}
use Rattle.ee_counter.specs.declared.files.ImportFault.{ImportFault}
use Rattle.ee_counter.specs.declared.files.ImportFault.TheVariants as import
use Rattle.ee_counter.specs.declared.files.ExportFault.{ExportFault}
use Rattle.ee_counter.specs.declared.files.ExportFault.TheVariants as export_fault
use Rattle.ee_cli_actions.specs.Actions.{Applies, ExportsFrom, ImportsInto, ShowsSheet}
use Rattle.ee_cli_actions.specs.Connections.{ServesAll, ServesEach}
use Rattle.ee_cli_actions.specs.declared.faults.RunFault.{RunFault}
use Rattle.ee_cli_actions.specs.declared.faults.Outcome.{Outcome}
use Rattle.ee_cli_actions.specs.declared.faults.Outcome.TheVariants as outcome
use Rattle.ee_cli_program.specs.Statuses.{AsksToShow, IsRun, IsStatusOf}
use Rattle.ee_cli_program.specs.Stores.{Tries}
use Rattle.ee_store.specs.History.{BeginsInFiles, HasLeft, HoldHistory, stop_and_reopen}
use Rattle.ee_store.specs.NextRun.{HoldsContent}
use Rattle.ee_cli_stores.specs.Bank.{AccountsForLines, AsksForValue, AreOfConnections, AreOfMessages, ArePutBy, IsAccounted, IsOfFile, IsOfRows, Line, PutBy, Puts, RanLine, RanLines}
use Rattle.ee_cli_stores.specs.Lines.{LeadsInARow, LineLeads, LineWaits, LinesLead}
use Rattle.ee_cli_stores.specs.Running.{Did, DoesInFiles, Led}

-- ---- the attempts of a connection

-- one message more, or none
abbrev IsMore : List ℕ → List Attempt → Type 0
IsMore bytes more = (more ≡ []) ⊎ ((t : Told) × (after : List ℕ) × BeginsMessage bytes t.message after × (more ≡ attempts_by t))

-- something is said of a content and of the attempts of the message that ended the connection, if one did
ends_by_more : (why : Why) (last : Option Told) (bytes : List ℕ) (remaining old new : Option (List ℕ)) (c : Content) (n count : ℕ) (Has : Content → List Attempt → Type 0)
    → EndsBy why last bytes remaining old new c n count Has → (d : Content) × (more : List Attempt) × IsMore bytes more × Has d more
ends_by_more Closed None bytes remaining old new c n count Has (_, _, _, _, has) = (c, [], inl refl, has)
ends_by_more Closed (Some t) bytes remaining old new c n count Has never = absurd never
ends_by_more AskedToClose (Some t) bytes remaining old new c n count Has (((after, begins), right, has), _, _, _) = (left_by c t, attempts_by t, inr (t, after, begins, refl), has)
ends_by_more AskedToClose None bytes remaining old new c n count Has never = absurd never
ends_by_more Limit None bytes remaining old new c n count Has (_, _, _, has) = (c, [], inl refl, has)
ends_by_more Limit (Some t) bytes remaining old new c n count Has never = absurd never
ends_by_more (Fault f) None bytes remaining old new c n count Has (_, _, _, has) = (c, [], inl refl, has)
ends_by_more (Fault f) (Some t) bytes remaining old new c n count Has never = absurd never
ends_by_more ReadFailed None bytes remaining old new c n count Has (_, _, _, has) = (c, [], inl refl, has)
ends_by_more ReadFailed (Some t) bytes remaining old new c n count Has never = absurd never
ends_by_more NoMemory (Some t) bytes remaining old new c n count Has (_, _, ((after, begins), right, has)) = (left_by c t, attempts_by t, inr (t, after, begins, refl), has)
ends_by_more NoMemory None bytes remaining old new c n count Has (_, _, _, has) = (c, [], inl refl, has)
ends_by_more WriteFailed (Some t) bytes remaining old new c n count Has (_, ((after, begins), right, has), _) = (left_by c t, attempts_by t, inr (t, after, begins, refl), has)
ends_by_more WriteFailed None bytes remaining old new c n count Has (_, _, has) = (c, [], inl refl, has)

begins_more : (told : List Told) (t : Told) (bytes rest after : List ℕ) → BeginsMessages bytes (messages told) rest → BeginsMessage rest t.message after
    → BeginsMessages bytes (messages (told ++ t ∷ [])) after
begins_more [] t bytes rest after same begins = (after, subst (λ b. BeginsMessage b t.message after) (sym same) begins, refl)
begins_more (u ∷ told) t bytes rest after (others, first, begin) begins = (others, first, begins_more told t others rest after begin begins)

attempts_more : (told : List Told) (t : Told) → attempts_by_all told ++ attempts_by t ≡ attempts_by_all (told ++ t ∷ [])
attempts_more [] t = sym (append-nil (attempts_by t))
attempts_more (u ∷ told) t = append_assoc (attempts_by u) (attempts_by_all told) (attempts_by t) ∙ ap (λ l. attempts_by u ++ l) (attempts_more told t)

of_messages : (bytes rest : List ℕ) (told : List Told) (more : List Attempt) → BeginsMessages bytes (messages told) rest → IsMore rest more → AreOfMessages bytes (attempts_by_all told ++ more)
of_messages bytes rest told more begins (inl none) = (told, rest, begins, ap (λ l. attempts_by_all told ++ l) none ∙ append-nil (attempts_by_all told))
of_messages bytes rest told more begins (inr (t, after, next, is)) =
    (told ++ t ∷ [], after, begins_more told t bytes rest after begins next, ap (λ l. attempts_by_all told ++ l) is ∙ attempts_more told t)

module _ (Has : Content → List Attempt → Type 0) where
  serves_puts : (before remaining old new : Option (List ℕ)) (c : Content) (e : Ended) → Serves before remaining old new c e Has
      → (d : Content) × (attempts : List Attempt) × Has d attempts × ((bytes : List ℕ) × Consumes before remaining bytes × AreOfMessages bytes attempts)
  serves_puts before remaining old new c e s =
      let (last, failed, ends) = s.ends in
      let (d, more, is_more, has) = ends_by_more e.why last s.rest remaining s.wrote new _ _ e.messages (λ left these. Has left (attempts_by_all s.told ++ these)) ends in
      (d, attempts_by_all s.told ++ more, has, (s.bytes, s.read, of_messages s.bytes s.rest s.told more s.so_far.begins is_more))

  rows_put : {A : Type 0} (rows_of : Reading A) (act_of : List A → Act) (known : Option (List ℕ)) (number : RequestKey) (c : Content) (answer : Result Reply ImportFault)
      → Imports rows_of act_of known number c answer Has
      → (d : Content) × (attempts : List Attempt) × Has d attempts × ((attempts ≡ []) ⊎ IsOfRows rows_of act_of known number attempts)
  rows_put rows_of act_of known number c (Ok reply) (rows, reads, (is, has)) = (_, _, has, inr (rows, true, reads, refl))
  rows_put rows_of act_of known number c (Err (import.File fault)) (reads, has) = (_, _, has, inl refl)
  rows_put rows_of act_of known number c (Err (import.Unserved cause)) (rows, reads, has) = (_, _, has, inr (rows, false, reads, refl))

  rows_out : (old new : Option (List ℕ)) (customer : ℕ) (c : Content) (answer : Result ℕ ExportFault) → Exports old new customer c answer Has → Has c []
  rows_out old new customer c (Ok count) (is, wrote, has) = has
  rows_out old new customer c (Err export_fault.WriteFailed) (wrote, has) = has
  rows_out old new customer c (Err (export_fault.Unserved cause)) (same, has) = has

-- connections, one after the other
each_puts : (Has : Content → List Attempt → Type 0) (coming others : Option (List (List ℕ))) (c : Content) (ended : List Ended) → ServesEach coming others c ended Has
    → (d : Content) × (attempts : List Attempt) × Has d attempts × ((streams : List (List ℕ)) × AreOfConnections coming streams attempts)
each_puts Has coming others c [] (same, has) = (c, [], has, ([], refl))
each_puts Has coming others c (e ∷ es) (next, sends, comes, (d, attempts, (left, old, new, served), rest)) =
    let (now, these, (at, are), (bytes, read, of)) = serves_puts (λ left these. (left ≡ d) × (these ≡ attempts)) sends left old new c e served in
    let (last, those, has, (streams, more)) = each_puts (λ left more. Has left (attempts ++ more)) next others d es rest in
    (last, attempts ++ those, has, (bytes ∷ streams, (next, sends, left, comes, read, (attempts, those, refl, subst (AreOfMessages bytes) are of, more))))

shows_stays : {A : Type 0} (IsShown : A → Type 0) (shown : Result A Unserved) (Stays : Type 0) → Shows IsShown shown Stays → Stays
shows_stays IsShown (Ok shown) Stays (is, stays) = stays
shows_stays IsShown (Err unserved) Stays stays = stays

-- ---- the attempts of a line

import_puts : (Has : Content → List Attempt → Type 0) (k : FileKind) (file old new : Option (List ℕ)) (number : RequestKey) (c : Content) (ended : Result Outcome RunFault)
    → Tries old new ended (ImportsInto k file old new number c ended Has) (Has c []) → (d : Content) × (attempts : List Attempt) × Has d attempts × ((attempts ≡ []) ⊎ IsOfFile k file number attempts)
import_puts Has kind.Rates file old new number c ended (inl (answer, it, told)) = rows_put Has rates_of_file act.AddRates file number c answer it
import_puts Has kind.Inventory file old new number c ended (inl (answer, it, told)) = rows_put Has bonds_of_file act.AddBonds file number c answer it
import_puts Has k file old new number c ended (inr (failed, same, stays)) = (c, [], stays, inl refl)

serve_puts : (Has : Content → List Attempt → Type 0) (coming : Option (List (List ℕ))) (most : ℕ) (old new : Option (List ℕ)) (c : Content) (ended : Result Outcome RunFault)
    → Tries old new ended (ServesAll coming most old new c ended Has) (Has c []) → (d : Content) × (attempts : List Attempt) × Has d attempts × ((streams : List (List ℕ)) × AreOfConnections coming streams attempts)
serve_puts Has coming most old new c ended (inl it) = each_puts Has coming it.others c it.ended it.each
serve_puts Has coming most old new c ended (inr (failed, same, stays)) = (c, [], stays, ([], refl))

-- what was put led to the files; or no store was opened, of which this is said
abbrev Put : Image → Image → (List Attempt → Type 0) → Type 0 → Type 0
Put held found P Quiet = ((attempts : List Attempt) × P attempts × LineLeads held attempts found) ⊎ (Quiet × LineWaits held found)

-- it needs no store, or it failed
abbrev NeedsNone : Asked → Result Outcome RunFault → Type 0
NeedsNone asked result = AsksForValue asked ⊎ IsErr result

did_put : (held found : Image) (old new : Option (List ℕ)) (asked : Asked) (result : Result Outcome RunFault) (P : List Attempt → Type 0)
    (Carried : (Content → List Attempt → Type 0) → Result Outcome RunFault → Type 0)
    → ((Has : Content → List Attempt → Type 0) (ended : Result Outcome RunFault) → Carried Has ended → (d : Content) × (attempts : List Attempt) × Has d attempts × P attempts)
    → Did held found old new result Carried → Put held found P (NeedsNone asked result)
did_put held found old new asked result P Carried puts (inl carried) =
    let (d, attempts, led, put) = puts (Led held found) result carried in inl (attempts, put, led.1)
did_put held found old new asked result P Carried puts (inr (inl (ended, is, carried))) =
    let (d, attempts, leads, put) = puts (λ content attempts. LineLeads held attempts found) ended carried in inl (attempts, put, leads)
did_put held found old new asked result P Carried puts (inr (inr (failed, waits, same))) = inr (inr failed, waits)

still_left : (held found : Image) → found ≡ held → LineWaits held found
still_left held found same start earlier was = subst (HasLeft start earlier) (sym same) was

asked_put : (held found : Image) (c : Content) (files : Text → Option (List ℕ)) (coming : ℕ → Option (List (List ℕ))) (input left old new : Option (List ℕ)) (asked : Asked) (result : Result Outcome RunFault)
    → DoesInFiles held found c files coming input left old new asked result → Put held found (Puts asked files coming input left) (NeedsNone asked result)
asked_put held found c files coming input left old new (value denom issued month rate extension) result same = inr (inl tt, still_left held found same)
asked_put held found c files coming input left old new (apply db) result it =
    did_put held found old new (apply db) result (Puts (apply db) files coming input left) (λ Has ended. Applies input left old new c ended Has)
    (λ Has ended (e, serves, is). serves_puts Has input left old new c e serves) it
asked_put held found c files coming input left old new (imports k file db desk number) result it =
    did_put held found old new (imports k file db desk number) result (Puts (imports k file db desk number) files coming input left) (λ Has ended. Tries old new ended (ImportsInto k (files file) old new (desk, number) c ended Has) (Has c []))
    (λ Has ended it. import_puts Has k (files file) old new (desk, number) c ended it) it
asked_put held found c files coming input left old new (export customer db) result it =
    did_put held found old new (export customer db) result (Puts (export customer db) files coming input left) (λ Has ended. ExportsFrom old new customer c ended Has)
    (λ Has ended (answer, it, is). (c, [], rows_out Has old new customer c answer it, refl)) it
asked_put held found c files coming input left old new (sheet customer month db) result it =
    did_put held found old new (sheet customer month db) result (Puts (sheet customer month db) files coming input left) (λ Has ended. ShowsSheet old new customer month c ended (Has c []))
    (λ Has ended (shown, it, told). (c, [], shows_stays {A = Sheet} _ shown (Has c []) it, refl)) it
asked_put held found c files coming input left old new (serve db port connections) result it =
    did_put held found old new (serve db port connections) result (Puts (serve db port connections) files coming input left) (λ Has ended. Tries old new ended (ServesAll (coming port) connections old new c ended Has) (Has c []))
    (λ Has ended it. serve_puts Has (coming port) connections old new c ended it) it

-- what a line put, or none
abbrev PutsLine : Image → Line → Image → Type 0
PutsLine held line found = Put held found (λ attempts. PutBy line (Some attempts)) (PutBy line None)

none_needed : (line : Line) (asked : Asked) (result : Result Outcome RunFault) → IsAsked line.words (Ok asked) → (IsErr result → line.status ≡ 3) → NeedsNone asked result → PutBy line None
none_needed line asked result is failed (inl needs) other also =
    let same = asks_for_one line.words (Ok asked) (Ok other) is also in
    let one : asked ≡ other = cc in
    inl (subst AsksForValue one needs)
none_needed line asked result is failed (inr fails) other also = inr (failed fails)

put_so : (held found : Image) (c : Content) (line : Line) (asked : Asked) (result : Result Outcome RunFault) → IsAsked line.words (Ok asked)
    → DoesInFiles held found c line.files line.coming line.input line.left line.old line.new asked result → (IsErr result → line.status ≡ 3) → PutsLine held line found
put_so held found c line asked result is does failed = elim (asked_put held found c line.files line.coming line.input line.left line.old line.new asked result does) [
  | inl put ↦ inl (put.0, (asked, is, put.1), put.2)
  | inr none ↦ inr (none_needed line asked result is failed none.0, none.1)
]

failed_so : (result : Result Outcome RunFault) (status : ℕ) → IsStatusOf result status → IsErr result → status ≡ 3
failed_so (Ok ended) status is fails = absurd (cc)
failed_so (Err fault) status is fails = is

done_so : (ended : Outcome) (status : ℕ) → IsErr {T = Outcome} {E = RunFault} (Ok ended) → status ≡ 3
done_so ended status fails = absurd (cc)

of_status : (n : ℕ) → n ≤ 3 → (n ≡ 0) ⊎ ((n ≡ 1) ⊎ ((n ≡ 2) ⊎ (n ≡ 3)))
of_status zero few = inl refl
of_status (suc zero) few = inr (inl refl)
of_status (suc (suc zero)) few = inr (inr (inl refl))
of_status (suc (suc (suc zero))) few = inr (inr (inr refl))
of_status (suc (suc (suc (suc n)))) few = absurd (omega (arith, few))

shows_none : (line : Line) → AsksToShow line.words → PutBy line None
shows_none line (inl help) asked is = absurd (asks_unrefused line.words (Ok asked) _ is help)
shows_none line (inr version) asked is = absurd (asks_unrefused line.words (Ok asked) _ is version)

-- the files are as they were, and the status says how the line ended
still_so : (held found : Image) (c : Content) (line : Line) → found ≡ held
    → IsRun line.words (DoesInFiles held found c line.files line.coming line.input line.left line.old line.new) ((found ≡ held) × (line.new ≡ line.old)) line.status → PutsLine held line found
still_so held found c line same run = elim (of_status line.status run.range) [
  | inl none ↦ elim (run.done none) [
    | inl it ↦ put_so held found c line it.0 (Ok outcome.Done) it.1 ((run.ends it.0 it.1).done none) (done_so outcome.Done line.status)
    | inr shows ↦ inr (shows_none line shows, still_left held found same)
  ]
  | inr more ↦ elim more [
    | inl one ↦
        let it = run.refused one in
        elim ((run.ends it.0 it.1).refused one) [
          | inl refused ↦ put_so held found c line it.0 (Ok (outcome.Refused refused.0)) it.1 refused.1 (done_so (outcome.Refused refused.0) line.status)
          | inr others ↦ elim others [
            | inl message ↦ put_so held found c line it.0 (Ok outcome.NoMessage) it.1 message (done_so outcome.NoMessage line.status)
            | inr unsettled ↦ put_so held found c line it.0 (Ok (outcome.Unsettled unsettled.0)) it.1 unsettled.1 (done_so (outcome.Unsettled unsettled.0) line.status)
          ]
        ]
    | inr most ↦ elim most [
      | inl two ↦ inr ((λ asked is. absurd ((run.ends asked is).is_good_line two)), still_left held found same)
      | inr three ↦ inr ((λ asked is. inr three), still_left held found same)
    ]
  ]
]

line_put : (held found : Image) (line : Line) → RanLine held line found → (c : Content) → HoldsContent held c → PutsLine held line found
line_put held found line ran c holds =
    let (did, run) = ran c holds in
    elim did [
      | inl it ↦ put_so held found c line it.asked it.ended it.is_asked it.carried (failed_so it.ended line.status it.has_status)
      | inr same ↦ still_so held found c line same run
    ]

-- ---- lines in a row

event_of : (q : Request) (served : Bool) → (event : Event) × IsEventOf q served event
event_of q true = (Lose q, inr refl)
event_of q false = (NotServed q, refl)

some_events : (attempts : List Attempt) → (events : List Event) × AreEventsOf attempts events
some_events [] = ([], refl)
some_events (a ∷ attempts) =
    let (event, is) = event_of a.request a.is_served in
    let (rest, are) = some_events attempts in
    (event ∷ rest, (event, rest, refl, is, are))

-- what lines in a row put leads to what the last one left
abbrev ArePut : Image → Image → List Line → Type 0
ArePut held found lines = (ran : List (Option (List Attempt))) × ArePutBy lines ran × LinesLead held ran found

and_put : (held next found : Image) (line : Line) (lines : List Line) (attempts : List Attempt) → PutBy line (Some attempts) → LineLeads held attempts next → ArePut next found lines → ArePut held found (line ∷ lines)
and_put held next found line lines attempts put leads (ran, puts, others) = (Some attempts ∷ ran, (put, puts), (next, leads, others))

and_waited : (held next found : Image) (line : Line) (lines : List Line) → PutBy line None → LineWaits held next → ArePut next found lines → ArePut held found (line ∷ lines)
and_waited held next found line lines none waits (ran, puts, others) = (None ∷ ran, (none, puts), (next, waits, others))

are_put : HoldHistory → (held found : Image) (lines : List Line) → RanLines held lines found → (start : Content) (earlier : List Event) → HasLeft start earlier held → ∥ ArePut held found lines ∥₁
are_put hold held found [] same start earlier come = ∣ ([], refl, same) ∣₁
are_put hold held found (line ∷ lines) (next, ran, rest) start earlier come =
    ∥∥₁_elim (hold start earlier held come) squash₁ (λ (c, holds, left). elim (line_put held next line ran c holds) [
      | inl put ↦
          let some = some_events put.0 in
          ∥∥₁_map (are_put hold next found lines rest start (earlier ++ (some.0 ++ stop_and_reopen)) (put.2 start earlier some.0 come some.1))
          (and_put held next found line lines put.0 put.1 put.2)
      | inr none ↦ ∥∥₁_map (are_put hold next found lines rest start earlier (none.1 start earlier come)) (and_waited held next found line lines none.0 none.1)
    ])

-- ---- the law

held_sound : (image : Image) (content : Content) → HoldsContent image content → IsSound content.books
held_sound image content (inl (form, store)) = store.stands.right.sound
held_sound image content (inr (is, none)) = subst (λ (c : Content). IsSound c.books) (sym is) empty_is_sound

accounts : HoldHistory → HoldsAcknowledged → (start : Content) (events : List Event) (found : Image) → HasLeft start events found → ∥ IsAccounted start events found ∥₁
accounts hold acknowledge start events found come = ∥∥₁_map (hold start events found come) (λ (content, held, left).
    let (done, were, is, told) = left.survives.content in
    let (lost_none, were_sent) = acknowledge events done were in
    let sound = held_sound found content held in
    record {
      content = content;
      held = held;
      done = done;
      is = left.is ∙ is;
      were_sent = were_sent;
      lost_none = lost_none;
      world = left.world;
      happened = left.happened;
      still = told;
      once = sound.once;
      right = sound_pays_right content.books sound;
      conserved = sound_conserves content.books sound;
    })

pub accounts_for_lines : BeginsInFiles → LeadsInARow → HoldHistory → HoldsAcknowledged → AccountsForLines
accounts_for_lines begins leads hold acknowledge first found start lines holds ran =
    let come = begins first start holds in
    ∥∥₁_map (are_put hold first found lines ran start [] come) (λ (put, are, led).
    (put, are, λ events of. accounts hold acknowledge start events found (leads first found put led start [] events come of)))
