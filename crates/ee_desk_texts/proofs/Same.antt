-- The JSON of an act, and of a reply, is read as it; so what a text was written of is read from it, and nothing else.
use Rattle.std.proofs.Common.{◌≡◌, ◌≢◌, ◌<◌, ◌≤◌, ◌^◌, ℕ, false, List, [], ◌∷◌, Some, None, Option, IfSome, MatchOption, refl, sym, ap, ◌∙◌, arith, lit<, map, option_and_then, bytes_eq}
use Rattle.std.specs.List.{AllByRecursion}
use Rattle.std.proofs.lemmas.Bool.{false≢true}
use Rattle.std.proofs.lemmas.Slice.Eq.{bytes_eq-Decides}
use Rattle.json.specs.Json.{Json, document}
use Rattle.serde_json.specs.Data.{Data}
use Rattle.serde_json.specs.View.{items_of}
use Rattle.serde_json.specs.Written.{outline, items_outline}
use Rattle.ee_units.specs.Spelling.{SerialNumber, in_range, serial_of}
use Rattle.ee_units.specs.Texts.{serial_text}
use Rattle.ee_calculator.specs.declared.bonds.Bond.{Bond}
use Rattle.ee_value.specs.declared.rates.RateRow.{RateRow}
use Rattle.ee_value.specs.declared.rates.Rates.{Rates}
use Rattle.ee_value.specs.Chain.{rates_with, named_extension}
use Rattle.ee_value.proofs.Lemmas.{rates-back, named-le}
use Rattle.ee_desk_model.specs.declared.acts.Act.{Act}
use Rattle.ee_desk_model.specs.declared.acts.Act.TheVariants as act
use Rattle.ee_desk_model.specs.declared.replies.Line.{Line}
use Rattle.ee_desk_model.specs.declared.replies.Ticket.{Ticket}
use Rattle.ee_desk_model.specs.declared.replies.Batch.{Batch}
use Rattle.ee_desk_model.specs.declared.replies.Reply.{Reply}
use Rattle.ee_desk_model.specs.declared.replies.Reply.TheVariants as reply
use Rattle.ee_desk_model.specs.declared.refusals.Refusal.{Refusal}
use Rattle.ee_desk_model.specs.declared.refusals.Refusal.TheVariants as refusal
use Rattle.ee_desk_texts.specs.Data.{serial_data, rate_row_data, bond_data, act_data, line_data, names, refusal_data, reply_data}
use Rattle.ee_desk_texts.specs.Texts.{act_text, reply_text}
use Rattle.ee_desk_model.specs.Ranges.{IsCustomer, IsSerial, BondFits}
use Rattle.ee_desk_texts.specs.Ranges.{RateRowFits, ActFits, LineFits, TicketFits, BatchFits, NamedFits, ReplyFits}
use Rattle.ee_desk_texts.specs.Reading.{ReadsAct, ReadsReply}
use Rattle.ee_desk_texts.specs.Inner.Reading.{each, rate_row_of, bond_with, bond_of, serial_in, redeem_of, act_of, added_of, batch_of, line_of, ticket_of, refused_of, reply_of}
use Rattle.ee_units.proofs.Lemmas.{rate_back, issue_back, day_back, serial_back, in_range_back, denom_with-dollars, dollars_small}
use Rattle.ee_units.specs.Denoms.{dollars}
use Rattle.ee_desk_texts.proofs.Amounts.{cents_back}
use Rattle.ee_desk_texts.proofs.Counts.{count_back}
use Rattle.ee_desk_texts.proofs.Back.{data_back, act_back, reply_back, small}

each_back : {A : Type 0} (f : A → Data) (row : Json → Option A) (Fits : A → Type 0) → ((x : A) → Fits x → row (outline (f x)) ≡ Some x)
    → (xs : List A) → AllByRecursion Fits xs → each row (items_outline (items_of (map f xs))) ≡ Some xs
each_back f row Fits one [] all = refl
each_back f row Fits one (x ∷ xs) all = rw (one x all.0, each_back f row Fits one xs all.1) refl

serial_same : (s : SerialNumber) → IsSerial s → serial_of (serial_text s) ≡ Some s
serial_same s fits = serial_back s fits.0 fits.1 fits.2 fits.3

customer_same : (n : ℕ) → IsCustomer n → in_range 1 999999999 n ≡ Some n
customer_same n fits = in_range_back 1 999999999 n fits.0 fits.1

-- ---- acts

rates_are : (rates : Rates) (o : Option ℕ) → named_extension rates ≡ o → rates_with rates.fixed o ≡ rates
rates_are rates o is = ap (rates_with rates.fixed) (sym is) ∙ rates-back rates

rate_row_same : (row : RateRow) → RateRowFits row → rate_row_of (outline (rate_row_data row)) ≡ Some row
unfolding rate_row_of
rate_row_same row fits = by_extension (named_extension row.rates) refl (named-le row.rates fits.1)
  where
    by_extension : (o : Option ℕ) → named_extension row.rates ≡ o → IfSome o (λ n. n ≤ 2000) → rate_row_of (outline (rate_row_data row)) ≡ Some row
    by_extension None is small =
        rw is (rw (issue_back row.from fits.0, rate_back row.rates.fixed fits.1.0) (ap (λ rates. Some (record { from = row.from; rates = rates })) (rates_are row.rates None is)))
    by_extension (Some extension) is small =
        rw is (rw (issue_back row.from fits.0, rate_back row.rates.fixed fits.1.0, rate_back extension small) (ap (λ rates. Some (record { from = row.from; rates = rates })) (rates_are row.rates (Some extension) is)))

bond_same : (bond : Bond) → BondFits bond → bond_of (outline (bond_data bond)) ≡ Some bond
unfolding bond_with
bond_same bond fits = by_coowner bond.coowner refl fits.coowner
  where
    by_coowner : (o : Option ℕ) → bond.coowner ≡ o → IfSome o IsCustomer → bond_of (outline (bond_data bond)) ≡ Some bond
    by_coowner None is other =
        rw is (rw (count_back (dollars bond.denom) (dollars_small bond.denom), denom_with-dollars bond.denom, issue_back bond.issued fits.issued, count_back bond.owner (small bond.owner fits.owner), customer_same bond.owner fits.owner, serial_same bond.serial fits.serial) (rw (← is) refl))
    by_coowner (Some coowner) is other =
        rw is (rw (count_back (dollars bond.denom) (dollars_small bond.denom), denom_with-dollars bond.denom, issue_back bond.issued fits.issued, count_back bond.owner (small bond.owner fits.owner), customer_same bond.owner fits.owner, serial_same bond.serial fits.serial, count_back coowner (small coowner other), customer_same coowner other) (rw (← is) refl))

pub act_same : (a : Act) → ActFits a → act_of (outline (act_data a)) ≡ Some a
unfolding redeem_of
act_same (act.AddRates rows) fits = rw (each_back rate_row_data rate_row_of RateRowFits rate_row_same rows fits) refl
act_same (act.AddBonds bonds) fits = rw (each_back bond_data bond_of BondFits bond_same bonds fits) refl
act_same (act.OpenDay day) fits = rw (day_back day fits.0 fits.1) refl
act_same (act.Redeem day payee serials) fits =
    rw (day_back day fits.0.0 fits.0.1, count_back payee (small payee fits.1), customer_same payee fits.1, each_back serial_data serial_in IsSerial serial_same serials fits.2) refl
act_same (act.CloseDay day) fits = rw (day_back day fits.0 fits.1) refl

-- ---- replies

line_same : (line : Line) → LineFits line → line_of (outline (line_data line)) ≡ Some line
unfolding line_of
line_same line fits = rw (cents_back line.cents.0 fits.1, serial_same line.serial fits.0) refl

ticket_same : (ticket : Ticket) → TicketFits ticket → reply_of (outline (reply_data (reply.Ticket ticket))) ≡ Some (reply.Ticket ticket)
unfolding added_of batch_of refused_of ticket_of
ticket_same ticket fits =
    rw (day_back ticket.day fits.day.0 fits.day.1, count_back ticket.payee (small ticket.payee fits.payee), customer_same ticket.payee fits.payee, count_back ticket.ticket fits.number, cents_back ticket.total.0 fits.total, each_back line_data line_of LineFits line_same ticket.lines fits.lines) refl

batch_same : (batch : Batch) → BatchFits batch → reply_of (outline (reply_data (reply.Batch batch))) ≡ Some (reply.Batch batch)
unfolding added_of batch_of
batch_same batch fits = rw (count_back batch.bonds fits.bonds, day_back batch.day fits.day.0 fits.day.1, count_back batch.tickets fits.tickets, cents_back batch.total.0 fits.total) refl

refusal_same : (r : Refusal) → NamedFits (names r) → reply_of (outline (refusal_data r)) ≡ Some (reply.Refused r)
unfolding added_of batch_of refused_of
refusal_same refusal.NumberReused fits = rw (count_back 10 (lit< tt)) refl
refusal_same refusal.Empty fits = rw (count_back 11 (lit< tt)) refl
refusal_same refusal.TooMany fits = rw (count_back 12 (lit< tt)) refl
refusal_same (refusal.Repeated serial) fits = rw (count_back 13 (lit< tt), serial_same serial fits) refl
refusal_same (refusal.SameCoowner serial) fits = rw (count_back 14 (lit< tt), serial_same serial fits) refl
refusal_same (refusal.NotAnnouncementMonth month) fits = rw (count_back 20 (lit< tt), issue_back month fits) refl
refusal_same (refusal.RateConflict month) fits = rw (count_back 21 (lit< tt), issue_back month fits) refl
refusal_same (refusal.RateUnsettled age) fits = rw (count_back 22 (lit< tt), count_back age (let wide : 2335 < 2 ^ 64 = lit< tt in omega (arith, wide, fits)), in_range_back 0 2335 age (omega arith) fits) refl
refusal_same (refusal.NoRate serial) fits = rw (count_back 30 (lit< tt), serial_same serial fits) refl
refusal_same (refusal.SerialConflict serial) fits = rw (count_back 31 (lit< tt), serial_same serial fits) refl
refusal_same refusal.DayOpen fits = rw (count_back 40 (lit< tt)) refl
refusal_same refusal.DayNotLater fits = rw (count_back 41 (lit< tt)) refl
refusal_same refusal.NoOpenDay fits = rw (count_back 42 (lit< tt)) refl
refusal_same refusal.DayIsOther fits = rw (count_back 43 (lit< tt)) refl
refusal_same refusal.DayFull fits = rw (count_back 44 (lit< tt)) refl
refusal_same (refusal.UnknownSerial serial) fits = rw (count_back 50 (lit< tt), serial_same serial fits) refl
refusal_same (refusal.NotPayee serial) fits = rw (count_back 51 (lit< tt), serial_same serial fits) refl
refusal_same (refusal.AlreadyPaid serial ticket) fits = rw (count_back 52 (lit< tt), serial_same serial fits.0, count_back ticket fits.1) refl
refusal_same (refusal.NotIssued serial) fits = rw (count_back 53 (lit< tt), serial_same serial fits) refl
refusal_same (refusal.NotEligible serial) fits = rw (count_back 54 (lit< tt), serial_same serial fits) refl

pub reply_same : (p : Reply) → ReplyFits p → reply_of (outline (reply_data p)) ≡ Some p
unfolding added_of
reply_same (reply.Added new same) fits = rw (count_back new fits.0, count_back same fits.1) refl
reply_same (reply.Opened day) fits = rw (day_back day fits.0 fits.1) refl
reply_same (reply.Ticket ticket) fits = ticket_same ticket fits
reply_same (reply.Batch batch) fits = batch_same batch fits
reply_same (reply.Refused r) fits = refusal_same r fits

-- ---- from the text

act_read : (a : Act) → ActFits a → option_and_then act_of (document (act_text a)) ≡ Some a
act_read a fits = ap (option_and_then act_of) (data_back (act_data a) (act_back a fits)) ∙ act_same a fits

reply_read : (p : Reply) → ReplyFits p → option_and_then reply_of (document (reply_text p)) ≡ Some p
reply_read p fits = ap (option_and_then reply_of) (data_back (reply_data p) (reply_back p fits)) ∙ reply_same p fits

-- the act, or reply, that a text is, by its JSON
pub act_in : (text : List ℕ) (o : Option Json) → document text ≡ o → (a : Act) → ActFits a → text ≡ act_text a → option_and_then act_of o ≡ Some a
act_in text o is a fits same = ap (option_and_then act_of) (sym is ∙ ap document same) ∙ act_read a fits

pub reply_in : (text : List ℕ) (o : Option Json) → document text ≡ o → (p : Reply) → ReplyFits p → text ≡ reply_text p → option_and_then reply_of o ≡ Some p
reply_in text o is p fits same = ap (option_and_then reply_of) (sym is ∙ ap document same) ∙ reply_read p fits

pub differ : (xs ys : List ℕ) → false ≡ bytes_eq xs ys → xs ≡ ys → ⊥
differ xs ys test same = false≢true (test ∙ (bytes_eq-Decides xs ys).1 same)

-- ---- one text alone

pub one_act : (a b : Act) → ActFits a → ActFits b → act_text a ≡ act_text b → a ≡ b
one_act a b fa fb same =
    let both : Some a ≡ Some b = sym (act_read a fa) ∙ ap (λ t. option_and_then act_of (document t)) same ∙ act_read b fb in
    cc

pub one_reply : (p q : Reply) → ReplyFits p → ReplyFits q → reply_text p ≡ reply_text q → p ≡ q
one_reply p q fp fq same =
    let both : Some p ≡ Some q = sym (reply_read p fp) ∙ ap (λ t. option_and_then reply_of (document t)) same ∙ reply_read q fq in
    cc

pub act_only : (a : Act) (o : Option Act) → ActFits a → ReadsAct (act_text a) o → o ≡ Some a
act_only a None fits none = absurd (none a fits refl)
act_only a (Some b) fits some = ap Some (sym (one_act a b fits some.0 some.1))

pub reply_only : (p : Reply) (o : Option Reply) → ReplyFits p → ReadsReply (reply_text p) o → o ≡ Some p
reply_only p None fits none = absurd (none p fits refl)
reply_only p (Some q) fits some = ap Some (sym (one_reply p q fits some.0 some.1))

-- the act that a text was read as, which is taken if the text is its own
pub act_told : (text : List ℕ) (act : Act) (o : Option Act) → ((a : Act) → ActFits a → text ≡ act_text a → Some act ≡ Some a)
    → MatchOption o (text ≢ act_text act) (λ a. (a ≡ act) × ActFits a × (text ≡ act_text a)) → ReadsAct text o
act_told text act None only apart = λ a fits same. let one = only a fits same in let is : act ≡ a = cc in apart (same ∙ ap act_text (sym is))
act_told text act (Some a) only told = (told.1, told.2)
