-- The statuses of a call: 0 means an answer, and each refusal has a number and a text of its own.
use Rattle.std.specs.Prelude.{ℕ, ◌-◌, ◌==◌, List, ◌++◌, length, take, drop, min, slice_set, codes, if◌then◌else◌}
use Rattle.ee_value_c.specs.declared.refusals.CallRefusal.{CallRefusal}
use Rattle.ee_value_c.specs.declared.refusals.CallRefusal.TheVariants as refusal

abbrev pub status_of : CallRefusal → ℕ
status_of refusal.BadDenomination = 1
status_of refusal.BadIssueMonth = 2
status_of refusal.BadMonth = 3
status_of refusal.BadRate = 4
status_of refusal.BadExtension = 5
status_of refusal.NotIssued = 6
status_of refusal.NotEligible = 7
status_of refusal.Unsettled = 8

-- the text of a status
abbrev pub status_text : ℕ → List ℕ
status_text n = if n == 0 then codes "done"
    else if n == 1 then codes "the dollars are no denomination"
    else if n == 2 then codes "the month of issue is no month from 200505 to 209912"
    else if n == 3 then codes "the month is no month from 200505 to 219912"
    else if n == 4 then codes "the rate is above 20 percent"
    else if n == 5 then codes "the rate of extended maturity is above 20 percent"
    else if n == 6 then codes "the month is before the month of issue"
    else if n == 7 then codes "the bond can't be redeemed before 12 months"
    else if n == 8 then codes "the precision doesn't settle the value"
    else codes "no status of this library"

-- a buffer with as much of the text as fits before a byte 0; its other bytes don't change
abbrev pub text_fits : ℕ → List ℕ → List ℕ → List ℕ
text_fits k text buffer = slice_set (take k text ++ drop k buffer) k 0

unfoldable pub text_into : List ℕ → List ℕ → List ℕ
text_into text buffer = if length buffer == 0 then buffer else text_fits (min (length text) (length buffer - 1)) text buffer
