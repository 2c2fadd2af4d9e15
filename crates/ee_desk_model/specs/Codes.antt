-- The codes and names of refusals (this project's rule).
use Rattle.std.specs.Prelude.{ℕ, List, codes}
use Rattle.ee_desk_model.specs.declared.refusals.Refusal.{Refusal}
use Rattle.ee_desk_model.specs.declared.refusals.Refusal.TheVariants as refusal
use Rattle.ee_desk_model.specs.declared.refusals.Unserved.{Unserved}
use Rattle.ee_desk_model.specs.declared.refusals.Unserved.TheVariants as unserved

abbrev pub code_of : Refusal → ℕ
code_of refusal.NumberReused = 10
code_of refusal.Empty = 11
code_of refusal.TooMany = 12
code_of (refusal.Repeated serial) = 13
code_of (refusal.SameCoowner serial) = 14
code_of (refusal.NotAnnouncementMonth month) = 20
code_of (refusal.RateConflict month) = 21
code_of (refusal.RateUnsettled age) = 22
code_of (refusal.NoRate serial) = 30
code_of (refusal.SerialConflict serial) = 31
code_of refusal.DayOpen = 40
code_of refusal.DayNotLater = 41
code_of refusal.NoOpenDay = 42
code_of refusal.DayIsOther = 43
code_of refusal.DayFull = 44
code_of (refusal.UnknownSerial serial) = 50
code_of (refusal.NotPayee serial) = 51
code_of (refusal.AlreadyPaid serial ticket) = 52
code_of (refusal.NotIssued serial) = 53
code_of (refusal.NotEligible serial) = 54

abbrev pub name_of : Refusal → List ℕ
name_of refusal.NumberReused = codes "NumberReused"
name_of refusal.Empty = codes "Empty"
name_of refusal.TooMany = codes "TooMany"
name_of (refusal.Repeated serial) = codes "Repeated"
name_of (refusal.SameCoowner serial) = codes "SameCoowner"
name_of (refusal.NotAnnouncementMonth month) = codes "NotAnnouncementMonth"
name_of (refusal.RateConflict month) = codes "RateConflict"
name_of (refusal.RateUnsettled age) = codes "RateUnsettled"
name_of (refusal.NoRate serial) = codes "NoRate"
name_of (refusal.SerialConflict serial) = codes "SerialConflict"
name_of refusal.DayOpen = codes "DayOpen"
name_of refusal.DayNotLater = codes "DayNotLater"
name_of refusal.NoOpenDay = codes "NoOpenDay"
name_of refusal.DayIsOther = codes "DayIsOther"
name_of refusal.DayFull = codes "DayFull"
name_of (refusal.UnknownSerial serial) = codes "UnknownSerial"
name_of (refusal.NotPayee serial) = codes "NotPayee"
name_of (refusal.AlreadyPaid serial ticket) = codes "AlreadyPaid"
name_of (refusal.NotIssued serial) = codes "NotIssued"
name_of (refusal.NotEligible serial) = codes "NotEligible"

abbrev pub number_of_unserved : Unserved → ℕ
number_of_unserved unserved.NoMemory = 1
number_of_unserved unserved.StoreFailed = 2
