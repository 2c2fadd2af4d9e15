use Rattle.std.proofs.Common.{◌≡◌, ℕ, ℤ, pos, ◌≤◌, true, refl, ap₂, arith}
use Rattle.std.specs.Int.{IsInRange}
use Rattle.std.proofs.lemmas.Bool.{le-leb}
use Rattle.jiff_core.specs.Calendar.{days_in_month}
use Rattle.ee_units.specs.Calendar.{is_date}

pos_same : (a b : ℕ) → pos a ≡ pos b → a ≡ b
pos_same a b e = cc e

-- `is_date` accepts a date of the calendar
pub known : (year month day : ℕ) (y : ℤ) (m d : ℕ) → y ≡ pos year → pos m ≡ pos month → pos d ≡ pos day → IsInRange 1 12 m → IsInRange 1 (days_in_month y m) d → is_date year month day ≡ true
known year month day y m d ey em ed hm hd =
    let same_m : m ≡ month = pos_same m month em in
    let same_d : d ≡ day = pos_same d day ed in
    let low_m : 1 ≤ month = rw (← same_m) (hm.0) in
    let high_m : month ≤ 12 = rw (← same_m) (hm.1) in
    let low_d : 1 ≤ day = rw (← same_d) (hd.0) in
    let span : days_in_month y m ≡ days_in_month (pos year) month = ap₂ (λ (a : ℤ) (b : ℕ). days_in_month a b) ey same_m in
    let top : d ≤ days_in_month y m = hd.1 in
    let high_d : day ≤ days_in_month (pos year) month = omega arith in
    rw (le-leb 1 month low_m, le-leb month 12 high_m, le-leb 1 day low_d, le-leb day (days_in_month (pos year) month) high_d) refl
