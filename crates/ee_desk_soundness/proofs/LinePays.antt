-- What a line of a ticket pays.
use Rattle.std.proofs.Common.{◌≡◌, ◌↔◌, ℕ, ◌+◌, ◌≤◌, Bool, true, Some, None, subst}
use Rattle.std.specs.FinMap as finite
use Rattle.std.specs.FinMap.{FinMap}
use Rattle.std.specs.Ordering.{nat_cmp}
use Rattle.ee_units.specs.Calendar.{month_of_day, period_start}
use Rattle.ee_value.specs.declared.rates.Rates.{Rates}
use Rattle.ee_calculator.specs.declared.bonds.Bond.{Bond}
use Rattle.ee_desk_model.specs.declared.replies.Line.{Line}
use Rattle.ee_desk_model.specs.declared.replies.Ticket.{Ticket}
use Rattle.ee_desk_model.specs.Values.{value_of}
use Rattle.ee_calculator.specs.Bonds.{is_payee}
use Rattle.ee_desk_soundness.specs.Inner.Checks.{PaysBond}

module _ (rates : FinMap nat_cmp Rates) (bond : Bond) (ticket : Ticket) (line : Line) where
  worth_at : (terms other : Rates) (month : ℕ) → terms ≡ other → (line.cents.0 ≡ value_of terms bond month) → (line.cents.0 ≡ value_of other bond month)
  worth_at terms other month same h = subst (λ t. line.cents.0 ≡ value_of t bond month) same h

  -- with the bond's terms at hand, what is left to know is what it is worth
  pub pays_if : (terms : Rates) (month : ℕ) (r : Bool) → finite.get rates (period_start bond.issued) ≡ Some terms → is_payee bond ticket.payee ≡ true → month ≡ month_of_day ticket.day
      → ((r ≡ true) ↔ ((bond.issued + 12 ≤ month) × (line.cents.0 ≡ value_of terms bond month))) → ((r ≡ true) ↔ PaysBond rates bond ticket line)
  pays_if terms month r has paid when worth =
      let here = subst (λ m. (r ≡ true) ↔ ((bond.issued + 12 ≤ m) × (line.cents.0 ≡ value_of terms bond m))) when worth in (
        λ e. let w = here.0 e in (terms, has, paid, w.0, w.1),
        λ p. let own = p.1 in let same : p.0 ≡ terms = cc in here.1 (p.3, worth_at p.0 terms (month_of_day ticket.day) same p.4),
      )

  pub no_terms : finite.get rates (period_start bond.issued) ≡ None → PaysBond rates bond ticket line → ⊥
  no_terms none p = let has = p.1 in absurd (cc)
