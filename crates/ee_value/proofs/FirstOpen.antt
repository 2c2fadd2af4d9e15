-- What `first_open` finds.
use Rattle.std.proofs.Common.{◌≡◌, ℕ, ◌<◌, ◌≤◌, arith, refl, sym, ap, ◌∙◌, inl, inr, Some, None, length, zero-add}
use Rattle.std.specs.Prelude.{if◌then◌else◌, nat_lt}
use Rattle.std.proofs.Math.ListN.{get_or}
use Rattle.std.specs.List.{range_with_len, position_or_len}
use Rattle.std.proofs.lemmas.Bool.{cases_lt, lt-ltb, false≢true}
use Rattle.std.proofs.lemmas.Option.{none-some}
use Rattle.std.proofs.lemmas.List.FromFn.{get_or-range_with_len, length-range_with_len}
use Rattle.std.proofs.lemmas.List.Quantifiers.{position-Some}
use Rattle.std.proofs.lemmas.List.Sums.{position_or_len_is, fails_before_first}
use Rattle.ee_value.specs.declared.rates.Rates.{Rates}
use Rattle.ee_value.specs.declared.faults.ValueFault.{ValueFault}
use Rattle.ee_value.specs.declared.faults.ValueFault.TheVariants.{Unsettled, NoMemory}
use Rattle.ee_value.specs.Open.{is_open, first_open, NeverOpen, IsFirstOpen}
use Rattle.ee_value.specs.Fault.{IsFaultOf, IsFaultAt}
use Rattle.ee_value.proofs.OpenAges.{open-past}

age_at : (i : ℕ) → i < 361 → get_or (range_with_len 0 361) i 0 ≡ i
age_at i h = get_or-range_with_len 0 361 i 0 h ∙ zero-add i

pub first_open-Some : (rates : Rates) (b a : ℕ) → first_open rates b ≡ Some a → IsFirstOpen rates b a
unfolding first_open
first_open-Some rates b a h =
    let p = position-Some (λ k. is_open rates k b) (range_with_len 0 361) a 0 h in
    let small : a < 361 = rw (length-range_with_len 0 361) at p.0 in (
      ap (λ k. is_open rates k b) (sym (age_at a small)) ∙ p.1,
      λ k lt. ap (λ j. is_open rates j b) (sym (age_at k (omega arith))) ∙ p.2 k lt,
    )

pub first_open-is : (rates : Rates) (b a : ℕ) → IsFirstOpen rates b a → first_open rates b ≡ Some a
unfolding first_open
first_open-is rates b a h =
    elim (cases_lt a 360) [
      | inl lt ↦
          let n = length-range_with_len 0 361 in
          let e : position_or_len (λ k. is_open rates k b) (range_with_len 0 361) ≡ a =
          position_or_len_is (λ k. is_open rates k b) (range_with_len 0 361) a 0 (omega (arith, n))
          (λ k less. ap (λ j. is_open rates j b) (age_at k (omega arith)) ∙ h.1 k less)
          (λ less. ap (λ j. is_open rates j b) (age_at a (omega arith)) ∙ h.0) in
          rw (e, n, lt-ltb a 361 (omega arith)) refl
      | inr le ↦ absurd (false≢true (sym (open-past rates a b le) ∙ h.0))
    ]

pub first_open-None : (rates : Rates) (b : ℕ) → NeverOpen rates b → first_open rates b ≡ None
unfolding first_open
first_open-None rates b never =
    let n = length-range_with_len 0 361 in
    let e : position_or_len (λ k. is_open rates k b) (range_with_len 0 361) ≡ 361 =
    position_or_len_is (λ k. is_open rates k b) (range_with_len 0 361) 361 0 (omega (arith, n))
    (λ k less. never (get_or (range_with_len 0 361) k 0))
    (λ less. absurd (omega (arith, less, n))) in
    rw e refl

some_or_none : (k n : ℕ) → (if nat_lt k n then Some k else None) ≡ None → n ≤ k
some_or_none k n h =
    elim (cases_lt k n) [
      | inl lt ↦ absurd (none-some k (sym h ∙ ap (λ t. if t then Some k else None) (lt-ltb k n lt)))
      | inr le ↦ le
    ]

pub NeverOpen-from_None : (rates : Rates) (b : ℕ) → first_open rates b ≡ None → NeverOpen rates b
unfolding first_open
NeverOpen-from_None rates b h a =
    elim (cases_lt a 360) [
      | inl lt ↦
          let n = length-range_with_len 0 361 in
          let past = some_or_none (position_or_len (λ k. is_open rates k b) (range_with_len 0 361)) (length (range_with_len 0 361)) h in
          ap (λ j. is_open rates j b) (sym (age_at a (omega arith)))
          ∙ fails_before_first (λ k. is_open rates k b) (range_with_len 0 361) a 0 (omega (arith, n, past))
      | inr le ↦ open-past rates a b le
    ]

pub fault_at : (rates : Rates) (b : ℕ) (e : ValueFault) → IsFaultOf rates b e → IsFaultAt (first_open rates b) e
fault_at rates b (Unsettled month) h = first_open-is rates b month h
fault_at rates b NoMemory h = h
