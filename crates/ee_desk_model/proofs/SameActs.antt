-- Acts that compare as the same are equal.
use Rattle.std.proofs.Common.{◌≡◌, ℕ, Bool, true, ◌&&◌, ◌==◌, eqb, nat_eq, List, [], ◌∷◌, Option, Some, None, true≢false, refl, sym, ap}
use Rattle.std.specs.Option.{option_eq}
use Rattle.std.specs.Cmp.Lexicographic.{pointwise}
use Rattle.std.proofs.lemmas.Bool.{eqb-true, eq-eqb, and_parts, and_from}
use Rattle.ee_units.specs.Spelling.{SerialNumber}
use Rattle.ee_units.specs.Denoms.{dollars}
use Rattle.ee_units.specs.declared.denoms.Denom.{Denom}
use Rattle.ee_units.proofs.Lemmas as units
use Rattle.ee_calculator.specs.declared.bonds.Bond.{Bond}
use Rattle.ee_value.specs.declared.rates.RateRow.{RateRow}
use Rattle.ee_value.specs.declared.rates.Rates.{Rates}
use Rattle.ee_desk_model.specs.declared.acts.Act.{Act}
use Rattle.ee_desk_model.specs.declared.acts.Act.TheVariants.{AddRates, AddBonds, OpenDay, Redeem, CloseDay}
use Rattle.ee_desk_model.specs.Serials.{same_serial}
use Rattle.ee_desk_model.specs.Values.{same_rates}
use Rattle.ee_desk_model.specs.PlainBooks.{same_denom, same_bond}
use Rattle.ee_desk_model.specs.Acts.{same_act}
use Rattle.ee_desk_model.proofs.Maps.{serial_is}

-- ---- each is the same as itself
same_self : {A : Type 0} (E : A → A → Bool) → ((x : A) → E x x ≡ true) → (xs : List A) → pointwise E xs xs ≡ true
same_self E h [] = refl
same_self E h (x ∷ xs) = and_from (E x x) (pointwise E xs xs) (h x) (same_self E h xs)

eq_self : (n : ℕ) → eqb n n ≡ true
eq_self n = eq-eqb n n refl

pub serial_self : (s : SerialNumber) → same_serial s s ≡ true
serial_self s = and_from _ _ (eq_self s.letter) (eq_self s.number)

coowner_self : (o : Option ℕ) → option_eq eqb o o ≡ true
coowner_self None = refl
coowner_self (Some n) = eq_self n

bond_self : (b : Bond) → same_bond b b ≡ true
bond_self b = and_from _ _ (and_from _ _ (and_from _ _ (and_from _ _ (serial_self b.serial) (eq_self (dollars b.denom))) (eq_self b.issued)) (eq_self b.owner)) (coowner_self b.coowner)

rates_self : (rates : Rates) → same_rates rates rates ≡ true
rates_self rates = and_from _ _ (eq_self rates.fixed) (eq_self rates.extension)

pub act_self : (a : Act) → same_act a a ≡ true
act_self (AddRates rows) = same_self _ (λ x. and_from _ _ (eq_self x.from) (rates_self x.rates)) rows
act_self (AddBonds bonds) = same_self same_bond bond_self bonds
act_self (OpenDay day) = eq_self day
act_self (Redeem day payee serials) = and_from _ _ (and_from _ _ (eq_self day) (eq_self payee)) (same_self same_serial serial_self serials)
act_self (CloseDay day) = eq_self day

-- ---- what is the same is equal
same_is : {A : Type 0} (E : A → A → Bool) → ((x y : A) → E x y ≡ true → x ≡ y) → (xs ys : List A) → pointwise E xs ys ≡ true → xs ≡ ys
same_is E h [] [] e = refl
same_is E h [] (y ∷ ys) e = absurd (true≢false (sym e))
same_is E h (x ∷ xs) [] e = absurd (true≢false (sym e))
same_is E h (x ∷ xs) (y ∷ ys) e =
    let p = and_parts (E x y) (pointwise E xs ys) e in λ i. h x y p.0 i ∷ same_is E h xs ys p.1 i

denom_is : (a b : Denom) → same_denom a b ≡ true → a ≡ b
denom_is a b e = units.same_denom a b (eqb-true (dollars a) (dollars b) e)

pub coowner_is : (a b : Option ℕ) → option_eq nat_eq a b ≡ true → a ≡ b
coowner_is None None e = refl
coowner_is None (Some n) e = absurd (true≢false (sym e))
coowner_is (Some m) None e = absurd (true≢false (sym e))
coowner_is (Some m) (Some n) e = ap Some (eqb-true m n e)

pub bond_is : (a b : Bond) → same_bond a b ≡ true → a ≡ b
bond_is a b e =
    let p = and_parts _ (option_eq nat_eq a.coowner b.coowner) e in
    let q = and_parts _ (eqb a.owner b.owner) p.0 in
    let r = and_parts _ (eqb a.issued b.issued) q.0 in
    let s = and_parts (same_serial a.serial b.serial) (same_denom a.denom b.denom) r.0 in
    λ i. record {
      serial = serial_is a.serial b.serial s.0 i;
      denom = denom_is a.denom b.denom s.1 i;
      issued = eqb-true a.issued b.issued r.1 i;
      owner = eqb-true a.owner b.owner q.1 i;
      coowner = coowner_is a.coowner b.coowner p.1 i;
    }

rates_is : (a b : Rates) → same_rates a b ≡ true → a ≡ b
rates_is a b e =
    let p = and_parts (a.fixed == b.fixed) (a.extension == b.extension) e in
    λ i. record { fixed = eqb-true a.fixed b.fixed p.0 i; extension = eqb-true a.extension b.extension p.1 i }

row_is : (a b : RateRow) → (nat_eq a.from b.from && same_rates a.rates b.rates) ≡ true → a ≡ b
row_is a b e =
    let p = and_parts (eqb a.from b.from) (same_rates a.rates b.rates) e in
    λ i. record { from = eqb-true a.from b.from p.0 i; rates = rates_is a.rates b.rates p.1 i }

pub act_is : (a b : Act) → same_act a b ≡ true → a ≡ b
act_is (AddRates xs) (AddRates ys) e = ap AddRates (same_is _ row_is xs ys e)
act_is (AddBonds xs) (AddBonds ys) e = ap AddBonds (same_is same_bond bond_is xs ys e)
act_is (OpenDay d) (OpenDay k) e = ap OpenDay (eqb-true d k e)
act_is (CloseDay d) (CloseDay k) e = ap CloseDay (eqb-true d k e)
act_is (Redeem d p xs) (Redeem k q ys) e =
    let r = and_parts (eqb d k && eqb p q) (pointwise same_serial xs ys) e in
    let s = and_parts (eqb d k) (eqb p q) r.0 in
    λ i. Redeem (eqb-true d k s.0 i) (eqb-true p q s.1 i) (same_is same_serial serial_is xs ys r.1 i)
act_is (AddRates xs) (AddBonds ys) e = absurd (true≢false (sym e))
act_is (AddRates xs) (OpenDay k) e = absurd (true≢false (sym e))
act_is (AddRates xs) (Redeem k q ys) e = absurd (true≢false (sym e))
act_is (AddRates xs) (CloseDay k) e = absurd (true≢false (sym e))
act_is (AddBonds xs) (AddRates ys) e = absurd (true≢false (sym e))
act_is (AddBonds xs) (OpenDay k) e = absurd (true≢false (sym e))
act_is (AddBonds xs) (Redeem k q ys) e = absurd (true≢false (sym e))
act_is (AddBonds xs) (CloseDay k) e = absurd (true≢false (sym e))
act_is (OpenDay d) (AddRates ys) e = absurd (true≢false (sym e))
act_is (OpenDay d) (AddBonds ys) e = absurd (true≢false (sym e))
act_is (OpenDay d) (Redeem k q ys) e = absurd (true≢false (sym e))
act_is (OpenDay d) (CloseDay k) e = absurd (true≢false (sym e))
act_is (Redeem d p xs) (AddRates ys) e = absurd (true≢false (sym e))
act_is (Redeem d p xs) (AddBonds ys) e = absurd (true≢false (sym e))
act_is (Redeem d p xs) (OpenDay k) e = absurd (true≢false (sym e))
act_is (Redeem d p xs) (CloseDay k) e = absurd (true≢false (sym e))
act_is (CloseDay d) (AddRates ys) e = absurd (true≢false (sym e))
act_is (CloseDay d) (AddBonds ys) e = absurd (true≢false (sym e))
act_is (CloseDay d) (OpenDay k) e = absurd (true≢false (sym e))
act_is (CloseDay d) (Redeem k q ys) e = absurd (true≢false (sym e))
