use Rattle.std.proofs.Common.{◌≡◌, arith, inl, inr, refl}
use Rattle.ee_value.proofs.OpenAges.{exact-roots, inexact}
use Rattle.ee_value.proofs.growth.exact_root.Goals as goal

pub returns-then-r-eq402 : goal.returns-then-r-eq402
returns-then-r-eq402 c = let e : c.args.rate ≡ 402 = omega arith in exact-roots c.args.rate 101 (inl (e, refl))

pub returns-then-r-eq808 : goal.returns-then-r-eq808
returns-then-r-eq808 c = let e : c.args.rate ≡ 808 = omega arith in exact-roots c.args.rate 102 (inr (inl (e, refl)))

pub returns-then-r-eq1218 : goal.returns-then-r-eq1218
returns-then-r-eq1218 c = let e : c.args.rate ≡ 1218 = omega arith in exact-roots c.args.rate 103 (inr (inr (inl (e, refl))))

pub returns-then-r-eq1632 : goal.returns-then-r-eq1632
returns-then-r-eq1632 c = let e : c.args.rate ≡ 1632 = omega arith in exact-roots c.args.rate 104 (inr (inr (inr (e, refl))))

pub returns-else-r-eq1632 : goal.returns-else-r-eq1632
returns-else-r-eq1632 c =
    λ some. inexact c.args.rate some (omega arith) (omega arith) (omega arith) (omega arith) c.hundredths-r.ensures.range
