-- That ratios, compared by their crossed products, have a total order.
use Rattle.std.proofs.Common.{ℕ, ◌*◌, ◌≤◌, arith, mul-le-mul_right, le_of_mul-le-mul_right, mul_right_comm}
use Rattle.std.proofs.lemmas.Bool.{leb-true, leb-false, le-leb}
use Rattle.figure.specs.Orders.{TotalOrder, ratio_upto}

-- where a/b is not above c/d, nor c/d above e/f, a/b is not above e/f
pub crossed_transitive : (a b c d e f : ℕ) → 1 ≤ d → a * d ≤ c * b → c * f ≤ e * d → a * f ≤ e * b
crossed_transitive a b c d e f some h k =
    let p : a * d * f ≤ c * b * f = mul-le-mul_right f h in
    let q : c * f * b ≤ e * d * b = mul-le-mul_right b k in
    let r : a * f * d ≤ e * b * d = omega (arith, p, q, mul_right_comm a d f, mul_right_comm c b f, mul_right_comm e d b) in
    le_of_mul-le-mul_right r some

-- ratios have a total order
pub ratio_order : TotalOrder ratio_upto
ratio_order = record {
  any_two_compare = λ x y h. le-leb _ _ (omega (arith, leb-false _ _ h));
  transitive = λ x y z h k. le-leb _ _ (crossed_transitive x.numerator x.denominator y.numerator y.denominator z.numerator z.denominator y.limits.1 (leb-true _ _ h) (leb-true _ _ k));
}
