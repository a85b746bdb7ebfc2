-- What an order of figures is, and the orders of the two kinds.
use Rattle.std.specs.Prelude.{◌≡◌, ◌*◌, Bool, true, false, ◌&&◌, int_le, nat_le}
use Rattle.figure.specs.declared.kinds.Yen.{Yen}
use Rattle.figure.specs.declared.kinds.Ratio.{Ratio}

-- `upto x y` says that x is not above y
pub record TotalOrder {F : Type 0} (upto : F → F → Bool) : Type 0 where
  pub any_two_compare : (x y : F) → upto x y ≡ false → upto y x ≡ true
  pub transitive : (x y z : F) → upto x y ≡ true → upto y z ≡ true → upto x z ≡ true

-- two figures share one rank when neither is above the other
abbrev pub same_rank : {F : Type 0} → (F → F → Bool) → F → F → Bool
same_rank upto x y = upto x y && upto y x

-- ranks part the figures into classes
pub record Equivalence {F : Type 0} (same : F → F → Bool) : Type 0 where
  pub itself : (x : F) → same x x ≡ true
  pub either_way : (x y : F) → same x y ≡ same y x
  pub passes_on : (x y z : F) → same x y ≡ true → same y z ≡ true → same x z ≡ true

-- yen compare as numbers
abbrev pub yen_upto : Yen → Yen → Bool
yen_upto x y = int_le x.value y.value

-- a/b is not above c/d when a × d ≤ c × b
abbrev pub ratio_upto : Ratio → Ratio → Bool
ratio_upto x y = nat_le (x.numerator * y.denominator) (y.numerator * x.denominator)
