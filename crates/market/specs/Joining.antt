-- What two joined sources mean.
use Rattle.std.specs.Prelude.{ℕ, Option}
use Rattle.std.specs.Option.{option_or}

-- the price that the first source means, and only where it means none that of the second
abbrev pub joined_price : (ℕ → Option ℕ) → (ℕ → Option ℕ) → ℕ → Option ℕ
joined_price first second code = option_or (first code) (second code)
