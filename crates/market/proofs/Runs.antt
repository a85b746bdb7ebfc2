-- A run that is not refused makes a row.
use Rattle.std.proofs.Common.{◌≡◌, ℕ, zero, suc, false, List, [], ◌∷◌, All, Some, None, Option, add-one, arith}
use Rattle.std.proofs.lemmas.Bool.Decides.{nat_tests}
use Rattle.std.proofs.lemmas.List.{length-map}
use Rattle.record.specs.declared.quote.Quote.{Quote}
use Rattle.market.specs.Limits.{WithinLimits, KeepsPace, above_twice, price_fault, first_fault}
use Rattle.market.specs.Rows.{IsRow, prices, row_denial}

-- a price without fault is within its limits, and not above twice the former one
pub faultless : (former : Option ℕ) (price : ℕ) → price_fault former price ≡ None → WithinLimits price × (above_twice former price ≡ false)
faultless former price e = grind (arith, nat_tests)

-- prices without fault are all within their limits
all_within : (former : Option ℕ) (ps : List ℕ) → first_fault former ps ≡ None → All WithinLimits ps
all_within former [] e k d h = absurd (omega arith)
all_within former (p ∷ ps) e zero d h = grind (arith, faultless)
all_within former (p ∷ ps) e (suc k) d h = all_within (Some p) ps (grind arith) k d (omega arith)

-- and none of them is above twice the one before it
keeps_pace : (former : Option ℕ) (ps : List ℕ) → first_fault former ps ≡ None → KeepsPace ps
keeps_pace former [] e k d h = absurd (omega arith)
keeps_pace former (p ∷ []) e k d h = absurd (omega arith)
keeps_pace former (p ∷ (q ∷ qs)) e zero d h = grind (arith, faultless)
keeps_pace former (p ∷ (q ∷ qs)) e (suc k) d h = simp add-one (simp add-one at (keeps_pace (Some p) (q ∷ qs) (grind arith) k d (omega arith)))

-- a run that is not refused has the prices of a row
pub IsRow-from_run : (code : ℕ) (run : List Quote) → row_denial code run ≡ None → IsRow (record { code = code; prices = prices run })
IsRow-from_run code run e =
    let free : first_fault None (prices run) ≡ None = grind (arith, nat_tests) in
    record {
      coded = grind (arith, nat_tests);
      count = grind (arith, nat_tests, length-map run (λ (q : Quote). q.price));
      limits = all_within None (prices run) free;
      pace = keeps_pace None (prices run) free;
    }
