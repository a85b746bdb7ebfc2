-- What a row keeps when it takes one price more.
use Rattle.std.proofs.Common.{◌≡◌, ℕ, zero, suc, ◌+◌, ◌-◌, ◌*◌, ◌≤◌, List, [], ◌∷◌, ◌++◌, map, length, drop, Some, None, refl, ap, arith}
use native.Mathlib.Numerals.{unary_clauses}
use Rattle.std.proofs.Math.Seq.{drop-nil}
use Rattle.std.proofs.lemmas.Bool.Decides.{nat_tests}
use Rattle.std.proofs.lemmas.List.{length-drop, length_push, drop-map, map_push, get_or-drop, get_or_push, get_or_append_left, get_or_default}
use Rattle.std.proofs.lemmas.List.Elements.{All-push, All-drop}
use Rattle.std.proofs.lemmas.List.Sorted.{all_adjacent_more}
use Rattle.figure.specs.declared.kinds.Ratio.{Ratio}
use Rattle.market.specs.Limits.{WithinLimits, KeepsPace, price_fault}
use Rattle.market.specs.Moves.{Move, move_between, moves, parts}
use Rattle.market.specs.Rows.{PriceRow, IsRow, newest, latest}
use Rattle.market.proofs.Runs.{faultless}
use Rattle.market.proofs.Moving.{ratios_count}

-- what is left of the prices has what is left of the moves
moves-drop : (n : ℕ) (ps : List ℕ) → moves (drop n ps) ≡ drop n (moves ps)
moves-drop zero ps = refl
moves-drop (suc n) [] = refl
moves-drop (suc n) (p ∷ []) = ap moves (drop-nil n)
moves-drop (suc n) (p ∷ (q ∷ qs)) = moves-drop n (q ∷ qs)

-- one price more is one move more
moves_push : (ps : List ℕ) (x : ℕ) → 1 ≤ length ps → moves (ps ++ x ∷ []) ≡ moves ps ++ move_between (newest ps) x ∷ []
moves_push [] x some = absurd (omega arith)
moves_push (p ∷ []) x some = refl
moves_push (p ∷ (q ∷ qs)) x some = simp unary_clauses (ap (λ (l : List Move). move_between p q ∷ l) (simp unary_clauses at (moves_push (q ∷ qs) x (omega arith))))

-- what is left of the prices keeps their pace
KeepsPace-drop : (n : ℕ) (ps : List ℕ) → KeepsPace ps → KeepsPace (drop n ps)
KeepsPace-drop n ps pace k d h = grind (arith, length-drop n ps, get_or-drop n ps k d, get_or-drop n ps (k + 1) d, pace (n + k) d)

module _ (row : PriceRow) (kept : IsRow row) (x : ℕ) (free : price_fault (Some (newest row.prices)) x ≡ None) where
  -- the price may follow the others
  KeepsPace-push : KeepsPace (row.prices ++ x ∷ [])
  KeepsPace-push =
      let size = length_push row.prices x in
      let slow : x ≤ 2 * newest row.prices = grind (arith, nat_tests, faultless) in
      rw size (all_adjacent_more (row.prices ++ x ∷ []) (λ former price. price ≤ 2 * former) (length row.prices) (omega (arith, kept.count.0))
      (λ k d h. grind (arith, get_or_append_left row.prices (x ∷ []) d k, get_or_append_left row.prices (x ∷ []) d (k + 1), kept.pace k d))
      (λ d. grind (arith, kept.count.0, get_or_append_left row.prices (x ∷ []) d (length row.prices - 1), get_or_push row.prices x d (length row.prices), get_or_default row.prices (length row.prices - 1) d 0)))

  -- the latest 121 of the prices are those of a row
  pub IsRow-slid : IsRow (record row { prices = latest 121 (row.prices ++ x ∷ []) })
  IsRow-slid =
      let n : ℕ = length (row.prices ++ x ∷ []) - 121 in
      let size = length_push row.prices x in
      let left = length-drop n (row.prices ++ x ∷ []) in
      record {
        coded = kept.coded;
        count = (omega (arith, kept.count.0), omega (arith, kept.count.1));
        limits = All-drop WithinLimits n (row.prices ++ x ∷ []) (All-push WithinLimits row.prices x kept.limits (faultless (Some (newest row.prices)) x free).0);
        pace = KeepsPace-drop n (row.prices ++ x ∷ []) KeepsPace-push;
      }

  -- the latest 120 of the ratios are the moves of the latest 121 prices
  pub ratios_slid : (rs : List Ratio) (y : Ratio) → parts y ≡ move_between (newest row.prices) x → map parts rs ≡ moves row.prices
      → map parts (latest 120 (rs ++ y ∷ [])) ≡ moves (latest 121 (row.prices ++ x ∷ []))
  ratios_slid rs y e same =
      let some : 1 ≤ length row.prices = omega (arith, kept.count.0) in
      let n : ℕ = length (row.prices ++ x ∷ []) - 121 in
      let count : length (rs ++ y ∷ []) - 120 ≡ n = omega (arith, length_push rs y, length_push row.prices x, ratios_count row.prices rs same) in
      rw (count, ← drop-map parts n (rs ++ y ∷ []), map_push parts rs y, same, e, moves-drop n (row.prices ++ x ∷ []), moves_push row.prices x some)
