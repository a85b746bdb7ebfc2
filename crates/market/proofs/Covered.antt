-- The covering ratio of a row.
use Rattle.std.proofs.Common.{◌≡◌, ℕ, ◌<◌, ◌≤◌, true, List, map, length, get_or, IsSomeAnd, Some, None, Option, ap, ◌∙◌, arith, MatchOption}
use Rattle.std.specs.Option.{option_map}
use Rattle.std.proofs.lemmas.List.{get_or-map}
use Rattle.std.proofs.lemmas.Bool.Decides.{nat_tests}
use Rattle.figure.specs.declared.kinds.Ratio.{Ratio}
use Rattle.figure.specs.declared.fault.FigureFault.{FigureFault}
use Rattle.figure.specs.Orders.{ratio_upto, same_rank}
use Rattle.figure.specs.Refusal.{denial}
use Rattle.figure.specs.Cover.{Covers}
use Rattle.figure.specs.Choice.{cover_of, RanksWith}
use Rattle.market.specs.declared.covering.CoveringRatio.{CoveringRatio}
use Rattle.market.specs.Moves.{moves, move_upto, parts}
use Rattle.market.specs.Rows.{PriceRow, IsRow}
use Rattle.market.specs.View.{Covering}
use Rattle.market.proofs.Moving.{move_at, ratios_count}
use Rattle.market.proofs.Mapped.{cover_of-map, Covers-map}

-- so few ratios are never refused
pub not_denied : (n : ℕ) (fault : FigureFault) → n ≤ 4096 → denial 99 n ≡ Some fault → ⊥
not_denied n fault few e = grind (arith, nat_tests)

module _ (row : PriceRow) (kept : IsRow row) (xs : List Ratio) (same : map parts xs ≡ moves row.prices) where
  -- a ratio of the row is the move at its place
  move_of : (place : ℕ) (x : Ratio) → place < length xs → x ≡ get_or xs place x → parts x ≡ get_or (moves row.prices) place (0, 1)
  move_of place x within read = rw (← same, get_or-map parts xs place x (0, 1) within) (ap parts read)

  -- a ratio of the row is at most 1, and over at most 800,000
  pub tame : (place : ℕ) (x : Ratio) → place < length xs → x ≡ get_or xs place x → (x.numerator ≤ x.denominator) × (x.denominator ≤ 800000)
  tame place x within read =
      grind (arith, move_of place x, move_at row.prices place, ratios_count row.prices xs, kept.pace place 0, kept.limits place 0)

  -- the rank of a covering ratio, in terms of moves
  ranked : (place count : ℕ) (x : Ratio) → x ≡ get_or xs place x → (y : Option Ratio)
      → MatchOption y ⊥ (RanksWith ratio_upto xs place count) → IsSomeAnd (option_map parts y) (λ m. same_rank move_upto (parts x) m ≡ true)
  ranked place count x read None r = absurd r
  ranked place count x read (Some y) r = ap (λ (z : Ratio). same_rank ratio_upto z y) read ∙ r.0 x

  -- the cover's answer in terms of moves
  pub Covering-from_cover : (c : CoveringRatio) → Covers ratio_upto xs 99 c.place c.count → c.ratio ≡ get_or xs c.place c.ratio
      → MatchOption (cover_of ratio_upto xs 99) ⊥ (RanksWith ratio_upto xs c.place c.count) → Covering row.prices c
  Covering-from_cover c cov read ranks = record {
    covers = rw (← same) (Covers-map parts move_upto xs 99 c.place c.count c.ratio cov);
    ratio = move_of c.place c.ratio cov.within read;
    rank = rw (← same, cover_of-map parts move_upto xs 99) (ranked c.place c.count c.ratio read (cover_of ratio_upto xs 99) ranks);
  }
