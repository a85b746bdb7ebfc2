use Rattle.std.proofs.Common.{◌≡◌, map, get_or, take, vec_items}
use Rattle.market.specs.Moves.{moves, parts}
use Rattle.statement.proofs.moves.ratios.Given as goal

abbrev pub invariant-loop-later : goal.invariant-loop-later
invariant-loop-later l = record {
  so_far : map parts (vec_items l.ratios) ≡ take l.later-index (moves l.prices);
  before : l.earlier ≡ get_or l.prices l.later-index 0;
}
