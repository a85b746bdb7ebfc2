use Rattle.std.proofs.Common.{map, ap, ◌∙◌, arith}
use Rattle.market.specs.Moves.{parts}
use Rattle.market.specs.View.{row_of}
use Rattle.market.proofs.Moving.{ratios_count}
use Rattle.market.proofs.Covered.{not_denied, tame, Covering-from_cover}
use Rattle.market.proofs.row.Row.covering.Goals as goal

pub returns-in_err-place : goal.returns-in_err-place
returns-in_err-place c =
    absurd (not_denied _ c.in_err-place.field-0.0 (omega (arith, ratios_count _ _ c.args.self.now.moved)) c.in_err-place.ensures.answer)

pub invariant_of-result : goal.invariant_of-result
invariant_of-result c =
    let row = c.args.self.now in
    let answer = rw c.in-Some.is at c.in_ok-place.ensures.answer in
    record { limits = tame (row_of row) row.kept _ row.moved c.in-Some.place _ (rw (← c.deref.ensures.value) answer.1.within) c.index.ensures }

pub returns : goal.returns
returns c =
    let row = c.args.self.now in
    let same = ap (map parts) c.deref.ensures.value ∙ row.moved in
    let answer = rw c.in-Some.is at c.in_ok-place.ensures.answer in
    let ranks = rw c.in-Some.is at c.in_ok-place.ensures.ranks_with_choice in
    Covering-from_cover (row_of row) row.kept _ same _ answer.1 (rw c.deref.ensures.value c.index.ensures) ranks
