use Rattle.std.proofs.Common.{◌≡◌, false, sym, ◌∙◌, MatchOption, arith, rules}
use Rattle.std.proofs.lemmas.List.{get_or_read}
use Rattle.std.proofs.lemmas.Bool.{leb-true, leb-false}
use Rattle.figure.proofs.Scanning.{Beaten, TooFew, takes, passes_short, passes_beaten, found, ruled_out}
use Rattle.figure.proofs.window.Coverage.lowest.Goals as goal
use Rattle.figure.proofs.window.Coverage.lowest.Goals.{then-is_some_and-via-then-is_some_and, then-is_some_and-via-else-is_some_and+then-is_some_and-2, then-is_reached_by, else-is_reached_by}

pub loop-place-preserved-then-is_some_and : goal.loop-place-preserved-then-is_some_and
loop-place-preserved-then-is_some_and g c =
    let upto = g.F.Figure.upto in
    let o = g.met.F.Figure.ordered in
    let window = c.args.self.now.window.now in
    let p = c.args.self.now.percent in
    let x = c.figure-item.result in
    let so = c.loop-place.invariant.so_far in
    let ruled : MatchOption c.loop-place.short (c.is_some_and.result ≡ false) (λ s. c.is_some_and.result ≡ upto x s.now) = search rules in
    record {
      within = omega arith;
      so_far = elim c.then-is_some_and.branch [
        | then-is_some_and-via-then-is_some_and w ↦
            passes_short o window p c.loop-place.place x c.loop-place-test.true c.figure-item.is c.loop-place.best so
            (ruled_out o window p (λ s. s.now) c.loop-place.short c.loop-place.invariant.short x c.is_some_and.result ruled w.if-is_some_and.true)
        | then-is_some_and-via-else-is_some_and+then-is_some_and-2 w ↦
            let beaten : Beaten upto window c.loop-place.best x w.is_some_and-else-is_some_and.result = search (rules, get_or_read) in
            passes_beaten o window p c.loop-place.place x c.loop-place-test.true c.figure-item.is c.loop-place.best so (rw w.if-is_some_and-2.true at beaten)
      ];
      short = c.loop-place.invariant.short;
    }

pub loop-place-preserved : goal.loop-place-preserved
loop-place-preserved g c =
    let upto = g.F.Figure.upto in
    let o = g.met.F.Figure.ordered in
    let window = c.args.self.now.window.now in
    let p = c.args.self.now.percent in
    let x = c.figure-item.result in
    let so = c.loop-place.invariant.so_far in
    let beaten : Beaten upto window c.loop-place.best x c.is_some_and-else-is_some_and.result = search (rules, get_or_read) in
    let counted = c.count_not_above-count.ensures.value in
    elim c.if-is_reached_by.branch [
      | then-is_reached_by w ↦ record {
        within = omega arith;
        so_far = rw w.best-is
            (takes o window p c.loop-place.place x c.loop-place-test.true c.figure-item.is c.loop-place.best so _ counted
            (leb-true _ _ (sym c.is_reached_by.ensures ∙ w.if-is_reached_by.true)) (rw c.if-is_some_and-2.false at beaten));
        short = rw w.short-is c.loop-place.invariant.short;
      }
      | else-is_reached_by w ↦
          let few : TooFew upto window p x = λ reached. absurd (omega (arith, reached, counted, leb-false _ _ (sym c.is_reached_by.ensures ∙ w.if-is_reached_by.false))) in
          record {
            within = omega arith;
            so_far = rw w.best-is (passes_short o window p c.loop-place.place x c.loop-place-test.true c.figure-item.is c.loop-place.best so few);
            short = rw w.short-is few;
          }
    ]

pub returns : goal.returns
returns g c =
    found g.met.F.Figure.ordered c.args.self.now.window.now c.args.self.now.percent c.args.self.now.percents.1 c.loop-place.place c.loop-place-test.false
    c.loop-place.invariant.within c.loop-place.best c.loop-place.invariant.so_far
