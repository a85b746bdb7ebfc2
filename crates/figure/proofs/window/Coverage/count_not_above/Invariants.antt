use Rattle.std.proofs.Common.{◌≡◌, ◌≤◌, take}
use Rattle.figure.specs.Cover.{not_above}
use Rattle.figure.proofs.window.Coverage.count_not_above.Given as goal

abbrev pub invariant-loop-figure : goal.invariant-loop-figure
invariant-loop-figure g l = (l.count ≤ l.figure-index) × (l.count ≡ not_above g.F.Figure.upto (take l.figure-index l.self.window.now) l.top)
