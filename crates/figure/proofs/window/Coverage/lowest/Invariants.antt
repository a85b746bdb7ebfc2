use Rattle.std.proofs.Common.{◌≤◌, length, IfSome}
use Rattle.figure.proofs.Scanning.{SoFar, TooFew}
use Rattle.figure.proofs.window.Coverage.lowest.Given as goal

abbrev pub invariant-loop-place : goal.invariant-loop-place
invariant-loop-place g l =
    let upto = g.F.Figure.upto in
    record {
      within : l.place ≤ length l.self.window.now;
      so_far : SoFar upto l.self.window.now l.self.percent l.place l.best;
      short : IfSome l.short (λ x. TooFew upto l.self.window.now l.self.percent x.now);
    }
