use Rattle.figure.proofs.Freeing.{free_and_chosen}
use Rattle.figure.proofs.window.cover.Goals as goal

pub returns-clause-free_in_place_only : goal.returns-clause-free_in_place_only
returns-clause-free_in_place_only g c =
    let made = c.in_ok-new.ensures.made in
    (free_and_chosen g.met.F.Figure.ordered c.args.window.now c.args.percent c.lowest.result (rw (made.0, made.1) at c.lowest.ensures)).0

pub returns-clause-ranks_with_choice : goal.returns-clause-ranks_with_choice
returns-clause-ranks_with_choice g c =
    let made = c.in_ok-new.ensures.made in
    (free_and_chosen g.met.F.Figure.ordered c.args.window.now c.args.percent c.lowest.result (rw (made.0, made.1) at c.lowest.ensures)).1
