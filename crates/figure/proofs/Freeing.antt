-- The answers of the cover's call are the places of one rank, with one count.
use Rattle.std.proofs.Common.{◌≡◌, ℕ, ◌<◌, Bool, true, List, length, get_or, Some, None, Ok, Option, sym, ◌∙◌, arith, MatchOption}
use Rattle.std.proofs.lemmas.Bool.{and_from, and_parts}
use Rattle.figure.specs.Orders.{TotalOrder}
use Rattle.figure.specs.Cover.{not_above, Covers, SameButPlace, FreeInPlaceOnly}
use Rattle.figure.specs.Choice.{RanksWithChoice}
use Rattle.figure.proofs.Counting.{not_above_le}
use Rattle.figure.proofs.Choosing.{a_figure, answer_ranks_with_choice, none_chosen}

module _ {F : Type 0} {upto : F → F → Bool} (o : TotalOrder upto) (window : List F) (percent : ℕ) where
  same_count : (x y : F) → upto x y ≡ true → upto y x ≡ true → not_above upto window x ≡ not_above upto window y
  same_count x y h k = omega (arith, not_above_le o window x y h, not_above_le o window y x k)

  -- an answer is not above any other
  not_above_other : (a b : ℕ × ℕ) → Covers upto window percent a.0 a.1 → Covers upto window percent b.0 b.1 → (d : F) → upto (get_or window a.0 d) (get_or window b.0 d) ≡ true
  not_above_other a b p q d = p.lowest b.0 d q.within (omega (arith, q.enough, q.counted d))

  others_alike : (a b : ℕ × ℕ) → F → Covers upto window percent a.0 a.1 → Covers upto window percent b.0 b.1 → SameButPlace upto window a b
  others_alike a b e p q = (
    λ d. and_from _ _ (not_above_other a b p q d) (not_above_other b a q p d),
    p.counted e ∙ same_count _ _ (not_above_other a b p q e) (not_above_other b a q p e) ∙ sym (q.counted e),
  )

  alike_answers : (a b : ℕ × ℕ) → Covers upto window percent a.0 a.1 → b.0 < length window → SameButPlace upto window a b → Covers upto window percent b.0 b.1
  alike_answers a b p within same = record {
    within = within;
    counted = λ d. let both = and_parts _ _ (same.0 d) in sym same.1 ∙ p.counted d ∙ same_count _ _ both.0 both.1;
    enough = omega (arith, p.enough, same.1);
    lowest = λ k d h e. o.transitive _ _ _ (and_parts _ _ (same.0 d)).1 (p.lowest k d h e);
  }

  -- what else the cover's call promises, past its refusals
  pub free_and_chosen : (r : Option (ℕ × ℕ)) → MatchOption r (length window ≡ 0) (λ b. Covers upto window percent b.0 b.1) → FreeInPlaceOnly upto window percent (Ok r) × RanksWithChoice upto window percent (Ok r)
  free_and_chosen None empty = (λ place count q. omega (arith, q.within), none_chosen upto window percent empty)
  free_and_chosen (Some (place, count)) p = (
    λ other n. (
      λ q. (q.within, others_alike (place, count) (other, n) (a_figure window (omega (arith, p.within))) p q),
      alike_answers (place, count) (other, n) p,
    ),
    answer_ranks_with_choice o window percent place count p,
  )
