-- Counts of figures not above another, and the highest figure of a list.
use Rattle.std.proofs.Common.{◌≡◌, ℕ, suc, ◌<◌, ◌≤◌, Bool, true, cond, List, [], ◌∷◌, length, get_or, count_by, refl, ap, ◌∙◌, ⊎_elim, mul-le-mul_right, arith}
use Rattle.std.specs.List.{ContainsAt as Has, AllByRecursion as All}
use Rattle.std.proofs.lemmas.List.Sums.{sum_by-cons}
use Rattle.std.proofs.lemmas.Bool.{cases_Bool, cond-true}
use Rattle.std.proofs.ByRecursion.{All-weaker}
use Rattle.figure.specs.Orders.{TotalOrder}
use Rattle.figure.specs.Cover.{not_above, Reaches}

pub all_of : {X : Type 0} (P : X → Type 0) → ((x : X) → P x) → (xs : List X) → All P xs
all_of P each [] = tt
all_of P each (x ∷ xs) = (each x, all_of P each xs)

-- where all that passes p passes q, no fewer pass q
pub count_by_le : {X : Type 0} (p q : X → Bool) (xs : List X) → All (λ x. p x ≡ true → q x ≡ true) xs → count_by p xs ≤ count_by q xs
count_by_le p q [] a = omega arith
count_by_le p q (x ∷ xs) a =
    let rest : count_by p xs ≤ count_by q xs = count_by_le p q xs a.1 in
    let one : cond (p x) 1 0 ≤ cond (q x) 1 0 = grind (arith, a.0) in
    omega (arith, sum_by-cons (λ y. cond (p y) 1 0) x xs, sum_by-cons (λ y. cond (q y) 1 0) x xs)

pub count_by_all : {X : Type 0} (p : X → Bool) (xs : List X) → All (λ x. p x ≡ true) xs → count_by p xs ≡ length xs
count_by_all p [] a = refl
count_by_all p (x ∷ xs) a =
    let rest : count_by p xs ≡ length xs = count_by_all p xs a.1 in
    let one : ◌≡◌ {A = ℕ} (cond (p x) 1 0) 1 = cond-true (p x) 1 0 a.0 in
    omega (arith, sum_by-cons (λ y. cond (p y) 1 0) x xs)

module _ {F : Type 0} {upto : F → F → Bool} (o : TotalOrder upto) where
  pub upto_itself : (x : F) → upto x x ≡ true
  upto_itself x = ⊎_elim (λ e. e) (o.any_two_compare x x) (cases_Bool (upto x x))

  -- a figure not above another has no more figures not above it
  pub not_above_le : (window : List F) (x y : F) → upto x y ≡ true → not_above upto window x ≤ not_above upto window y
  not_above_le window x y h =
      count_by_le (λ z. upto z x) (λ z. upto z y) window (all_of (λ z. upto z x ≡ true → upto z y ≡ true) (λ z e. o.transitive z x y e h) window)

  -- a list that is not empty has a highest figure
  pub highest : (x : F) (xs : List F) → (t : F) × Has (x ∷ xs) t × All (λ z. upto z t ≡ true) (x ∷ xs)
  highest x [] = (x, (0, omega arith, λ d. refl), (upto_itself x, tt))
  highest x (y ∷ ys) =
      let up = highest y ys in
      ⊎_elim
      (λ e. (up.0, (suc up.1.0, omega (arith, up.1.1), up.1.2), (e, up.2)))
      (λ e. (x, (0, omega arith, λ d. refl), (upto_itself x, All-weaker (λ z. upto z up.0 ≡ true) (λ z. upto z x ≡ true) (λ z h. o.transitive z up.0 x h (o.any_two_compare x up.0 e)) (y ∷ ys) up.2)))
      (cases_Bool (upto x up.0))

  -- the highest figure of a window reaches any percent, so only an empty window has no figure that does
  pub empty_if_none_reaches : (window : List F) (percent : ℕ) → percent ≤ 100 → ((k : ℕ) (d : F) → k < length window → Reaches window percent (not_above upto window (get_or window k d)) → ⊥) → length window ≡ 0
  empty_if_none_reaches [] percent p none = refl
  empty_if_none_reaches (y ∷ ys) percent p none =
      let t = highest y ys in
      let all : not_above upto (y ∷ ys) (get_or (y ∷ ys) t.1.0 y) ≡ length (y ∷ ys) = ap (not_above upto (y ∷ ys)) (t.1.2 y) ∙ count_by_all (λ z. upto z t.0) (y ∷ ys) t.2 in
      absurd (none t.1.0 y t.1.1 (omega (arith, all, mul-le-mul_right (length (y ∷ ys)) p)))
