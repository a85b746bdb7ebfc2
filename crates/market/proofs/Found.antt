-- What `find_map` finds along a list: the first of what its function gives.
use Rattle.std.proofs.Common.{◌≡◌, ℕ, zero, suc, ◌+◌, ◌<◌, List, [], ◌∷◌, length, get_or, Some, None, Option, sym, refl, ap, ◌∙◌, arith}
use Rattle.std.specs.Bool.{IsTrue}
use Rattle.std.specs.Fn.{Called}
use Rattle.std.specs.Iterator.Runs.{Run, AllItemsGive, IsFirstToGive, CallKeepsClosure, ItemsMapTo}
use Rattle.std.specs.List.{filter_map, cons_option, slice_get}
use Rattle.std.specs.Option.{MatchOption, IfSome, IsSomeAnd, option_map}
use Rattle.std.proofs.lemmas.Option.{none-some, same_Some}
use denote.Param.Members.{Mut}

module _ {X Y : Type 0} (h : X → Option Y) where
  -- the first of what an element gives and of what the others give
  abbrev in_front : List X → Option Y → Option Y
  in_front xs o = slice_get (cons_option o (filter_map h xs)) 0

  -- where each element gives nothing, there is no first
  nothing : (xs : List X) → ((k : ℕ) (d : X) → k < length xs → h (get_or xs k d) ≡ None) → None ≡ slice_get (filter_map h xs) 0
  nothing [] none = refl
  nothing (x ∷ xs) none =
      nothing xs (λ k d below. none (suc k) d (omega (arith, below))) ∙ sym (ap (in_front xs) (none 0 x (omega arith)))

  -- the element at i is the first that gives something
  found : (xs : List X) (i : ℕ) (y : Y) → i < length xs → ((d : X) → h (get_or xs i d) ≡ Some y) → ((k : ℕ) (d : X) → k < i → h (get_or xs k d) ≡ None) → Some y ≡ slice_get (filter_map h xs) 0
  found [] i y within some none = absurd (omega (arith, within))
  found (x ∷ xs) zero y within some none = sym (ap (in_front xs) (some x))
  found (x ∷ xs) (suc i) y within some none =
      found xs i y (omega (arith, within)) some (λ k d below. none (suc k) d (omega (arith, below)))
      ∙ sym (ap (in_front xs) (none 0 x (omega arith)))

-- a fact of the value in a `Some` holds of it if there is one
holds : {A : Type 0} (o : Option A) (P : A → Type 0) → IsSomeAnd o P → IfSome o P
holds None P e = tt
holds (Some a) P e = e

module _ {A X Y F : Type 0} (v : A → X) (h : X → Option Y) (g : Mut F (A × Unit {0}) (Option Y)) (f : F) where
  -- the closure is called at an item, and answers what h gives of the element
  abbrev pub Computes : Type 0
  Computes = (a : A) (r : Option Y) (q : F) → Called g f (a, tt) r q → (q ≡ f) × (r ≡ h (v a))

  -- what the closure answered at an item, h gives of its element
  gives : Computes → (o : Option A) (x : X) (r : Option Y) → option_map v o ≡ Some x → IfSome o (λ a. Called g f (a, tt) r f) → h x ≡ r
  gives computes None x r e called = absurd (none-some x e)
  gives computes (Some a) x r e called = ap h (sym (same_Some (v a) x e)) ∙ sym (computes a r f called).1

  -- the answer of a run of `find_map` along xs
  pub first_given : Computes → {S : Type 0} {steps : S → Option A → S → Type 0} (p : Run steps) (xs : List X) (r : Option Y) → ItemsMapTo p v xs
      → MatchOption r (IsTrue p.whole × AllItemsGive p g f None) (λ y. (i : ℕ) × (i < p.len) × (p.len ≡ i + 1) × IsFirstToGive p g f (Some y) None i)
      → r ≡ slice_get (filter_map h xs) 0
  first_given computes p xs None items none =
      let same : CallKeepsClosure g f = λ a r q called. (computes a.0 r q called).0 in
      nothing h xs (λ k d below. gives computes (p.at k) (get_or xs k d) None (items.2 k d (omega (arith, below, items.1 none.0))) (none.1 same k))
  first_given computes p xs (Some y) items first =
      let same : CallKeepsClosure g f = λ a r q called. (computes a.0 r q called).0 in
      let given = first.3 same in
      found h xs first.0 y (omega (arith, items.0, first.1))
      (λ d. gives computes (p.at first.0) (get_or xs first.0 d) (Some y) (items.2 first.0 d first.1) (holds (p.at first.0) _ given.0))
      (λ k d below. gives computes (p.at k) (get_or xs k d) None (items.2 k d (omega (arith, below, first.1))) (holds (p.at k) _ (given.1 k below)))
