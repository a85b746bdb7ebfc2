-- What is known of the cover after each figure.
use Rattle.std.proofs.Common.{◌≡◌, ℕ, ◌+◌, ◌<◌, ◌≤◌, Bool, true, false, ◌⊎◌, List, length, get_or, Some, None, Option, sym, ap, ◌∙◌, ⊎_elim, arith, IfSome, MatchOption}
use Rattle.std.proofs.lemmas.List.{get_or_read}
use Rattle.std.proofs.lemmas.Bool.{true≢false}
use Rattle.std.proofs.Math.Nat.{eq-or-lt_of_le}
use Rattle.figure.specs.Orders.{TotalOrder}
use Rattle.figure.specs.Cover.{not_above, Reaches, Covers}
use Rattle.figure.proofs.Counting.{upto_itself, not_above_le, empty_if_none_reaches}

-- whether the best figure so far is not above x
abbrev pub Beaten : {F : Type 0} → (F → F → Bool) → List F → Option (ℕ × ℕ) → F → Bool → Type 0
Beaten {F} upto window best x r = MatchOption best (r ≡ false) (λ b. (d : F) → r ≡ upto (get_or window b.0 d) x)

-- the best of the first i figures
pub record Best {F : Type 0} (upto : F → F → Bool) (window : List F) (percent i place count : ℕ) : Type 0 where
  pub within : place < i
  pub counted : (d : F) → count ≡ not_above upto window (get_or window place d)
  pub enough : Reaches window percent count
  pub lowest : (k : ℕ) (d : F) → k < i → Reaches window percent (not_above upto window (get_or window k d)) → upto (get_or window place d) (get_or window k d) ≡ true

abbrev pub SoFar : {F : Type 0} → (F → F → Bool) → List F → ℕ → ℕ → Option (ℕ × ℕ) → Type 0
SoFar {F} upto window percent i None = (k : ℕ) (d : F) → k < i → Reaches window percent (not_above upto window (get_or window k d)) → ⊥
SoFar upto window percent i (Some b) = Best upto window percent i b.0 b.1

-- too few figures are not above x
abbrev pub TooFew : {F : Type 0} → (F → F → Bool) → List F → ℕ → F → Type 0
TooFew upto window percent x = Reaches window percent (not_above upto window x) → ⊥

here_or_before : (k i : ℕ) → k < i + 1 → (k ≡ i) ⊎ (k < i)
here_or_before k i h = eq-or-lt_of_le (omega (arith, h))

module _ {F : Type 0} {upto : F → F → Bool} (o : TotalOrder upto) (window : List F) (percent : ℕ) where
  module _ (i : ℕ) (x : F) (within : i < length window) (read : x ≡ get_or window i x) where
    here : (d : F) → x ≡ get_or window i d
    here d = get_or_read window i x within read d

    -- x reaches enough and is below the best so far
    pub takes : (b : Option (ℕ × ℕ)) → SoFar upto window percent i b → (count : ℕ) → count ≡ not_above upto window x → Reaches window percent count → Beaten upto window b x false → SoFar upto window percent (i + 1) (Some (i, count))
    takes b so count counted enough beaten = record {
      within = omega arith;
      counted = λ d. counted ∙ ap (not_above upto window) (here d);
      enough = enough;
      lowest = λ k d h e. ⊎_elim (λ eq. rw eq (upto_itself o (get_or window i d))) (λ lt. elsewhere b so beaten k d lt e) (here_or_before k i h);
    } where
      elsewhere : (c : Option (ℕ × ℕ)) → SoFar upto window percent i c → Beaten upto window c x false → (k : ℕ) (d : F) → k < i → Reaches window percent (not_above upto window (get_or window k d)) → upto (get_or window i d) (get_or window k d) ≡ true
      elsewhere None s t k d lt e = absurd (s k d lt e)
      elsewhere (Some c) s t k d lt e =
          let known = t d in
          let at = here d in
          let above : upto (get_or window c.0 d) (get_or window i d) ≡ false = cc in
          o.transitive _ _ _ (o.any_two_compare _ _ above) (s.lowest k d lt e)

    -- x covers too little
    pub passes_short : (b : Option (ℕ × ℕ)) → SoFar upto window percent i b → (Reaches window percent (not_above upto window x) → ⊥) → SoFar upto window percent (i + 1) b
    passes_short b so short = more b so where
      not_here : (k : ℕ) (d : F) → k ≡ i → Reaches window percent (not_above upto window (get_or window k d)) → ⊥
      not_here k d eq e =
          let same : not_above upto window (get_or window k d) ≡ not_above upto window x = ap (λ j. not_above upto window (get_or window j d)) eq ∙ ap (not_above upto window) (sym (here d)) in
          short (omega (arith, same, e))

      more : (c : Option (ℕ × ℕ)) → SoFar upto window percent i c → SoFar upto window percent (i + 1) c
      more None s = λ k d h e. ⊎_elim (λ eq. not_here k d eq e) (λ lt. s k d lt e) (here_or_before k i h)
      more (Some c) s = record {
        within = omega (arith, s.within);
        counted = s.counted;
        enough = s.enough;
        lowest = λ k d h e. ⊎_elim (λ eq. absurd (not_here k d eq e)) (λ lt. s.lowest k d lt e) (here_or_before k i h);
      }

    -- the best so far is not above x
    pub passes_beaten : (b : Option (ℕ × ℕ)) → SoFar upto window percent i b → Beaten upto window b x true → SoFar upto window percent (i + 1) b
    passes_beaten None so beaten = absurd (true≢false beaten)
    passes_beaten (Some b) so beaten = record {
      within = omega (arith, so.within);
      counted = so.counted;
      enough = so.enough;
      lowest = λ k d h e. ⊎_elim (λ eq. let known = beaten d in let at = here d in (cc)) (λ lt. so.lowest k d lt e) (here_or_before k i h);
    }

  -- what is not above a figure that covers too little covers too little
  pub ruled_out : {B : Type 0} (at : B → F) (short : Option B) → IfSome short (λ s. TooFew upto window percent (at s)) → (x : F) (r : Bool) → MatchOption short (r ≡ false) (λ s. r ≡ upto x (at s)) → r ≡ true → TooFew upto window percent x
  ruled_out at None few x r out e = absurd (true≢false (sym e ∙ out))
  ruled_out at (Some s) few x r out e = λ reached. few (omega (arith, not_above_le o window x (at s) (sym out ∙ e), reached))

  -- after the last figure
  pub found : percent ≤ 100 → (i : ℕ) → length window ≤ i → i ≤ length window → (b : Option (ℕ × ℕ)) → SoFar upto window percent i b → MatchOption b (length window ≡ 0) (λ r. Covers upto window percent r.0 r.1)
  found p i all inside None so = empty_if_none_reaches o window percent p (λ k d h e. so k d (omega arith) e)
  found p i all inside (Some b) so = record {
    within = omega (arith, so.within);
    counted = so.counted;
    enough = so.enough;
    lowest = λ k d h e. so.lowest k d (omega arith) e;
  }
