-- What a designated list means by its quotes, and after a price is set, added or removed.
use Rattle.std.proofs.Common.{◌≡◌, ◌≤◌, ℕ, zero, suc, ◌+◌, ◌<◌, Bool, true, false, List, [], ◌∷◌, ◌++◌, map, length, get_or, set, length-set, if◌then◌else◌, is_some, Some, None, eqb, sym, ap, ◌∙◌, arith, rules}
use Rattle.std.specs.Cmp.{nat_cmp_total}
use Rattle.std.specs.Ordering.{nat_cmp}
use Rattle.std.specs.FinMap.{get, find as find_key, from_entries, from_entries_push, get-from_entries, insert, remove, contains_key, len, gets, same_map, nat_cmp-IsAntisymmetric}
use Rattle.std.specs.List as list
use Rattle.std.specs.List.{position, AllPairs}
use Rattle.std.proofs.lemmas.Bool.Decides.{nat_tests}
use Rattle.std.proofs.lemmas.List.{map_push, length_push}
use Rattle.std.proofs.lemmas.List.Quantifiers.{position-Some, all_pairs_push}
use Rattle.std.proofs.lemmas.List.Sums.{fails_before_first}
use Rattle.record.specs.declared.quote.Quote.{Quote}
use Rattle.market.specs.declared.fault.MarketFault.TheVariants.{NotDesignated, Full}
use Rattle.market.specs.Limits.{outside_limits}
use Rattle.market.specs.Designation.{Prices, prices_by_code, Designates, set_denial, remove_denial}

-- prices that answer alike at each code are equal
same : (m n : Prices) → ((q : ℕ) → get m q ≡ get n q) → m ≡ n
same = same_map nat_cmp_total nat_cmp-IsAntisymmetric

-- the later of two prices of a code stands
insert_again : (m : Prices) (k v w : ℕ) → insert (insert m k v) k w ≡ insert m k w
insert_again m k v w = same _ _ (λ q. grind (gets, rules))

-- prices of two codes are set in any order
insert_apart : (m : Prices) (j k v w : ℕ) → (j ≡ k → ⊥) → insert (insert m j v) k w ≡ insert (insert m k w) j v
insert_apart m j k v w apart = same _ _ (λ q. grind (gets, rules))

-- a new code that is removed leaves the others
remove_again : (m : Prices) (k v : ℕ) → get m k ≡ None → remove (insert m k v) k ≡ m
remove_again m k v none = same _ _ (λ q. grind (gets, rules))

-- one code is set and another removed in any order
remove_apart : (m : Prices) (j k v : ℕ) → (j ≡ k → ⊥) → remove (insert m j v) k ≡ insert (remove m k) j v
remove_apart m j k v apart = same _ _ (λ q. grind (gets, rules))

-- a quote as an entry of the map
abbrev entry : Quote → ℕ × ℕ
entry q = (q.code, q.price)

-- whether a quote is of the code
abbrev is_of : ℕ → Quote → Bool
is_of code q = eqb q.code code

-- a code has a price exactly where a quote has the code
contains_key-prices_by_code : (quotes : List Quote) (code : ℕ) → contains_key (prices_by_code quotes) code ≡ is_some (position (is_of code) quotes)
contains_key-prices_by_code [] code = grind (gets, rules)
contains_key-prices_by_code (q ∷ quotes) code = let rest = contains_key-prices_by_code quotes code in grind (gets, rules)

-- a code that no quote has means no price
absent : (quotes : List Quote) (code : ℕ) → ((k : ℕ) (d : Quote) → k < length quotes → (get_or quotes k d).code ≡ code → ⊥) → get (prices_by_code quotes) code ≡ None
absent [] code unnamed = grind (gets, rules)
absent (q ∷ quotes) code unnamed =
    let rest = absent quotes code (λ k d within. unnamed (suc k) d (omega (arith, within))) in
    let other : q.code ≡ code → ⊥ = unnamed 0 q (omega arith) in
    grind (gets, rules)

-- no two quotes are of one issue
abbrev Once : List Quote → Type 0
Once = AllPairs (λ p q. p.code ≡ q.code → ⊥)

-- so are those behind the first
later : (q : Quote) (quotes : List Quote) → Once (q ∷ quotes) → Once quotes
later q quotes once i j d before within = once (suc i) (suc j) d (omega (arith, before)) (omega (arith, within))

-- no quote behind the first is of its issue
front_apart : (q : Quote) (quotes : List Quote) → Once (q ∷ quotes) → get (prices_by_code quotes) q.code ≡ None
front_apart q quotes once = absent quotes q.code (λ k d within named. once 0 (suc k) d (omega arith) (omega (arith, within)) (sym named))

-- and then they mean as many prices as there are quotes
len-prices_by_code : (quotes : List Quote) → Once quotes → len (prices_by_code quotes) ≡ length quotes
len-prices_by_code [] once = grind (gets, rules)
len-prices_by_code (q ∷ quotes) once =
    let rest = len-prices_by_code quotes (later q quotes once) in
    let apart = front_apart q quotes once in
    grind (gets, rules)

-- the first quote of a code stands at `place`
record Stands (quotes : List Quote) (code place : ℕ) : Type 0 where
  within : place < length quotes
  named : (d : Quote) → (get_or quotes place d).code ≡ code
  first : (k : ℕ) (d : Quote) → k < place → (get_or quotes k d).code ≡ code → ⊥

-- what `position` says of its place
stands : (quotes : List Quote) (code place : ℕ) → position (is_of code) quotes ≡ Some place → Stands quotes code place
stands quotes code place at = record {
  within = (position-Some (is_of code) quotes place record { code = 0; price = 0 } at).0;
  named = λ d. let here = position-Some (is_of code) quotes place d at in grind (arith, rules);
  first = λ k d before. let not_before = (position-Some (is_of code) quotes place d at).2 k before in grind (arith, rules);
}

-- the same place, counted from the second quote
behind : (q : Quote) (quotes : List Quote) (code place : ℕ) → Stands (q ∷ quotes) code (suc place) → Stands quotes code place
behind q quotes code place s = record { within = omega (arith, s.within); named = s.named; first = λ k d h. s.first (suc k) d (omega (arith, h)) }

-- the price that stands there is the code's
price_there : (quotes : List Quote) (code place : ℕ) (d : Quote) → Stands quotes code place → get (prices_by_code quotes) code ≡ Some (get_or quotes place d).price
price_there [] code place d s = absurd (omega (arith, s.within))
price_there (q ∷ quotes) code zero d s = let named = s.named d in grind (gets, rules)
price_there (q ∷ quotes) code (suc place) d s =
    let rest = price_there quotes code place d (behind q quotes code place s) in
    let other : q.code ≡ code → ⊥ = s.first 0 q (omega arith) in
    grind (gets, rules)

-- a price is replaced where it stands
replaced : (quotes : List Quote) (code place : ℕ) (x : Quote) → Stands quotes code place → x.code ≡ code → prices_by_code (set quotes place x) ≡ insert (prices_by_code quotes) code x.price
replaced [] code place x s named = absurd (omega (arith, s.within))
replaced (q ∷ quotes) code zero x s named =
    let again = insert_again (prices_by_code quotes) code q.price x.price in
    cc (again, named, s.named q)
replaced (q ∷ quotes) code (suc place) x s named =
    let rest = replaced quotes code place x (behind q quotes code place s) named in
    let apart = insert_apart (prices_by_code quotes) q.code code q.price x.price (s.first 0 q (omega arith)) in
    cc (rest, apart)

-- a price is removed where it stands
removed : (quotes : List Quote) (code place : ℕ) → Stands quotes code place → Once quotes → prices_by_code (list.remove quotes place) ≡ remove (prices_by_code quotes) code
removed [] code place s once = absurd (omega (arith, s.within))
removed (q ∷ quotes) code zero s once =
    let again = remove_again (prices_by_code quotes) q.code q.price (front_apart q quotes once) in
    cc (again, s.named q)
removed (q ∷ quotes) code (suc place) s once =
    let rest = removed quotes code place (behind q quotes code place s) (later q quotes once) in
    let apart = remove_apart (prices_by_code quotes) q.code code q.price (s.first 0 q (omega arith)) in
    cc (rest, apart)

-- a list that means these prices, and what is answered at a code
module _ (quotes : List Quote) (prices : Prices) (means : prices_by_code quotes ≡ prices) (once : Once quotes) (code : ℕ) where
  -- the code has a price where a quote has it
  designated : (place : ℕ) → position (is_of code) quotes ≡ Some place → contains_key prices code ≡ true
  designated place at = let same_key = contains_key-prices_by_code quotes code in cc

  -- and else none
  pub undesignated : position (is_of code) quotes ≡ None → get prices code ≡ None
  undesignated none = let same_key = contains_key-prices_by_code quotes code in grind (arith, rules)

  -- what is answered at the code: the price at its place
  pub priced : (place : ℕ) (d : Quote) → position (is_of code) quotes ≡ Some place → get prices code ≡ Some (get_or quotes place d).price
  priced place d at = let there = price_there quotes code place d (stands quotes code place at) in cc

  -- an issue that is not designated is not removed
  pub remove_denied : position (is_of code) quotes ≡ None → Some (NotDesignated code) ≡ remove_denial prices code
  remove_denied none = let absent_there = undesignated none in rw absent_there

  -- one that is designated is removed at its place
  pub removes : (place : ℕ) → position (is_of code) quotes ≡ Some place
      → (None ≡ remove_denial prices code) × (prices_by_code (list.remove quotes place) ≡ remove prices code)
  removes place at =
      let there = designated place at in
      let s = stands quotes code place at in
      (rw there, removed quotes code place s once ∙ ap (λ (m : Prices). remove m code) means)

  -- a list has one issue more where the code was new
  pub counted_in_place : (place : ℕ) (x : Quote) → position (is_of code) quotes ≡ Some place → length (set quotes place x) ≡ length quotes + (if contains_key prices code then 0 else 1)
  counted_in_place place x at = let there = designated place at in rw there (omega (arith, length-set {A = Quote}))

  pub counted_behind : (x : Quote) → position (is_of code) quotes ≡ None → length (quotes ++ x ∷ []) ≡ length quotes + (if contains_key prices code then 0 else 1)
  counted_behind x none = let absent_there = undesignated none in rw absent_there (length_push quotes x)

  -- a new quote behind the others is of another issue
  pub one_more : (price : ℕ) → length quotes < 16 → position (is_of code) quotes ≡ None → Designates (quotes ++ record { code = code; price = price } ∷ [])
  one_more price room none = record {
    few = omega (arith, length_push quotes record { code = code; price = price });
    once = all_pairs_push (λ (p q : Quote). p.code ≡ q.code → ⊥) quotes record { code = code; price = price } once
        (λ k d within named. let before = fails_before_first (is_of code) quotes k d in grind (arith, nat_tests));
  }

  module _ (price : ℕ) (real : code ≡ 0 → ⊥) (sound : false ≡ outside_limits price) where
    -- a seventeenth issue is refused
    pub set_denied : 16 ≤ length quotes → position (is_of code) quotes ≡ None → Some Full ≡ set_denial prices code price
    set_denied full none =
        let absent_there = undesignated none in
        let many : 16 ≤ len prices = omega (arith, len-prices_by_code quotes once, ap len means) in
        grind (arith, nat_tests)

    -- the price at the first place of the code is replaced
    pub replaces : (place : ℕ) (x : Quote) → position (is_of code) quotes ≡ Some place → x ≡ get_or quotes place x
        → (None ≡ set_denial prices code price) × (prices_by_code (set quotes place record { code = x.code; price = price }) ≡ insert prices code price)
    replaces place x at read =
        let there = designated place at in
        let s = stands quotes code place at in
        let named : x.code ≡ code = ap (λ (q : Quote). q.code) read ∙ s.named x in
        (grind (arith, nat_tests), replaced quotes code place record { code = x.code; price = price } s named ∙ ap (λ (m : Prices). insert m code price) means)

    -- a new code goes behind the others
    pub adds : length quotes < 16 → position (is_of code) quotes ≡ None
        → (None ≡ set_denial prices code price) × (prices_by_code (quotes ++ record { code = code; price = price } ∷ []) ≡ insert prices code price)
    adds room none =
        let absent_there = undesignated none in
        let left : len prices < 16 = omega (arith, len-prices_by_code quotes once, ap len means) in
        let missed : find_key nat_cmp code (map entry quotes) ≡ None = sym (get-from_entries nat_cmp_total (map entry quotes) code) ∙ ap (λ (m : Prices). get m code) means ∙ absent_there in (
          grind (arith, nat_tests),
          ap from_entries (map_push entry quotes record { code = code; price = price })
              ∙ from_entries_push nat_cmp_total nat_cmp-IsAntisymmetric (map entry quotes) code price missed
              ∙ ap (λ (m : Prices). insert m code price) means,
        )
