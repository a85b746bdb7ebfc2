-- What 32 bytes say as a record, and that they are well formed.
use Rattle.std.specs.Prelude.{◌≡◌, ℕ, Bool, if◌then◌else◌, ◌&&◌, List, [], ◌∷◌, length, IfSome, Some, None, Option, ◌==◌, slice_index}
use Rattle.std.specs.List.{list_all}
use Rattle.record.specs.declared.contract.Contract.{Contract}
use Rattle.record.specs.declared.quote.Quote.{Quote}
use Rattle.record.specs.declared.fields.Fields.{Fields}
use Rattle.record.specs.declared.entry.Record.{Record}
use Rattle.record.specs.declared.entry.Record.TheVariants.{Price, Listing, Opening, Bought, Sold, Strike}
use Rattle.record.specs.Layout.{fields_at}
use Rattle.record.specs.Writing.{spelling}

abbrev pub all_zero : List ℕ → Bool
all_zero ns = list_all (λ n. n == 0) ns

-- a record that leaves these fields unused, so that each has to be zero
abbrev pub unused : List ℕ → Record → Option Record
unused fields r = if all_zero fields then Some r else None

-- what the fields say of a price, and of a contract
abbrev pub quote_in : Fields → Quote
quote_in f = record { code = f.code; price = f.units }

abbrev pub contract_in : Fields → Contract
contract_in f = record { code = f.code; settlement = f.date; quantity = f.units; money = f.money }

-- by the letters P, L, O, B, S and K; no other letter makes a record
abbrev pub by_letter : ℕ → Fields → Option Record
by_letter letter f =
    if letter == 80 then unused (f.date ∷ f.money ∷ f.spare ∷ []) (Price (quote_in f))
    else if letter == 76 then unused (f.date ∷ f.units ∷ f.money ∷ f.spare ∷ []) (Listing f.code)
    else if letter == 79 then unused (f.code ∷ f.units ∷ f.money ∷ f.spare ∷ []) (Opening f.date)
    else if letter == 66 then unused (f.spare ∷ []) (Bought (contract_in f))
    else if letter == 83 then unused (f.spare ∷ []) (Sold (contract_in f))
    else if letter == 75 then unused (f.code ∷ f.date ∷ f.units ∷ f.money ∷ f.spare ∷ []) Strike
    else None

-- 32 bytes: the letter, three zero bytes, and the fields from byte 4 on
abbrev pub reading : List ℕ → Option Record
reading bytes =
    if length bytes == 32
    && all_zero (slice_index bytes 1 ∷ slice_index bytes 2 ∷ slice_index bytes 3 ∷ [])
    then by_letter (slice_index bytes 0) (fields_at bytes 4)
    else None

-- bytes that read as a record are those that writing it gives
abbrev pub OnlySpelling : List ℕ → Option Record → Type 0
OnlySpelling bytes r = IfSome r (λ e. bytes ≡ spelling e)
