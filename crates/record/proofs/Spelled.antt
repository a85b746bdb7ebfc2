-- 28 bytes are the spelling of the fields in them, and a spelling reads as what its letter and fields say.
use Rattle.std.proofs.Common.{◌≡◌, ℕ, ◌+◌, ◌^◌, ◌<◌, ◌≤◌, List, length, get_or, take, drop, ◌++◌, sym, refl, ap, arith}
use Rattle.std.proofs.lemmas.List.{length-take, length-drop, drop-drop, nil_from_length, take-append-drop}
use Rattle.std.proofs.lemmas.Nat.{be_bytes_4, be_bytes_8, from_be_bytes-to_be_bytes_4, from_be_bytes-to_be_bytes_8}
use Rattle.std.proofs.lemmas.Grind.{common_steps}
use Rattle.std.specs.Int.{w32, w64, to_be_bytes}
use Rattle.record.specs.declared.fields.Fields.{Fields}
use Rattle.record.specs.Layout.{number_at, fields_at}
use Rattle.record.specs.Writing.{field_bytes, spelled}
use Rattle.record.specs.WellFormed.{by_letter, reading}

module _ (bytes : List ℕ) (each : (i : ℕ) → get_or bytes i 0 < 256) where
  -- a part is made of bytes too
  part_byte : (n at i : ℕ) → get_or (take n (drop at bytes)) i 0 < 256
  part_byte n at i = grind (arith, common_steps, each)

  -- four bytes, or eight, are the spelling of the number in them
  number_4 : (at : ℕ) → at + 4 ≤ length bytes → to_be_bytes w32 (number_at w32 bytes at) ≡ take 4 (drop at bytes)
  number_4 at h = be_bytes_4 _ _ (omega (arith, length-take 4 (drop at bytes), length-drop at bytes)) (part_byte 4 at) refl

  number_8 : (at : ℕ) → at + 8 ≤ length bytes → to_be_bytes w64 (number_at w64 bytes at) ≡ take 8 (drop at bytes)
  number_8 at h = be_bytes_8 _ _ (omega (arith, length-take 8 (drop at bytes), length-drop at bytes)) (part_byte 8 at) refl

  -- the bytes from a place on are a part and what is behind it
  joined : (at n : ℕ) {part rest : List ℕ} → part ≡ take n (drop at bytes) → drop (at + n) bytes ≡ rest → drop at bytes ≡ part ++ rest
  joined at n p r = rw (p, ← r, ← drop-drop n at bytes) (sym (take-append-drop n (drop at bytes)))

  -- the 28 bytes behind the letter and the three zeros
  pub whole : length bytes ≡ 28 → bytes ≡ field_bytes (fields_at bytes 0)
  whole size =
      let no_more = nil_from_length (drop 28 bytes) (omega (arith, length-drop 28 bytes)) in
      joined 0 4 (number_4 0 (omega arith)) (joined 4 4 (number_4 4 (omega arith)) (joined 8 4 (number_4 8 (omega arith))
      (joined 12 8 (number_8 12 (omega arith)) (joined 20 8 (number_8 20 (omega arith)) no_more))))

-- fields that are equal one by one
same_fields : {c c' d d' u u' m m' s s' : ℕ} → c ≡ c' → d ≡ d' → u ≡ u' → m ≡ m' → s ≡ s' → ◌≡◌ {A = Fields} (record { code = c; date = d; units = u; money = m; spare = s }) (record { code = c'; date = d'; units = u'; money = m'; spare = s' })
same_fields c d u m s = cc

-- what a spelling reads as
pub reading-spelled : (letter : ℕ) (f : Fields) → f.code < 2 ^ 32 → f.date < 2 ^ 32 → f.units < 2 ^ 32 → f.money < 2 ^ 64 → f.spare < 2 ^ 64 → reading (spelled letter f) ≡ by_letter letter f
reading-spelled letter f code date units money spare =
    ap (by_letter letter)
    (same_fields
    (from_be_bytes-to_be_bytes_4 f.code code)
    (from_be_bytes-to_be_bytes_4 f.date date)
    (from_be_bytes-to_be_bytes_4 f.units units)
    (from_be_bytes-to_be_bytes_8 f.money money)
    (from_be_bytes-to_be_bytes_8 f.spare spare)
    )
