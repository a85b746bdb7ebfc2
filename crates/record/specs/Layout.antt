-- Where the fields of a record stand in its bytes, all of them big-endian.
use Rattle.std.specs.Prelude.{ℕ, ◌+◌, List, take, drop}
use Rattle.std.specs.Int.{Width, w32, w64, byte_len, from_be_bytes}
use Rattle.record.specs.declared.fields.Fields.{Fields}

-- the number of this width that begins at a place
abbrev pub number_at : Width → List ℕ → ℕ → ℕ
number_at w bytes at = from_be_bytes w (take (byte_len w) (drop at bytes))

-- the fields in the bytes from a place on: four bytes each of code, date and units, eight each of money and the
-- spare field
abbrev pub fields_at : List ℕ → ℕ → Fields
fields_at bytes at = record {
  code = number_at w32 bytes at;
  date = number_at w32 bytes (at + 4);
  units = number_at w32 bytes (at + 8);
  money = number_at w64 bytes (at + 12);
  spare = number_at w64 bytes (at + 20);
}
