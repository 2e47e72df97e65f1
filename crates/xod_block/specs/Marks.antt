-- The bytes of an end mark.
use Rattle.std.specs.Prelude.{ℕ, List, [], ◌∷◌, ◌++◌, take, drop, slice_index}
use Rattle.std.specs.Int.{w32, w64, to_be_bytes, from_be_bytes}
use Rattle.xod_block.specs.declared.end_mark.EndMark.{EndMark}

-- the end in eight bytes, how far back the root begins in four, and the gate in one
abbrev pub mark_bytes : EndMark → List ℕ
mark_bytes mark = to_be_bytes w64 mark.end ++ to_be_bytes w32 mark.back ++ mark.gate ∷ []

-- the mark that 13 bytes spell
abbrev pub mark_of : List ℕ → EndMark
mark_of bytes = record {
  end = from_be_bytes w64 (take 8 bytes);
  back = from_be_bytes w32 (take 4 (drop 8 bytes));
  gate = slice_index bytes 12;
}
