-- What is still to be read, line by line.
use Rattle.std.proofs.Common.{◌≡◌, ℕ, ◌+◌, List, length, Result, ap, arith}
use Rattle.xod_lang.specs.declared.reading.Reading.{Reading}
use Rattle.xod_lang.specs.declared.script.Script.{Script}
use Rattle.xod_lang.specs.Lines.{lines_of}
use Rattle.xod_lang.specs.Scripts.{nothing_read, reading_of, script_from, script_of}

-- the script that what was read and the rest of the input make, where the rest begins at a line
abbrev pub goes_on : Reading → ℕ → List ℕ → Result Script ℕ
goes_on reading line rest = script_from (line + length (lines_of rest)) (reading_of reading line (lines_of rest))

pub goes_on-start : (bytes : List ℕ) → goes_on nothing_read 1 bytes ≡ script_of bytes
unfolding script_of
goes_on-start bytes =
    let past : 1 + length (lines_of bytes) ≡ length (lines_of bytes) + 1 = omega arith in
    ap (λ n. script_from n (reading_of nothing_read 1 (lines_of bytes))) past
