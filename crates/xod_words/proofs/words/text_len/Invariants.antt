use Rattle.std.proofs.Common.{◌≡◌, ◌++◌, List, ℕ, drop, take, false}
use Rattle.xod_words.specs.Words.{text_on}
use Rattle.xod_words.proofs.words.text_len.Given as goal

abbrev pub invariant-loop-byte : goal.invariant-loop-byte
invariant-loop-byte l = record {
  same : (front : List ℕ) → text_on l.escaped (front ++ take l.byte-index l.bytes) (drop l.byte-index l.bytes) ≡ text_on false front l.bytes;
  counted : l.len ≡ l.byte-index;
}
