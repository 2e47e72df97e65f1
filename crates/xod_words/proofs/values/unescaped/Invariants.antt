use Rattle.std.proofs.Common.{◌≡◌, ◌+◌, drop, length, false}
use Rattle.xod_words.specs.Values.{ahead, unescaped}
use Rattle.xod_words.proofs.values.unescaped.Given as goal

abbrev pub invariant-loop-byte : goal.invariant-loop-byte
invariant-loop-byte l = record {
  same : ahead l.text (unescaped l.escaped (drop l.byte-index l.bytes)) ≡ unescaped false l.bytes;
  counted : l.left + l.byte-index ≡ length l.bytes;
}
