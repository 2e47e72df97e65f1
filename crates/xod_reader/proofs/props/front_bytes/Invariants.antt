use Rattle.std.proofs.Common.{◌≡◌, ◌∷◌, ◌++◌, drop}
use Rattle.xod_base.specs.Values.{folded}
use Rattle.xod_reader.proofs.props.front_bytes.Given as goal

abbrev pub invariant-loop-byte : goal.invariant-loop-byte
invariant-loop-byte l = l.bytes ++ folded (drop l.byte-index l.text) ≡ 3 ∷ folded l.text
