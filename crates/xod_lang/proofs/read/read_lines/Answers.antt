use Rattle.std.proofs.Common.{◌∙◌, ap, arith}
use Rattle.xod_lang.proofs.ReadLemmas.{goes_on, goes_on-start}
use Rattle.xod_lang.proofs.read.read_lines.Goals as goal

pub loop-rest-init : goal.loop-rest-init
loop-rest-init c = record {
  goes_on = ap (λ reading. goes_on reading 1 c.args.bytes.now) c.new-reading.ensures ∙ goes_on-start c.args.bytes.now;
  in_range = omega arith;
}
