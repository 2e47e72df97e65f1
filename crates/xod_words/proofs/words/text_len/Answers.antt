use Rattle.std.proofs.Common.{◌∙◌, sym, arith}
use Rattle.xod_words.proofs.WordLemmas.{text_on-closed, text_on-goes_on, text_on-end}
use Rattle.xod_words.proofs.words.text_len.Goals as goal

pub returns-then-is_meant-clause-cut : goal.returns-then-is_meant-clause-cut
returns-then-is_meant-clause-cut c front =
    let closed = text_on-closed c.args.bytes.now c.loop-byte.byte-index front c.loop-byte.escaped (omega arith) (cc) in
    let same = c.loop-byte.invariant.same front in
    cc

pub loop-byte-preserved : goal.loop-byte-preserved
loop-byte-preserved c = record {
  same = λ front. sym (text_on-goes_on c.args.bytes.now c.loop-byte.byte-index front c.loop-byte.escaped c.is_meant-escaped.result (omega arith) (cc) (cc)) ∙ c.loop-byte.invariant.same front;
  counted = omega arith;
}

pub returns-clause-cut : goal.returns-clause-cut
returns-clause-cut c front =
    let ended = text_on-end c.args.bytes.now c.loop-byte.byte-index front c.loop-byte.escaped (omega arith) in
    let same = c.loop-byte.invariant.same front in
    cc
