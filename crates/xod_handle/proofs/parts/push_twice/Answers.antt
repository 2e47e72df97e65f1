use Rattle.std.proofs.Common.{rules}
use Rattle.xod_base.specs.QueryTexts.{query_text}
use Rattle.xod_handle.specs.Forms.{front_text, joined}
use Rattle.xod_handle.proofs.Joining.{texts_behind, twice_text}
use Rattle.xod_handle.proofs.parts.push_twice.Goals as goal

pub returns : goal.returns
returns c = record {
  query_is = search rules;
  text_is = texts_behind c.args.out.now (front_text c.args.join c.args.part) c.push_front.new.out (joined c.args.join c.args.part c.args.part)
      (query_text c.args.part) c.bytes.result.now c.extend.new.self (twice_text c.args.join c.args.part) c.in_ok-push_front.ensures c.bytes.ensures c.in_ok-extend.ensures;
}
