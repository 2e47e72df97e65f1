use Rattle.std.proofs.Common.{rules}
use Rattle.std.specs.List.{flat_map}
use Rattle.xod_base.specs.QueryTexts.{query_text}
use Rattle.xod_handle.specs.Forms.{front_text, onto}
use Rattle.xod_handle.proofs.Joining.{onto_text, texts_behind}
use Rattle.xod_handle.proofs.parts.push_onto.Goals as goal

pub returns : goal.returns
returns c = record {
  query_is = search rules;
  text_is = texts_behind c.args.out.now (flat_map (front_text c.args.join) c.deref.result.now) c.push_fronts.new.out (onto c.args.join c.args.parts.items c.args.last)
      (query_text c.args.last) c.bytes.result.now c.extend.new.self (onto_text c.args.join c.args.parts.items c.deref.result.now c.args.last c.deref.ensures.value)
      c.in_ok-push_fronts.ensures c.bytes.ensures c.in_ok-extend.ensures;
}
