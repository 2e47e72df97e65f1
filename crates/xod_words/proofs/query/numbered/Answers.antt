use Rattle.std.proofs.Common.{arith}
use Rattle.std.proofs.lemmas.List.{length_push}
use Rattle.xod_words.proofs.VariableLemmas.{vars_from-grow}
use Rattle.xod_words.proofs.query.numbered.Goals as goal

pub loop-ent-preserved : goal.loop-ent-preserved
loop-ent-preserved c = record {
  can_next = tt;
  is_finite = tt;
  numbered = vars_from-grow c.loop-ent.vars _ c.loop-ent.yielded c.in-Some.ent c.loop-ent.place c.loop-ent.invariant.numbered
      c.loop-ent.invariant.counted (c.in_ok-push_variable.ensures {u = tt});
  counted = omega (arith, length_push c.loop-ent.yielded c.in-Some.ent);
}
