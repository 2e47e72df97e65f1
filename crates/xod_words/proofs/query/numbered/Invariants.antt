use Rattle.std.proofs.Common.{◌≡◌, length}
use Rattle.xod_words.specs.Queries.{vars_from}
use Rattle.xod_words.proofs.query.numbered.Given as goal

abbrev pub invariant-loop-ent : goal.invariant-loop-ent
invariant-loop-ent l = record {
  can_next : (goal.iterator-loop-ent).can_next l.ent-iterator;
  is_finite : (goal.iterator-loop-ent).is_finite l.ent-iterator;
  numbered : l.vars ≡ vars_from 0 l.yielded;
  counted : l.place ≡ length l.yielded;
}
