use Rattle.std.proofs.Common.{rules, ap}
use Rattle.std.specs.FinMap.{entries, same_entries_map}
use Rattle.xod_snapshot.proofs.kept.find_kept.Goals as goal

pub returns-clause-keeps : goal.returns-clause-keeps
returns-clause-keeps g c =
    let kept = c.find_in.new.lease in
    let list_before = c.requires.list_is in
    let list_now = kept.list_is in
    let lent_before = ap entries c.requires.lent_is in
    let lent_now = kept.lent_is in
    record {
      tells_same = search rules;
      list_same = search rules;
      lent_same = same_entries_map _ _ (search rules);
      refs_same = search rules;
      never_falls = search rules;
    }
