use Rattle.xod_tables.specs.Reading.{tree_at}
use Rattle.xod_tables.specs.declared.trees.TheConstants.{ENTITIES, PROPERTIES, INDEX}
use Rattle.xod_audit.specs.Tests.{is_property_entry}
use Rattle.xod_audit.proofs.Audited.{counted_both}
use Rattle.xod_audit.proofs.Looked.{looks-same, steady-after}
use Rattle.xod_audit.proofs.trees.properties_fit.Goals as goal

pub returns : goal.returns
returns g c =
    let looks = (c.in_ok-count_passing.ensures {u = tt}).looks in
    record {
      looks = looks-same _ _ _ _ _ _ (steady-after _ _ _ _ looks) (c.in_ok-found-in-Some.ensures {u = tt}).looks (λ told there.
          let trees = g.T.TreeView.trees c.args.view.now in
          counted_both (is_property_entry c.args.count (tree_at trees ENTITIES) (tree_at trees INDEX)) (tree_at trees PROPERTIES) (tree_at trees INDEX)
          c.in_ok-count_passing.field-0 c.in-Some.entries (looks.value told there) c.in-Some.is);
    }
