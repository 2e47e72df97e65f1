use Rattle.std.proofs.Common.{ℕ, List, [], ◌∷◌, ◌++◌, length, ap, ◌∙◌}
use Rattle.std.specs.Int.{w64, to_be_bytes}
use Rattle.xod_block.specs.Records.{links_bytes}
use Rattle.xod_block.specs.Reading.{links_in}
use Rattle.xod_block.proofs.Pieces.{three_put}
use Rattle.xod_block.proofs.writing.put_root.Goals as goal

pub returns-clause-ok : goal.returns-clause-ok
returns-clause-ok c =
    let trees = links_in c.args.trees.now in
    three_put c.args.out.now.items c.put.new.out.items c.put-2.new.out.items c.put_trees.new.out.items
    (3 ∷ 1 ∷ []) (to_be_bytes w64 c.args.commit) (length trees ∷ links_bytes trees)
    c.in_ok-put.ensures.ok
    (c.in_ok-put-2.ensures.ok ∙ ap (λ (l : List ℕ). c.put.new.out.items ++ l) c.u64_bytes.ensures)
    c.in_ok-put_trees.ensures.ok
