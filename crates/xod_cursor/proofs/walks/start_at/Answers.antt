use Rattle.std.proofs.Common.{List, ℕ, [], ◌∷◌, ◌++◌, slice_get, ◌∙◌, ap}
use Rattle.xod_block.specs.Addresses.{number_of}
use Rattle.xod_block.specs.Reading.{links_in}
use Rattle.xod_block.specs.Records.{Link}
use Rattle.xod_cursor.proofs.Beginnings.{begins-child}
use Rattle.xod_cursor.proofs.Wanting.{child-named}
use Rattle.xod_cursor.proofs.walks.start_at.Goals as goal

pub returns-clause-back : goal.returns-clause-back
returns-clause-back c records front others later whole is before =
    begins-child records (number_of c.args.parent) (links_in c.args.onward.links.now) c.args.onward.place front others later is c.link_at-byte.result _ c.link_at-byte.ensures
    (ap (λ (f : List ℕ). f ++ c.link_at-byte.result.0 ∷ []) (c.before-front.ensures front whole))

pub returns-clause-reached : goal.returns-clause-reached
returns-clause-reached c records root reached has before =
    (reached, child-named (records (number_of c.args.parent)) has.branch c.link_at-byte.result c.args.onward.place has.is (ap (λ (l : List Link). slice_get l c.args.onward.place) has.children_are ∙ c.link_at-byte.ensures))
