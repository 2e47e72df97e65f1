use Rattle.std.proofs.Common.{Bool, List, ℕ, take, ap, subst, ◌∙◌, arith}
use Rattle.xod_block.specs.Addresses.{number_of}
use Rattle.xod_block.specs.Bodies.{records_of}
use Rattle.xod_block.specs.Fetches.{Fetched}
use Rattle.xod_volume.specs.Files.{Files}
use Rattle.xod_pages.specs.Lent.{lent_bodies}
use Rattle.xod_pages.proofs.Fetching.{fetched}
use Rattle.xod_pages.proofs.reading.read_record.Goals as goal

pub returns-in-Whole-clause-found : goal.returns-in-Whole-clause-found
returns-in-Whole-clause-found g c =
    let keeps = c.longer.invariant.keeps in
    let number = number_of c.args.at in
    let here : Fetched (g.L.Lease.tells c.longer.lease) (records_of (lent_bodies (g.L.Lease.lent c.longer.lease)) number) c.longer.out c.extend.new.self c.in-Whole.count =
    fetched (g.L.Lease.tells c.longer.lease) (g.L.Lease.lent c.longer.lease) c.args.at c.look_by.new.room.items c.longer.out c.extend.new.self c.split_at.result.0.now c.in_ok-count.field-0 c.in-Whole.count (omega arith) (rw c.place_of-place.ensures at c.in_ok-count.ensures.looked) c.in-Whole.is
    (c.split_at.ensures.front ∙ ap (take c.in-Whole.count) c.as_slice.ensures.value) c.in_ok-extend-in-Whole.ensures in
    subst (λ (out : List ℕ). Fetched (g.L.Lease.tells c.args.lease.now) (records_of (lent_bodies (g.L.Lease.lent c.args.lease.now)) number) out c.extend.new.self c.in-Whole.count) c.longer.invariant.out_same
    (subst (λ (lent : Files). Fetched (g.L.Lease.tells c.args.lease.now) (records_of (lent_bodies lent) number) c.longer.out c.extend.new.self c.in-Whole.count) keeps.lent_same
    (subst (λ (tells : Bool). Fetched tells (records_of (lent_bodies (g.L.Lease.lent c.longer.lease)) number) c.longer.out c.extend.new.self c.in-Whole.count) keeps.tells_same here))
