use Rattle.std.proofs.Common.{rules, ◌≡◌, ℕ, true, is_some, IsTrue, sym, subst, ◌∙◌, ap}
use Rattle.std.specs.FinMap.{entries, get}
use Rattle.xod_block.specs.declared.address.Address.{Address}
use Rattle.xod_commit.specs.Blocks.{all_begin_before}
use Rattle.xod_volume.specs.Files.{Files}
use Rattle.xod_env.specs.Envs.{bodies_up_to}
use Rattle.xod_snapshot.specs.Snapshots.{lent_trie}
use Rattle.xod_env.proofs.Placing.{roots_before_next}
use Rattle.xod_env.proofs.flush.build_next.Goals as goal

pub build_kept-built-requires-clause-below : goal.build_kept-built-requires-clause-below
build_kept-built-requires-clause-below g c =
    subst (λ (at : Address). all_begin_before at (entries c.args.roots.now) ≡ true) (sym c.next_place-place.ensures)
    (roots_before_next c.args.log c.args.roots.now c.requires.placed)

pub returns-clause-never_damaged : goal.returns-clause-never_damaged
returns-clause-never_damaged g c told maps place is =
    let told1 : IsTrue (g.V.Held.Lease.tells c.in_ok-lease.lease) = search rules in
    let files = g.V.Volume.files c.args.volume.now in
    let lent = c.in_ok-lease.ensures.holds told ∙ ap (λ (n : ℕ). bodies_up_to n files) c.file.ensures in
    c.build_kept-built.ensures.never_damaged told1 (λ tree. subst (λ (files : Files). is_some (lent_trie files (get c.args.roots.now tree)) ≡ true) (sym lent) (maps tree)) place is
