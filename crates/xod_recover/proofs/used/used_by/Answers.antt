use Rattle.std.proofs.Common.{◌∙◌, sym, subst, ℕ, get_or}
use Rattle.std.specs.Prelude.{IsSome}
use Rattle.std.specs.FinMap.{get}
use Rattle.xod_recover.proofs.Listing.{listed_at}
use Rattle.xod_recover.proofs.Using.{body_of-log_file_of}
use Rattle.xod_recover.proofs.used.used_by.Goals as goal

pub used_at-requires-clause-has_body : goal.used_at-requires-clause-has_body
used_at-requires-clause-has_body g c told =
    subst (λ (n : ℕ). IsSome (get (g.V.Volume.files c.args.volume.now) n)) (sym (body_of-log_file_of (get_or c.args.numbers.now c.args.index 0) c.in-Some.file (sym c.in-Some.is ∙ c.log_file_of.ensures)))
    (listed_at (g.V.Volume.files c.args.volume.now) c.args.numbers.now c.args.index (c.requires.listed told) c.requires.within)
