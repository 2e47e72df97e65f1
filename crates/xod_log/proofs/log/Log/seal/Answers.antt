use Rattle.std.proofs.Common.{rules, ◌∙◌}
use Rattle.xod_volume.specs.Files.{bytes_of}
use Rattle.xod_log.specs.Standing.{body_file, ends_file}
use Rattle.xod_log.proofs.Claims.{files_apart}
use Rattle.xod_log.proofs.Marking.{marked_stands}
use Rattle.xod_log.proofs.Rolling.{seal_claims, stood_first, sealed_outlives, sealed_before, sealed_now}
use Rattle.xod_log.proofs.SealRuns.{nothing_sealed}
use Rattle.xod_log.proofs.log.Log.seal.Goals as goal

-- ---- where nothing was appended since the last seal

pub returns-then-self-clause-leaves : goal.returns-then-self-clause-leaves
returns-then-self-clause-leaves g c told = nothing_sealed _ _ _ _ (c.requires.stands told)

pub returns-then-self-clause-claims : goal.returns-then-self-clause-claims
returns-then-self-clause-claims g c told =
    let s = c.requires.stands told in
    seal_claims _ _ _ _ _ _ s (nothing_sealed _ _ _ _ s) (stood_first _ _ _ s)

pub returns-then-self-clause-durable : goal.returns-then-self-clause-durable
returns-then-self-clause-durable g c told = sealed_outlives c.args.self.now _ _ _ (sealed_before c.args.self.now c.if-self.true) (c.requires.stands told)

-- ---- where there are too many marks

pub returns-in_default-clause-leaves : goal.returns-in_default-clause-leaves
returns-in_default-clause-leaves g c told = nothing_sealed _ _ _ _ (c.requires.stands told)

pub returns-in_default-clause-claims : goal.returns-in_default-clause-claims
returns-in_default-clause-claims g c told =
    let s = c.requires.stands told in
    seal_claims _ _ _ _ _ _ s (nothing_sealed _ _ _ _ s) (stood_first _ _ _ s)

-- ---- where a mark was written, or was refused

pub returns-in_err-write_mark-clause-claims : goal.returns-in_err-write_mark-clause-claims
returns-in_err-write_mark-clause-claims g c told = seal_claims _ _ _ _ _ _ (c.requires.stands told) (c.write_mark.ensures.leaves told) (c.write_mark.ensures.body_first told)

pub returns-clause-claims : goal.returns-clause-claims
returns-clause-claims g c told = seal_claims _ _ _ _ _ _ (c.requires.stands told) (c.write_mark.ensures.leaves told) (c.write_mark.ensures.body_first told)

pub returns-clause-stands_on : goal.returns-clause-stands_on
returns-clause-stands_on g c told fine =
    let log = c.args.self.now in
    let s = c.requires.stands told in
    let there = c.in_ok-write_mark.ensures.ends told in
    let body = c.write_mark.ensures.others told (body_file log) (files_apart log.file) ∙ s.has_body in
    let durable = c.in_ok-write_mark.ensures.durable told in
    marked_stands log (bytes_of (g.V.Volume.files c.args.volume.now) (body_file log)) (bytes_of (g.V.Volume.files c.args.volume.now) (ends_file log)) s.at_rest s.opened s.size _ _ body there
    (λ left i. durable.body left i ∙ body)
    (λ left i. durable.ends left i ∙ there)

pub returns-clause-durable : goal.returns-clause-durable
returns-clause-durable g c told = sealed_outlives c.args.self.now _ _ _ (sealed_now c.args.self.now c.if-self.false) (returns-clause-stands_on g c told (λ bad. search rules))
