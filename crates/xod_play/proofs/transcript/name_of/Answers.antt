use Rattle.std.proofs.Common.{sym, ◌∙◌, arith}
use Rattle.xod_play.proofs.NamingLemmas.{name_at, name_before, name_past}
use Rattle.xod_play.proofs.transcript.name_of.Goals as goal

pub returns-in-None : goal.returns-in-None
returns-in-None c = sym (name_before 1 c.args.names.now c.args.actor (let none = c.in-None.ensures in omega (arith, none)))

pub returns-in-None-get : goal.returns-in-None-get
returns-in-None-get c =
    let past = c.in-None-get.ensures.lookup.3 in
    let at = c.in-Some.ensures.1 in
    let least = c.in-Some.ensures.0 in
    sym (name_past 1 c.args.names.now c.args.actor (omega (arith, past, at, least)))

pub returns-in-Some-get : goal.returns-in-Some-get
returns-in-Some-get c =
    let at = c.in-Some.ensures.1 in
    let least = c.in-Some.ensures.0 in
    c.as_bytes.ensures.bytes ∙ c.in-Some-get.ensures.lookup.1
    ∙ sym (name_at 1 c.args.names.now c.in-Some.at c.args.actor _ c.in-Some-get.ensures.lookup.3.0 (omega (arith, at, least)))
