use Rattle.std.proofs.Common.{◌≡◌, ◌<◌, sym, ap, ◌∙◌, subst, length, IfOk, false, ◌==◌, arith}
use Rattle.std.specs.Vec.{vec_len}
use Rattle.std.proofs.lemmas.Bool.Decides.{nat_tests}
use Rattle.xod_base.specs.declared.query.Query.{Query}
use Rattle.xod_handle.specs.Forms.{IsPut, onto, written}
use Rattle.xod_handle.proofs.Joining.{written_last}
use Rattle.xod_handle.proofs.parts.push_written.Goals as goal

pub returns-else-is_empty : goal.returns-else-is_empty
returns-else-is_empty c otherwise =
    let test : (vec_len c.pop.new.self == 0) ≡ false = sym c.is_empty.ensures ∙ c.if-is_empty.false in
    let more : 0 < length c.pop.new.self.items = grind (arith, nat_tests) in
    let same : onto c.args.join c.pop.new.self.items c.in-Some.last ≡ written c.args.join otherwise c.args.parts.items =
    sym (written_last c.args.join otherwise c.pop.new.self.items c.in-Some.last more) ∙ ap (written c.args.join otherwise) (sym c.in-Some.ensures.items) in
    subst (λ (whole : Query). IfOk c.push_onto.result (IsPut whole c.args.out.now c.push_onto.new.out)) same c.push_onto.ensures
