use Rattle.std.proofs.Common.{sym, ◌∙◌}
use Rattle.xod_keys.specs.Pieces.{value_read}
use Rattle.xod_audit.proofs.Looked.{looks-done, looks-same, steady-itself, none_holds, some_holds}
use Rattle.xod_audit.proofs.check.passes_value.Goals as goal

pub returns-in-None : goal.returns-in-None
returns-in-None g c = record { looks = looks-done _ _ _ _ (steady-itself _) (λ told there. none_holds _ (value_read c.args.bytes.now) (sym (c.in_ok-read_value.ensures {u = tt}) ∙ c.in-None.is)) }

pub returns-in_ok-found-in-Some : goal.returns-in_ok-found-in-Some
returns-in_ok-found-in-Some g c = record { looks = looks-same _ _ _ _ _ _ (steady-itself _) (c.in_ok-found-in-Some.ensures {u = tt}).looks (λ told there. some_holds _ (value_read c.args.bytes.now) c.in-Some.value (sym (c.in_ok-read_value.ensures {u = tt}) ∙ c.in-Some.is)) }
