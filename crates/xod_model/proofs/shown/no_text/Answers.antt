use Rattle.std.proofs.Common.{◌∙◌, sym, ap, true, arith}
use Rattle.std.specs.Prelude.{◌&&◌, []}
use Rattle.std.proofs.lemmas.Bool.{false≢true}
use Rattle.std.proofs.lemmas.Str.{IsUtf8-from_ascii, is_utf8-from_IsUtf8}
use Rattle.xod_model.proofs.shown.no_text.Goals as goal

pub unreachable-requires : goal.unreachable-requires
unreachable-requires c =
    false≢true (sym (rw c.in-None.is at c.in_ok-text.ensures) ∙ ap (λ b. b && true) (is_utf8-from_IsUtf8 [] (IsUtf8-from_ascii [] (λ k. omega arith))))
