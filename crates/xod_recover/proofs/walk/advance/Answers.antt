use Rattle.std.proofs.Common.{◌≡◌, ◌<◌, ◌+◌, ℕ, List, ◌∷◌, length, get_or, drop, suc, sym, ◌∙◌, ap, refl, add-one, drop-cons, arith}
use Rattle.xod_block.specs.Records.{Link}
use Rattle.xod_recover.proofs.walk.advance.Goals as goal

next_left : (children items : List Link) (next : ℕ) (default : Link) → items ≡ children → next < length items → drop next children ≡ get_or items next default ∷ drop (next + 1) children
next_left children items next default is lt =
    ap (drop next) (sym is) ∙ drop-cons items next default lt
    ∙ ap (λ (l : List Link). get_or items next default ∷ drop (suc next) l) is
    ∙ ap (λ (n : ℕ). get_or items next default ∷ drop n children) (sym (add-one next))

pub returns-clause-next : goal.returns-clause-next
returns-clause-next c = record {
  at_same = refl;
  byte = (get_or c.as_slice-children.result.now c.args.frame.now.next (0, record { file = 0; at = 0 })).0;
  left = next_left c.args.frame.now.children c.as_slice-children.result.now c.args.frame.now.next (0, record { file = 0; at = 0 }) c.as_slice-children.ensures (omega (arith, c.if-frame-children.false));
}
