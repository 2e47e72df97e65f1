-- What the roots are after one is set, and how many.
use Rattle.std.proofs.Common.{◌≡◌, ◌≢◌, ◌≤◌, ℕ, ◌+◌, ◌-◌, Bool, true, false, cond, Option, Some, None, refl, sym, ap, ◌∙◌, arith}
use Rattle.std.specs.Prelude.{IsSome}
use Rattle.std.specs.Cmp.{nat_cmp_is}
use Rattle.std.specs.Ordering.{nat_cmp, eq_by_cmp, is_eq}
use Rattle.std.specs.declared.cmp.Ordering.TheVariants.{Less, Equal, Greater}
use Rattle.std.specs.FinMap.{contains_key, get, get-insert, get-remove, insert, len, len-insert, len-remove}
use Rattle.std.proofs.lemmas.Cmp.{nat_cmp_total, ranked}
use Rattle.xod_block.specs.declared.address.Address.{Address}
use Rattle.xod_root.specs.Roots.{Roots, with_root}

itself : (tree : ℕ) → eq_by_cmp nat_cmp tree tree ≡ true
itself tree = ap is_eq (sym (nat_cmp_is tree tree Equal refl))

apart : (other tree : ℕ) → other ≢ tree → eq_by_cmp nat_cmp other tree ≡ false
apart other tree differ = elim (nat_cmp other tree) as (λ r. nat_cmp other tree ≡ r → is_eq r ≡ false) [
  | Less ↦ λ is. refl
  | Equal ↦ λ is. absurd (differ (ranked other tree Equal (sym is)))
  | Greater ↦ λ is. refl
] refl

-- the tree has what was set, and any other what it had
pub get-with_root : (roots : Roots) (tree : ℕ) (root : Option Address) → get (with_root roots tree root) tree ≡ root
get-with_root roots tree None = get-remove nat_cmp_total roots tree tree ∙ ap (λ (b : Bool). cond b None (get roots tree)) (itself tree)
get-with_root roots tree (Some root) = get-insert nat_cmp_total roots tree root tree ∙ ap (λ (b : Bool). cond b (Some root) (get roots tree)) (itself tree)

pub get-with_root-other : (roots : Roots) (tree other : ℕ) (root : Option Address) → other ≢ tree → get (with_root roots tree root) other ≡ get roots other
get-with_root-other roots tree other None differ = get-remove nat_cmp_total roots tree other ∙ ap (λ (b : Bool). cond b None (get roots other)) (apart other tree differ)
get-with_root-other roots tree other (Some root) differ = get-insert nat_cmp_total roots tree root other ∙ ap (λ (b : Bool). cond b (Some root) (get roots other)) (apart other tree differ)

no_more : (b : Bool) (n : ℕ) → cond b (n - 1) n ≤ n
no_more true n = omega arith
no_more false n = omega arith

one_more : (b : Bool) (n : ℕ) → cond b n (n + 1) ≤ n + 1
one_more true n = omega arith
one_more false n = omega arith

-- one tree more is listed at most
pub len-with_root : (roots : Roots) (tree : ℕ) (root : Option Address) → len (with_root roots tree root) ≤ len roots + 1
len-with_root roots tree None = let is = len-remove nat_cmp_total roots tree in let le = no_more (contains_key roots tree) (len roots) in omega arith
len-with_root roots tree (Some root) = let is = len-insert nat_cmp_total roots tree root in let le = one_more (contains_key roots tree) (len roots) in omega arith

-- and none where the tree was listed, or where its root is taken out
pub len-with_root-listed : (roots : Roots) (tree : ℕ) (root : Option Address) → IsSome (get roots tree) → len (with_root roots tree root) ≤ len roots
len-with_root-listed roots tree None listed = let is = len-remove nat_cmp_total roots tree in let le = no_more (contains_key roots tree) (len roots) in omega arith
len-with_root-listed roots tree (Some root) listed =
    let is : len (insert roots tree root) ≡ len roots = len-insert nat_cmp_total roots tree root ∙ ap (λ (b : Bool). cond b (len roots) (len roots + 1)) listed in
    omega arith

pub len-with_root-none : (roots : Roots) (tree : ℕ) → len (with_root roots tree None) ≤ len roots
len-with_root-none roots tree = let is = len-remove nat_cmp_total roots tree in let le = no_more (contains_key roots tree) (len roots) in omega arith
