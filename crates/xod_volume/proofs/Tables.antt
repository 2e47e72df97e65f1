-- A tree of bodies by number, seen as a finite map: what a look-up, a change and the list of keys mean of the map.
use Rattle.std.proofs.Common.{◌≡◌, ◌≤◌, ℕ, ◌+◌, Bool, true, false, cond, List, [], ◌∷◌, ◌++◌, map, length, MatchBool, Some, None, IsSome, refl, sym, ◌∙◌, ap, subst, arith, inl, inr}
use mathlib.Core.Logic.{◌≢◌}
use Rattle.std.specs.Ordering.{nat_cmp, is_eq, eq_by_cmp}
use Rattle.std.specs.Cmp.{nat_cmp_total, nat_cmp_is, eq_by_cmp_equiv}
use Rattle.std.specs.declared.cmp.Ordering.{Ordering}
use Rattle.std.specs.declared.cmp.Ordering.TheVariants.{Less, Equal, Greater}
use Rattle.std.specs.Map.{lookup, keys_of}
use Rattle.std.specs.BTreeMap.{is_at}
use Rattle.std.specs.List.Sorted.{IsStrictlySortedBy}
use Rattle.std.specs.FinMap.{find, get, insert, remove, keys, entries, entries-insert, len, contains_key, len-insert, len-entries, len-empty, get-from_entries, get-insert, get-remove, same_map, nat_cmp-IsAntisymmetric}
use Rattle.std.specs.FinMap.Entries.{put, by_order}
use Rattle.std.proofs.lemmas.Bool.{cases_lt, cases_eq}
use Rattle.xod_volume.specs.Files.{Files, Content, no_files, files_from, bytes_in, bytes_of, with_file, overwritten}

-- a look-up in the tree's entries is one in the map
find_is : (q : ℕ) (es : List (ℕ × List ℕ)) → find nat_cmp q es ≡ lookup (is_at (nat_cmp q)) es
find_is q [] = refl
find_is q (e ∷ es) = ap (cond (eq_by_cmp nat_cmp q e.0) (Some e.1)) (find_is q es)

pub get_entries : (es : List (ℕ × List ℕ)) (q : ℕ) → get (files_from es) q ≡ lookup (is_at (nat_cmp q)) es
get_entries es q = get-from_entries nat_cmp_total es q ∙ find_is q es

-- two maps that answer alike are one
pub same_files : (m n : Files) → ((q : ℕ) → get m q ≡ get n q) → m ≡ n
same_files m n is = same_map nat_cmp_total nat_cmp-IsAntisymmetric m n is

-- entries that answer as others do but at one number
pub entries_put : (es fs : List (ℕ × List ℕ)) (k : ℕ) (body : List ℕ)
    → ((q : ℕ) → lookup (is_at (nat_cmp q)) fs ≡ cond (is_at (nat_cmp k) q) (Some body) (lookup (is_at (nat_cmp q)) es))
    → files_from fs ≡ insert (files_from es) k body
entries_put es fs k body is = same_files _ _ (λ q.
    get_entries fs q ∙ is q
    ∙ ap (λ b. cond b (Some body) (lookup (is_at (nat_cmp q)) es)) ((eq_by_cmp_equiv nat_cmp_total).symm k q)
    ∙ ap (cond (eq_by_cmp nat_cmp q k) (Some body)) (sym (get_entries es q))
    ∙ sym (get-insert nat_cmp_total (files_from es) k body q))

pub entries_gone : (es fs : List (ℕ × List ℕ)) (k : ℕ)
    → ((q : ℕ) → lookup (is_at (nat_cmp q)) fs ≡ cond (is_at (nat_cmp k) q) None (lookup (is_at (nat_cmp q)) es))
    → files_from fs ≡ remove (files_from es) k
entries_gone es fs k is = same_files _ _ (λ q.
    get_entries fs q ∙ is q
    ∙ ap (λ b. cond b None (lookup (is_at (nat_cmp q)) es)) ((eq_by_cmp_equiv nat_cmp_total).symm k q)
    ∙ ap (cond (eq_by_cmp nat_cmp q k) None) (sym (get_entries es q))
    ∙ sym (get-remove nat_cmp_total (files_from es) k q))

-- what stands under a number after a change there, and elsewhere
pub get_same : (F : Files) (g : ℕ) (o : Content) → get (with_file F g o) g ≡ o
get_same F g None = get-remove nat_cmp_total F g g ∙ ap (λ o. cond (is_eq o) None (get F g)) (sym (nat_cmp_is g g Equal refl))
get_same F g (Some b) = get-insert nat_cmp_total F g b g ∙ ap (λ o. cond (is_eq o) (Some b) (get F g)) (sym (nat_cmp_is g g Equal refl))

apart_by : (g h : ℕ) → h ≢ g → (x y : Content) → cond (eq_by_cmp nat_cmp h g) x y ≡ y
apart_by g h apart x y = elim (cases_lt h g) [
  | inl lt ↦ ap (λ o. cond (is_eq o) x y) (sym (nat_cmp_is h g Less lt))
  | inr ge ↦ elim (cases_lt g h) [
    | inl gt ↦ ap (λ o. cond (is_eq o) x y) (sym (nat_cmp_is h g Greater gt))
    | inr le ↦ absurd (apart (omega (arith, ge, le)))
  ]
]

pub get_other : (F : Files) (g h : ℕ) (o : Content) → h ≢ g → get (with_file F g o) h ≡ get F h
get_other F g h None apart = get-remove nat_cmp_total F g h ∙ apart_by g h apart None (get F h)
get_other F g h (Some b) apart = get-insert nat_cmp_total F g b h ∙ apart_by g h apart (Some b) (get F h)

-- a file set to what it is
pub with_own : (F : Files) (g : ℕ) (o : Content) → get F g ≡ o → with_file F g o ≡ F
with_own F g o is = same_files (with_file F g o) F (λ q. elim (cases_eq q g) [
  | inl same ↦ subst (λ (k : ℕ). get (with_file F g o) k ≡ get F k) (sym same) (get_same F g o ∙ sym is)
  | inr not ↦ get_other F g q o not
])

-- a file put in again as it was
pub same_put : (F : Files) (k : ℕ) (was is : List ℕ) → get F k ≡ Some was → is ≡ was → insert F k is ≡ F
same_put F k was is there e = ap (insert F k) e ∙ with_own F k (Some was) there

-- a file that was appended to, or that a refusal left as it was
pub append_put : (ok : Bool) (F : Files) (k : ℕ) (was more is : List ℕ) → get F k ≡ Some was → is ≡ cond ok (was ++ more) was
    → insert F k is ≡ cond ok (insert F k (bytes_of F k ++ more)) F
append_put true F k was more is there e = ap (insert F k) (e ∙ ap (λ o. bytes_in o ++ more) (sym there))
append_put false F k was more is there e = ap (insert F k) e ∙ with_own F k (Some was) there

-- a file that was written over, or that was left as it was
pub overwrite_put : (ok : Bool) (F : Files) (k at : ℕ) (was bytes is : List ℕ) → get F k ≡ Some was → MatchBool ok (is ≡ overwritten was at bytes) (is ≡ was)
    → MatchBool ok (insert F k is ≡ insert F k (overwritten (bytes_of F k) at bytes)) (insert F k is ≡ F)
overwrite_put true F k at was bytes is there e = ap (insert F k) (e ∙ ap (λ o. overwritten (bytes_in o) at bytes) (sym there))
overwrite_put false F k at was bytes is there e = ap (insert F k) e ∙ with_own F k (Some was) there

-- the entry that goes before all others is put first
put_first : (k : ℕ) (body : List ℕ) (es : List (ℕ × List ℕ)) → IsStrictlySortedBy nat_cmp (k ∷ keys_of es) → put nat_cmp k body es ≡ (k, body) ∷ es
unfolding IsStrictlySortedBy
put_first k body [] s = refl
put_first k body (e ∷ es) s = ap (λ (o : Ordering). by_order o ((k, body) ∷ e ∷ es) ((e.0, body) ∷ es) (e ∷ put nat_cmp k body es)) s.0.0

sorted_rest : (k : ℕ) (ks : List ℕ) → IsStrictlySortedBy nat_cmp (k ∷ ks) → IsStrictlySortedBy nat_cmp ks
unfolding IsStrictlySortedBy
sorted_rest k ks s = s.1

no_entries : (es : List (ℕ × List ℕ)) → length es ≡ 0 → es ≡ []
no_entries [] e = refl
no_entries (x ∷ es) e = absurd (omega arith)

-- the entries of a tree are those of the map
entries_are : (es : List (ℕ × List ℕ)) → IsStrictlySortedBy nat_cmp (keys_of es) → entries (files_from es) ≡ es
entries_are [] s = no_entries (entries no_files) (sym (len-entries no_files) ∙ len-empty nat_cmp (List ℕ))
entries_are (e ∷ es) s =
    entries-insert nat_cmp_total (files_from es) e.0 e.1
    ∙ ap (put nat_cmp e.0 e.1) (entries_are es (sorted_rest e.0 (keys_of es) s))
    ∙ put_first e.0 e.1 es s

pub keys_are : (es : List (ℕ × List ℕ)) → IsStrictlySortedBy nat_cmp (keys_of es) → keys (files_from es) ≡ keys_of es
keys_are es s = ap (map (λ (e : ℕ × List ℕ). e.0)) (entries_are es s)

one_or_none : (there : Bool) (n m : ℕ) → m ≡ cond there n (n + 1) → m ≤ n + 1
one_or_none true n m e = omega (arith, e)
one_or_none false n m e = omega (arith, e)

-- how many files there are
pub count_is : (es : List (ℕ × List ℕ)) → IsStrictlySortedBy nat_cmp (keys_of es) → length es ≡ len (files_from es)
count_is es s = sym (len-entries (files_from es) ∙ ap length (entries_are es s))

-- a file put in makes one file more at most
pub count_put : (F : Files) (k : ℕ) (body : List ℕ) → len (insert F k body) ≤ len F + 1
count_put F k body = one_or_none (contains_key F k) (len F) (len (insert F k body)) (len-insert nat_cmp_total F k body)

-- and none where there was one under its number
pub count_there : (F : Files) (k : ℕ) (body : List ℕ) → IsSome (get F k) → len (insert F k body) ≡ len F
count_there F k body there = len-insert nat_cmp_total F k body ∙ ap (λ b. cond b (len F) (len F + 1)) there
