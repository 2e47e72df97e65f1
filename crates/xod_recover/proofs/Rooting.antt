-- The root that a record is, by what is read of it.
use Rattle.std.proofs.Common.{◌≡◌, ◌<◌, ℕ, Bool, true, false, cond, eqb, List, [], length, Option, Some, None, refl, sym, ap, ◌∙◌, arith}
use Rattle.std.specs.Prelude.{IsTrue}
use Rattle.std.specs.FinMap.{empty, empty_of_len, entries, from_entries, from_sorted, entries-from_sorted, len-entries}
use Rattle.std.specs.Ordering.{nat_cmp}
use Rattle.xod_block.specs.declared.address.Address.{Address}
use Rattle.xod_block.specs.declared.log_record.LogRecord.{LogRecord}
use Rattle.xod_block.specs.declared.log_record.LogRecord.TheVariants as written
use Rattle.xod_block.specs.Reading.{◌>>=◌, links_in, record_at}
use Rattle.xod_block.specs.Records.{Link, RecordValue, Leaf, Node, Root, rise}
use Rattle.xod_block.specs.Seen.{seen, HasSpelling}
use Rattle.xod_root.specs.Roots.{Roots, root_in, root_record}
use Rattle.xod_block.proofs.CallerLemmas.{length-links_bytes}
use Rattle.std.proofs.lemmas.Bool.{ne_eqb}
use Rattle.xod_root.proofs.CallerLemmas.{from_entries-entries, rise-sorted}
use Rattle.xod_recover.specs.Check.{Rooted, are_trees, rooted_by, rooted_in}
use Rattle.xod_recover.proofs.Taking.{Begins, record_at-begins}

-- no root has no link
pub entries-empty : entries (empty {X = Address} {R = nat_cmp}) ≡ []
entries-empty =
    let none = entries-from_sorted {X = Address} nat_cmp [] tt in
    let same : from_sorted [] ≡ empty = empty_of_len (from_sorted {X = Address} {R = nat_cmp} []) (len-entries (from_sorted {X = Address} {R = nat_cmp} []) ∙ ap length none) in
    sym (ap entries same) ∙ none

-- links that rise are the entries of their map
pub entries-from_entries : (trees : List Link) → IsTrue (rise trees) → entries (from_entries {R = nat_cmp} trees) ≡ trees
entries-from_entries trees rising =
    let same = entries-from_sorted nat_cmp trees (rise-sorted trees rising) in
    ap entries (ap (λ (l : List Link). from_entries {R = nat_cmp} l) (sym same) ∙ from_entries-entries (from_sorted trees)) ∙ same

abbrev given : List Link → ℕ → Option Rooted
given trees commit = cond (are_trees trees) (Some (commit, trees)) None

pub rooted_by-none : (item : LogRecord) → None ≡ root_in (seen item) → rooted_by (seen item) ≡ None
rooted_by-none (written.Leaf key value) e = refl
rooted_by-none (written.Node key value children) e = refl
rooted_by-none (written.Root commit trees) e = absurd cc

pub rooted_by-some : (item : LogRecord) (commit : ℕ) (roots : Roots) → HasSpelling item → Some (commit, roots) ≡ root_in (seen item) → rooted_by (seen item) ≡ cond (are_trees (entries roots)) (Some (commit, entries roots)) None
rooted_by-some (written.Leaf key value) commit roots has e = absurd cc
rooted_by-some (written.Node key value children) commit roots has e = absurd cc
rooted_by-some (written.Root number trees) commit roots has e =
    let read : ℕ × Roots = (commit, roots) in
    let same : read ≡ (number, from_entries (links_in trees.now)) = cc e in
    let commit_is : commit ≡ number = ap (λ (x : ℕ × Roots). x.0) same in
    let roots_are : roots ≡ from_entries (links_in trees.now) = ap (λ (x : ℕ × Roots). x.1) same in
    let links_are : entries roots ≡ links_in trees.now = ap entries roots_are ∙ entries-from_entries (links_in trees.now) has.fits.rising in
    sym (ap (λ (l : List Link). given l commit) links_are ∙ ap (given (links_in trees.now)) commit_is)

-- the record that lists what was read of it
pub root_record-seen : (item : LogRecord) (commit : ℕ) (roots : Roots) → HasSpelling item → Some (commit, roots) ≡ root_in (seen item) → root_record commit roots ≡ seen item
root_record-seen (written.Leaf key value) commit roots has e = absurd cc
root_record-seen (written.Node key value children) commit roots has e = absurd cc
root_record-seen (written.Root number trees) commit roots has e =
    let read : ℕ × Roots = (commit, roots) in
    let same : read ≡ (number, from_entries (links_in trees.now)) = cc e in
    let commit_is : commit ≡ number = ap (λ (x : ℕ × Roots). x.0) same in
    let roots_are : roots ≡ from_entries (links_in trees.now) = ap (λ (x : ℕ × Roots). x.1) same in
    let links_are : entries roots ≡ links_in trees.now = ap entries roots_are ∙ entries-from_entries (links_in trees.now) has.fits.rising in
    ap (λ (n : ℕ). Root n (entries roots)) commit_is ∙ ap (Root number) links_are

-- with a number that no tree has it is none, and else this root
pub rooted_by-other : (item : LogRecord) (commit : ℕ) (roots : Roots) (links : List Link) → HasSpelling item → Some (commit, roots) ≡ root_in (seen item) → links ≡ entries roots → are_trees links ≡ false → None ≡ rooted_by (seen item)
rooted_by-other item commit roots links has is are not = sym (rooted_by-some item commit roots has is ∙ ap (λ (b : Bool). cond b (Some (commit, entries roots)) None) (sym (ap are_trees are) ∙ not))

pub rooted_by-this : (item : LogRecord) (commit : ℕ) (roots : Roots) (links : List Link) → HasSpelling item → Some (commit, roots) ≡ root_in (seen item) → links ≡ entries roots → are_trees links ≡ true → Some (commit, entries roots) ≡ rooted_by (seen item)
rooted_by-this item commit roots links has is are all = sym (rooted_by-some item commit roots has is ∙ ap (λ (b : Bool). cond b (Some (commit, entries roots)) None) (sym (ap are_trees are) ∙ all))

-- ---- no root is longer than 427 bytes

none-both : (b : Bool) → cond {A = Option Rooted} b None None ≡ None
none-both true = refl
none-both false = refl

too_long : (bytes : List ℕ) (item : RecordValue) (count : ℕ) → 427 < length bytes → Begins bytes item count → cond (eqb count (length bytes)) (rooted_by item) None ≡ None
too_long bytes (Leaf key value) count long begins = none-both (eqb count (length bytes))
too_long bytes (Node key value children) count long begins = none-both (eqb count (length bytes))
too_long bytes (Root commit trees) count long begins =
    let few = begins.few in
    let count_is = begins.count_is in
    let other : eqb count (length bytes) ≡ false = ne_eqb count (length bytes) (λ e. omega (arith, e, few, count_is, long, length-links_bytes trees)) in
    ap (λ (b : Bool). cond b (rooted_by (Root commit trees)) None) other

long-read : (bytes : List ℕ) (o : Option (RecordValue × ℕ)) → 427 < length bytes → record_at bytes ≡ o → (o >>= (λ found. cond (eqb found.1 (length bytes)) (rooted_by found.0) None)) ≡ None
long-read bytes None long is = refl
long-read bytes (Some x) long is = too_long bytes x.0 x.1 long (record_at-begins bytes x is)

pub rooted_in-long : (bytes : List ℕ) → 427 < length bytes → rooted_in bytes ≡ None
unfolding rooted_in
rooted_in-long bytes long = long-read bytes (record_at bytes) long refl
