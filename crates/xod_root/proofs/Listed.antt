-- Lists of links as maps.
use Rattle.std.proofs.Common.{◌≡◌, ℕ, ◌+◌, ◌^◌, ◌<◌, ◌≤◌, Bool, true, false, not, cond, List, [], ◌∷◌, ◌++◌, length, get_or, take, drop, Option, Some, None, slice_get, set, refl, sym, ap, subst, ◌∙◌, arith}
use Rattle.std.specs.Prelude.{T}
use Rattle.std.specs.List.{AllByRecursion}
use Rattle.std.specs.Option.{option_and_then, option_map}
use Rattle.std.specs.Ordering.{nat_cmp, eq_by_cmp}
use Rattle.std.specs.declared.cmp.Ordering.TheVariants.{Equal}
use Rattle.std.specs.Cmp.{eq_by_cmp_equiv}
use Rattle.std.specs.FinMap.{empty, empty_of_len, entries, entries_sorted, entries-from_sorted, entries-insert, find, from_entries, from_sorted, get-entries, get-from_entries, get-from_sorted, get-remove, insert, is_sorted, len, len-entries, nat_cmp-IsAntisymmetric, put, remove, same_entries_map, same_map}
use Rattle.std.specs.FinMap.Entries.{find-where_key, is_sorted-put, is_sorted-where_key}
use Rattle.std.proofs.lemmas.Cmp.{nat_cmp_total}
use Rattle.std.proofs.lemmas.Grind.{flat_map-append}
use Rattle.std.proofs.lemmas.List.{append-nil, length-append, length-take, take-take, take_all, take_more, take_more_set}
use Rattle.std.proofs.lemmas.Option.{get_or_from_slice_get, slice_get_within}
use Rattle.xod_block.specs.Reading.{record_in, links_in}
use Rattle.xod_block.proofs.CallerLemmas.{record_at-spelling, links_in-links_bytes}
use Rattle.xod_block.specs.Seen.{AreLinks}
use Rattle.xod_root.specs.Places.{link_of, place_below}
use Rattle.xod_block.specs.declared.address.Address.{Address}
use Rattle.xod_block.specs.Records.{Link, RecordValue, Fits, FitsLink, rise, link_bytes, links_bytes, spelling}
use Rattle.xod_root.specs.Roots.{Roots, with_root, root_in, root_record}
use Rattle.xod_root.proofs.Rising.{rise-sorted, sorted-rise, with, without, with-put, without-where}

pub no_links : from_sorted {X = Address} {R = nat_cmp} [] ≡ empty
no_links = empty_of_len _ (len-entries _ ∙ ap length (entries-from_sorted nat_cmp [] tt))

-- the links of a list that is seen as a map
pub links-of : (links : List Link) (roots : Roots) → T (is_sorted nat_cmp links) → from_sorted links ≡ roots → entries roots ≡ links
links-of links roots h is = ap entries (sym is) ∙ entries-from_sorted nat_cmp links h

-- links that rise are the map of their list
pub rising-map : (links : List Link) → T (is_sorted nat_cmp links) → from_sorted {R = nat_cmp} links ≡ from_entries links
rising-map links h = same_map nat_cmp_total nat_cmp-IsAntisymmetric _ _ (λ q. get-from_sorted nat_cmp links q h ∙ sym (get-from_entries nat_cmp_total links q))

-- the entries of a map are its map again
pub from_entries-entries : (roots : Roots) → from_entries {R = nat_cmp} (entries roots) ≡ roots
from_entries-entries roots = sym (rising-map (entries roots) (entries_sorted roots)) ∙ same_entries_map _ _ (entries-from_sorted nat_cmp (entries roots) (entries_sorted roots))

-- links that are listed by rising number, and the map that they are
pub record Becomes (links : List Link) (roots : Roots) : Type 0 where
  pub sorted : T (is_sorted nat_cmp links)
  pub is : from_sorted links ≡ roots

pub becomes-with : (roots : Roots) (number : ℕ) (address : Address) (new : List Link) → new ≡ with number address (entries roots) → Becomes new (insert roots number address)
becomes-with roots number address new is =
    let put_is : new ≡ put nat_cmp number address (entries roots) = is ∙ sym (with-put number address (entries roots) (entries_sorted roots)) in
    let sorted : T (is_sorted nat_cmp new) = subst (λ (l : List Link). T (is_sorted nat_cmp l)) (sym put_is) (is_sorted-put nat_cmp nat_cmp_total number address (entries roots) (entries_sorted roots)) in
    record { sorted = sorted; is = same_entries_map _ _ (entries-from_sorted nat_cmp new sorted ∙ put_is ∙ sym (entries-insert nat_cmp_total roots number address)) }

tested : (b : Bool) (o : Option Address) → cond (not b) o None ≡ cond b None o
tested true o = refl
tested false o = refl

tied : (number q x : ℕ) → nat_cmp q x ≡ Equal → not (eq_by_cmp nat_cmp number x) ≡ not (eq_by_cmp nat_cmp number q)
tied number q x e = ap (λ (k : ℕ). not (eq_by_cmp nat_cmp number k)) (sym (nat_cmp-IsAntisymmetric q x e))

pub becomes-without : (roots : Roots) (number : ℕ) (new : List Link) → new ≡ without number (entries roots) → Becomes new (remove roots number)
becomes-without roots number new is =
    let kept = is ∙ sym (without-where number (entries roots) (entries_sorted roots)) in
    let sorted : T (is_sorted nat_cmp new) = subst (λ (l : List Link). T (is_sorted nat_cmp l)) (sym kept) (is_sorted-where_key nat_cmp _ (entries roots) (entries_sorted roots)) in
    record {
      sorted = sorted;
      is = same_map nat_cmp_total nat_cmp-IsAntisymmetric _ _ (λ q.
          get-from_sorted nat_cmp new q sorted
          ∙ ap (find nat_cmp q) kept
          ∙ find-where_key nat_cmp (λ k. not (eq_by_cmp nat_cmp number k)) q (tied number q) (entries roots)
          ∙ tested (eq_by_cmp nat_cmp number q) (find nat_cmp q (entries roots))
          ∙ ap (λ (b : Bool). cond b None (find nat_cmp q (entries roots))) ((eq_by_cmp_equiv nat_cmp_total).symm number q)
          ∙ sym (get-remove nat_cmp_total roots number q ∙ ap (cond (eq_by_cmp nat_cmp q number) None) (get-entries roots q)));
    }

becomes-length : (links : List Link) (roots : Roots) → Becomes links roots → length links ≡ len roots
becomes-length links roots b = ap length (sym (entries-from_sorted nat_cmp links b.sorted) ∙ ap entries b.is) ∙ sym (len-entries roots)

-- the place of a number among the links of a map, and the links behind it
pub record Parts (roots : Roots) (number place : ℕ) (behind : List Link) : Type 0 where
  pub place_is : place ≡ place_below number (entries roots)
  pub bound : place ≤ length (entries roots)
  pub behind_is : behind ≡ drop (place_below (number + 1) (entries roots)) (entries roots)

pub parts-of : (roots : Roots) (links behind : List Link) (number place : ℕ) → links ≡ entries roots → place ≡ place_below number links → place ≤ length links → behind ≡ drop (place_below (number + 1) links) links → Parts roots number place behind
parts-of roots links behind number place same place_is bound behind_is = record {
  place_is = place_is ∙ ap (place_below number) same;
  bound = subst (λ (l : List Link). place ≤ length l) same bound;
  behind_is = behind_is ∙ ap (λ (l : List Link). drop (place_below (number + 1) l) l) same;
}

-- the links before a place stand at the front of the array too
front-of : (roots : Roots) (count place : ℕ) (links : List Link) → entries roots ≡ take count links → place ≤ length (entries roots) → take place links ≡ take place (entries roots)
front-of roots count place links is bound =
    let le : place ≤ count = omega (arith, ap length is, length-take count links) in
    sym (take-take place count links le) ∙ ap (take place) (sym is)

-- one link put in or taken out
changed-links : (roots : Roots) (number : ℕ) (root : Option Address) (new : List Link) → new ≡ take (place_below number (entries roots)) (entries roots) ++ (link_of (number, root) ++ drop (place_below (number + 1) (entries roots)) (entries roots)) → Becomes new (with_root roots number root)
changed-links roots number None new is = becomes-without roots number new is
changed-links roots number (Some root) new is = becomes-with roots number root new is

pub changed : (roots : Roots) (number place count : ℕ) (root : Option Address) (behind links new : List Link) → Parts roots number place behind → entries roots ≡ take count links → new ≡ take place links ++ (link_of (number, root) ++ behind) → Becomes new (with_root roots number root)
changed roots number place count root behind links new p is new_is = changed-links roots number root new (
    new_is
    ∙ ap (λ (l : List Link). l ++ (link_of (number, root) ++ behind)) (front-of roots count place links is p.bound)
    ∙ ap (λ (k : ℕ). take k (entries roots) ++ (link_of (number, root) ++ behind)) p.place_is
    ∙ ap (λ (l : List Link). take (place_below number (entries roots)) (entries roots) ++ (link_of (number, root) ++ l)) p.behind_is)

-- what is put into the array finds room there
pub changed-room : (roots : Roots) (number place : ℕ) (root : Option Address) (behind : List Link) → Parts roots number place behind → len (with_root roots number root) ≤ 32 → place + length (link_of (number, root) ++ behind) ≤ 32
changed-room roots number place root behind p few =
    let bound = p.bound in
    let rest = link_of (number, root) ++ behind in
    let all : length (take place (entries roots) ++ rest) ≡ len (with_root roots number root) = becomes-length _ _ (changed roots number place (length (entries roots)) root behind (entries roots) _ p (sym (take_all (length (entries roots)) (entries roots) (omega arith))) refl) in
    omega (arith, all, length-append (take place (entries roots)) rest, length-take place (entries roots))

-- ---- from the links of a record

pub more-links : (index : ℕ) (roots links : List Link) (link : Link) → index < length roots → take index roots ≡ take index links → slice_get links index ≡ Some link → take (index + 1) (set roots index link) ≡ take (index + 1) links
more-links index roots links link lt same is =
    take_more_set roots index link lt
    ∙ ap (λ (l : List Link). l ++ link ∷ []) same
    ∙ ap (λ (x : Link). take index links ++ x ∷ []) (sym (get_or_from_slice_get links index link link is))
    ∙ sym (take_more links index link (slice_get_within links index link is))

pub from-record : (count : ℕ) (roots links : List Link) → count ≡ length links → take count roots ≡ take count links → rise links ≡ true → Becomes (take count roots) (from_entries links)
from-record count roots links all same rises =
    let is : take count roots ≡ links = same ∙ take_all count links (omega arith) in
    let sorted : T (is_sorted nat_cmp (take count roots)) = subst (λ (l : List Link). T (is_sorted nat_cmp l)) (sym is) (rise-sorted links rises) in
    record { sorted = sorted; is = rising-map (take count roots) sorted ∙ ap (λ (l : List Link). from_entries {R = nat_cmp} l) is }

-- ---- to the links of a record

pub all-fit : (links : List Link) (link : Link) → AllByRecursion FitsLink links → FitsLink link → AllByRecursion FitsLink (links ++ link ∷ [])
all-fit [] link each fits = (fits, tt)
all-fit (first ∷ links) link each fits = (each.0, all-fit links link each.1 fits)

pub more-bytes : (links : List Link) (index : ℕ) (link default : Link) (old new : List ℕ) → index < length links → link ≡ get_or links index default → old ≡ links_bytes (take index links) → new ≡ old ++ link_bytes link → new ≡ links_bytes (take (index + 1) links)
more-bytes links index link default old new lt is so_far new_is =
    new_is ∙ ap (λ (l : List ℕ). l ++ link_bytes link) so_far
    ∙ ap (λ (l : List ℕ). links_bytes (take index links) ++ l) (sym (append-nil (link_bytes link)))
    ∙ sym (flat_map-append link_bytes (take index links) (link ∷ []))
    ∙ ap links_bytes (ap (λ (x : Link). take index links ++ x ∷ []) is ∙ sym (take_more links index default lt))

-- the record of roots that are listed
pub root-fits : (commit : ℕ) (roots : Roots) (slice : List Link) → commit < 2 ^ 64 → slice ≡ entries roots → length slice ≤ 32 → AllByRecursion FitsLink slice → Fits (root_record commit roots)
root-fits commit roots slice commit_fits is few each = record {
  commit_fits = commit_fits;
  few = omega (arith, ap length is);
  each = subst (AllByRecursion FitsLink) is each;
  rising = sorted-rise (entries roots) (entries_sorted roots);
}

-- the links in the bytes of links
pub links-again : (bytes : List ℕ) (slice : List Link) (roots : Roots) → bytes ≡ links_bytes slice → slice ≡ entries roots → AllByRecursion FitsLink slice → links_in bytes ≡ entries roots
links-again bytes slice roots spelled is fits = ap links_in spelled ∙ links_in-links_bytes slice fits ∙ is

pub whole-again : (bytes : List ℕ) (slice : List Link) (roots : Roots) → bytes ≡ links_bytes slice → slice ≡ entries roots → AllByRecursion FitsLink slice → AreLinks bytes
whole-again bytes slice roots spelled is fits = spelled ∙ ap links_bytes (sym (ap links_in spelled ∙ links_in-links_bytes slice fits))

pub root-again : (commit : ℕ) (roots : Roots) (more : List ℕ) → Fits (root_record commit roots) → option_and_then root_in (record_in (spelling (root_record commit roots) ++ more)) ≡ Some (commit, roots)
root-again commit roots more fits =
    ap (λ (o : Option (RecordValue × ℕ)). option_and_then root_in (option_map (λ found. found.0) o)) (record_at-spelling (root_record commit roots) more fits)
    ∙ ap (λ (m : Roots). Some (commit, m)) (from_entries-entries roots)
