-- An image in which the mark of the newest block is the last open one stores the newest commit.
use Rattle.std.proofs.Common.{◌≡◌, ◌<◌, ◌≤◌, ℕ, suc, pred, ◌-◌, ◌/◌, ◌%◌, ◌^◌, Bool, true, cond, eqb, ltb, List, [], length, take, drop, Option, Some, None, is_some, IsSome, refl, sym, ◌∙◌, ap, subst, arith, inl, inr}
use Rattle.std.specs.Prelude.{nat_lt}
use Rattle.std.specs.FinMap.{entries, get}
use Rattle.std.proofs.Math.Path.{fun_ext}
use Rattle.std.proofs.lemmas.Bool.{cases_eq, eq-eqb, lt-ltb, ltb-true, ne_eqb}
use Rattle.std.proofs.lemmas.List.{append-nil, take_all}
use Rattle.xod_base.specs.Views.{Trees}
use Rattle.xod_block.specs.declared.address.Address.{Address}
use Rattle.xod_block.specs.Addresses.{number_of}
use Rattle.xod_block.specs.Maps.{RecordsAt}
use Rattle.xod_block.specs.Reading.{◌>>=◌, record_at, record_in}
use Rattle.xod_block.specs.Records.{Fits, Link, RecordValue, spelling}
use Rattle.xod_block.proofs.CallerLemmas.{map_at-more, record_at-spelling}
use Rattle.xod_volume.specs.Files.{Files, Content, bytes_in, bytes_of}
use Rattle.xod_log.specs.declared.log.Log.{Log}
use Rattle.xod_log.specs.Ends.{numbers, numbers_at, body_of}
use Rattle.xod_log.specs.Standing.{body_file, ends_file}
use Rattle.xod_log.proofs.CallerLemmas.{numbers-read}
use Rattle.xod_recover.specs.Check.{Newest, are_trees, bodies_upto, has_body, records_upto, root_of, rooted_by, rooted_in, trees_under}
use Rattle.xod_recover.specs.Images.{UnusedFrom}
use Rattle.xod_recover.specs.Newest.{IsNewest}
use Rattle.xod_recover.specs.Opened.{open_count, is_used}
use Rattle.xod_recover.specs.Stores.{Stored, stored_in, stored_of}
use Rattle.xod_recover.specs.Walks.{bad_under, file_at}
use Rattle.xod_recover.proofs.CallerLemmas.{greatest_is, newest-check, used_by_count, whole-none}
use Rattle.xod_root.specs.Roots.{Roots, root_record}
use Rattle.xod_tables.specs.Reading.{rows_of}
use Rattle.xod_trie.specs.Tries.{trie_map}
use Rattle.xod_trie.proofs.CallerLemmas.{has_pairs}
use Rattle.xod_env.specs.Envs.{ArePlaced, IsAt, env_records, env_trees, newest_stored, root_place}
use Rattle.xod_env.proofs.Reaching.{body-up-to, content-more, map-kept, reached-back, reached-body}
use Rattle.xod_env.proofs.Storing.{get-test, listed-get, none-listed, root-get}

-- the root record of a commit is read as that
pub spelled-rooted : (commit : ℕ) (roots : Roots) → Fits (root_record commit roots) → are_trees (entries roots) ≡ true → rooted_in (spelling (root_record commit roots)) ≡ Some (commit, entries roots)
unfolding rooted_in
spelled-rooted commit roots fits trees =
    let item = root_record commit roots in
    let s = spelling item in
    let read : record_at s ≡ Some (item, length s) = ap record_at (sym (append-nil s)) ∙ record_at-spelling item [] fits in
    ap (λ (o : Option (RecordValue × ℕ)). o >>= (λ found. cond (eqb found.1 (length s)) (rooted_by found.0) None)) read
    ∙ ap (λ (b : Bool). cond b (rooted_by item) None) (eq-eqb (length s) (length s) refl)
    ∙ ap (λ (b : Bool). cond b (Some (commit, entries roots)) None) trees

module _ (log : Log) (roots : Roots) (commit : ℕ) (files : Files) (images : Files → Type 0) (at : IsAt log roots commit files images) where
  -- The image has the newest block whole, and its mark is the last open one.
  pub record Shows (left : Files) (marks : ℕ) : Type 0 where
    pub above : UnusedFrom (suc log.file) left
    pub lower : (other : ℕ) → other < log.file → IsSome (get files (body_of other)) → get left (body_of other) ≡ get files (body_of other)
    pub body : get left (body_file log) ≡ get files (body_file log)
    pub has_ends : IsSome (get left (ends_file log))
    pub some : 0 < marks
    pub count : open_count (bytes_of left (ends_file log)) ≡ marks
    pub says : numbers_at (bytes_of left (ends_file log)) (pred marks) ≡ numbers log.end log.back

  module _ (placed : ArePlaced log roots) (more_than : 0 < log.end) (left : Files) (marks : ℕ) (shows : Shows left marks) where
    abbrev B : List ℕ
    B = bytes_of files (body_file log)

    abbrev R : RecordsAt
    R = records_upto left log.file log.end

    abbrev env : RecordsAt
    env = env_records log.file files

    abbrev root : Address
    root = root_place log

    own-body : bytes_of left (body_file log) ≡ B
    own-body = ap (λ (c : Content). bytes_in c) shows.body

    own-front : take log.end (bytes_of left (body_file log)) ≡ B
    own-front = ap (take log.end) own-body ∙ take_all log.end B (omega (arith, at.stands.size))

    body-more : (other place : ℕ) (item : RecordValue) → other ≤ log.file → record_in (drop place (bytes_of files (body_of other))) ≡ Some item → record_in (drop place (bodies_upto left log.file log.end other)) ≡ Some item
    body-more other place item le is = elim (cases_eq other log.file) [
      | inl same ↦
          ap (λ (t : Bool). record_in (drop place (cond t (take log.end (bytes_of left (body_of other))) (bytes_of left (body_of other))))) (eq-eqb other log.file same)
          ∙ ap (λ (k : ℕ). record_in (drop place (take log.end (bytes_of left (body_of k))))) same
          ∙ ap (λ (l : List ℕ). record_in (drop place l)) own-front
          ∙ sym (ap (λ (k : ℕ). record_in (drop place (bytes_of files (body_of k)))) same)
          ∙ is
      | inr apart ↦
          ap (λ (t : Bool). record_in (drop place (cond t (take log.end (bytes_of left (body_of other))) (bytes_of left (body_of other))))) (ne_eqb other log.file apart)
          ∙ content-more (get left (body_of other)) (get files (body_of other)) (shows.lower other (omega (arith, le, apart))) place item is
    ]

    more : (n : ℕ) (item : RecordValue) → n < number_of root → env n ≡ Some item → R n ≡ Some item
    more n item lt is =
        let file = n / 2 ^ 64 in
        let fits = at.end_fits in
        let le : file ≤ log.file = omega (arith, lt, fits) in
        body-more file (n % 2 ^ 64) item le (sym (ap (λ (c : Content). record_in (drop (n % 2 ^ 64) (bytes_in c))) (body-up-to log.file file files le)) ∙ is)

    has-more : (file : ℕ) → file ≤ log.file → has_body files file ≡ true → has_body left file ≡ true
    has-more file le has = elim (cases_eq file log.file) [
      | inl same ↦ subst (λ (k : ℕ). has_body left k ≡ true) (sym same) (ap (λ (c : Content). is_some c) (shows.body ∙ at.stands.has_body))
      | inr apart ↦ ap (λ (c : Content). is_some c) (shows.lower file (omega (arith, le, apart)) has) ∙ has
    ]

    -- a tree under the roots is whole
    whole : (link : Link) → get roots link.0 ≡ Some link.1 → nat_lt (number_of link.1) (number_of root) ≡ true → bad_under R (has_body left) root link.1 ≡ None
    whole link found low =
        let lower : number_of link.1 < number_of root = ltb-true (number_of link.1) (number_of root) low in
        let there : IsSome (trie_map env (Some link.1)) = subst (λ (o : Option Address). IsSome (trie_map env o)) found (at.maps link.0) in
        let pairs = has_pairs env link.1 there in
        let only = λ (n : ℕ) (item : RecordValue) (le : n ≤ number_of link.1) (is : env n ≡ Some item). more n item (omega (arith, le, lower)) is in
        whole-none R (has_body left) root link.1 (record {
          lower = lower;
          map = ap is_some (map_at-more env R (number_of link.1) only pairs) ∙ pairs;
          bodies = λ reached is.
              let back = reached-back env R link.1 only pairs reached is in
              let fits = at.end_fits in
              let le : file_at reached ≤ log.file = omega (arith, back.1, lower, fits) in
              has-more (file_at reached) le (reached-body log.file files (Some link.1) reached there back.0);
        })

    abbrev newest : Newest
    newest = record { file = log.file; marks = marks; end = log.end; back = log.back; commit = commit; trees = entries roots }

    below-root : (tree : ℕ) (place : Address) → get roots tree ≡ Some place → number_of place < number_of root
    below-root tree place is = ltb-true (number_of place) (number_of root) (get-test (λ at. nat_lt (number_of at) (number_of root)) roots tree place placed.below is)

    tree-same : (tree : ℕ) → trie_map R (root_of (entries roots) tree) ≡ env_trees log.file files roots tree
    tree-same tree =
        ap (trie_map R) (root-get roots tree)
        ∙ map-kept env R (get roots tree) (λ place is n item le there. more n item (omega (arith, le, below-root tree place is)) there) (at.maps tree)

    tables : is_some (rows_of (trees_under left newest)) ≡ true
    tables = ap (λ (t : Trees). is_some (rows_of t)) (fun_ext tree-same) ∙ at.tables

    is-newest : IsNewest left newest
    is-newest =
        let ends = bytes_of left (ends_file log) in
        let read = numbers-read ends (pred marks) log.end log.back at.end_fits at.back_fits shows.says in
        let used : is_used left log.file ≡ true = used_by_count left log.file (ap (λ (c : Content). is_some c) (shows.body ∙ at.stands.has_body)) shows.has_ends ∙ ap (ltb 0) shows.count ∙ lt-ltb 0 marks shows.some in
        record {
          used = greatest_is left log.file used at.file_fits shows.above;
          some = shows.some;
          count = shows.count;
          end_is = sym read.0;
          back_is = sym read.1;
          long = omega (arith, ap length own-body, at.stands.size);
          within = at.newest.within;
          root = ap (λ (l : List ℕ). rooted_in (drop (log.end - log.back) l)) own-front ∙ ap rooted_in (at.newest.root more_than) ∙ spelled-rooted commit roots at.newest.fits placed.numbered;
          whole = none-listed (bad_under R (has_body left) root) (λ link. get roots link.0 ≡ Some link.1) (λ link. nat_lt (number_of link.1) (number_of root)) whole (entries roots) (listed-get roots) placed.below;
          tables = tables;
        }

    pub shows-stored : stored_in left ≡ Some (newest_stored log.file files roots commit)
    shows-stored =
        let holding : Trees → Option Stored = λ t. Some (record { commit = commit; trees = t }) in
        ap (stored_of left) (newest-check left newest (inr is-newest))
        ∙ ap holding (fun_ext tree-same)
