-- What is stored where the newest block is sealed, and where no log file is used.
use Rattle.std.proofs.Common.{◌≡◌, ◌<◌, ℕ, suc, pred, ◌+◌, ◌*◌, ◌^◌, true, false, ltb, List, length, take, Option, Some, None, is_some, IsSome, refl, sym, ◌∙◌, ap, subst, arith, inl, inr}
use Rattle.std.proofs.Math.Path.{fun_ext}
use Rattle.std.proofs.lemmas.Bool.{cases_eq, cases_lt, lt-ltb, true≢false}
use Rattle.std.specs.FinMap.{empty, empty_of_len, get, get-empty}
use Rattle.std.specs.Ordering.{nat_cmp}
use Rattle.xod_base.specs.Views.{Trees}
use Rattle.xod_volume.specs.Files.{Files, Content, bytes_in, bytes_of}
use Rattle.xod_log.specs.declared.log.Log.{Log}
use Rattle.xod_log.specs.Ends.{numbers_at, body_of}
use Rattle.xod_log.specs.Standing.{body_file, ends_file}
use Rattle.xod_recover.specs.Check.{check, check_used}
use Rattle.xod_recover.specs.Images.{AllStore, Settled, UnusedFrom}
use Rattle.xod_recover.specs.Opened.{greatest_used, is_used, open_count}
use Rattle.xod_recover.specs.Stores.{Stored, stored_in, stored_of}
use Rattle.xod_recover.specs.Tails.{Covers}
use Rattle.xod_recover.proofs.CallerLemmas.{greatest_used_is, used_by_count}
use Rattle.xod_root.specs.Roots.{Roots}
use Rattle.xod_trie.specs.Tries.{trie_map}
use Rattle.xod_env.specs.Envs.{ArePlaced, IsAt, IsSteady, env_records, env_trees, last_end, newest_stored, no_roots, sealed_end}
use Rattle.xod_env.proofs.Showing.{shows-stored}
use Rattle.xod_env.proofs.Stepping.{front_count}

-- ---- no log file is used

-- commit 0, without trees
abbrev pub nothing : Stored
nothing = record { commit = 0; trees = λ tree. Some empty }

none-greatest : (files : Files) (o : Option ℕ) → greatest_used files ≡ o → UnusedFrom 0 files → o ≡ None
none-greatest files None is unused = refl
none-greatest files (Some file) is unused =
    let there = greatest_used_is files file is in
    absurd (true≢false (sym there.0 ∙ unused file (omega arith) there.1))

pub unused-stores : (files : Files) → UnusedFrom 0 files → stored_in files ≡ Some nothing
unfolding check
unused-stores files unused = ap (λ (o : Option ℕ). stored_of files (check_used files o)) (none-greatest files (greatest_used files) refl unused)

pub nothing-newest : (current : ℕ) (files : Files) (roots : Roots) (tree : ℕ) → roots ≡ no_roots → env_trees current files roots tree ≡ Some empty
nothing-newest current files roots tree none =
    ap (trie_map (env_records current files)) (ap (λ (r : Roots). get r tree) none ∙ get-empty nat_cmp tree)

-- ---- the newest block is sealed

module _ (log : Log) (roots : Roots) (commit : ℕ) (files : Files) (images : Files → Type 0) (at : IsAt log roots commit files images) (sealed : log.is_sealed ≡ true) where
  abbrev m : ℕ
  m = log.marks

  abbrev E : List ℕ
  E = bytes_of files (ends_file log)

  pub none-first : m ≡ 0 → (log.end ≡ 0) × (log.file ≡ 0)
  none-first none =
      let end = (at.stands.last sealed).none none in
      (end, at.first_file end)

  -- an image with the ends that reads give
  module _ (left : Files) (ends : get left (ends_file log) ≡ get files (ends_file log)) where
    same-ends : bytes_of left (ends_file log) ≡ E
    same-ends = ap (λ (c : Content). bytes_in c) ends

    pub rest-count : open_count (bytes_of left (ends_file log)) ≡ m
    rest-count =
        let rest = at.stands.at_rest in
        front_count log roots commit files images at (bytes_of left (ends_file log)) (ap (take (13 * m)) same-ends)
        (omega (arith, ap length same-ends, rest.size)) (inr (omega (arith, ap length same-ends, rest.size)))

    pub rest-used : get left (body_file log) ≡ get files (body_file log) → is_used left log.file ≡ ltb 0 m
    rest-used body =
        used_by_count left log.file (ap (λ (c : Content). is_some c) (body ∙ at.stands.has_body)) (ap (λ (c : Content). is_some c) (ends ∙ at.stands.has_ends))
        ∙ ap (ltb 0) rest-count

    -- without an open mark no file is used
    pub none-used : m ≡ 0 → get left (body_file log) ≡ get files (body_file log) → UnusedFrom (suc log.file) left → UnusedFrom 0 left
    none-used none body above other le low = elim (cases_eq other log.file) [
      | inl is ↦ subst (λ (k : ℕ). is_used left k ≡ false) (sym is) (rest-used body ∙ ap (ltb 0) none)
      | inr apart ↦ let file = (none-first none).1 in above other (omega (arith, apart, file)) low
    ]

  -- an image with the pair that reads give stores the newest commit
  pub rest-stored : ArePlaced log roots → (left : Files) → UnusedFrom (suc log.file) left
      → ((other : ℕ) → other < log.file → IsSome (get files (body_of other)) → get left (body_of other) ≡ get files (body_of other))
      → get left (body_file log) ≡ get files (body_file log) → get left (ends_file log) ≡ get files (ends_file log)
      → stored_in left ≡ Some (newest_stored log.file files roots commit)
  rest-stored placed left above lower body ends = elim (cases_lt 0 m) [
    | inl some ↦
        let more : 0 < log.end = elim (cases_lt 0 log.end) [
          | inl lt ↦ lt
          | inr le ↦ absurd (omega (arith, at.first_mark (omega (arith, le)), some))
        ] in
        let next : m ≡ pred m + 1 = omega (arith, some) in
        shows-stored log roots commit files images at placed more left m (record {
          above = above;
          lower = lower;
          body = body;
          has_ends = ap (λ (c : Content). is_some c) (ends ∙ at.stands.has_ends);
          some = some;
          count = rest-count left ends;
          says = ap (λ (l : List ℕ). numbers_at l (pred m)) (same-ends left ends) ∙ (at.stands.last sealed).some (pred m) next;
        })
    | inr le ↦
        let none : m ≡ 0 = omega (arith, le) in
        let end = (none-first none).0 in
        let holding : ℕ → Trees → Option Stored = λ n t. Some (record { commit = n; trees = t }) in
        unused-stores left (none-used left ends none body above)
        ∙ ap (λ (n : ℕ). holding n (λ tree. Some empty)) (sym (at.newest.no_commit end))
        ∙ ap (holding commit) (fun_ext (λ tree. sym (nothing-newest log.file files roots tree (empty_of_len roots (at.newest.no_roots end)))))
  ]

  -- so do reads
  pub reads-stored : ArePlaced log roots → stored_in files ≡ Some (newest_stored log.file files roots commit)
  reads-stored placed = rest-stored placed files at.top (λ other lt there. refl) refl refl

  -- no mark of an image fits ill
  pub rest-fits : (left : Files) → get left (body_file log) ≡ get files (body_file log) → get left (ends_file log) ≡ get files (ends_file log) → UnusedFrom (suc log.file) left
      → m ≡ 0 → (other : ℕ) → greatest_used left ≡ Some other → last_end other left < 2 ^ 64
  rest-fits left body ends above none other greatest =
      let there = greatest_used_is left other greatest in
      absurd (true≢false (sym there.0 ∙ none-used left ends none body above other (omega arith) there.1))

  -- ---- steady and settled

  pub settled-steady : Settled files images → IsSteady log files images
  settled-steady settled = record {
    sound = λ left i.
        let above = settled.above left i (suc log.file) (omega arith) at.top in
        let body = settled.each_file (body_file log) (ap (λ (c : Content). is_some c) at.stands.has_body) left i in
        let ends = settled.each_file (ends_file log) (ap (λ (c : Content). is_some c) at.stands.has_ends) left i in
        let bytes : bytes_of left (body_file log) ≡ bytes_of files (body_file log) = ap (λ (c : Content). bytes_in c) body in
        record {
          above = above;
          lower = λ other lt there. settled.each_file (body_of other) there left i;
          covers = subst (λ (l : List ℕ). Covers (bytes_of files (body_file log)) l (sealed_end log files)) (sym bytes) (omega (arith, at.reaches, at.stands.size), refl);
          fits = rest-fits left body ends above;
        };
    beside = λ file not_body not_ends. settled.each_file file;
  }

  pub steady-stored : ArePlaced log roots → IsSteady log files images → AllStore (Some (newest_stored log.file files roots commit)) images
  steady-stored placed steady left i =
      let durable = at.stands.settled sealed in
      let sound = steady.sound left i in
      rest-stored placed left sound.above sound.lower (durable.body left i) (durable.ends left i)

  pub steady-settled : ArePlaced log roots → IsSteady log files images → Settled files images
  steady-settled placed steady =
      let durable = at.stands.settled sealed in
      record {
        each_file = λ file there left i. elim (cases_eq file (body_file log)) [
          | inl is ↦ subst (λ (k : ℕ). get left k ≡ get files k) (sym is) (durable.body left i)
          | inr not_body ↦ elim (cases_eq file (ends_file log)) [
            | inl is ↦ subst (λ (k : ℕ). get left k ≡ get files k) (sym is) (durable.ends left i)
            | inr not_ends ↦ steady.beside file not_body not_ends there left i
          ]
        ];
        alike = λ left i. steady-stored placed steady left i ∙ sym (reads-stored placed);
        above = λ left i file some unused other le low. elim (cases_lt log.file file) [
          | inl gt ↦ (steady.sound left i).above other (omega (arith, gt, le)) low
          | inr not_above ↦ elim (cases_lt 0 m) [
            | inl more ↦ absurd (true≢false (sym (rest-used files refl refl ∙ lt-ltb 0 m more) ∙ unused log.file not_above at.file_fits))
            | inr le_zero ↦
                let first = (none-first (omega (arith, le_zero))).1 in
                absurd (omega (arith, first, some, not_above))
          ]
        ];
      }
