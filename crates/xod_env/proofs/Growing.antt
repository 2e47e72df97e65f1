-- A block behind the bodies: its records stand there, and what stood stays.
use Rattle.std.proofs.Common.{◌≡◌, ◌≤◌, ℕ, ◌+◌, ◌*◌, ◌^◌, cond, eqb, List, [], ◌++◌, length, drop, Some, sym, ◌∙◌, ap, subst, arith, inl, inr}
use mathlib.Core.Logic.{◌≢◌}
use Rattle.std.proofs.Math.Path.{fun_ext}
use Rattle.std.proofs.lemmas.Bool.{cases_eq, cases_lt}
use Rattle.std.proofs.lemmas.List.{append-nil, take-append-drop}
use Rattle.std.specs.FinMap.{get}
use Rattle.xod_block.specs.Addresses.{number_of}
use Rattle.xod_block.specs.Bodies.{Bodies, HasGrown, HaveGrown, appended, records_of, with_block}
use Rattle.xod_block.specs.Maps.{OnlyMore}
use Rattle.xod_block.proofs.CallerLemmas.{appended-keeps, growth-keeps}
use Rattle.xod_log.specs.Ends.{body_of}
use Rattle.xod_log.specs.declared.log.Log.{Log}
use Rattle.xod_log.specs.Standing.{body_file}
use Rattle.xod_log.proofs.CallerLemmas.{has_bytes, on_some}
use Rattle.xod_pages.specs.Lent.{lent_bodies}
use Rattle.xod_volume.specs.Crash.{OnBytes, OnFile, Torn}
use Rattle.xod_volume.specs.Files.{Content, Files, bytes_in, bytes_of}
use Rattle.xod_volume.proofs.CallerLemmas.{Torn-behind}
use Rattle.xod_env.specs.Envs.{IsAt, bodies_up_to, env_records, env_trees}
use Rattle.xod_env.proofs.Reaching.{body-not, body-up-to, map-kept}
use Rattle.xod_root.specs.Roots.{Roots}

-- ---- a block behind one body

module _ (bodies after : Bodies) (file start : ℕ) (block : List ℕ) (start_is : file * 2 ^ 64 + length (bodies file) ≡ start) (fits : length (bodies file) + length block ≤ 2 ^ 64)
    (are : (other : ℕ) → after other ≡ cond (eqb other file) (bodies other ++ block) (bodies other)) where
  pub block-more : (n : ℕ) → OnlyMore (with_block start block (records_of bodies)) (records_of after) n
  block-more n below item le is =
      let same : appended bodies file block ≡ after = fun_ext (λ other. sym (are other)) in
      let before : with_block (file * 2 ^ 64 + length (bodies file)) block (records_of bodies) below ≡ Some item = ap (λ (s : ℕ). with_block s block (records_of bodies) below) start_is ∙ is in
      sym (ap (λ (b : Bodies). records_of b below) same) ∙ appended-keeps bodies file block n fits below item le before

-- ---- a body that grew

same-grown : (old new : List ℕ) → new ≡ old → HasGrown old new
same-grown old new is = record { more = []; is = is ∙ sym (append-nil old) }

torn-grown : (n : ℕ) (old new : List ℕ) → Torn (length old) n old new → HasGrown old new
torn-grown n old new torn = record {
  more = drop (length old) new;
  is = sym (take-append-drop (length old) new) ∙ ap (λ (l : List ℕ). l ++ drop (length old) new) (Torn-behind n old new torn);
}

module _ (log : Log) (roots : Roots) (commit : ℕ) (files : Files) (images : Files → Type 0) (at : IsAt log roots commit files images)
    (count : ℕ) (after : Files) (on : OnFile (body_file log) (OnBytes (Torn log.end count)) files after) where
  abbrev B : List ℕ
  B = bytes_of files (body_file log)

  own : (is : List ℕ) × (get after (body_file log) ≡ Some is) × Torn log.end count B is
  own = on_some (Torn log.end count) (get files (body_file log)) (get after (body_file log)) B at.stands.has_body on.here

  own-grown : HasGrown B (bytes_of after (body_file log))
  own-grown =
      let torn : Torn (length B) count B own.0 = subst (λ (n : ℕ). Torn n count B own.0) (sym at.stands.size) own.2 in
      subst (HasGrown B) (sym (has_bytes after (body_file log) own.0 own.1).1) (torn-grown count B own.0 torn)

  same-other : (file : ℕ) → file ≢ log.file → get after (body_of file) ≡ get files (body_of file)
  same-other file apart = on.others (body_of file) (λ e. apart (omega (arith, e)))

  file-grown : (file : ℕ) → HasGrown (bytes_of files (body_of file)) (bytes_of after (body_of file))
  file-grown file = elim (cases_eq file log.file) [
    | inl is ↦ subst (λ (k : ℕ). HasGrown (bytes_of files (body_of k)) (bytes_of after (body_of k))) (sym is) own-grown
    | inr apart ↦ same-grown (bytes_of files (body_of file)) (bytes_of after (body_of file)) (ap (λ (c : Content). bytes_in c) (same-other file apart))
  ]

  have-grown : HaveGrown (lent_bodies (bodies_up_to log.file files)) (lent_bodies (bodies_up_to log.file after))
  have-grown file = elim (cases_lt log.file file) [
    | inl gt ↦ same-grown _ _ (ap (λ (c : Content). bytes_in c) (body-not log.file file after gt ∙ sym (body-not log.file file files gt)))
    | inr le ↦
        subst (λ (c : Content). HasGrown (bytes_in c) (bytes_in (get (bodies_up_to log.file after) (body_of file)))) (sym (body-up-to log.file file files le))
        (subst (λ (c : Content). HasGrown (bytes_of files (body_of file)) (bytes_in c)) (sym (body-up-to log.file file after le)) (file-grown file))
  ]

  grown-more : (n : ℕ) → OnlyMore (env_records log.file files) (env_records log.file after) n
  grown-more n = growth-keeps (lent_bodies (bodies_up_to log.file files)) (lent_bodies (bodies_up_to log.file after)) n have-grown

  -- the trees are as they were
  pub grown-trees : env_trees log.file after roots ≡ env_trees log.file files roots
  grown-trees = fun_ext (λ tree. map-kept (env_records log.file files) (env_records log.file after) (get roots tree) (λ place is. grown-more (number_of place)) (at.maps tree))
