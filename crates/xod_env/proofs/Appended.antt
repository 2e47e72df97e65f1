-- What a block behind the newest one leaves of an environment.
use Rattle.std.proofs.Common.{◌≡◌, ◌<◌, ◌≤◌, ◌⊎◌, ℕ, pred, ◌+◌, ◌*◌, ◌-◌, ◌^◌, Bool, true, false, ◌&&◌, cond, eqb, ltb, List, ◌++◌, length, drop, Some, None, is_some, refl, sym, ◌∙◌, ap, subst, arith, inl, inr}
use mathlib.Core.Logic.{◌≢◌}
use Rattle.std.proofs.Math.Path.{fun_ext}
use Rattle.std.proofs.lemmas.Bool.{cases_eq, cases_lt, cond-true, cond-false, eq-eqb, ne_eqb}
use Rattle.std.proofs.lemmas.List.{take-append-le, drop-drop, drop_at}
use Rattle.std.specs.FinMap.{get, insert}
use Rattle.xod_base.specs.Views.{Trees}
use Rattle.xod_block.specs.declared.address.Address.{Address}
use Rattle.xod_block.specs.Addresses.{number_of}
use Rattle.xod_block.specs.Bodies.{Bodies}
use Rattle.xod_block.specs.Maps.{OnlyMore}
use Rattle.xod_log.specs.declared.log.Log.{Log}
use Rattle.xod_log.specs.Ends.{end_at, body_of, ends_of}
use Rattle.xod_log.specs.Standing.{Stands, appended_log, body_file, ends_file, has_pair, is_due, is_last, next_place_of, receiving_log, rolled_log}
use Rattle.xod_log.proofs.CallerLemmas.{appended_file, files_apart, has_bytes, on_some, weakened}
use Rattle.xod_pages.specs.Lent.{lent_bodies}
use Rattle.xod_recover.specs.Images.{Stores}
use Rattle.xod_recover.specs.Opened.{is_used, open_count}
use Rattle.xod_recover.specs.Tails.{Covers}
use Rattle.xod_recover.proofs.CallerLemmas.{greatest_alike, same_used}
use Rattle.xod_root.specs.Roots.{Roots}
use Rattle.xod_tables.specs.Reading.{rows_of}
use Rattle.xod_volume.specs.Crash.{OnBytes, OnFile, Passes, Torn}
use Rattle.xod_volume.specs.Files.{Content, Files, bytes_in, bytes_of}
use Rattle.xod_volume.proofs.CallerLemmas.{Torn-front, get_other}
use Rattle.xod_env.specs.Blocks.{IsNextBlock, records_with, trees_with}
use Rattle.xod_env.specs.Envs.{IsAt, IsSound, IsSteady, bodies_up_to, env_records, env_trees, newest_stored, sealed_end}
use Rattle.xod_env.proofs.Growing.{block-more}
use Rattle.xod_env.proofs.Reaching.{body-not, body-up-to, map-kept}
use Rattle.xod_env.proofs.Stepping.{append-step, last_end-over}

-- a body that is there with others bytes, and the same ends
used-over : (log : Log) (left was : Files) → get left (ends_file log) ≡ get was (ends_file log) → is_some (get left (body_file log)) ≡ true → is_some (get was (body_file log)) ≡ true → is_used left log.file ≡ is_used was log.file
unfolding is_used
used-over log left was ends body was_body =
    ap (λ (b : Bool). b && (is_some (get left (ends_file log)) && ltb 0 (open_count (bytes_of left (ends_file log))))) (body ∙ sym was_body)
    ∙ ap (λ (c : Content). is_some (get was (body_file log)) && (is_some c && ltb 0 (open_count (bytes_in c)))) ends

-- where the next block goes
either-way : (b : Bool) (x y : Address) → y ≡ x → cond b x y ≡ x
either-way true x y is = refl
either-way false x y is = is

pub place-here : (log : Log) → is_due log ≡ false → next_place_of log ≡ record { file = log.file; at = log.end }
place-here log not_due =
    let here : receiving_log log ≡ log = cond-false (is_due log) (rolled_log log) log not_due in
    let place : Log → Address = λ l. record { file = l.file; at = l.end } in
    either-way (is_last log) (place log) (place (receiving_log log)) (ap place here)

pub root-behind : (front block : List ℕ) (end back : ℕ) → length front ≡ end → back ≤ length block → drop ((end + length block) - back) (front ++ block) ≡ drop (length block - back) block
root-behind front block end back size within =
    let at : (end + length block) - back ≡ end + (length block - back) = omega (arith, within) in
    ap (λ (n : ℕ). drop n (front ++ block)) at ∙ sym (drop-drop (length block - back) end (front ++ block)) ∙ ap (drop (length block - back)) (drop_at front block end size)

module _ (log : Log) (roots : Roots) (commit : ℕ) (files : Files) (images : Files → Type 0) (at : IsAt log roots commit files images)
    (block : List ℕ) (back : ℕ) (after : Files) (is : after ≡ insert files (body_file log) (bytes_of files (body_file log) ++ block)) where
  abbrev B : List ℕ
  B = bytes_of files (body_file log)

  abbrev next : Log
  next = appended_log log (length block) back

  other-same : (file : ℕ) → file ≢ body_file log → get after file ≡ get files file
  other-same file apart = ap (λ (F : Files). get F file) is ∙ get_other files (body_file log) file (Some (B ++ block)) apart

  own-there : get after (body_file log) ≡ Some (B ++ block)
  own-there = appended_file files after (body_file log) block B at.stands.has_body is

  own-bytes : bytes_of after (body_file log) ≡ B ++ block
  own-bytes = (has_bytes after (body_file log) (B ++ block) own-there).1

  ends-same : get after (ends_file log) ≡ get files (ends_file log)
  ends-same = other-same (ends_file log) (λ e. files_apart log.file (sym e))

  -- the last open mark is as it was
  pub end-same : sealed_end next after ≡ sealed_end log files
  end-same = ap (λ (c : Content). cond (eqb log.marks 0) 0 (end_at (bytes_in c) (pred log.marks))) ends-same

  abbrev bodies : Bodies
  bodies = lent_bodies (bodies_up_to log.file files)

  bodies-are : (other : ℕ) → lent_bodies (bodies_up_to log.file after) other ≡ cond (eqb other log.file) (bodies other ++ block) (bodies other)
  bodies-are other = elim (cases_eq other log.file) [
    | inl same ↦
        let le : other ≤ log.file = omega (arith, same) in
        ap (λ (c : Content). bytes_in c) (body-up-to log.file other after le)
        ∙ ap (λ (k : ℕ). bytes_of after (body_of k)) same
        ∙ own-bytes
        ∙ ap (λ (k : ℕ). bytes_of files (body_of k) ++ block) (sym same)
        ∙ ap (λ (c : Content). bytes_in c ++ block) (sym (body-up-to log.file other files le))
        ∙ sym (cond-true (eqb other log.file) (bodies other ++ block) (bodies other) (eq-eqb other log.file same))
    | inr apart ↦ unchanged other apart (cases_lt log.file other) ∙ sym (cond-false (eqb other log.file) (bodies other ++ block) (bodies other) (ne_eqb other log.file apart))
  ]
    where
      unchanged : (other : ℕ) → other ≢ log.file → (log.file < other) ⊎ (other ≤ log.file) → lent_bodies (bodies_up_to log.file after) other ≡ bodies other
      unchanged other apart (inl gt) = ap (λ (c : Content). bytes_in c) (body-not log.file other after gt ∙ sym (body-not log.file other files gt))
      unchanged other apart (inr le) = ap (λ (c : Content). bytes_in c) (body-up-to log.file other after le ∙ other-same (body_of other) (λ e. apart (omega (arith, e))) ∙ sym (body-up-to log.file other files le))

  own-size : length (bodies log.file) ≡ log.end
  own-size = ap (λ (c : Content). length (bytes_in c)) (body-up-to log.file log.file files (omega arith)) ∙ at.stands.size

  module _ (not_due : is_due log ≡ false) (fits : log.end + length block < 2 ^ 64) where
    with-more : (n : ℕ) → OnlyMore (records_with log files block) (env_records log.file after) n
    with-more n =
        let start : log.file * 2 ^ 64 + length (bodies log.file) ≡ number_of (next_place_of log) =
        ap (λ (k : ℕ). log.file * 2 ^ 64 + k) own-size ∙ sym (ap (λ (place : Address). number_of place) (place-here log not_due)) in
        block-more bodies (lent_bodies (bodies_up_to log.file after)) log.file (number_of (next_place_of log)) block start (omega (arith, fits, own-size)) bodies-are n

    module _ (new_roots : Roots) (new_commit : ℕ) (fine : IsNextBlock log files block back new_roots new_commit) where
      pub trees-next : env_trees log.file after new_roots ≡ trees_with log files block new_roots
      trees-next = fun_ext (λ tree. map-kept (records_with log files block) (env_records log.file after) (get new_roots tree) (λ place same. with-more (number_of place)) (fine.maps tree))

      maps-next : (tree : ℕ) → is_some (env_trees log.file after new_roots tree) ≡ true
      maps-next tree = ap (λ (t : Trees). is_some (t tree)) trees-next ∙ fine.maps tree

      more-than : 0 < length block
      more-than = omega (arith, fine.some, fine.within)

      pub at-next : back < 2 ^ 32 → (now_images : Files → Type 0) → Stands next after now_images → IsAt next new_roots new_commit after now_images
      at-next back_fits now_images stands =
          let some = more-than in
          let reaches = at.reaches in
          record {
            stands = stands;
            file_fits = at.file_fits;
            end_fits = fits;
            back_fits = back_fits;
            newest = record {
              no_commit = λ none. absurd (omega (arith, none, some));
              no_roots = λ none. absurd (omega (arith, none, some));
              within = omega (arith, fine.within);
              fits = fine.fits;
              root = λ lt. ap (drop ((log.end + length block) - back)) own-bytes ∙ root-behind B block log.end back at.stands.size fine.within ∙ fine.root;
            };
            maps = maps-next;
            tables = ap (λ (t : Trees). is_some (rows_of t)) trees-next ∙ fine.tables;
            first_file = λ none. absurd (omega (arith, none, some));
            first_mark = λ none. absurd (omega (arith, none, some));
            first_seal = λ none. absurd (omega (arith, none, some));
            top = λ other gt low. same_used after files other (other-same (body_of other) (λ e. omega (arith, e, gt))) (other-same (ends_of other) (λ e. omega (arith, e, gt))) ∙ at.top other gt low;
            reaches = omega (arith, end-same, reaches);
          }

  -- ---- what a crash may leave

  module _ (steady : IsSteady log files images) (now_images : Files → Type 0)
      (each : (left : Files) → now_images left → (was : Files) × images was × OnFile (body_file log) (OnBytes (Torn log.end (length block))) was left) (stands : Stands next after now_images) where
    next-sound : (left : Files) → now_images left → IsSound next after left
    next-sound left i =
        let from = each left i in
        let was = from.0 in
        let on = from.2 in
        let before = steady.sound was from.1 in
        let stood = at.stands.each was from.1 in
        let here = on_some (Torn log.end (length block)) (get was (body_file log)) (get left (body_file log)) (bytes_of was (body_file log)) stood.has_body on.here in
        let torn = here.2 in
        let body = has_bytes left (body_file log) here.0 here.1 in
        let covers = before.covers in
        let end = sealed_end log files in
        let reaches = at.reaches in
        let ends : get left (ends_file log) ≡ get was (ends_file log) = on.others (ends_file log) (λ e. files_apart log.file (sym e)) in
        let own_used : is_used left log.file ≡ is_used was log.file = used-over log left was ends (ap (λ (c : Content). is_some c) here.1) (ap (λ (c : Content). is_some c) stood.has_body) in
        let used : (file : ℕ) → is_used left file ≡ is_used was file = λ file. elim (cases_eq file log.file) [
          | inl same ↦ subst (λ (k : ℕ). is_used left k ≡ is_used was k) (sym same) own_used
          | inr apart ↦ same_used left was file (on.others (body_of file) (λ e. apart (omega (arith, e)))) (on.others (ends_of file) (λ e. omega (arith, e)))
        ] in
        record {
          above = λ other gt low. used other ∙ before.above other gt low;
          lower = λ other lt there.
              let away : body_of other ≢ body_file log = λ e. omega (arith, e, lt) in
              let same = other-same (body_of other) away in
              on.others (body_of other) away ∙ before.lower other lt (ap (λ (c : Content). is_some c) (sym same) ∙ there) ∙ sym same;
          covers =
              let grown : Covers (B ++ block) here.0 end = (
                omega (arith, covers.0, torn.no_shorter),
                Torn-front log.end (length block) end (bytes_of was (body_file log)) here.0 reaches torn ∙ covers.1 ∙ sym (take-append-le end B block (omega (arith, reaches, at.stands.size))),
              ) in
              subst (Covers (bytes_of after (body_file log)) (bytes_of left (body_file log))) (sym end-same)
              (subst (λ (l : List ℕ). Covers l (bytes_of left (body_file log)) end) (sym own-bytes) (subst (λ (l : List ℕ). Covers (B ++ block) l end) (sym body.1) grown));
          fits = λ none other greatest.
              let ends_other : get left (ends_of other) ≡ get was (ends_of other) = on.others (ends_of other) (λ e. omega (arith, e)) in
              subst (λ (n : ℕ). n < 2 ^ 64) (sym (last_end-over other was left ends_other)) (before.fits none other (sym (greatest_alike left was used) ∙ greatest));
        }

    pub next-steady : IsSteady next after now_images
    next-steady = record {
      sound = next-sound;
      beside = λ file not_body not_ends there left i.
          let from = each left i in
          let same = other-same file not_body in
          from.2.others file not_body ∙ steady.beside file not_body not_ends (ap (λ (c : Content). is_some c) (sym same) ∙ there) from.0 from.1 ∙ sym same;
    }

-- ---- since an append began

pub since-append : (log : Log) (roots : Roots) (commit count : ℕ) (files : Files) (t0 t1 : ℕ) (i0 i1 : ℕ → Files → Type 0) → IsAt log roots commit files (i0 t0) → IsSteady log files (i0 t0)
    → Passes t0 t1 i0 i1 (OnFile (body_file log) (OnBytes (Torn log.end count))) → Passes t0 t1 i0 i1 (Stores (Some (newest_stored log.file files roots commit)))
since-append log roots commit count files t0 t1 i0 i1 at steady passes =
    weakened t0 t1 i0 i1 (OnFile (body_file log) (OnBytes (Torn log.end count))) (Stores (Some (newest_stored log.file files roots commit))) passes
    (λ was left im on. inl (append-step log roots commit files (i0 t0) at was im (steady.sound was im) count left on))

-- ---- where nothing was done

pub at-still : (log now : Log) (roots : Roots) (commit : ℕ) (files after : Files) (images now_images : Files → Type 0) → IsAt log roots commit files images → now ≡ log → after ≡ files
    → Stands now after now_images → IsAt now roots commit after now_images
at-still log now roots commit files after images now_images at is same stands =
    let here : Stands log files now_images = subst (λ (F : Files). Stands log F now_images) same (subst (λ (l : Log). Stands l after now_images) is stands) in
    let kept : IsAt log roots commit files now_images = record {
      stands = here;
      file_fits = at.file_fits;
      end_fits = at.end_fits;
      back_fits = at.back_fits;
      newest = at.newest;
      maps = at.maps;
      tables = at.tables;
      first_file = at.first_file;
      first_mark = at.first_mark;
      first_seal = at.first_seal;
      top = at.top;
      reaches = at.reaches;
    } in
    subst (λ (l : Log). IsAt l roots commit after now_images) (sym is) (subst (λ (F : Files). IsAt log roots commit F now_images) (sym same) kept)

pub steady-still : (log now : Log) (files after : Files) (images now_images : Files → Type 0) → IsSteady log files images → now ≡ log → after ≡ files
    → ((left : Files) → now_images left → images left) → IsSteady now after now_images
steady-still log now files after images now_images steady is same fewer =
    let kept : IsSteady log files now_images = record {
      sound = λ left i. steady.sound left (fewer left i);
      beside = λ file not_body not_ends there left i. steady.beside file not_body not_ends there left (fewer left i);
    } in
    subst (λ (l : Log). IsSteady l after now_images) (sym is) (subst (λ (F : Files). IsSteady log F now_images) (sym same) kept)

-- ---- log files

-- a body may have changed behind its end, and the same log files are there
pub torn-pairs : (log : Log) (count : ℕ) (files after : Files) → is_some (get files (body_file log)) ≡ true → OnFile (body_file log) (OnBytes (Torn log.end count)) files after
    → (file : ℕ) → has_pair after file ≡ has_pair files file
torn-pairs log count files after there on file =
    let ends : get after (ends_of file) ≡ get files (ends_of file) = on.others (ends_of file) (λ e. omega (arith, e)) in
    ap (λ (c : Content). is_some (get after (body_of file)) && is_some c) ends
    ∙ ap (λ (b : Bool). b && is_some (get files (ends_of file))) (bodies (cases_eq file log.file))
  where
    still : (old new : Content) → is_some old ≡ true → OnBytes (Torn log.end count) old new → is_some new ≡ true
    still None new has step = absurd cc
    still (Some was) new has step = ap (λ (c : Content). is_some c) step.1

    bodies : (file ≡ log.file) ⊎ (file ≢ log.file) → is_some (get after (body_of file)) ≡ is_some (get files (body_of file))
    bodies (inl is) = subst (λ (k : ℕ). is_some (get after (body_of k)) ≡ is_some (get files (body_of k))) (sym is) (still (get files (body_file log)) (get after (body_file log)) there on.here ∙ sym there)
    bodies (inr apart) = ap (λ (c : Content). is_some c) (on.others (body_of file) (λ e. apart (omega (arith, e))))
