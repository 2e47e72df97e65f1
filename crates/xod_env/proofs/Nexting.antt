-- A roll that is prepared, and an append to the next log file: what the two calls leave of an environment.
use Rattle.std.proofs.Common.{◌≡◌, ◌<◌, ◌≤◌, ◌⊎◌, ℕ, ◌+◌, Bool, true, false, ◌&&◌, if◌then◌else◌, List, [], ◌++◌, is_some, refl, sym, ◌∙◌, ap, subst, arith, inl, inr}
use mathlib.Core.Logic.{◌≢◌}
use Rattle.std.proofs.lemmas.Bool.{cases_eq, cases_lt, cond-false, lt-leb, true≢false}
use Rattle.std.specs.FinMap.{get, insert}
use Rattle.xod_log.specs.declared.log.Log.{Log}
use Rattle.xod_log.specs.Calls.{Appends, IsClosed, IsMarked, IsRolled, Rolls}
use Rattle.xod_log.specs.Ends.{body_of, ends_of}
use Rattle.xod_log.specs.Standing.{IsSettled, Stands, appended_log, body_file, ends_file, has_pair, is_due, last_file, receiving_log, rolled_log}
use Rattle.xod_log.proofs.CallerLemmas.{appends_not_due, rolled_behind}
use Rattle.xod_root.specs.Roots.{Roots}
use Rattle.xod_volume.specs.Crash.{OnBytes, OnFile, Torn}
use Rattle.xod_volume.specs.Files.{Content, Files, bytes_of}
use Rattle.xod_env.specs.Envs.{IsAt, IsSteady, log_file_count}
use Rattle.xod_env.proofs.PairCounts.{count-more, count-same}
use Rattle.xod_env.proofs.Rolled.{roll-beside, roll-body, roll-front, roll-top}
use Rattle.xod_env.proofs.Sealed.{Either, either-at, either-steady}

-- ---- a roll that is prepared, or was refused

module _ (log : Log) (roots : Roots) (commit : ℕ) (files : Files) (images : Files → Type 0) (at : IsAt log roots commit files images)
    (mid : Files) (r : Rolls log (bytes_of files (body_file log)) (bytes_of files (ends_file log)) files mid) (now : Log) (either : Either log now) where
  pub prepared-at : (now_images : Files → Type 0) → Stands now mid now_images → IsAt now roots commit mid now_images
  prepared-at now_images stands = either-at log roots commit files images at mid (roll-body log files mid at.stands.has_body r) (roll-front log files mid at.stands.has_body r)
      (roll-top log (bytes_of files (body_file log)) (bytes_of files (ends_file log)) files mid r at.top) now now_images either stands

  pub prepared-steady : IsSteady log files images → log.file < last_file → (now_images : Files → Type 0)
      → ((left : Files) → now_images left → (was : Files) × images was × Rolls log (bytes_of files (body_file log)) (bytes_of files (ends_file log)) was left)
      → ((other : ℕ) → other ≢ ends_file log → IsSettled other files images → IsSettled other mid now_images)
      → Stands now mid now_images → IsSteady now mid now_images
  prepared-steady steady room now_images each settled stands =
      either-steady log roots commit files images at mid (roll-body log files mid at.stands.has_body r) (roll-front log files mid at.stands.has_body r)
      (roll-top log (bytes_of files (body_file log)) (bytes_of files (ends_file log)) files mid r at.top) steady now_images
      (λ left i.
      let from = each left i in
      (from.0, from.1, roll-beside log (bytes_of files (body_file log)) (bytes_of files (ends_file log)) from.0 left room from.2 (steady.sound from.0 from.1).above, from.2.pair))
      (λ file not_body not_ends. settled file not_ends (steady.beside file not_body not_ends)) now either stands

-- ---- how many log files there are

pair-has : (log : Log) (B E : List ℕ) (was left : Files) → is_some (get was (body_file log)) ≡ true → IsClosed log was left ⊎ IsMarked log B E left
    → (is_some (get left (body_file log)) ≡ true) × (is_some (get left (ends_file log)) ≡ true)
pair-has log B E was left there (inl c) = (ap (λ (x : Content). is_some x) c.body ∙ there, ap (λ (x : Content). is_some x) c.has_ends)
pair-has log B E was left there (inr c) = (ap (λ (x : Content). is_some x) c.whole, ap (λ (x : Content). is_some x) c.has_ends)

both-there : (a b : Bool) → a ≡ true → b ≡ true → (a && b) ≡ true
both-there a b p q = ap (λ (x : Bool). x && b) p ∙ q

pub roll-pairs : (log : Log) (B E : List ℕ) (was left : Files) → is_some (get was (body_file log)) ≡ true → is_some (get was (ends_file log)) ≡ true → Rolls log B E was left
    → (other : ℕ) → other ≢ log.file + 1 → has_pair left other ≡ has_pair was other
roll-pairs log B E was left body ends r other apart = elim (cases_eq other log.file) [
  | inl is ↦
      let has = pair-has log B E was left body r.pair in
      subst (λ (k : ℕ). has_pair left k ≡ has_pair was k) (sym is) (both-there _ _ has.0 has.1 ∙ sym (both-there _ _ body ends))
  | inr away ↦ elim (cases_lt other log.file) [
    | inl lt ↦ same (r.others (body_of other) (inl (omega (arith, lt)))) (r.others (ends_of other) (inl (omega (arith, lt))))
    | inr ge ↦
        let far : log.file + 2 ≤ other = omega (arith, ge, away, apart) in
        same (r.others (body_of other) (inr (omega (arith, far)))) (r.others (ends_of other) (inr (omega (arith, far))))
  ]
]
  where
    same : get left (body_of other) ≡ get was (body_of other) → get left (ends_of other) ≡ get was (ends_of other) → has_pair left other ≡ has_pair was other
    same body ends = ap (λ (c : Content). is_some c && is_some (get left (ends_of other))) body ∙ ap (λ (c : Content). is_some (get was (body_of other)) && is_some c) ends

same-by : (before now : Files) (file : ℕ) → ((other : ℕ) → other ≢ file → has_pair now other ≡ has_pair before other) → has_pair now file ≡ has_pair before file → (other : ℕ) → has_pair now other ≡ has_pair before other
same-by before now file others own other = elim (cases_eq other file) [
  | inl is ↦ subst (λ (k : ℕ). has_pair now k ≡ has_pair before k) (sym is) own
  | inr apart ↦ others other apart
]

pub count-next : (before now : Files) (file : ℕ) → file ≤ last_file → ((other : ℕ) → other ≢ file → has_pair now other ≡ has_pair before other) → (was is : Bool)
    → was ≡ has_pair before file → is ≡ has_pair now file → (was ≡ true → is ≡ true)
    → log_file_count now + (if was then 1 else 0) ≡ log_file_count before + (if is then 1 else 0)
count-next before now file low others true true was_is is_is kept = ap (λ (n : ℕ). n + 1) (count-same before now (same-by before now file others (sym is_is ∙ was_is)))
count-next before now file low others false false was_is is_is kept = ap (λ (n : ℕ). n + 0) (count-same before now (same-by before now file others (sym is_is ∙ was_is)))
count-next before now file low others false true was_is is_is kept =
    let more = count-more before now file low others (sym was_is) (sym is_is) in
    omega (arith, more)
count-next before now file low others true false was_is is_is kept = absurd (true≢false (sym (kept refl)))

-- ---- the log on the next file

pub next-not-due : (log next : Log) → next ≡ rolled_log log → 0 < log.target → is_due next ≡ false
next-not-due log next is some = ap is_due is ∙ lt-leb log.target 0 some

pub next-log : (log next now : Log) (count back : ℕ) → next ≡ rolled_log log → is_due next ≡ false → now ≡ appended_log (receiving_log next) count back → now ≡ appended_log (rolled_log log) count back
next-log log next now count back is not_due same =
    same ∙ ap (λ (l : Log). appended_log l count back) (cond-false (is_due next) (rolled_log next) next not_due ∙ is)

-- ---- the block behind it

module _ (log next : Log) (is : next ≡ rolled_log log) (not_due : is_due next ≡ false) (count : ℕ) (body ends : List ℕ) (mid after : Files) (reads : Appends next count body ends mid after) where
  next-torn : OnFile (body_file next) (OnBytes (Torn next.end count)) mid after
  next-torn = appends_not_due next body ends count not_due mid after reads

  pub next-over : (other : ℕ) → other ≢ body_of (log.file + 1) → get after other ≡ get mid other
  next-over other apart = next-torn.others other (λ e. apart (e ∙ ap body_file is))

pub rolled-then : (log next : Log) (block : List ℕ) (files mid after : Files) → next ≡ rolled_log log → IsRolled log [] files mid
    → after ≡ insert mid (body_file next) (bytes_of mid (body_file next) ++ block) → IsRolled log block files after
rolled-then log next block files mid after is rolled same =
    rolled_behind log block files mid after rolled (subst (λ (l : Log). after ≡ insert mid (body_file l) (bytes_of mid (body_file l) ++ block)) is same)
