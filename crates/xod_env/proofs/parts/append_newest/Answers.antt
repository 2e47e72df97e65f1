use Rattle.std.proofs.Common.{rules, ◌≡◌, ◌∙◌, ◌+◌, ◌<◌, ◌^◌, ℕ, inl, inr, IsTrue, IsErrOf, is_err, is_some, List, length, sym, ap, subst, arith, false, true≢false}
use Rattle.std.proofs.lemmas.Bool.{cond-false}
use Rattle.xod_volume.specs.Crash.{OnBytes, OnFile, Passes, Torn}
use Rattle.xod_volume.specs.Files.{Content, Files, bytes_of}
use Rattle.xod_log.specs.declared.error.LogError.TheVariants as log_error
use Rattle.xod_log.specs.declared.log.Log.{Log}
use Rattle.xod_log.specs.Calls.{Appends}
use Rattle.xod_log.specs.Standing.{Stands, appended_log, body_file, ends_file, is_due, receiving_log, rolled_log}
use Rattle.xod_log.proofs.CallerLemmas.{appends_not_due, unmoved, weakened}
use Rattle.xod_env.specs.Envs.{IsAt, IsSteady, env_trees}
use Rattle.xod_env.proofs.Answers.{by-error}
use Rattle.xod_env.proofs.Appended.{at-next, at-still, next-steady, since-append, steady-still, torn-pairs, trees-next}
use Rattle.xod_env.proofs.Growing.{grown-trees}
use Rattle.xod_env.proofs.Lasting.{pair_body}
use Rattle.xod_env.proofs.PairCounts.{count-same}
use Rattle.xod_env.proofs.parts.append_newest.Given.{Over}
use Rattle.xod_env.proofs.parts.append_newest.Goals as goal

module _ (log : Log) (count : ℕ) (not_due : is_due log ≡ false) (F G : Files) where
  abbrev B : List ℕ
  B = bytes_of F (body_file log)

  abbrev E : List ℕ
  E = bytes_of F (ends_file log)

  abbrev Step : Files → Files → Type 0
  Step = OnFile (body_file log) (OnBytes (Torn log.end count))

  torn : Appends log count B E F G → Step F G
  torn reads = appends_not_due log B E count not_due F G reads

  all-torn : (t0 t1 : ℕ) (i0 i1 : ℕ → Files → Type 0) → Passes t0 t1 i0 i1 (Appends log count B E) → Passes t0 t1 i0 i1 Step
  all-torn t0 t1 i0 i1 passes = weakened t0 t1 i0 i1 (Appends log count B E) Step passes (λ was left im. appends_not_due log B E count not_due was left)

here : (log now : Log) (count back : ℕ) → is_due log ≡ false → now ≡ appended_log (receiving_log log) count back → now ≡ appended_log log count back
here log now count back not_due is = is ∙ ap (λ (l : Log). appended_log l count back) (cond-false (is_due log) (rolled_log log) log not_due)

-- where the device did not fail, nothing was done
still : (g : Over) (c : goal.After-from_residual g) → IsTrue (g.V.Volume.tells c.args.volume.now) → ¬ (IsErrOf c.append_block.result log_error.Device)
    → (g.V.Volume.files c.append_block.new.volume ≡ g.V.Volume.files c.args.volume.now)
    × ((left : Files) → g.V.Volume.may_leave c.append_block.new.volume (g.V.Volume.moment c.append_block.new.volume) left → g.V.Volume.may_leave c.args.volume.now (g.V.Volume.moment c.args.volume.now) left)
still g c told fine =
    let log = c.args.log.now in
    let F = g.V.Volume.files c.args.volume.now in
    by-error c.append_block.result _ (ap is_err (c.in_err-append_block.was {u = tt})) fine
    (λ last e. let same = (c.append_block.ensures.untouched last e).1 in (ap g.V.Volume.files same, λ left i. subst (λ v. g.V.Volume.may_leave v (g.V.Volume.moment v) left) same i))
    (λ e.
    let same = c.append_block.ensures.unchanged told c.requires.not_due e in (
      same.0,
      unmoved (g.V.Volume.moment c.args.volume.now) (g.V.Volume.moment c.append_block.new.volume) (g.V.Volume.may_leave c.args.volume.now) (g.V.Volume.may_leave c.append_block.new.volume)
          (Appends log (length c.args.block.now) (bytes_of F (body_file log)) (bytes_of F (ends_file log))) same.1 (c.append_block.ensures.leaves told),
    ))

refused-same : (g : Over) (c : goal.After-from_residual g) → c.append_block.new.self ≡ c.args.log.now
refused-same g c = elim c.in_err-append_block.ensures.refused [
  | inl is ↦ is
  | inr due ↦ absurd (true≢false (sym due.0 ∙ c.requires.not_due))
]

pub returns-in_err-append_block-clause-at_kept : goal.returns-in_err-append_block-clause-at_kept
returns-in_err-append_block-clause-at_kept g c told roots commit at is not_device =
    let fine : ¬ (IsErrOf c.append_block.result log_error.Device) = λ bad. search rules in
    let v1 = c.append_block.new.volume in
    at-still c.args.log.now c.append_block.new.self roots commit (g.V.Volume.files c.args.volume.now) (g.V.Volume.files v1) _ (g.V.Volume.may_leave v1 (g.V.Volume.moment v1)) at
    (refused-same g c) (still g c told fine).0 (c.append_block.ensures.stands_on told fine)

pub returns-in_err-append_block-clause-steady : goal.returns-in_err-append_block-clause-steady
returns-in_err-append_block-clause-steady g c told roots commit at steady not_device =
    let fine : ¬ (IsErrOf c.append_block.result log_error.Device) = λ bad. search rules in
    let v0 = c.args.volume.now in
    let v1 = c.append_block.new.volume in
    steady-still c.args.log.now c.append_block.new.self (g.V.Volume.files v0) (g.V.Volume.files v1) (g.V.Volume.may_leave v0 (g.V.Volume.moment v0)) (g.V.Volume.may_leave v1 (g.V.Volume.moment v1)) steady
    (refused-same g c) (still g c told fine).0 (still g c told fine).1

pub returns-in_err-append_block-clause-old_trees : goal.returns-in_err-append_block-clause-old_trees
returns-in_err-append_block-clause-old_trees g c told roots commit at =
    let log = c.args.log.now in
    let F = g.V.Volume.files c.args.volume.now in
    let G = g.V.Volume.files c.append_block.new.volume in
    let count = length c.args.block.now in
    grown-trees log roots commit F _ at count G (torn log count c.requires.not_due F G (c.append_block.ensures.reads told))

pub returns-in_err-append_block-clause-count : goal.returns-in_err-append_block-clause-count
returns-in_err-append_block-clause-count g c told =
    let log = c.args.log.now in
    let F = g.V.Volume.files c.args.volume.now in
    let G = g.V.Volume.files c.append_block.new.volume in
    let count = length c.args.block.now in
    count-same F G (torn-pairs log count F G (ap (λ (x : Content). is_some x) (c.requires.stands told).has_body) (torn log count c.requires.not_due F G (c.append_block.ensures.reads told)))

pub returns-in_err-append_block-clause-crash : goal.returns-in_err-append_block-clause-crash
returns-in_err-append_block-clause-crash g c told roots commit at steady =
    let log = c.args.log.now in
    let v0 = c.args.volume.now in
    let v1 = c.append_block.new.volume in
    let F = g.V.Volume.files v0 in
    let count = length c.args.block.now in
    since-append log roots commit count F (g.V.Volume.moment v0) (g.V.Volume.moment v1) (g.V.Volume.may_leave v0) (g.V.Volume.may_leave v1) at steady
    (all-torn log count c.requires.not_due F (g.V.Volume.files v1) (g.V.Volume.moment v0) (g.V.Volume.moment v1) (g.V.Volume.may_leave v0) (g.V.Volume.may_leave v1) (c.append_block.ensures.leaves told))

pub returns-clause-old_trees : goal.returns-clause-old_trees
returns-clause-old_trees g c told roots commit at =
    let log = c.args.log.now in
    let F = g.V.Volume.files c.args.volume.now in
    let G = g.V.Volume.files c.append_block.new.volume in
    let count = length c.args.block.now in
    grown-trees log roots commit F _ at count G (torn log count c.requires.not_due F G (c.append_block.ensures.reads told))

pub returns-clause-count : goal.returns-clause-count
returns-clause-count g c told =
    let log = c.args.log.now in
    let F = g.V.Volume.files c.args.volume.now in
    let G = g.V.Volume.files c.append_block.new.volume in
    let count = length c.args.block.now in
    count-same F G (torn-pairs log count F G (ap (λ (x : Content). is_some x) (c.requires.stands told).has_body) (torn log count c.requires.not_due F G (c.append_block.ensures.reads told)))

pub returns-clause-body_stays : goal.returns-clause-body_stays
returns-clause-body_stays g c told =
    let log = c.args.log.now in
    let F = g.V.Volume.files c.args.volume.now in
    let G = g.V.Volume.files c.append_block.new.volume in
    let count = length c.args.block.now in
    let stands = c.requires.stands told in
    pair_body log F G _ stands
    (torn-pairs log count F G (ap (λ (x : Content). is_some x) stands.has_body) (torn log count c.requires.not_due F G (c.append_block.ensures.reads told)) log.file)

pub returns-clause-crash : goal.returns-clause-crash
returns-clause-crash g c told roots commit at steady =
    let log = c.args.log.now in
    let v0 = c.args.volume.now in
    let v1 = c.append_block.new.volume in
    let F = g.V.Volume.files v0 in
    let count = length c.args.block.now in
    since-append log roots commit count F (g.V.Volume.moment v0) (g.V.Volume.moment v1) (g.V.Volume.may_leave v0) (g.V.Volume.may_leave v1) at steady
    (all-torn log count c.requires.not_due F (g.V.Volume.files v1) (g.V.Volume.moment v0) (g.V.Volume.moment v1) (g.V.Volume.may_leave v0) (g.V.Volume.may_leave v1) (c.append_block.ensures.leaves told))

pub returns-clause-at : goal.returns-clause-at
returns-clause-at g c told roots commit new_roots new_commit at fine =
    let log = c.args.log.now in
    let now = c.append_block.new.self in
    let v1 = c.append_block.new.volume in
    let F = g.V.Volume.files c.args.volume.now in
    let G = g.V.Volume.files v1 in
    let I = g.V.Volume.may_leave v1 (g.V.Volume.moment v1) in
    let block = c.args.block.now in
    let back = c.args.back in
    let is : now ≡ appended_log log (length block) back = here log now (length block) back c.requires.not_due c.in_ok-append_block.ensures.log in
    let end : now.end ≡ log.end + length block = ap (λ (l : Log). l.end) is in
    let fits : now.end < 2 ^ 64 = c.in_ok-append_block.ensures.fits in
    let ok : ¬ (IsErrOf c.append_block.result log_error.Device) = λ bad. search rules in
    subst (λ (l : Log). IsAt l new_roots new_commit G I) (sym is)
    (at-next log roots commit F _ at block back G (c.in_ok-append_block.ensures.behind told c.requires.not_due) c.requires.not_due (omega (arith, fits, end)) new_roots new_commit fine c.ranges.back.fits I
    (subst (λ (l : Log). Stands l G I) is (c.append_block.ensures.stands_on told ok)))

pub returns-clause-new_trees : goal.returns-clause-new_trees
returns-clause-new_trees g c told roots commit new_roots new_commit at fine =
    let log = c.args.log.now in
    let now = c.append_block.new.self in
    let F = g.V.Volume.files c.args.volume.now in
    let G = g.V.Volume.files c.append_block.new.volume in
    let block = c.args.block.now in
    let back = c.args.back in
    let is : now ≡ appended_log log (length block) back = here log now (length block) back c.requires.not_due c.in_ok-append_block.ensures.log in
    let end : now.end ≡ log.end + length block = ap (λ (l : Log). l.end) is in
    let fits : now.end < 2 ^ 64 = c.in_ok-append_block.ensures.fits in
    ap (λ (l : Log). env_trees l.file G new_roots) is
    ∙ trees-next log roots commit F _ at block back G (c.in_ok-append_block.ensures.behind told c.requires.not_due) c.requires.not_due (omega (arith, fits, end)) new_roots new_commit fine

pub returns-clause-steady : goal.returns-clause-steady
returns-clause-steady g c told roots commit at steady not_device =
    let log = c.args.log.now in
    let now = c.append_block.new.self in
    let v0 = c.args.volume.now in
    let v1 = c.append_block.new.volume in
    let F = g.V.Volume.files v0 in
    let G = g.V.Volume.files v1 in
    let I = g.V.Volume.may_leave v1 (g.V.Volume.moment v1) in
    let block = c.args.block.now in
    let is : now ≡ appended_log log (length block) c.args.back = here log now (length block) c.args.back c.requires.not_due c.in_ok-append_block.ensures.log in
    let passes = all-torn log (length block) c.requires.not_due F G (g.V.Volume.moment v0) (g.V.Volume.moment v1) (g.V.Volume.may_leave v0) (g.V.Volume.may_leave v1) (c.append_block.ensures.leaves told) in
    let ok : ¬ (IsErrOf c.append_block.result log_error.Device) = λ bad. search rules in
    subst (λ (l : Log). IsSteady l G I) (sym is)
    (next-steady log roots commit F _ at block c.args.back G (c.in_ok-append_block.ensures.behind told c.requires.not_due) steady I
    (λ left i. passes.each (g.V.Volume.moment v1) left passes.later (omega arith) i)
    (subst (λ (l : Log). Stands l G I) is (c.append_block.ensures.stands_on told ok)))
