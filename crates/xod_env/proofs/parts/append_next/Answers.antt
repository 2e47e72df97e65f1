use Rattle.std.proofs.Common.{rules, ◌≡◌, ◌⊎◌, ◌∙◌, ◌+◌, ◌<◌, ◌≤◌, ◌^◌, ℕ, List, inl, inr, Result, Ok, Err, Bool, IsTrue, IsErrOf, is_err, is_some, length, refl, sym, ap, subst, arith, false}
use mathlib.Core.Logic.{◌≢◌}
use Rattle.std.specs.Prelude.{if◌then◌else◌, Some}
use Rattle.std.proofs.lemmas.Bool.{cases_eq, cases_lt}
use Rattle.std.specs.FinMap.{get}
use Rattle.xod_volume.specs.Crash.{OnBytes, OnFile, Passes, Torn}
use Rattle.xod_volume.specs.Files.{Content, Files, bytes_of}
use Rattle.xod_log.specs.declared.error.LogError.{LogError}
use Rattle.xod_log.specs.declared.error.LogError.TheVariants as log_error
use Rattle.xod_log.specs.declared.log.Log.{Log}
use Rattle.xod_log.specs.Calls.{Appends, IsElsewhere, IsRolled, Rolls}
use Rattle.xod_log.specs.Standing.{IsSettled, Stands, appended_log, body_file, ends_file, is_due, last_file, rolled_log, sealed_log}
use Rattle.xod_log.proofs.CallerLemmas.{append_stands, appends_not_due, elsewhere, rested, then_append, then_append_reads, unmoved}
use Rattle.xod_recover.specs.Images.{Stores}
use Rattle.xod_root.specs.Roots.{Roots}
use Rattle.xod_env.specs.Envs.{IsAt, IsSteady, env_trees, log_file_count, newest_stored}
use Rattle.xod_env.proofs.Answers.{by-error}
use Rattle.xod_env.proofs.Appended.{at-still, steady-still, torn-pairs}
use Rattle.xod_env.proofs.Lasting.{roll_body}
use Rattle.xod_env.proofs.Nexting.{count-next, next-log, next-not-due, next-over, prepared-at, prepared-steady, roll-pairs, rolled-then}
use Rattle.xod_env.proofs.PairCounts.{count-same}
use Rattle.xod_env.proofs.Rolled.{at-rolled, roll-trees, rolled-steady, since-roll, trees-rolled}
use Rattle.xod_env.proofs.Sealed.{Either, either-file, either-sealed, now-sealed}
use Rattle.xod_env.proofs.parts.append_next.Given.{Over}
use Rattle.xod_env.proofs.parts.append_next.Goals as goal

either-refused : (log now : Log) → (now ≡ log) ⊎ (now ≡ sealed_log log) → Either log now
either-refused log now (inl is) = inl is
either-refused log now (inr is) = either-sealed log now is

-- ---- the roll was refused

is-spent : (r : Result Log LogError) (last : ℕ) → r ≡ Err (log_error.NumbersSpent last) → IsErrOf r (log_error.NumbersSpent last)
is-spent r last is = subst (λ (x : Result Log LogError). IsErrOf x (log_error.NumbersSpent last)) (sym is) refl

at-last : (n : ℕ) → n ≤ last_file → (n < last_file) ⊎ (n ≡ last_file)
at-last n le = elim (cases_lt n last_file) [
  | inl lt ↦ inl lt
  | inr ge ↦ inr (omega (arith, le, ge))
]

pub returns-in_err-next-clause-at_kept : goal.returns-in_err-next-clause-at_kept
returns-in_err-next-clause-at_kept g c told roots commit at is not_device =
    let log = c.args.log.now in
    let now = c.prepare_next.new.self in
    let v1 = c.prepare_next.new.volume in
    let fine : ¬ (IsErrOf c.prepare_next.result log_error.Device) = λ bad. search rules in
    prepared-at log roots commit (g.V.Volume.files c.args.volume.now) _ at (g.V.Volume.files v1) (c.prepare_next.ensures.reads told) now (either-refused log now c.in_err-next.ensures.refused)
    (g.V.Volume.may_leave v1 (g.V.Volume.moment v1)) (c.prepare_next.ensures.stands_on told fine)

pub returns-in_err-next-clause-old_trees : goal.returns-in_err-next-clause-old_trees
returns-in_err-next-clause-old_trees g c told roots =
    roll-trees c.args.log.now (g.V.Volume.files c.args.volume.now) (g.V.Volume.files c.prepare_next.new.volume) (c.requires.stands told).has_body (c.prepare_next.ensures.reads told) roots

pub returns-in_err-next-clause-crash : goal.returns-in_err-next-clause-crash
returns-in_err-next-clause-crash g c told roots commit at placed steady =
    let log = c.args.log.now in
    let v0 = c.args.volume.now in
    let v1 = c.prepare_next.new.volume in
    let F = g.V.Volume.files v0 in
    let P : Files → Files → Type 0 = Stores (Some (newest_stored log.file F roots commit)) in
    elim (at-last log.file at.file_fits) [
      | inl room ↦ since-roll log roots commit F (g.V.Volume.moment v0) (g.V.Volume.moment v1) (g.V.Volume.may_leave v0) (g.V.Volume.may_leave v1) at placed steady room (c.prepare_next.ensures.leaves told)
      | inr last ↦
          let same = c.prepare_next.ensures.untouched last_file (is-spent c.prepare_next.result last_file (c.prepare_next.ensures.spent.0 last)) in
          subst (λ v. Passes (g.V.Volume.moment v0) (g.V.Volume.moment v) (g.V.Volume.may_leave v0) (g.V.Volume.may_leave v) P) (sym same.1)
          (rested (g.V.Volume.moment v0) (g.V.Volume.may_leave v0) P (λ was im. inl refl))
    ]

pub returns-in_err-next-clause-steady : goal.returns-in_err-next-clause-steady
returns-in_err-next-clause-steady g c told roots commit at steady not_device =
    let log = c.args.log.now in
    let now = c.prepare_next.new.self in
    let v0 = c.args.volume.now in
    let v1 = c.prepare_next.new.volume in
    let F = g.V.Volume.files v0 in
    let M = g.V.Volume.files v1 in
    let I = g.V.Volume.may_leave v1 (g.V.Volume.moment v1) in
    let fine : ¬ (IsErrOf c.prepare_next.result log_error.Device) = λ bad. search rules in
    let passes = c.prepare_next.ensures.leaves told in
    elim (at-last log.file at.file_fits) [
      | inl room ↦ prepared-steady log roots commit F _ at M (c.prepare_next.ensures.reads told) now (either-refused log now c.in_err-next.ensures.refused) steady room I
          (λ left i. passes.each (g.V.Volume.moment v1) left passes.later (omega arith) i) (c.prepare_next.ensures.settled told fine) (c.prepare_next.ensures.stands_on told fine)
      | inr last ↦
          let same = c.prepare_next.ensures.untouched last_file (is-spent c.prepare_next.result last_file (c.prepare_next.ensures.spent.0 last)) in
          steady-still log now F M (g.V.Volume.may_leave v0 (g.V.Volume.moment v0)) I steady same.0 (ap g.V.Volume.files same.1) (λ left i. subst (λ v. g.V.Volume.may_leave v (g.V.Volume.moment v) left) same.1 i)
    ]

-- ---- the roll was prepared

has-room : (r : Result Log LogError) (next : Log) (file : ℕ) → r ≡ Ok next → (file ≡ last_file → r ≡ Err (log_error.NumbersSpent last_file)) → file ≢ last_file
has-room r next file is spent last = both (sym is ∙ spent last)
  where
    both : Ok next ≡ Err (log_error.NumbersSpent last_file) → ⊥
    both e = absurd cc

-- both calls together
module _ (log next : Log) (is : next ≡ rolled_log log) (some : 0 < log.target) (count : ℕ) (F M G : Files) (t0 t1 t2 : ℕ) (i0 i1 i2 : ℕ → Files → Type 0) where
  abbrev body : List ℕ
  body = bytes_of M (body_file next)

  abbrev ends : List ℕ
  ends = bytes_of M (ends_file next)

  not-due : is_due next ≡ false
  not-due = next-not-due log next is some

  both-rolled : Stands next M (i1 t1) → Passes t0 t1 i0 i1 (Rolls log (bytes_of F (body_file log)) (bytes_of F (ends_file log))) → Passes t1 t2 i1 i2 (Appends next count body ends)
      → Passes t0 t2 i0 i2 (Rolls log (bytes_of F (body_file log)) (bytes_of F (ends_file log)))
  both-rolled stands rolling appending = then_append log next is not-due count body ends t0 t1 t2 i0 i1 i2 M stands appending (bytes_of F (body_file log)) (bytes_of F (ends_file log)) rolling

  torn : Appends next count body ends M G → OnFile (body_file next) (OnBytes (Torn next.end count)) M G
  torn reads = appends_not_due next body ends count not-due M G reads

pub returns-in_err-append_block-clause-old_trees : goal.returns-in_err-append_block-clause-old_trees
returns-in_err-append_block-clause-old_trees g c told roots =
    let log = c.args.log.now in
    let next = c.in_ok-next.next in
    let F = g.V.Volume.files c.args.volume.now in
    let M = g.V.Volume.files c.prepare_next.new.volume in
    let G = g.V.Volume.files c.append_block.new.volume in
    let is : next ≡ rolled_log log = c.in_ok-next.ensures.next in
    roll-trees log F G (c.requires.stands told).has_body
    (then_append_reads log next is (next-not-due log next is c.requires.room) (length c.args.block.now) (bytes_of M (body_file next)) (bytes_of M (ends_file next)) (bytes_of F (body_file log)) (bytes_of F (ends_file log)) F M G
    (c.in_ok-next.ensures.next_pair told) (c.prepare_next.ensures.reads told) (c.append_block.ensures.reads (c.prepare_next.ensures.stays.tells ∙ told))) roots

pub returns-in_err-append_block-clause-crash : goal.returns-in_err-append_block-clause-crash
returns-in_err-append_block-clause-crash g c told roots commit at placed steady =
    let log = c.args.log.now in
    let next = c.in_ok-next.next in
    let v0 = c.args.volume.now in
    let v1 = c.prepare_next.new.volume in
    let v2 = c.append_block.new.volume in
    let F = g.V.Volume.files v0 in
    let is : next ≡ rolled_log log = c.in_ok-next.ensures.next in
    let apart = has-room c.prepare_next.result next log.file (c.in_ok-next.was {u = tt}) c.prepare_next.ensures.spent.0 in
    let low = at.file_fits in
    since-roll log roots commit F (g.V.Volume.moment v0) (g.V.Volume.moment v2) (g.V.Volume.may_leave v0) (g.V.Volume.may_leave v2) at placed steady (omega (arith, apart, low))
    (both-rolled log next is c.requires.room (length c.args.block.now) F (g.V.Volume.files v1) (g.V.Volume.files v2) (g.V.Volume.moment v0) (g.V.Volume.moment v1) (g.V.Volume.moment v2)
    (g.V.Volume.may_leave v0) (g.V.Volume.may_leave v1) (g.V.Volume.may_leave v2) (c.in_ok-next.ensures.next_stands told) (c.prepare_next.ensures.leaves told) (c.append_block.ensures.leaves (c.prepare_next.ensures.stays.tells ∙ told)))

pub returns-clause-old_trees : goal.returns-clause-old_trees
returns-clause-old_trees g c told roots =
    let log = c.args.log.now in
    let next = c.in_ok-next.next in
    let F = g.V.Volume.files c.args.volume.now in
    let M = g.V.Volume.files c.prepare_next.new.volume in
    let G = g.V.Volume.files c.append_block.new.volume in
    let is : next ≡ rolled_log log = c.in_ok-next.ensures.next in
    roll-trees log F G (c.requires.stands told).has_body
    (then_append_reads log next is (next-not-due log next is c.requires.room) (length c.args.block.now) (bytes_of M (body_file next)) (bytes_of M (ends_file next)) (bytes_of F (body_file log)) (bytes_of F (ends_file log)) F M G
    (c.in_ok-next.ensures.next_pair told) (c.prepare_next.ensures.reads told) (c.append_block.ensures.reads (c.prepare_next.ensures.stays.tells ∙ told))) roots

pub returns-clause-crash : goal.returns-clause-crash
returns-clause-crash g c told roots commit at placed steady =
    let log = c.args.log.now in
    let next = c.in_ok-next.next in
    let v0 = c.args.volume.now in
    let v1 = c.prepare_next.new.volume in
    let v2 = c.append_block.new.volume in
    let F = g.V.Volume.files v0 in
    let is : next ≡ rolled_log log = c.in_ok-next.ensures.next in
    let apart = has-room c.prepare_next.result next log.file (c.in_ok-next.was {u = tt}) c.prepare_next.ensures.spent.0 in
    let low = at.file_fits in
    since-roll log roots commit F (g.V.Volume.moment v0) (g.V.Volume.moment v2) (g.V.Volume.may_leave v0) (g.V.Volume.may_leave v2) at placed steady (omega (arith, apart, low))
    (both-rolled log next is c.requires.room (length c.args.block.now) F (g.V.Volume.files v1) (g.V.Volume.files v2) (g.V.Volume.moment v0) (g.V.Volume.moment v1) (g.V.Volume.moment v2)
    (g.V.Volume.may_leave v0) (g.V.Volume.may_leave v1) (g.V.Volume.may_leave v2) (c.in_ok-next.ensures.next_stands told) (c.prepare_next.ensures.leaves told) (c.append_block.ensures.leaves (c.prepare_next.ensures.stays.tells ∙ told)))

ok-fine : (r : Result Log LogError) (next : Log) (e : LogError) → r ≡ Ok next → ¬ (IsErrOf r e)
ok-fine r next e is bad = both e (subst (λ (x : Result Log LogError). IsErrOf x e) is bad)
  where
    both : (e : LogError) → IsErrOf (Ok next) e → ⊥
    both e h = absurd cc

-- where the environment is between-refused the two calls
module _ (g : Over) (c : goal.After-from_residual-in_err-append_block g) (told : IsTrue (g.V.Volume.tells c.args.volume.now)) (roots : Roots) (commit : ℕ)
    (at : IsAt c.args.log.now roots commit (g.V.Volume.files c.args.volume.now) (g.V.Volume.may_leave c.args.volume.now (g.V.Volume.moment c.args.volume.now))) where
  abbrev I1-refused : Files → Type 0
  I1-refused = g.V.Volume.may_leave c.prepare_next.new.volume (g.V.Volume.moment c.prepare_next.new.volume)

  fine1-refused : ¬ (IsErrOf c.prepare_next.result log_error.Device)
  fine1-refused = ok-fine c.prepare_next.result c.in_ok-next.next log_error.Device (c.in_ok-next.was {u = tt})

  between-refused : Either c.args.log.now c.prepare_next.new.self
  between-refused = either-sealed c.args.log.now c.prepare_next.new.self c.in_ok-next.ensures.log

  room-refused : c.args.log.now.file < last_file
  room-refused =
      let apart = has-room c.prepare_next.result c.in_ok-next.next c.args.log.now.file (c.in_ok-next.was {u = tt}) c.prepare_next.ensures.spent.0 in
      let low = at.file_fits in
      omega (arith, apart, low)

  mid-at-refused : IsAt c.prepare_next.new.self roots commit (g.V.Volume.files c.prepare_next.new.volume) I1-refused
  mid-at-refused = prepared-at c.args.log.now roots commit (g.V.Volume.files c.args.volume.now) _ at (g.V.Volume.files c.prepare_next.new.volume) (c.prepare_next.ensures.reads told) c.prepare_next.new.self between-refused
      I1-refused (c.prepare_next.ensures.stands_on told fine1-refused)

  mid-steady-refused : IsSteady c.args.log.now (g.V.Volume.files c.args.volume.now) (g.V.Volume.may_leave c.args.volume.now (g.V.Volume.moment c.args.volume.now)) → IsSteady c.prepare_next.new.self (g.V.Volume.files c.prepare_next.new.volume) I1-refused
  mid-steady-refused steady =
      let passes = c.prepare_next.ensures.leaves told in
      prepared-steady c.args.log.now roots commit (g.V.Volume.files c.args.volume.now) _ at (g.V.Volume.files c.prepare_next.new.volume) (c.prepare_next.ensures.reads told) c.prepare_next.new.self between-refused
      steady room-refused I1-refused (λ left i. passes.each (g.V.Volume.moment c.prepare_next.new.volume) left passes.later (omega arith) i) (c.prepare_next.ensures.settled told fine1-refused) (c.prepare_next.ensures.stands_on told fine1-refused)

-- ---- the block was refused

still : (g : Over) (c : goal.After-from_residual-in_err-append_block g) → IsTrue (g.V.Volume.tells c.args.volume.now) → ¬ (IsErrOf c.append_block.result log_error.Device)
    → (g.V.Volume.files c.append_block.new.volume ≡ g.V.Volume.files c.prepare_next.new.volume)
    × ((left : Files) → g.V.Volume.may_leave c.append_block.new.volume (g.V.Volume.moment c.append_block.new.volume) left → g.V.Volume.may_leave c.prepare_next.new.volume (g.V.Volume.moment c.prepare_next.new.volume) left)
still g c told fine =
    let next = c.in_ok-next.next in
    let M = g.V.Volume.files c.prepare_next.new.volume in
    let is : next ≡ rolled_log c.args.log.now = c.in_ok-next.ensures.next in
    by-error c.append_block.result _ (ap is_err (c.in_err-append_block.was {u = tt})) fine
    (λ last e. let same = (c.append_block.ensures.untouched last e).1 in (ap g.V.Volume.files same, λ left i. subst (λ v. g.V.Volume.may_leave v (g.V.Volume.moment v) left) same i))
    (λ e.
    let same = c.append_block.ensures.unchanged (c.prepare_next.ensures.stays.tells ∙ told) (next-not-due c.args.log.now next is c.requires.room) e in (
      same.0,
      unmoved (g.V.Volume.moment c.prepare_next.new.volume) (g.V.Volume.moment c.append_block.new.volume) (g.V.Volume.may_leave c.prepare_next.new.volume) (g.V.Volume.may_leave c.append_block.new.volume)
          (Appends next (length c.args.block.now) (bytes_of M (body_file next)) (bytes_of M (ends_file next))) same.1 (c.append_block.ensures.leaves (c.prepare_next.ensures.stays.tells ∙ told)),
    ))

pub returns-in_err-append_block-clause-at_kept : goal.returns-in_err-append_block-clause-at_kept
returns-in_err-append_block-clause-at_kept g c told roots commit at is not_device =
    let fine : ¬ (IsErrOf c.append_block.result log_error.Device) = λ bad. search rules in
    let log = c.args.log.now in
    let now = c.prepare_next.new.self in
    let next = c.in_ok-next.next in
    let v1 = c.prepare_next.new.volume in
    let v2 = c.append_block.new.volume in
    let M = g.V.Volume.files v1 in
    let G = g.V.Volume.files v2 in
    let next_is : next ≡ rolled_log log = c.in_ok-next.ensures.next in
    let file : next.file ≡ log.file + 1 = ap (λ (l : Log). l.file) next_is in
    let less : now.file < next.file = omega (arith, file, either-file log now (between-refused g c told roots commit at)) in
    at-still now now roots commit M G (g.V.Volume.may_leave v1 (g.V.Volume.moment v1)) (g.V.Volume.may_leave v2 (g.V.Volume.moment v2)) (mid-at-refused g c told roots commit at) refl (still g c told fine).0
    (append_stands now next (length c.args.block.now) (bytes_of M (body_file next)) (bytes_of M (ends_file next)) (g.V.Volume.moment v1) (g.V.Volume.moment v2) (g.V.Volume.may_leave v1) (g.V.Volume.may_leave v2) M G less
    (c.append_block.ensures.others (c.prepare_next.ensures.stays.tells ∙ told)) (c.append_block.ensures.leaves (c.prepare_next.ensures.stays.tells ∙ told)) (c.prepare_next.ensures.stands_on told (fine1-refused g c told roots commit at)))

pub returns-in_err-append_block-clause-steady : goal.returns-in_err-append_block-clause-steady
returns-in_err-append_block-clause-steady g c told roots commit at steady not_device =
    let fine : ¬ (IsErrOf c.append_block.result log_error.Device) = λ bad. search rules in
    let now = c.prepare_next.new.self in
    let v1 = c.prepare_next.new.volume in
    let v2 = c.append_block.new.volume in
    steady-still now now (g.V.Volume.files v1) (g.V.Volume.files v2) (g.V.Volume.may_leave v1 (g.V.Volume.moment v1)) (g.V.Volume.may_leave v2 (g.V.Volume.moment v2)) (mid-steady-refused g c told roots commit at steady) refl
    (still g c told fine).0 (still g c told fine).1

-- where the environment is between-taken the two calls
module _ (g : Over) (c : goal.In_ok-append_block g) (told : IsTrue (g.V.Volume.tells c.args.volume.now)) (roots : Roots) (commit : ℕ)
    (at : IsAt c.args.log.now roots commit (g.V.Volume.files c.args.volume.now) (g.V.Volume.may_leave c.args.volume.now (g.V.Volume.moment c.args.volume.now))) where
  abbrev I1-taken : Files → Type 0
  I1-taken = g.V.Volume.may_leave c.prepare_next.new.volume (g.V.Volume.moment c.prepare_next.new.volume)

  fine1-taken : ¬ (IsErrOf c.prepare_next.result log_error.Device)
  fine1-taken = ok-fine c.prepare_next.result c.in_ok-next.next log_error.Device (c.in_ok-next.was {u = tt})

  between-taken : Either c.args.log.now c.prepare_next.new.self
  between-taken = either-sealed c.args.log.now c.prepare_next.new.self c.in_ok-next.ensures.log

  room-taken : c.args.log.now.file < last_file
  room-taken =
      let apart = has-room c.prepare_next.result c.in_ok-next.next c.args.log.now.file (c.in_ok-next.was {u = tt}) c.prepare_next.ensures.spent.0 in
      let low = at.file_fits in
      omega (arith, apart, low)

  mid-at-taken : IsAt c.prepare_next.new.self roots commit (g.V.Volume.files c.prepare_next.new.volume) I1-taken
  mid-at-taken = prepared-at c.args.log.now roots commit (g.V.Volume.files c.args.volume.now) _ at (g.V.Volume.files c.prepare_next.new.volume) (c.prepare_next.ensures.reads told) c.prepare_next.new.self between-taken
      I1-taken (c.prepare_next.ensures.stands_on told fine1-taken)

  mid-steady-taken : IsSteady c.args.log.now (g.V.Volume.files c.args.volume.now) (g.V.Volume.may_leave c.args.volume.now (g.V.Volume.moment c.args.volume.now)) → IsSteady c.prepare_next.new.self (g.V.Volume.files c.prepare_next.new.volume) I1-taken
  mid-steady-taken steady =
      let passes = c.prepare_next.ensures.leaves told in
      prepared-steady c.args.log.now roots commit (g.V.Volume.files c.args.volume.now) _ at (g.V.Volume.files c.prepare_next.new.volume) (c.prepare_next.ensures.reads told) c.prepare_next.new.self between-taken
      steady room-taken I1-taken (λ left i. passes.each (g.V.Volume.moment c.prepare_next.new.volume) left passes.later (omega arith) i) (c.prepare_next.ensures.settled told fine1-taken) (c.prepare_next.ensures.stands_on told fine1-taken)

-- ---- the block came

module _ (g : Over) (c : goal.In_ok-append_block g) (told : IsTrue (g.V.Volume.tells c.args.volume.now)) where
  abbrev log : Log
  log = c.args.log.now

  abbrev next : Log
  next = c.in_ok-next.next

  abbrev block : List ℕ
  block = c.args.block.now

  abbrev F : Files
  F = g.V.Volume.files c.args.volume.now

  abbrev M : Files
  M = g.V.Volume.files c.prepare_next.new.volume

  abbrev G : Files
  G = g.V.Volume.files c.append_block.new.volume

  abbrev I2 : Files → Type 0
  I2 = g.V.Volume.may_leave c.append_block.new.volume (g.V.Volume.moment c.append_block.new.volume)

  next-is : next ≡ rolled_log log
  next-is = c.in_ok-next.ensures.next

  no-roll : is_due next ≡ false
  no-roll = next-not-due log next next-is c.requires.room

  now-is : c.append_block.new.self ≡ appended_log (rolled_log log) (length block) c.args.back
  now-is = next-log log next c.append_block.new.self (length block) c.args.back next-is no-roll c.in_ok-append_block.ensures.log

  fits : length block < 2 ^ 64
  fits =
      let end : c.append_block.new.self.end ≡ 0 + length block = ap (λ (l : Log). l.end) now-is in
      let small : c.append_block.new.self.end < 2 ^ 64 = c.in_ok-append_block.ensures.fits in
      omega (arith, end, small)

  fine2 : ¬ (IsErrOf c.append_block.result log_error.Device)
  fine2 = λ bad. search rules

  rolled : IsRolled log block F G
  rolled = rolled-then log next block F M G next-is (c.in_ok-next.ensures.rolled told) (c.in_ok-append_block.ensures.behind (c.prepare_next.ensures.stays.tells ∙ told) no-roll)

  others : (other : ℕ) → IsElsewhere log other → get G other ≡ get F other
  others other away =
      next-over log next next-is no-roll (length block) (bytes_of M (body_file next)) (bytes_of M (ends_file next)) M G (c.append_block.ensures.reads (c.prepare_next.ensures.stays.tells ∙ told)) other (elsewhere log other away).2
      ∙ c.prepare_next.ensures.others told other away

  stands : Stands (appended_log (rolled_log log) (length block) c.args.back) G I2
  stands = subst (λ (l : Log). Stands l G I2) now-is (c.append_block.ensures.stands_on (c.prepare_next.ensures.stays.tells ∙ told) fine2)

pub returns-clause-at : goal.returns-clause-at
returns-clause-at g c told roots commit new_roots new_commit at fine =
    subst (λ (l : Log). IsAt l new_roots new_commit (G g c told) (I2 g c told)) (sym (now-is g c told))
    (at-rolled (log g c told) roots commit (F g c told) _ at c.requires.due (room-taken g c told roots commit at) (block g c told) c.args.back (G g c told) (rolled g c told) (others g c told) (fits g c told) new_roots new_commit fine c.ranges.back.fits
    (I2 g c told) (stands g c told))

pub returns-clause-new_trees : goal.returns-clause-new_trees
returns-clause-new_trees g c told roots commit new_roots new_commit at fine =
    ap (λ (l : Log). env_trees l.file (G g c told) new_roots) (now-is g c told)
    ∙ trees-rolled (log g c told) roots commit (F g c told) _ at c.requires.due (room-taken g c told roots commit at) (block g c told) c.args.back (G g c told) (rolled g c told) (others g c told) (fits g c told) new_roots new_commit fine

pub returns-clause-steady : goal.returns-clause-steady
returns-clause-steady g c told roots commit at steady not_device =
    let log = c.args.log.now in
    let next = c.in_ok-next.next in
    let v0 = c.args.volume.now in
    let v1 = c.prepare_next.new.volume in
    let v2 = c.append_block.new.volume in
    let M = g.V.Volume.files v1 in
    let I = g.V.Volume.may_leave v1 (g.V.Volume.moment v1) in
    let count = length c.args.block.now in
    let appending = c.append_block.ensures.leaves (c.prepare_next.ensures.stays.tells ∙ told) in
    let passes = both-rolled log next (next-is g c told) c.requires.room count (F g c told) M (G g c told) (g.V.Volume.moment v0) (g.V.Volume.moment v1) (g.V.Volume.moment v2)
    (g.V.Volume.may_leave v0) (g.V.Volume.may_leave v1) (g.V.Volume.may_leave v2) (c.in_ok-next.ensures.next_stands told) (c.prepare_next.ensures.leaves told) appending in
    let durable = (c.in_ok-next.ensures.durable told).pair in
    let file : c.append_block.new.self.file ≡ log.file + 1 = ap (λ (l : Log). l.file) (now-is g c told) in
    let next_file : next.file ≡ log.file + 1 = ap (λ (l : Log). l.file) (next-is g c told) in
    let was : (other : ℕ) → IsSettled other M I = λ other. elim (cases_eq other (body_file log)) [
      | inl is ↦ λ there left i. subst (λ (k : ℕ). get left k ≡ get M k) (sym is) (durable.body left i)
      | inr not_body ↦ elim (cases_eq other (ends_file log)) [
        | inl is ↦ λ there left i. subst (λ (k : ℕ). get left k ≡ get M k) (sym is) (durable.ends left i)
        | inr not_ends ↦ c.prepare_next.ensures.settled told (fine1-taken g c told roots commit at) other not_ends (steady.beside other not_body not_ends)
      ]
    ] in
    subst (λ (l : Log). IsSteady l (G g c told) (I2 g c told)) (sym (now-is g c told))
    (rolled-steady log roots commit (F g c told) _ at c.requires.due (room-taken g c told roots commit at) (block g c told) c.args.back (G g c told) (rolled g c told) (others g c told)
    c.prepare_next.new.self M I (I2 g c told) (mid-at-taken g c told roots commit at) (now-sealed log c.prepare_next.new.self c.in_ok-next.ensures.log) (either-file log c.prepare_next.new.self (between-taken g c told roots commit at)) steady
    (λ left i. passes.each (g.V.Volume.moment v2) left passes.later (omega arith) i)
    (λ left i.
    let from = appending.each (g.V.Volume.moment v2) left appending.later (omega arith) i in
    (from.0, from.1, next-over log next (next-is g c told) (no-roll g c told) count (bytes_of M (body_file next)) (bytes_of M (ends_file next)) from.0 left from.2))
    (c.in_ok-next.ensures.rolled told).body (stands g c told)
    (λ other not_body not_ends. c.append_block.ensures.settled (c.prepare_next.ensures.stays.tells ∙ told) (fine2 g c told) other (λ e. omega (arith, e, next_file, not_ends)) (λ e. omega (arith, e, file, not_body)) (was other)))

pub returns-in_err-next-clause-count : goal.returns-in_err-next-clause-count
returns-in_err-next-clause-count g c told =
    let log = c.args.log.now in
    let F = g.V.Volume.files c.args.volume.now in
    let M = g.V.Volume.files c.prepare_next.new.volume in
    let stands = c.requires.stands told in
    let small : c.file-file.result ≤ last_file = search rules in
    elim (at-last log.file (subst (λ (n : ℕ). n ≤ last_file) c.file-file.ensures small)) [
      | inl room ↦ count-next F M (log.file + 1) (omega (arith, room)) (roll-pairs log (bytes_of F (body_file log)) (bytes_of F (ends_file log)) F M (ap (λ (x : Content). is_some x) stands.has_body) (ap (λ (x : Content). is_some x) stands.has_ends) (c.prepare_next.ensures.reads told))
          c.args.has_next.now c.prepare_next.new.has_next (c.requires.next_known told) (c.prepare_next.ensures.next_known told) c.prepare_next.ensures.never_lost
      | inr last ↦
          let bad = is-spent c.prepare_next.result last_file (c.prepare_next.ensures.spent.0 last) in
          ap (λ v. log_file_count (g.V.Volume.files v) + (if c.args.has_next.now then 1 else 0)) (c.prepare_next.ensures.untouched last_file bad).1
          ∙ ap (λ (b : Bool). log_file_count F + (if b then 1 else 0)) (sym (c.prepare_next.ensures.spent_leaves_it last_file bad))
    ]

pub returns-in_err-append_block-clause-count : goal.returns-in_err-append_block-clause-count
returns-in_err-append_block-clause-count g c told =
    let log = c.args.log.now in
    let next = c.in_ok-next.next in
    let F = g.V.Volume.files c.args.volume.now in
    let M = g.V.Volume.files c.prepare_next.new.volume in
    let G = g.V.Volume.files c.append_block.new.volume in
    let stands = c.requires.stands told in
    let is : next ≡ rolled_log log = c.in_ok-next.ensures.next in
    let small : c.file-file.result ≤ last_file = search rules in
    let low : log.file ≤ last_file = subst (λ (n : ℕ). n ≤ last_file) c.file-file.ensures small in
    let apart = has-room c.prepare_next.result next log.file (c.in_ok-next.was {u = tt}) c.prepare_next.ensures.spent.0 in
    let not_due = next-not-due log next is c.requires.room in
    let reads = appends_not_due next (bytes_of M (body_file next)) (bytes_of M (ends_file next)) (length c.args.block.now) not_due M G (c.append_block.ensures.reads (c.prepare_next.ensures.stays.tells ∙ told)) in
    let there = c.in_ok-next.ensures.next_stands told in
    ap (λ (n : ℕ). n + (if c.args.has_next.now then 1 else 0)) (count-same M G (torn-pairs next (length c.args.block.now) M G (ap (λ (x : Content). is_some x) there.has_body) reads))
    ∙ count-next F M (log.file + 1) (omega (arith, low, apart)) (roll-pairs log (bytes_of F (body_file log)) (bytes_of F (ends_file log)) F M (ap (λ (x : Content). is_some x) stands.has_body) (ap (λ (x : Content). is_some x) stands.has_ends) (c.prepare_next.ensures.reads told))
    c.args.has_next.now c.prepare_next.new.has_next (c.requires.next_known told) (c.prepare_next.ensures.next_known told) c.prepare_next.ensures.never_lost

pub returns-clause-count : goal.returns-clause-count
returns-clause-count g c told =
    let log = c.args.log.now in
    let next = c.in_ok-next.next in
    let F = g.V.Volume.files c.args.volume.now in
    let M = g.V.Volume.files c.prepare_next.new.volume in
    let G = g.V.Volume.files c.append_block.new.volume in
    let stands = c.requires.stands told in
    let is : next ≡ rolled_log log = c.in_ok-next.ensures.next in
    let small : c.file-file.result ≤ last_file = search rules in
    let low : log.file ≤ last_file = subst (λ (n : ℕ). n ≤ last_file) c.file-file.ensures small in
    let apart = has-room c.prepare_next.result next log.file (c.in_ok-next.was {u = tt}) c.prepare_next.ensures.spent.0 in
    let not_due = next-not-due log next is c.requires.room in
    let reads = appends_not_due next (bytes_of M (body_file next)) (bytes_of M (ends_file next)) (length c.args.block.now) not_due M G (c.append_block.ensures.reads (c.prepare_next.ensures.stays.tells ∙ told)) in
    let there = c.in_ok-next.ensures.next_stands told in
    ap (λ (n : ℕ). n + (if c.args.has_next.now then 1 else 0)) (count-same M G (torn-pairs next (length c.args.block.now) M G (ap (λ (x : Content). is_some x) there.has_body) reads))
    ∙ count-next F M (log.file + 1) (omega (arith, low, apart)) (roll-pairs log (bytes_of F (body_file log)) (bytes_of F (ends_file log)) F M (ap (λ (x : Content). is_some x) stands.has_body) (ap (λ (x : Content). is_some x) stands.has_ends) (c.prepare_next.ensures.reads told))
    c.args.has_next.now c.prepare_next.new.has_next (c.requires.next_known told) (c.prepare_next.ensures.next_known told) c.prepare_next.ensures.never_lost

pub returns-in_err-next-clause-body_stays : goal.returns-in_err-next-clause-body_stays
returns-in_err-next-clause-body_stays g c told =
    roll_body c.args.log.now (g.V.Volume.files c.args.volume.now) (g.V.Volume.files c.prepare_next.new.volume) _ (c.requires.stands told) (c.prepare_next.ensures.reads told)

pub returns-in_err-append_block-clause-body_stays : goal.returns-in_err-append_block-clause-body_stays
returns-in_err-append_block-clause-body_stays g c told =
    let log = c.args.log.now in
    let next = c.in_ok-next.next in
    let F = g.V.Volume.files c.args.volume.now in
    let M = g.V.Volume.files c.prepare_next.new.volume in
    let G = g.V.Volume.files c.append_block.new.volume in
    let is : next ≡ rolled_log log = c.in_ok-next.ensures.next in
    roll_body log F G _ (c.requires.stands told)
    (then_append_reads log next is (next-not-due log next is c.requires.room) (length c.args.block.now) (bytes_of M (body_file next)) (bytes_of M (ends_file next)) (bytes_of F (body_file log)) (bytes_of F (ends_file log)) F M G
    (c.in_ok-next.ensures.next_pair told) (c.prepare_next.ensures.reads told) (c.append_block.ensures.reads (c.prepare_next.ensures.stays.tells ∙ told)))

pub returns-clause-body_stays : goal.returns-clause-body_stays
returns-clause-body_stays g c told =
    let log = c.args.log.now in
    let next = c.in_ok-next.next in
    let F = g.V.Volume.files c.args.volume.now in
    let M = g.V.Volume.files c.prepare_next.new.volume in
    let G = g.V.Volume.files c.append_block.new.volume in
    let is : next ≡ rolled_log log = c.in_ok-next.ensures.next in
    roll_body log F G _ (c.requires.stands told)
    (then_append_reads log next is (next-not-due log next is c.requires.room) (length c.args.block.now) (bytes_of M (body_file next)) (bytes_of M (ends_file next)) (bytes_of F (body_file log)) (bytes_of F (ends_file log)) F M G
    (c.in_ok-next.ensures.next_pair told) (c.prepare_next.ensures.reads told) (c.append_block.ensures.reads (c.prepare_next.ensures.stays.tells ∙ told)))
