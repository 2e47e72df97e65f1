-- Calls on one file, one after another: what reads give, and what a crash may leave.
use Rattle.std.proofs.Common.{◌≡◌, ℕ, Bool, List, [], Some, None, IsSome, IsTrue, is_some, refl, sym, ◌∙◌, ap, subst, inl, inr, arith}
use mathlib.Core.Logic.{◌≢◌}
use Rattle.std.proofs.lemmas.Bool.{cases_eq}
use Rattle.std.specs.FinMap.{get, insert}
use Rattle.xod_volume.specs.Files.{Files, Content}
use Rattle.xod_volume.specs.Crash.{OnFile, OnBytes, Torn, Shortened, Appears, Passes, Rests, IsSame}
use Rattle.xod_volume.proofs.CallerLemmas.{get_same, Torn-same, OnBytes-same, OnFile-same}
use Rattle.xod_log.specs.Runs.{Run}
use Rattle.xod_log.specs.Standing.{IsSettled}
use Rattle.xod_log.proofs.Runs.{begun, goes, unmoved}
use Rattle.xod_log.proofs.Changed.{other_file}

-- ---- what reads give

-- a file that was put in is there
pub put_there : (before after : Files) (file : ℕ) (bytes : List ℕ) → after ≡ insert before file bytes → get after file ≡ Some bytes
put_there before after file bytes is = ap (λ (f : Files). get f file) is ∙ get_same before file (Some bytes)

pub put_is_there : (before after : Files) (file : ℕ) (bytes : List ℕ) → after ≡ insert before file bytes → IsSome (get after file)
put_is_there before after file bytes is = ap is_some (put_there before after file bytes is)

-- a step goes over to files that are the same
pub same_after : (step : Files → Files → Type 0) (before after same : Files) → step before after → same ≡ after → step before same
same_after step before after same on is = subst (step before) (sym is) on

-- a file that was emptied, and may have been made before
pub emptied_file : (file : ℕ) (before mid after : Files) → ((other : ℕ) → other ≢ file → get mid other ≡ get before other) → after ≡ insert mid file [] → OnFile file Appears before after
emptied_file file before mid after others is = record {
  here = inr (put_there mid after file [] is);
  others = λ other apart. other_file mid after file other [] apart is ∙ others other apart;
}

-- ---- what a crash may leave

-- the first call of a run
pub first_call : (t0 t1 : ℕ) (i0 i1 : ℕ → Files → Type 0) (P S : Files → Files → Type 0) → Passes t0 t1 i0 i1 S
    → ((was : Files) → P was was) → ((was left : Files) → S was left → P was left) → Run t0 t1 i0 i1 P S
first_call t0 t1 i0 i1 P S passes still fine =
    goes t0 i0 P t0 t1 i0 i1 IsSame S S
    (begun t0 i0 P IsSame (λ was i. refl) (λ was left i same. subst (P was) (sym same) (still was)))
    passes
    (λ was mid left i same s. subst (λ (c : Files). S c left) same s)
    (λ was left i s. fine was left s)

-- a sync adds nothing to the call before it
pub then_synced : (t0 t1 t2 : ℕ) (i0 i1 i2 : ℕ → Files → Type 0) (S : Files → Files → Type 0) → ((c : Files) → S c c)
    → Passes t0 t1 i0 i1 S → Passes t1 t2 i1 i2 IsSame → Passes t0 t2 i0 i2 S
then_synced t0 t1 t2 i0 i1 i2 S still first sync =
    (goes t0 i0 S t1 t2 i1 i2 S S IsSame
    (first_call t0 t1 i0 i1 S S first still (λ was left s. s))
    sync
    (λ was mid left i s same. subst (S was) (sym same) s)
    (λ was left i s. s)).passes

-- torn bytes, and a sync
pub torn_then_synced : (t0 t1 t2 : ℕ) (i0 i1 i2 : ℕ → Files → Type 0) (file at n : ℕ)
    → Passes t0 t1 i0 i1 (OnFile file (OnBytes (Torn at n))) → Passes t1 t2 i1 i2 IsSame → Passes t0 t2 i0 i2 (OnFile file (OnBytes (Torn at n)))
torn_then_synced t0 t1 t2 i0 i1 i2 file at n =
    then_synced t0 t1 t2 i0 i1 i2 (OnFile file (OnBytes (Torn at n))) (OnFile-same file (OnBytes (Torn at n)) (OnBytes-same (Torn at n) (Torn-same at n)))

-- ---- what is settled stays so

-- where nothing changed
pub settled_still : (before after : Files) (t0 t1 : ℕ) (i0 i1 : ℕ → Files → Type 0) (S : Files → Files → Type 0) → after ≡ before → t1 ≡ t0 → Passes t0 t1 i0 i1 S
    → (other : ℕ) → IsSettled other before (i0 t0) → IsSettled other after (i1 t1)
settled_still before after t0 t1 i0 i1 S same still passes other was there left i =
    subst (λ (f : Files). get left other ≡ get f other) (sym same)
    (was (subst (λ (f : Files). IsSome (get f other)) same there) left (unmoved t0 t1 i0 i1 S still passes left i))

pub settled_rest : (before after : Files) (t0 t1 : ℕ) (i0 i1 : ℕ → Files → Type 0) → after ≡ before → Rests t0 t1 i0 i1
    → (other : ℕ) → IsSettled other before (i0 t0) → IsSettled other after (i1 t1)
settled_rest before after t0 t1 i0 i1 same rests other was there left i =
    subst (λ (f : Files). get left other ≡ get f other) (sym same)
    (was (subst (λ (f : Files). IsSome (get f other)) same there) left (subst (λ (k : ℕ). i0 k left) rests.still (rests.same t1 left i)))

-- a file that a call leaves alone
pub settled_after : (other : ℕ) (before after : Files) (t0 t1 : ℕ) (i0 i1 : ℕ → Files → Type 0) (S : Files → Files → Type 0) → Passes t0 t1 i0 i1 S
    → ((was left : Files) → S was left → get left other ≡ get was other) → get after other ≡ get before other → IsSettled other before (i0 t0) → IsSettled other after (i1 t1)
settled_after other before after t0 t1 i0 i1 S passes keeps same was there left i =
    let from = passes.each t1 left passes.later (omega arith) i in
    keeps from.0 left from.2 ∙ was (subst (λ (c : Content). IsSome c) same there) from.0 from.1 ∙ sym same

-- a call on one file, which is durable after it
pub settled_by : (file : ℕ) (step : Content → Content → Type 0) (before after : Files) (t0 t1 : ℕ) (i0 i1 : ℕ → Files → Type 0) → Passes t0 t1 i0 i1 (OnFile file step)
    → ((other : ℕ) → other ≢ file → get after other ≡ get before other) → ((left : Files) → i1 t1 left → get left file ≡ get after file)
    → (other : ℕ) → IsSettled other before (i0 t0) → IsSettled other after (i1 t1)
settled_by file step before after t0 t1 i0 i1 passes others durable other was = elim (cases_eq other file) [
  | inl is ↦ λ there left i. subst (λ (k : ℕ). get left k ≡ get after k) (sym is) (durable left i)
  | inr apart ↦ settled_after other before after t0 t1 i0 i1 (OnFile file step) passes (λ was left on. on.others other apart) (others other apart) was
]

-- ---- a file is made, or is there, and is emptied

pub appears_still : (file : ℕ) (c : Files) → OnFile file Appears c c
appears_still file = OnFile-same file Appears (λ o. inl refl)

-- a cut to nothing after it may have come to be
cut_appears : (was mid left : Content) → Appears was mid → OnBytes (Shortened 0) mid left → Appears was left
cut_appears was None left (inl same) cut = inl (cut ∙ same)
cut_appears was None left (inr made) cut = inr (cut ∙ made)
cut_appears was (Some bytes) left before (is, there, inl kept) = subst (Appears was) (sym (there ∙ ap Some kept)) before
cut_appears was (Some bytes) left before (is, there, inr empty) = inr (there ∙ ap Some empty)

pub cut_file : (file : ℕ) (was mid left : Files) → OnFile file Appears was mid → OnFile file (OnBytes (Shortened 0)) mid left → OnFile file Appears was left
cut_file file was mid left before cut = record {
  here = cut_appears (get was file) (get mid file) (get left file) before.here cut.here;
  others = λ other apart. cut.others other apart ∙ before.others other apart;
}

-- The file was made or is there, and nothing else was done.
pub record Made (file : ℕ) (before after : Files) (t0 t1 : ℕ) (i0 i1 : ℕ → Files → Type 0) : Type 0 where
  pub there : IsSome (get after file)
  pub others : (other : ℕ) → other ≢ file → get after other ≡ get before other
  pub reads : OnFile file Appears before after
  pub passes : Passes t0 t1 i0 i1 (OnFile file Appears)

pub made_now : (file : ℕ) (before after : Files) (t0 t1 : ℕ) (i0 i1 : ℕ → Files → Type 0) → after ≡ insert before file []
    → Passes t0 t1 i0 i1 (OnFile file Appears) → Made file before after t0 t1 i0 i1
made_now file before after t0 t1 i0 i1 is passes = record {
  there = put_is_there before after file [] is;
  others = λ other apart. other_file before after file other [] apart is;
  reads = emptied_file file before before after (λ other apart. refl) is;
  passes = passes;
}

pub made_before : (file : ℕ) (before : Files) (t0 : ℕ) (i0 : ℕ → Files → Type 0) → IsSome (get before file) → Made file before before t0 t0 i0 i0
made_before file before t0 i0 there = record {
  there = there;
  others = λ other apart. refl;
  reads = appears_still file before;
  passes = (begun t0 i0 (OnFile file Appears) (OnFile file Appears) (λ was i. appears_still file was) (λ was left i s. s)).passes;
}

pub then_cut : (file : ℕ) (before after : Files) (t0 t1 t2 : ℕ) (i0 i1 i2 : ℕ → Files → Type 0) → Made file before after t0 t1 i0 i1
    → Passes t1 t2 i1 i2 (OnFile file (OnBytes (Shortened 0))) → Passes t0 t2 i0 i2 (OnFile file Appears)
then_cut file before after t0 t1 t2 i0 i1 i2 made cut =
    (goes t0 i0 (OnFile file Appears) t1 t2 i1 i2 (OnFile file Appears) (OnFile file Appears) (OnFile file (OnBytes (Shortened 0)))
    (first_call t0 t1 i0 i1 (OnFile file Appears) (OnFile file Appears) made.passes (appears_still file) (λ was left s. s))
    cut
    (λ was mid left i s step. cut_file file was mid left s step)
    (λ was left i s. s)).passes

-- ---- over the volumes themselves

module _ {V : Type 0} (tells : V → Bool) (files : V → Files) (moment : V → ℕ) (may_leave : V → ℕ → Files → Type 0) (file : ℕ) where
  -- The file is there now, made since the first volume or before, and nothing else was done.
  pub record Ready (before now : V) : Type 0 where
    pub tells_on : tells now ≡ tells before
    pub made : IsTrue (tells before) → Made file (files before) (files now) (moment before) (moment now) (may_leave before) (may_leave now)

  pub ready_made : (before now by : V) → now ≡ by → tells by ≡ tells before → (IsTrue (tells before) → files by ≡ insert (files before) file [])
      → (IsTrue (tells before) → Passes (moment before) (moment by) (may_leave before) (may_leave by) (OnFile file Appears)) → Ready before now
  ready_made before now by is on created passes = subst (Ready before) (sym is) (record {
    tells_on = on;
    made = λ told. made_now file (files before) (files by) (moment before) (moment by) (may_leave before) (may_leave by) (created told) (passes told);
  })

  pub ready_there : (before now : V) → now ≡ before → (IsTrue (tells before) → IsSome (get (files before) file)) → Ready before now
  ready_there before now is there = subst (Ready before) (sym is) (record {
    tells_on = refl;
    made = λ told. made_before file (files before) (moment before) (may_leave before) (there told);
  })
