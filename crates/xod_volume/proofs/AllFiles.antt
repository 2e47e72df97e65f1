-- All files: what one call more in the record does to what reads give and to what a crash may leave.
use Rattle.std.proofs.Common.{◌≡◌, ◌≤◌, ℕ, ◌+◌, List, [], ◌∷◌, ◌++◌, length, take, reverse, refl, sym, ◌∙◌, ap, subst, arith, inl, inr, length-append, cond, Bool}
use mathlib.Core.Logic.{◌≢◌}
use Rattle.std.specs.FinMap.{get}
use Rattle.std.proofs.lemmas.Bool.{cases_lt, cases_eq, eq-eqb, ne_eqb}
use Rattle.std.proofs.lemmas.List.{take-append-le, take_all, reverse-append}
use Rattle.xod_volume.specs.Files.{Files, Content, with_file}
use Rattle.xod_volume.specs.Crash.{OnFile, Passes, Rests, IsSame}
use Rattle.xod_volume.specs.declared.history.Call.{Call}
use Rattle.xod_volume.specs.declared.history.Deed.{Deed}
use Rattle.xod_volume.specs.declared.history.Deed.TheVariants.{Sync}
use Rattle.xod_volume.specs.Record.{done, reads, By, Leaves, on_file, files_after, IsImage, files_now, image_at}
use Rattle.xod_volume.proofs.Tables.{get_same, get_other}
use Rattle.xod_volume.proofs.OneFile.{reads_left}

-- the calls on a file after one more, on it and on another
pub on_same : (call : Call) (calls : List Call) → on_file call.file (call ∷ calls) ≡ call.deed ∷ on_file call.file calls
on_same call calls = ap (λ (b : Bool). cond b (call.deed ∷ on_file call.file calls) (on_file call.file calls)) (eq-eqb call.file call.file refl)

pub on_other : (file : ℕ) (call : Call) (calls : List Call) → file ≢ call.file → on_file file (call ∷ calls) ≡ on_file file calls
on_other file call calls apart = ap (λ (b : Bool). cond b (call.deed ∷ on_file file calls) (on_file file calls)) (ne_eqb call.file file (λ e. apart (sym e)))

-- what reads give of a file goes by its own calls alone
pub files_reads : (start : Files) (calls : List Call) (file : ℕ) → get (files_after start calls) file ≡ reads (get start file) (on_file file calls)
files_reads start [] file = refl
files_reads start (call ∷ calls) file = elim (cases_eq file call.file) [
  | inl is ↦ subst (λ (g : ℕ). get (files_after start (call ∷ calls)) g ≡ reads (get start g) (on_file g (call ∷ calls))) (sym is)
      (get_same (files_after start calls) call.file (done call.deed (get (files_after start calls) call.file))
      ∙ ap (done call.deed) (files_reads start calls call.file)
      ∙ ap (reads (get start call.file)) (sym (on_same call calls)))
  | inr not ↦ get_other (files_after start calls) call.file file _ not ∙ files_reads start calls file ∙ ap (reads (get start file)) (sym (on_other file call calls not))
]

-- a step on the call's file is one on all files
whole : (start : Files) (call : Call) (calls : List Call) (step : Content → Content → Type 0)
    → ((c : Content) → Leaves (get start call.file) (call.deed ∷ on_file call.file calls) c → By step (Leaves (get start call.file) (on_file call.file calls)) c)
    → (c : Files) → IsImage start (call ∷ calls) c → (d : Files) × IsImage start calls d × OnFile call.file step d c
whole start call calls step does c image =
    let own = does (get c call.file) (subst (λ (l : List Deed). Leaves (get start call.file) l (get c call.file)) (on_same call calls) (image call.file)) in
    let d : Files = with_file c call.file own.0 in
    let others : (f : ℕ) → f ≢ call.file → get c f ≡ get d f = λ f apart. sym (get_other c call.file f own.0 apart) in (
      d,
      λ f. elim (cases_eq f call.file) [
        | inl is ↦ subst (λ (g : ℕ). Leaves (get start g) (on_file g calls) (get d g)) (sym is)
            (subst (Leaves (get start call.file) (on_file call.file calls)) (sym (get_same c call.file own.0)) own.1)
        | inr not ↦ subst (Leaves (get start f) (on_file f calls)) (others f not) (subst (λ (l : List Deed). Leaves (get start f) l (get c f)) (on_other f call calls not) (image f))
      ],
      record { here = subst (λ (o : Content). step o (get c call.file)) (sym (get_same c call.file own.0)) own.2; others = others },
    )

pub OnFile-same : (file : ℕ) (step : Content → Content → Type 0) → ((o : Content) → step o o) → (c : Files) → OnFile file step c c
OnFile-same file step still c = record { here = still (get c file); others = λ o apart. refl }

-- a file that was changed by a step, in what reads give
pub OnFile-changed : (file : ℕ) (step : Content → Content → Type 0) (F : Files) (o : Content) → step (get F file) o → OnFile file step F (with_file F file o)
OnFile-changed file step F o does = record { here = subst (step (get F file)) (sym (get_same F file o)) does; others = λ other apart. get_other F file other o apart }

-- what reads give is among what a crash may leave
pub now_left : (start : Files) (calls : List Call) → image_at start calls (length calls) (files_now start calls)
unfolding image_at files_now
now_left start calls f =
    let all : take (length calls) calls ≡ calls = take_all (length calls) calls (omega arith) in
    subst (λ (l : List Call). Leaves (get start f) (on_file f (reverse l)) (get (files_after start (reverse calls)) f)) (sym all)
    (subst (Leaves (get start f) (on_file f (reverse calls))) (sym (files_reads start (reverse calls) f)) (reads_left (get start f) (on_file f (reverse calls))))

-- nothing was recorded
pub rests : (start : Files) (calls later : List Call) → later ≡ calls → Rests (length calls) (length later) (image_at start calls) (image_at start later)
rests start calls later is = record {
  still = ap length is;
  same = λ m c i. subst (λ (l : List Call). image_at start l m c) is i;
  kept = λ m c i. subst (λ (l : List Call). image_at start l m c) (sym is) i;
}

pub idle : (start : Files) (calls : List Call) (step : Files → Files → Type 0) → ((c : Files) → step c c)
    → Passes (length calls) (length calls) (image_at start calls) (image_at start calls) step
idle start calls step still = record {
  later = omega arith;
  same = λ m c le i. i;
  kept = λ m c le i. i;
  each = λ m c ge le i. (c, (let is : m ≡ length calls = omega (arith, ge, le) in subst (λ (k : ℕ). image_at start calls k c) is i), still c);
}

turned : (calls : List Call) (call : Call) → reverse (calls ++ call ∷ []) ≡ call ∷ reverse calls
turned calls call = reverse-append calls (call ∷ [])

-- one call was recorded
noted : (start : Files) (calls : List Call) (call : Call) (step : Files → Files → Type 0) → ((c : Files) → step c c)
    → ((c : Files) → IsImage start (call ∷ reverse calls) c → (d : Files) × IsImage start (reverse calls) d × step d c)
    → Passes (length calls) (length (calls ++ call ∷ [])) (image_at start calls) (image_at start (calls ++ call ∷ [])) step
unfolding image_at
noted start calls call step still does =
    let more : length (calls ++ call ∷ []) ≡ length calls + 1 = length-append calls (call ∷ []) in
    let front : (m : ℕ) → m ≤ length calls → take m (calls ++ call ∷ []) ≡ take m calls = λ m le. take-append-le m calls (call ∷ []) le in
    record {
      later = omega (arith, more);
      same = λ m c le i. subst (λ (l : List Call). IsImage start (reverse l) c) (front m le) i;
      kept = λ m c le i. subst (λ (l : List Call). IsImage start (reverse l) c) (sym (front m le)) i;
      each = λ m c ge le i. elim (cases_lt (length calls) m) [
        | inl lt ↦
            let all : take m (calls ++ call ∷ []) ≡ calls ++ call ∷ [] = take_all m (calls ++ call ∷ []) (omega (arith, more, lt)) in
            let at : IsImage start (call ∷ reverse calls) c = subst (λ (l : List Call). IsImage start l c) (ap reverse all ∙ turned calls call) i in
            let front_all : take (length calls) calls ≡ calls = take_all (length calls) calls (omega arith) in
            let from = does c at in
            (from.0, subst (λ (l : List Call). IsImage start (reverse l) from.0) (sym front_all) from.1, from.2)
        | inr not ↦
            let is : m ≡ length calls = omega (arith, ge, not) in
            (c, subst (λ (k : ℕ). IsImage start (reverse (take k calls)) c) is (subst (λ (l : List Call). IsImage start (reverse l) c) (front m not) i), still c)
      ];
    }

-- the last image is one of the record with the newest call first
last_is : (start : Files) (calls : List Call) (call : Call) (c : Files) → image_at start (calls ++ call ∷ []) (length (calls ++ call ∷ [])) c → IsImage start (call ∷ reverse calls) c
unfolding image_at
last_is start calls call c i = subst (λ (l : List Call). IsImage start l c) (ap reverse (take_all (length (calls ++ call ∷ [])) (calls ++ call ∷ []) (omega arith)) ∙ turned calls call) i

-- of a file that was synced, an image has what reads give
own_sync : (start : Files) (calls : List Call) (call : Call) → call.deed ≡ Sync → (c : Files) → IsImage start (call ∷ reverse calls) c
    → get c call.file ≡ reads (get start call.file) (on_file call.file (reverse calls))
own_sync start calls call sync c i =
    subst (λ (d : Deed). Leaves (get start call.file) (d ∷ on_file call.file (reverse calls)) (get c call.file)) sync
    (subst (λ (l : List Deed). Leaves (get start call.file) l (get c call.file)) (on_same call (reverse calls)) (i call.file))

-- a sync only takes images away
fewer : (start : Files) (calls : List Call) (call : Call) → call.deed ≡ Sync → (c : Files) → IsImage start (call ∷ reverse calls) c → IsImage start (reverse calls) c
fewer start calls call sync c i f = elim (cases_eq f call.file) [
  | inl is ↦ subst (λ (g : ℕ). Leaves (get start g) (on_file g (reverse calls)) (get c g)) (sym is)
      (subst (Leaves (get start call.file) (on_file call.file (reverse calls))) (sym (own_sync start calls call sync c i)) (reads_left (get start call.file) (on_file call.file (reverse calls))))
  | inr not ↦ subst (λ (l : List Deed). Leaves (get start f) l (get c f)) (on_other f call (reverse calls) not) (i f)
]

-- the same of a record that is the old one with one call more
module _ (start : Files) (calls later : List Call) (call : Call) (adds : later ≡ calls ++ call ∷ []) where
  pub by_step : (step : Content → Content → Type 0) → ((o : Content) → step o o)
      → ((c : Content) → Leaves (get start call.file) (call.deed ∷ on_file call.file (reverse calls)) c → By step (Leaves (get start call.file) (on_file call.file (reverse calls))) c)
      → Passes (length calls) (length later) (image_at start calls) (image_at start later) (OnFile call.file step)
  by_step step still does =
      subst (λ (l : List Call). Passes (length calls) (length l) (image_at start calls) (image_at start l) (OnFile call.file step)) (sym adds)
      (noted start calls call (OnFile call.file step) (OnFile-same call.file step still) (whole start call (reverse calls) step does))

  -- a call that leaves images as they were, by any step that may do nothing
  pub by_nothing : (step : Files → Files → Type 0) → ((c : Files) → step c c)
      → ((c : Files) → IsImage start (call ∷ reverse calls) c → IsImage start (reverse calls) c)
      → Passes (length calls) (length later) (image_at start calls) (image_at start later) step
  by_nothing step still less =
      subst (λ (l : List Call). Passes (length calls) (length l) (image_at start calls) (image_at start l) step) (sym adds)
      (noted start calls call step still (λ c i. (c, less c i, still c)))

  pub by_sync : call.deed ≡ Sync → Passes (length calls) (length later) (image_at start calls) (image_at start later) IsSame
  by_sync sync = by_nothing IsSame (λ c. refl) (fewer start calls call sync)

  pub durable : call.deed ≡ Sync → (c : Files) → image_at start later (length later) c → get c call.file ≡ get (files_now start calls) call.file
  unfolding files_now
  durable sync c i =
      own_sync start calls call sync c (last_is start calls call c (subst (λ (l : List Call). image_at start l (length l) c) adds i))
      ∙ sym (files_reads start (reverse calls) call.file)

  -- what might have been left before still may be
  pub still_left : ((o : Content) → Leaves (get start call.file) (on_file call.file (reverse calls)) o → Leaves (get start call.file) (call.deed ∷ on_file call.file (reverse calls)) o)
      → (c : Files) → image_at start calls (length calls) c → image_at start later (length later) c
  unfolding image_at
  still_left more c i f =
      let all : take (length calls) calls ≡ calls = take_all (length calls) calls (omega arith) in
      let was : Leaves (get start f) (on_file f (reverse calls)) (get c f) = subst (λ (l : List Call). Leaves (get start f) (on_file f (reverse l)) (get c f)) all (i f) in
      let last : reverse (take (length later) later) ≡ call ∷ reverse calls = ap reverse (take_all (length later) later (omega arith) ∙ adds) ∙ turned calls call in
      subst (λ (l : List Call). Leaves (get start f) (on_file f l) (get c f)) (sym last) (elim (cases_eq f call.file) [
        | inl same ↦ subst (λ (g : ℕ). Leaves (get start g) (on_file g (call ∷ reverse calls)) (get c g)) (sym same)
            (subst (λ (l : List Deed). Leaves (get start call.file) l (get c call.file)) (sym (on_same call (reverse calls)))
            (more (get c call.file) (subst (λ (g : ℕ). Leaves (get start g) (on_file g (reverse calls)) (get c g)) same was)))
        | inr not ↦ subst (λ (l : List Deed). Leaves (get start f) l (get c f)) (sym (on_other f call (reverse calls) not)) was
      ])

  pub files_later : files_now start later ≡ with_file (files_now start calls) call.file (done call.deed (get (files_now start calls) call.file))
  unfolding files_now
  files_later = ap (λ (l : List Call). files_after start (reverse l)) adds ∙ ap (files_after start) (turned calls call)

  pub reads_now : reads (get start call.file) (on_file call.file (reverse calls)) ≡ get (files_now start calls) call.file
  unfolding files_now
  reads_now = sym (files_reads start (reverse calls) call.file)

  -- what comes by a step on the call's file of what might have been left before may be left
  pub stepped_left : (step : Content → Content → Type 0)
      → ((o n : Content) → Leaves (get start call.file) (on_file call.file (reverse calls)) o → step o n → Leaves (get start call.file) (call.deed ∷ on_file call.file (reverse calls)) n)
      → (c d : Files) → image_at start calls (length calls) c → OnFile call.file step c d → image_at start later (length later) d
  unfolding image_at
  stepped_left step more c d i goes f =
      let all : take (length calls) calls ≡ calls = take_all (length calls) calls (omega arith) in
      let was : (g : ℕ) → Leaves (get start g) (on_file g (reverse calls)) (get c g) = λ g. subst (λ (l : List Call). Leaves (get start g) (on_file g (reverse l)) (get c g)) all (i g) in
      let last : reverse (take (length later) later) ≡ call ∷ reverse calls = ap reverse (take_all (length later) later (omega arith) ∙ adds) ∙ turned calls call in
      subst (λ (l : List Call). Leaves (get start f) (on_file f l) (get d f)) (sym last) (elim (cases_eq f call.file) [
        | inl same ↦ subst (λ (g : ℕ). Leaves (get start g) (on_file g (call ∷ reverse calls)) (get d g)) (sym same)
            (subst (λ (l : List Deed). Leaves (get start call.file) l (get d call.file)) (sym (on_same call (reverse calls)))
            (more (get c call.file) (get d call.file) (was call.file) goes.here))
        | inr not ↦ subst (λ (l : List Deed). Leaves (get start f) l (get d f)) (sym (on_other f call (reverse calls) not))
            (subst (Leaves (get start f) (on_file f (reverse calls))) (sym (goes.others f not)) (was f))
      ])
