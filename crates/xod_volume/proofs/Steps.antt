-- What a call leaves of a volume in memory, by what it did to the record: nothing, one call more, or perhaps one that failed.
use Rattle.std.proofs.Common.{◌≡◌, ℕ, List, ◌∷◌, length, reverse, sym, ◌∙◌, ap, subst, inl, inr}
use Rattle.std.specs.FinMap.{get}
use Rattle.xod_volume.specs.Files.{Files, Content}
use Rattle.xod_volume.specs.Crash.{OnFile, OnBytes, Torn, Passes, Rests, IsSame}
use Rattle.xod_volume.specs.declared.history.Call.{Call}
use Rattle.xod_volume.specs.declared.history.Deed.{Deed}
use Rattle.xod_volume.specs.declared.history.Deed.TheVariants.{Sync, Tear, Nothing}
use Rattle.xod_volume.specs.Record.{By, Leaves, on_file, IsImage, files_now, image_at, Adds, MayAdd}
use Rattle.xod_volume.proofs.OneFile.{OnBytes-torn}
use Rattle.xod_volume.proofs.AllFiles.{on_same, on_other, rests, idle, now_left, by_step, by_nothing, by_sync, durable, still_left, stepped_left, OnFile-same}
use Rattle.std.proofs.lemmas.Bool.{cases_eq}

-- what reads give is among what a crash may leave
pub kept : (start F : Files) (calls : List Call) → F ≡ files_now start calls → image_at start calls (length calls) F
kept start F calls agrees = subst (image_at start calls (length calls)) (sym agrees) (now_left start calls)

-- a call on a file that did nothing takes no image away and adds none
same_images : (start : Files) (calls : List Call) (call : Call) → call.deed ≡ Nothing → (c : Files) → IsImage start (call ∷ reverse calls) c → IsImage start (reverse calls) c
same_images start calls call nothing c image f = elim (cases_eq f call.file) [
  | inl is ↦ subst (λ (g : ℕ). Leaves (get start g) (on_file g (reverse calls)) (get c g)) (sym is)
      (subst (λ (d : Deed). Leaves (get start call.file) (d ∷ on_file call.file (reverse calls)) (get c call.file)) nothing
      (subst (λ (l : List Deed). Leaves (get start call.file) l (get c call.file)) (on_same call (reverse calls)) (image call.file)))
  | inr not ↦ subst (λ (l : List Deed). Leaves (get start f) l (get c f)) (on_other f call (reverse calls) not) (image f)
]

module _ (start begun : Files) (calls later : List Call) (same : begun ≡ start) where
  along : (step : Files → Files → Type 0) → Passes (length calls) (length later) (image_at start calls) (image_at start later) step
      → Passes (length calls) (length later) (image_at start calls) (image_at begun later) step
  along step passes = subst (λ (s : Files). Passes (length calls) (length later) (image_at start calls) (image_at s later) step) (sym same) passes

  -- nothing was recorded
  pub idle_rests : later ≡ calls → Rests (length calls) (length later) (image_at start calls) (image_at begun later)
  idle_rests is = subst (λ (s : Files). Rests (length calls) (length later) (image_at start calls) (image_at s later)) (sym same) (rests start calls later is)

  pub idle_passes : later ≡ calls → (step : Files → Files → Type 0) → ((c : Files) → step c c)
      → Passes (length calls) (length later) (image_at start calls) (image_at begun later) step
  idle_passes is step still = along step (subst (λ (l : List Call). Passes (length calls) (length l) (image_at start calls) (image_at start l) step) (sym is) (idle start calls step still))

  pub idle_left : later ≡ calls → (c : Files) → image_at start calls (length calls) c → image_at begun later (length later) c
  idle_left is c i = subst (λ (s : Files). image_at s later (length later) c) (sym same) (subst (λ (l : List Call). image_at start l (length l) c) (sym is) i)

  module _ (call : Call) where
    -- one call more
    pub step_passes : Adds call calls later → (step : Content → Content → Type 0) → ((o : Content) → step o o)
        → ((o : Content) → Leaves (get start call.file) (call.deed ∷ on_file call.file (reverse calls)) o → By step (Leaves (get start call.file) (on_file call.file (reverse calls))) o)
        → Passes (length calls) (length later) (image_at start calls) (image_at begun later) (OnFile call.file step)
    step_passes adds step still does = along (OnFile call.file step) (by_step start calls later call adds step still does)

    pub sync_passes : Adds call calls later → call.deed ≡ Sync → Passes (length calls) (length later) (image_at start calls) (image_at begun later) IsSame
    sync_passes adds sync = along IsSame (by_sync start calls later call adds sync)

    pub sync_lasts : Adds call calls later → call.deed ≡ Sync → (F : Files) → F ≡ files_now start calls
        → (c : Files) → image_at begun later (length later) c → get c call.file ≡ get F call.file
    sync_lasts adds sync F agrees c i =
        durable start calls later call adds sync c (subst (λ (s : Files). image_at s later (length later) c) same i)
        ∙ ap (λ (G : Files). get G call.file) (sym agrees)

    pub step_left : Adds call calls later
        → ((o : Content) → Leaves (get start call.file) (on_file call.file (reverse calls)) o → Leaves (get start call.file) (call.deed ∷ on_file call.file (reverse calls)) o)
        → (c : Files) → image_at start calls (length calls) c → image_at begun later (length later) c
    step_left adds more c i = subst (λ (s : Files). image_at s later (length later) c) (sym same) (still_left start calls later call adds more c i)

    -- perhaps one that failed
    pub fail_passes : MayAdd call calls later → call.deed ≡ Nothing → (step : Files → Files → Type 0) → ((c : Files) → step c c)
        → Passes (length calls) (length later) (image_at start calls) (image_at begun later) step
    fail_passes may nothing step still = elim may [
      | inl is ↦ idle_passes is step still
      | inr adds ↦ along step (by_nothing start calls later call adds step still (same_images start calls call nothing))
    ]

    pub torn_passes : MayAdd call calls later → (at n : ℕ) → call.deed ≡ Tear at n
        → Passes (length calls) (length later) (image_at start calls) (image_at begun later) (OnFile call.file (OnBytes (Torn at n)))
    torn_passes may at n tear = elim may [
      | inl is ↦ idle_passes is (OnFile call.file (OnBytes (Torn at n))) (OnFile-same call.file (OnBytes (Torn at n)) (OnBytes-torn at n))
      | inr adds ↦ step_passes adds (OnBytes (Torn at n)) (OnBytes-torn at n)
          (λ o i. subst (λ (d : Deed). Leaves (get start call.file) (d ∷ on_file call.file (reverse calls)) o) tear i)
    ]

    pub fail_left : MayAdd call calls later
        → ((o : Content) → Leaves (get start call.file) (on_file call.file (reverse calls)) o → Leaves (get start call.file) (call.deed ∷ on_file call.file (reverse calls)) o)
        → (c : Files) → image_at start calls (length calls) c → image_at begun later (length later) c
    fail_left may more c i = elim may [ inl is ↦ idle_left is c i | inr adds ↦ step_left adds more c i ]

    -- one that failed, and tore
    pub torn_left : Adds call calls later → (at n : ℕ) → call.deed ≡ Tear at n → (c d : Files) → image_at start calls (length calls) c
        → OnFile call.file (OnBytes (Torn at n)) c d → image_at begun later (length later) d
    torn_left adds at n tear c d i goes = subst (λ (s : Files). image_at s later (length later) d) (sym same)
        (stepped_left start calls later call adds (OnBytes (Torn at n))
        (λ o p was does. subst (λ (e : Deed). Leaves (get start call.file) (e ∷ on_file call.file (reverse calls)) p) (sym tear) (o, was, does)) c d i goes)
