-- One file: what reads give, what was synced last, and what is scrambled are among what a crash may leave of it.
use Rattle.std.proofs.Common.{◌≡◌, ◌≤◌, ℕ, ◌+◌, ◌-◌, List, [], ◌∷◌, ◌++◌, length, take, drop, min, Some, None, refl, sym, ◌∙◌, ap, subst, arith, inl, inr, length-append, append-nil, replicate, cond, Bool}
use Rattle.std.proofs.lemmas.Bool.{cases_lt, lt-ltb, le-ltb}
use Rattle.std.proofs.lemmas.List.{take-append-le, take_all, drop_all, length-take, length-take-le, length-drop, take-take, drop-append-le, length-replicate}
use Rattle.xod_volume.specs.Files.{Content, bytes_in, overwritten}
use Rattle.xod_volume.specs.Crash.{OnBytes, Torn, Shortened}
use Rattle.xod_volume.specs.declared.history.Deed.{Deed}
use Rattle.xod_volume.specs.declared.history.Deed.TheVariants.{Create, Append, WriteAt, Cut, Sync, Remove, Tear, Nothing}
use Rattle.xod_volume.specs.declared.fate.Crash.{Crash}
use Rattle.xod_volume.specs.declared.fate.Crash.TheVariants.{Kept, Lost, Scrambled}
use Rattle.xod_volume.specs.Record.{changed, reads, synced, blotted, scrambled, crashed, Leaves}

-- nothing need be torn, and no cut need be made
pub Torn-same : (at n : ℕ) (bytes : List ℕ) → Torn at n bytes bytes
Torn-same at n bytes = record { before = refl; after = refl; no_shorter = omega arith; no_longer = omega arith }

pub Shortened-same : (n : ℕ) (bytes : List ℕ) → Shortened n bytes bytes
Shortened-same n bytes = inl refl

pub OnBytes-same : (step : List ℕ → List ℕ → Type 0) → ((bytes : List ℕ) → step bytes bytes) → (o : Content) → OnBytes step o o
OnBytes-same step still None = refl
OnBytes-same step still (Some bytes) = (bytes, refl, still bytes)

pub OnBytes-torn : (at n : ℕ) (o : Content) → OnBytes (Torn at n) o o
OnBytes-torn at n o = OnBytes-same (Torn at n) (Torn-same at n) o

pub OnBytes-shortened : (n : ℕ) (o : Content) → OnBytes (Shortened n) o o
OnBytes-shortened n o = OnBytes-same (Shortened n) (Shortened-same n) o

-- what a call does to what reads give is a case of its step
Torn-append : (old more : List ℕ) → Torn (length old) (length more) old (old ++ more)
Torn-append old more =
    let whole : length (old ++ more) ≡ length old + length more = length-append old more in
    record {
      before = take-append-le (length old) old more (omega arith);
      after = drop_all (length old + length more) (old ++ more) (omega (arith, whole)) ∙ sym (drop_all (length old + length more) old (omega arith));
      no_shorter = omega (arith, whole);
      no_longer = omega (arith, whole);
    }

pub OnBytes-append : (o : Content) (more : List ℕ) → OnBytes (Torn (length (bytes_in o)) (length more)) o (changed (λ old. old ++ more) o)
OnBytes-append None more = refl
OnBytes-append (Some old) more = (old ++ more, refl, Torn-append old more)

take-none : (bytes : List ℕ) → take 0 bytes ≡ []
take-none [] = refl
take-none (x ∷ bytes) = refl

-- three pieces in a row, of which the middle one covers n bytes from a place on, as far as the old bytes go or past them
pieces : (at n : ℕ) (old middle : List ℕ) → at ≤ length old → length middle ≤ n → min (length old - at) n ≤ length middle
    → Torn at n old (take at old ++ middle ++ drop (at + n) old)
pieces at n old middle within most least =
    let front = take at old in
    let back = drop (at + n) old in
    let f : length front ≡ at = length-take-le at old within in
    let b : length back ≡ length old - (at + n) = length-drop (at + n) old in
    let fm : length (front ++ middle) ≡ length front + length middle = length-append front middle in
    let whole : length (front ++ middle ++ back) ≡ length (front ++ middle) + length back = length-append (front ++ middle) back in
    record {
      before = take-append-le at (front ++ middle) back (omega (arith, f, fm)) ∙ take-append-le at front middle (omega (arith, f)) ∙ take-take at at old (omega arith);
      after = elim (cases_lt (length old) (at + n)) [
        | inl past ↦ drop_all (at + n) (front ++ middle ++ back) (omega (arith, f, b, fm, whole, past, most)) ∙ sym (drop_all (at + n) old (omega (arith, past)))
        | inr fits ↦
            drop-append-le (at + n) (front ++ middle) back (omega (arith, fits, f, fm, most, least))
            ∙ ap (λ (l : List ℕ). l ++ back) (drop_all (at + n) (front ++ middle) (omega (arith, f, fm, most)))
      ];
      no_shorter = omega (arith, f, b, fm, whole, least);
      no_longer = omega (arith, f, b, fm, whole, most, within);
    }

Torn-write : (old : List ℕ) (at : ℕ) (bytes : List ℕ) → Torn at (length bytes) old (overwritten old at bytes)
Torn-write old at bytes = elim (cases_lt (length old) at) [
  | inl past ↦
      let all : take at old ≡ old = take_all at old (omega (arith, past)) in
      let none : length old - at ≡ 0 = omega (arith, past) in
      let rest : drop (at + length bytes) old ≡ [] = drop_all (at + length bytes) old (omega (arith, past)) in
      let same : overwritten old at bytes ≡ old =
      ap (λ (l : List ℕ). l ++ take (length old - at) bytes ++ drop (at + length bytes) old) all
      ∙ ap (λ (l : List ℕ). old ++ take (length old - at) bytes ++ l) rest
      ∙ ap (λ (k : ℕ). old ++ take k bytes ++ []) none
      ∙ ap (λ (l : List ℕ). old ++ l ++ []) (take-none bytes)
      ∙ append-nil (old ++ []) ∙ append-nil old in
      subst (Torn at (length bytes) old) (sym same) (Torn-same at (length bytes) old)
  | inr within ↦
      let m : length (take (length old - at) bytes) ≡ min (length old - at) (length bytes) = length-take (length old - at) bytes in
      pieces at (length bytes) old (take (length old - at) bytes) within (omega (arith, m)) (omega (arith, m))
]

pub OnBytes-write : (o : Content) (at : ℕ) (bytes : List ℕ) → OnBytes (Torn at (length bytes)) o (changed (λ old. overwritten old at bytes) o)
OnBytes-write None at bytes = refl
OnBytes-write (Some old) at bytes = (overwritten old at bytes, refl, Torn-write old at bytes)

pub OnBytes-cut : (o : Content) (n : ℕ) → OnBytes (Shortened n) o (changed (take n) o)
OnBytes-cut None n = refl
OnBytes-cut (Some old) n = (take n old, refl, inr refl)

Torn-blotted : (at n : ℕ) (old : List ℕ) → Torn at n old (blotted at n old)
Torn-blotted at n old = elim (cases_lt (length old) at) [
  | inl past ↦ subst (Torn at n old) (sym (ap (λ (t : Bool). cond t old (take at old ++ replicate n 255 ++ drop (at + n) old)) (lt-ltb (length old) at past))) (Torn-same at n old)
  | inr within ↦
      let filler : List ℕ = replicate n 255 in
      let m : length filler ≡ n = length-replicate n 255 in
      subst (Torn at n old) (sym (ap (λ (t : Bool). cond t old (take at old ++ replicate n 255 ++ drop (at + n) old)) (le-ltb (length old) at within)))
      (pieces at n old filler within (omega (arith, m)) (omega (arith, m)))
]

OnBytes-blotted : (at n : ℕ) (o : Content) → OnBytes (Torn at n) o (changed (blotted at n) o)
OnBytes-blotted at n None = refl
OnBytes-blotted at n (Some old) = (blotted at n old, refl, Torn-blotted at n old)

-- what reads give may be left
pub reads_left : (start : Content) (deeds : List Deed) → Leaves start deeds (reads start deeds)
reads_left start [] = refl
reads_left start (Create ∷ deeds) = inr refl
reads_left start (Append bytes ∷ deeds) = (reads start deeds, reads_left start deeds, OnBytes-append (reads start deeds) bytes)
reads_left start (WriteAt at bytes ∷ deeds) = (reads start deeds, reads_left start deeds, OnBytes-write (reads start deeds) at bytes)
reads_left start (Cut n ∷ deeds) = (reads start deeds, reads_left start deeds, OnBytes-cut (reads start deeds) n)
reads_left start (Sync ∷ deeds) = refl
reads_left start (Remove ∷ deeds) = inl refl
reads_left start (Tear at n ∷ deeds) = (reads start deeds, reads_left start deeds, OnBytes-torn at n (reads start deeds))
reads_left start (Nothing ∷ deeds) = reads_left start deeds

-- the file as it was synced last may be left
pub synced_left : (start : Content) (deeds : List Deed) → Leaves start deeds (synced start deeds)
synced_left start [] = refl
synced_left start (Create ∷ deeds) = inl (synced_left start deeds)
synced_left start (Append bytes ∷ deeds) = (synced start deeds, synced_left start deeds, OnBytes-torn (length (bytes_in (reads start deeds))) (length bytes) (synced start deeds))
synced_left start (WriteAt at bytes ∷ deeds) = (synced start deeds, synced_left start deeds, OnBytes-torn at (length bytes) (synced start deeds))
synced_left start (Cut n ∷ deeds) = (synced start deeds, synced_left start deeds, OnBytes-shortened n (synced start deeds))
synced_left start (Sync ∷ deeds) = refl
synced_left start (Remove ∷ deeds) = inr refl
synced_left start (Tear at n ∷ deeds) = (synced start deeds, synced_left start deeds, OnBytes-torn at n (synced start deeds))
synced_left start (Nothing ∷ deeds) = synced_left start deeds

-- the scrambled file may be left
pub scrambled_left : (start : Content) (deeds : List Deed) → Leaves start deeds (scrambled start deeds)
scrambled_left start [] = refl
scrambled_left start (Create ∷ deeds) = inr refl
scrambled_left start (Append bytes ∷ deeds) = (scrambled start deeds, scrambled_left start deeds, OnBytes-blotted (length (bytes_in (reads start deeds))) (length bytes) (scrambled start deeds))
scrambled_left start (WriteAt at bytes ∷ deeds) = (scrambled start deeds, scrambled_left start deeds, OnBytes-blotted at (length bytes) (scrambled start deeds))
scrambled_left start (Cut n ∷ deeds) = (scrambled start deeds, scrambled_left start deeds, OnBytes-shortened n (scrambled start deeds))
scrambled_left start (Sync ∷ deeds) = refl
scrambled_left start (Remove ∷ deeds) = inl refl
scrambled_left start (Tear at n ∷ deeds) = (scrambled start deeds, scrambled_left start deeds, OnBytes-blotted at n (scrambled start deeds))
scrambled_left start (Nothing ∷ deeds) = scrambled_left start deeds

-- each choice of crash gives something that may be left
pub crashed_left : (choice : Crash) (start : Content) (deeds : List Deed) → Leaves start deeds (crashed choice start deeds)
crashed_left Kept start deeds = reads_left start deeds
crashed_left Lost start deeds = synced_left start deeds
crashed_left Scrambled start deeds = scrambled_left start deeds
