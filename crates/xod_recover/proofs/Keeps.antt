-- What an opening keeps, from call to call.
use Rattle.std.proofs.Common.{◌≡◌, ◌≤◌, ℕ, List, length, take, Some, None, IsSome, is_some, refl, sym, ◌∙◌, ap, subst, inr}
use Rattle.std.specs.FinMap.{get, insert}
use Rattle.xod_volume.specs.Files.{Files, Content, bytes_in, bytes_of}
use Rattle.xod_volume.specs.Crash.{OnFile, OnBytes, Shortened}
use Rattle.xod_volume.proofs.CallerLemmas.{OnFile-same, OnBytes-same, Shortened-same}
use Rattle.xod_log.specs.Ends.{body_of}
use Rattle.xod_log.proofs.CallerLemmas.{other_file, put_there}
use Rattle.xod_recover.specs.Check.{Newest}
use Rattle.xod_recover.specs.Images.{Settled}
use Rattle.xod_recover.specs.Keeping.{KeepsFound}

-- a file stays where it was, or is absent as it was
pub on_there : (step : List ℕ → List ℕ → Type 0) (was left : Content) → OnBytes step was left → is_some left ≡ is_some was
on_there step None left on = ap (λ (c : Content). is_some c) on
on_there step (Some bytes) left (is, there, on) = ap (λ (c : Content). is_some c) there

-- reads after a cut that was refused, and after one that was made and synced
pub cut-refused : (F F1 : Files) (file n : ℕ) → F1 ≡ F → OnFile file (OnBytes (Shortened n)) F F1
cut-refused F F1 file n same = subst (λ (f : Files). OnFile file (OnBytes (Shortened n)) F f) (sym same) (OnFile-same file (OnBytes (Shortened n)) (OnBytes-same (Shortened n) (Shortened-same n)) F)

on_cut : (n : ℕ) (was left : Content) → IsSome was → left ≡ Some (take n (bytes_in was)) → OnBytes (Shortened n) was left
on_cut n None left there is = absurd cc
on_cut n (Some bytes) left there is = (take n bytes, is, inr refl)

pub cut-made : (F F1 F2 : Files) (file n : ℕ) → IsSome (get F file) → F1 ≡ insert F file (take n (bytes_of F file)) → F2 ≡ F1 → OnFile file (OnBytes (Shortened n)) F F2
cut-made F F1 F2 file n there cut same = subst (λ (f : Files). OnFile file (OnBytes (Shortened n)) F f) (sym same) (record {
  here = on_cut n (get F file) (get F1 file) there (put_there F F1 file (take n (bytes_of F file)) cut);
  others = λ other apart. other_file F F1 file other (take n (bytes_of F file)) apart cut;
})

pub keeps-same : (newest : Newest) (files : Files) → newest.end ≤ length (bytes_of files (body_of newest.file)) → KeepsFound newest files files
keeps-same newest files long = record {
  decided = refl;
  stored = refl;
  there = λ k. refl;
  lower = λ k lt. refl;
  beyond = λ k lt. refl;
  front = (long, refl);
}

pub keeps-as : (newest : Newest) (old new : Files) → newest.end ≤ length (bytes_of old (body_of newest.file)) → new ≡ old → KeepsFound newest old new
keeps-as newest old new long same = subst (λ (f : Files). KeepsFound newest old f) (sym same) (keeps-same newest old long)

pub keeps-then : (newest : Newest) (a b c : Files) → KeepsFound newest a b → KeepsFound newest b c → KeepsFound newest a c
keeps-then newest a b c x y = record {
  decided = y.decided ∙ x.decided;
  stored = y.stored ∙ x.stored;
  there = λ k. y.there k ∙ x.there k;
  lower = λ k lt. y.lower k lt ∙ x.lower k lt;
  beyond = λ k lt. y.beyond k lt ∙ x.beyond k lt;
  front = (y.front.0, y.front.1 ∙ x.front.1);
}

-- a volume is settled while nothing changes
pub settled-over : (f g : Files) (I J : Files → Type 0) → g ≡ f → ((left : Files) → J left → I left) → Settled f I → Settled g J
settled-over f g I J is less s = subst (λ (h : Files). Settled h J) (sym is) (record {
  each_file = λ k there left i. s.each_file k there left (less left i);
  alike = λ left i. s.alike left (less left i);
  above = λ left i. s.above left (less left i);
})
