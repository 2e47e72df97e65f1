use Rattle.std.proofs.Common.{◌≡◌, Bool, Option, Some, None, Result, Ok, IfOk, IfSome, List, refl, ap, subst, ◌∙◌, is_ok, true≢false, option_map}
use Rattle.std.specs.Prelude.{is_some, slice_get}
use Rattle.xod_base.specs.declared.causes.ReadError.{ReadError}
use Rattle.xod_base.specs.Views.{Answers, Entry, Tree, pair_of}
use Rattle.xod_range.specs.Ranges.{coming, in_range}
use Rattle.xod_links.proofs.reading.has_link.Goals as goal

each_some : {A : Type 0} {P Q : A → Type 0} (o : Option A) → ((x : A) → P x → Q x) → IfSome o P → IfSome o Q
each_some None go h = tt
each_some (Some x) go h = go x h

some_mapped : {A B : Type 0} (f : A → B) (o : Option A) → is_some (option_map f o) ≡ is_some o
some_mapped f None = refl
some_mapped f (Some x) = refl

-- whether something was found that was sought
found_some : {A : Type 0} {tells : Bool} {tree other : Option Tree} {sought : Tree → Option A} {is_there : Tree → Bool} {result : Result (Option A) ReadError} (found : Option A)
    → tree ≡ other → result ≡ Ok found → ((map : Tree) → is_some (sought map) ≡ is_there map) → Answers tells tree sought result → Answers tells other is_there (Ok (is_some found))
found_some {tree = tree} {sought = sought} {is_there = is_there} found same is there answers = record {
  value = λ told. subst (λ o. IfSome o (λ map. is_some found ≡ is_there map)) same (each_some tree
      (λ map h. ap is_some (subst (λ r. IfOk r (λ f. f ≡ sought map)) is h) ∙ there map) (answers.value told));
  damaged = λ told place e. absurd (true≢false (ap is_ok e));
}

pub returns-in-None-clause-answers : goal.returns-in-None-clause-answers
returns-in-None-clause-answers g c = found_some None (ap (g.T.TreeView.trees c.args.view.now) c.in_ok-range.ensures.tree) (c.in_ok-step.was ∙ ap Ok c.in-None.is)
    (λ map. some_mapped pair_of (slice_get (coming c.in_ok-range.range map) 0) ∙ ap (λ (l : List Entry). is_some (slice_get l 0)) (c.in_ok-range.ensures.begins map ∙ (λ i. in_range (c.link_key.ensures i) (c.link_key-2.ensures i) map))) c.step.ensures.answers

pub returns-clause-answers : goal.returns-clause-answers
returns-clause-answers g c = found_some (Some c.in-Some.field-0) (ap (g.T.TreeView.trees c.args.view.now) c.in_ok-range.ensures.tree) (c.in_ok-step.was ∙ ap Ok c.in-Some.is)
    (λ map. some_mapped pair_of (slice_get (coming c.in_ok-range.range map) 0) ∙ ap (λ (l : List Entry). is_some (slice_get l 0)) (c.in_ok-range.ensures.begins map ∙ (λ i. in_range (c.link_key.ensures i) (c.link_key-2.ensures i) map))) c.step.ensures.answers
