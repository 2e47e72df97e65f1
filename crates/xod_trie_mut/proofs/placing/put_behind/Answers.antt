use Rattle.std.proofs.Common.{◌<◌, ◌∙◌, ap, sym, List, ℕ, length, Some, arith}
use Rattle.xod_trie.specs.Branches.{behind}
use Rattle.xod_trie_mut.proofs.PutLemmas.{behind-length, nil_of}
use Rattle.xod_trie_mut.proofs.placing.put_behind.Goals as goal

pub returns-in_default-split_first-clause-sets : goal.returns-in_default-split_first-clause-sets
returns-in_default-split_first-clause-sets c stays =
    let on = ap (λ (key : List ℕ). behind key c.args.rest.now) (sym c.key.ensures.exactly) ∙ sym c.in-Some.ensures in
    c.valued.ensures.sets c.args.rest.now (on ∙ ap (λ (l : List ℕ). Some l) (nil_of c.in-Some.left.now c.in_default-split_first.ensures.cases))

pub grown-requires-clause-left : goal.grown-requires-clause-left
grown-requires-clause-left c =
    let on = ap (λ (key : List ℕ). behind key c.args.rest.now) (sym c.key.ensures.exactly) ∙ sym c.in-Some.ensures in
    let n = behind-length c.args.finger.focus.branch.key c.args.rest.now c.in-Some.left.now on in
    let m = ap (λ (l : List ℕ). length l) c.in-Some-split_first.ensures.cases.0 in
    let fits : length c.args.rest.now < 65536 = c.requires.rest in
    omega (arith, n, m, fits)

pub grown-requires-clause-taken : goal.grown-requires-clause-taken
grown-requires-clause-taken c =
    let on = ap (λ (key : List ℕ). behind key c.args.rest.now) (sym c.key.ensures.exactly) ∙ sym c.in-Some.ensures in
    let n = behind-length c.args.finger.focus.branch.key c.args.rest.now c.in-Some.left.now on in
    let m = ap (λ (l : List ℕ). length l) c.in-Some-split_first.ensures.cases.0 in
    let fits = c.requires.taken in
    omega (arith, n, m, fits)

pub returns-clause-sets : goal.returns-clause-sets
returns-clause-sets c stays =
    let on = ap (λ (key : List ℕ). behind key c.args.rest.now) (sym c.key.ensures.exactly) ∙ sym c.in-Some.ensures in
    c.grown.ensures.sets c.args.rest.now (on ∙ ap (λ (l : List ℕ). Some l) c.in-Some-split_first.ensures.cases.0) stays
