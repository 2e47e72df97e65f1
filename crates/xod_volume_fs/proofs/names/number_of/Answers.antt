use Rattle.std.proofs.Common.{◌≡◌, ◌<◌, ◌^◌, ℕ, List, ◌++◌, Ok, Result, nat_eq, sym, ◌∙◌, ap, subst, arith, false, true}
use Rattle.std.specs.Cmp.Lexicographic.{pointwise, nat_list_eq_equiv}
use Rattle.std.specs.Fmt.{decimal}
use Rattle.std.specs.Str.Parse.{ParsesUnsigned}
use Rattle.std.proofs.lemmas.Fmt.{parse-decimal}
use Rattle.std.proofs.lemmas.List.{append_cancel_right}
use Rattle.xod_volume_fs.specs.Names.{file_name}
use Rattle.xod_volume_fs.proofs.names.number_of.Goals as goal

-- what stands before the ending is read as the number that was written there
reads : {E : Type 0} → (name digits front ending : List ℕ) (file : ℕ) (read : Result ℕ E) → digits ≡ front → name ≡ front ++ ending
    → name ≡ decimal file ++ ending → file < 2 ^ 64 → ParsesUnsigned 64 10 digits read → read ≡ Ok file
reads name digits front ending file read is ends named small parses =
    parse-decimal 64 file digits read small small (is ∙ append_cancel_right _ _ ending (sym ends ∙ named)) parses

same_number : {E : Type 0} → (a b : ℕ) (read : Result ℕ E) → read ≡ Ok a → read ≡ Ok b → a ≡ b
same_number a b read is also = grind arith

not_other : (own name : List ℕ) → own ≡ name → false ≡ pointwise nat_eq own name → ⊥
not_other own name e other =
    let wrong : false ≡ true = other ∙ subst (λ (x : List ℕ). pointwise nat_eq own x ≡ true) e (nat_list_eq_equiv.refl own) in
    grind arith

pub returns-in_default-parse-clause-none_is_missed :
    goal.returns-in_default-parse-clause-none_is_missed
returns-in_default-parse-clause-none_is_missed c none file small named =
    let k = c.in-Some.ensures.cases in
    c.in_default-parse.not-Ok file (reads _ _ _ _ file c.parse.result k.2 k.1.1 named small c.parse.ensures.value.0)

pub returns-clause-none_is_missed : goal.returns-clause-none_is_missed
returns-clause-none_is_missed c none file small named =
    let k = c.in-Some.ensures.cases in
    let same = same_number c.in-Ok.file file c.parse.result c.in-Ok.is (reads _ _ _ _ file c.parse.result k.2 k.1.1 named small c.parse.ensures.value.0) in
    not_other c.as_str.result.now c.args.name.now (c.as_str.ensures.value ∙ c.in_ok-own.ensures ∙ ap file_name same ∙ sym named) c.if-eq.ensures
